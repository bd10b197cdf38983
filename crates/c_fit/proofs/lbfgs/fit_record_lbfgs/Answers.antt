-- `c_fit::lbfgs::fit_record_lbfgs` meets its contract: what the engine says is handed on. Assumes nothing.
use Rattle.optim_start.specs.Start.{lbfgs_of}
use Rattle.c_fit.proofs.Laws.{handed_as, fit_as}
use Rattle.c_fit.proofs.lbfgs.fit_record_lbfgs.Goals as goal

pub returns : goal.returns
returns c = handed_as _ _ _ _ (fit_as lbfgs_of _ _ c.into.ensures) c.into-2.ensures c.lbfgs.ensures
