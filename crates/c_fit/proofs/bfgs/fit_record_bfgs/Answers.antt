-- `c_fit::bfgs::fit_record_bfgs` meets its contract: what the engine says is handed on. Assumes nothing.
use Rattle.optim_start.specs.Start.{bfgs_of}
use Rattle.c_fit.proofs.Laws.{handed_as, fit_as}
use Rattle.c_fit.proofs.bfgs.fit_record_bfgs.Goals as goal

pub returns : goal.returns
returns c = handed_as _ _ _ _ (fit_as bfgs_of _ _ c.into.ensures) c.into-2.ensures c.bfgs.ensures
