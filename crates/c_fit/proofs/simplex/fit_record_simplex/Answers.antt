-- `c_fit::simplex::fit_record_simplex` meets its contract: what the engine says is handed on. Assumes nothing.
use Rattle.optim_start.specs.Start.{simplex_of}
use Rattle.c_fit.proofs.Laws.{handed_as, fit_as}
use Rattle.c_fit.proofs.simplex.fit_record_simplex.Goals as goal

pub returns : goal.returns
returns c = handed_as _ _ _ _ (fit_as simplex_of _ _ c.into.ensures) c.into-2.ensures c.simplex.ensures
