-- `c_fit::differences::fit_record_differences` meets its contract: what the engine says is handed on. Assumes nothing.
use Rattle.c_fit.proofs.Laws.{handed}
use Rattle.c_fit.proofs.differences.fit_record_differences.Goals as goal

pub returns : goal.returns
returns c = handed _ _ _ _ c.into.ensures c.differences.ensures
