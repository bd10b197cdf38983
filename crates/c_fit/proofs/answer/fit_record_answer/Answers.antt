-- `c_fit::answer::fit_record_answer` meets its contract: what the engine says is handed on. Assumes nothing.
use Rattle.c_fit.proofs.Laws.{handed}
use Rattle.c_fit.proofs.answer.fit_record_answer.Goals as goal

pub returns : goal.returns
returns c = handed _ _ _ _ c.into.ensures c.answer.ensures
