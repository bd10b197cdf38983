-- `c_fit::search::fit_record_search` meets its contract: what the engine says is handed on. Assumes nothing.
use Rattle.c_fit.proofs.Laws.{handed}
use Rattle.c_fit.proofs.search.fit_record_search.Goals as goal

pub returns : goal.returns
returns c = handed _ _ _ _ c.into.ensures c.search.ensures
