-- `c_api::options::fit_search_refusal` meets its contract: the refusal that the tests stand for. Assumes nothing.
use Rattle.optim_first_record.proofs.Proper.{search_proper}
use Rattle.c_api.proofs.Handed.{handed}
use Rattle.c_api.proofs.options.fit_search_refusal.Goals as goal

pub returns : goal.returns
returns c = rw (c.into.ensures, c.search_refusal.ensures) (handed _ (search_proper c.args.n c.args.dcount c.args.gcount c.args.o))
