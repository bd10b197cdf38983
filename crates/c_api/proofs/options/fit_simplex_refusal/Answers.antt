-- `c_api::options::fit_simplex_refusal` meets its contract: the refusal that the tests stand for. Assumes nothing.
use Rattle.optim_first_record.proofs.Proper.{simplex_proper}
use Rattle.c_api.proofs.Handed.{handed}
use Rattle.c_api.proofs.options.fit_simplex_refusal.Goals as goal

pub returns : goal.returns
returns c = rw (c.into-2.ensures, c.simplex_refusal.ensures, c.into.ensures) (handed _ (simplex_proper c.args.count c.args.o _))
