-- `optim_start::first_simplex` meets its contract: the refusal that it hands back is the one that the start meets. Assumes nothing.
use lib.ListN.{length}
use Rattle.std.proofs.lemmas.Result.{err_from_is_err_and}
use Rattle.protocol.proofs.Refusals.{passed, failed, none}
use Rattle.optim_first_record.proofs.Limits.{simplex_limits}
use Rattle.optim_start.specs.Start.{simplex_of}
use Rattle.optim_start.proofs.first_simplex.Goals as goal

pub returns-in_err-simplex_refusal-clause-begun : goal.returns-in_err-simplex_refusal-clause-begun
unfolding simplex_of
returns-in_err-simplex_refusal-clause-begun c =
    let p = err_from_is_err_and c.from_residual.result c.from_residual.ensures.1 in
    let h = failed _ _ c.in_err-simplex_refusal.ensures in
    rw (p.1, p.2, h.0, h.1)

pub from_slice-point-requires-clause-n_bound : goal.from_slice-point-requires-clause-n_bound
from_slice-point-requires-clause-n_bound c = (simplex_limits (length c.args.x.now) c.args.o c.args.a (none _ c.in_ok-simplex_refusal.ensures)).0

pub all_finite-requires : goal.all_finite-requires
all_finite-requires c = (simplex_limits (length c.args.x.now) c.args.o c.args.a (none _ c.in_ok-simplex_refusal.ensures)).0

pub returns-then-not-all_finite-clause-begun : goal.returns-then-not-all_finite-clause-begun
unfolding simplex_of
returns-then-not-all_finite-clause-begun c =
    rw (c.new.ensures, passed _ c.in_ok-simplex_refusal.ensures, ← c.from_slice-point.ensures, ← c.all_finite.ensures, c.if-not-all_finite.true)

pub returns-clause-begun : goal.returns-clause-begun
unfolding simplex_of
returns-clause-begun c =
    rw (passed _ c.in_ok-simplex_refusal.ensures, ← c.from_slice-point.ensures, ← c.all_finite.ensures, c.if-not-all_finite.false)

pub returns-clause-within : goal.returns-clause-within
returns-clause-within c = simplex_limits (length c.args.x.now) c.args.o c.args.a (none _ c.in_ok-simplex_refusal.ensures)
