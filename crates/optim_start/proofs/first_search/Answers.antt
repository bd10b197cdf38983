-- `optim_start::first_search` meets its contract: the refusal that it hands back is the one that the start meets. Assumes nothing.
use native.Mathlib.Nat.{le_of_eq}
use mathlib.Core.Path.{sym}
use lib.ListN.{length}
use Rattle.std.proofs.lemmas.Result.{err_from_is_err_and}
use Rattle.protocol.proofs.Refusals.{passed, failed, none}
use Rattle.optim_first_record.proofs.Limits.{search_limits}
use Rattle.optim_start.specs.Start.{search_of}
use Rattle.optim_start.proofs.first_search.Goals as goal

pub returns-in_err-search_refusal-clause-begun : goal.returns-in_err-search_refusal-clause-begun
unfolding search_of
returns-in_err-search_refusal-clause-begun c =
    let p = err_from_is_err_and c.from_residual.result c.from_residual.ensures.1 in
    let h = failed _ _ c.in_err-search_refusal.ensures in
    rw (p.1, p.2, h.0, h.1)

pub from_slice-from-requires-clause-n_bound : goal.from_slice-from-requires-clause-n_bound
from_slice-from-requires-clause-n_bound c = (search_limits (length c.args.x.now) (length c.args.d.now) (length c.args.g.now) c.args.o (none _ c.in_ok-search_refusal.ensures)).0

pub from_slice-along-requires-clause-n_bound : goal.from_slice-along-requires-clause-n_bound
from_slice-along-requires-clause-n_bound c = (search_limits (length c.args.x.now) (length c.args.d.now) (length c.args.g.now) c.args.o (none _ c.in_ok-search_refusal.ensures)).0

pub from_slice-along-requires-clause-n_in_bounds : goal.from_slice-along-requires-clause-n_in_bounds
from_slice-along-requires-clause-n_in_bounds c = le_of_eq (sym (search_limits (length c.args.x.now) (length c.args.d.now) (length c.args.g.now) c.args.o (none _ c.in_ok-search_refusal.ensures)).1)

pub from_slice-slopes-requires-clause-n_bound : goal.from_slice-slopes-requires-clause-n_bound
from_slice-slopes-requires-clause-n_bound c = (search_limits (length c.args.x.now) (length c.args.d.now) (length c.args.g.now) c.args.o (none _ c.in_ok-search_refusal.ensures)).0

pub from_slice-slopes-requires-clause-n_in_bounds : goal.from_slice-slopes-requires-clause-n_in_bounds
from_slice-slopes-requires-clause-n_in_bounds c = le_of_eq (sym (search_limits (length c.args.x.now) (length c.args.d.now) (length c.args.g.now) c.args.o (none _ c.in_ok-search_refusal.ensures)).2)

pub line_from-line-requires : goal.line_from-line-requires
line_from-line-requires c = (search_limits (length c.args.x.now) (length c.args.d.now) (length c.args.g.now) c.args.o (none _ c.in_ok-search_refusal.ensures)).0

pub line_refusal-requires : goal.line_refusal-requires
line_refusal-requires c = (search_limits (length c.args.x.now) (length c.args.d.now) (length c.args.g.now) c.args.o (none _ c.in_ok-search_refusal.ensures)).0

pub returns-in_err-line_refusal-clause-begun : goal.returns-in_err-line_refusal-clause-begun
unfolding search_of
returns-in_err-line_refusal-clause-begun c =
    let p = err_from_is_err_and c.from_residual-in_err-line_refusal.result c.from_residual-in_err-line_refusal.ensures.1 in
    let h = failed _ _ c.in_err-line_refusal.ensures in
    rw (p.1, p.2, passed _ c.in_ok-search_refusal.ensures, ← c.from_slice-from.ensures, ← c.from_slice-along.ensures, ← c.from_slice-slopes.ensures, ← c.line_from-line.ensures, h.0, h.1)

pub returns-clause-begun : goal.returns-clause-begun
unfolding search_of
returns-clause-begun c =
    rw (passed _ c.in_ok-search_refusal.ensures, ← c.from_slice-from.ensures, ← c.from_slice-along.ensures, ← c.from_slice-slopes.ensures, ← c.line_from-line.ensures, passed _ c.in_ok-line_refusal.ensures)

pub returns-clause-within : goal.returns-clause-within
returns-clause-within c = (search_limits (length c.args.x.now) (length c.args.d.now) (length c.args.g.now) c.args.o (none _ c.in_ok-search_refusal.ensures)).0
