-- `float::rank` meets its contract. Assumes nothing.
use mathlib.Core.Path.{sym, ◌∙◌}
use Rattle.float.specs.Order.{rank_of}
use Rattle.float.proofs.Bits.{held, is_nan_lem, number}
use Rattle.float.proofs.Words.{rank_plus, rank_minus}
use Rattle.float.proofs.rank.Goals as goal

pub returns-then-x : goal.returns-then-x
unfolding rank_of
returns-then-x c = rw (is_nan_lem c.args.x c.if-x.true)

pub returns-then-is_negative : goal.returns-then-is_negative
returns-then-is_negative c =
    rank_minus c.args.x (held c.well_formed.0.1) (number c.args.x c.if-x.false) c.magnitude-m.ensures (sym c.is_negative.ensures ∙ c.if-is_negative.true)

pub returns-else-is_negative : goal.returns-else-is_negative
returns-else-is_negative c =
    rank_plus c.args.x (held c.well_formed.0.1) (number c.args.x c.if-x.false) c.magnitude-m.ensures (sym c.is_negative.ensures ∙ c.if-is_negative.false)
