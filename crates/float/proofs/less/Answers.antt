-- `float::less` meets its contract: ranks compare as the values do. Assumes nothing.
use mathlib.Core.Path.{refl, sym, ◌∙◌}
use Rattle.float.proofs.Bits.{held, is_nan_lem, number}
use Rattle.float.proofs.Order.{no_lt_nan, no_nan_lt}
use Rattle.float.proofs.Ranks.{rank_lt}
use Rattle.float.proofs.Words.{signed_test}
use Rattle.float.proofs.less.Goals as goal

pub returns-then-a : goal.returns-then-a
returns-then-a c = rw (is_nan_lem c.args.a c.if-a.true) (sym (no_nan_lt c.args.b))

pub returns-then-b : goal.returns-then-b
returns-then-b c = rw (is_nan_lem c.args.b c.if-b.true) (sym (no_lt_nan c.args.a))

pub returns : goal.returns
returns c =
    sym (signed_test c.rank.type_inv c.rank-2.type_inv c.rank.ensures c.rank-2.ensures refl)
    ∙ rank_lt c.args.a c.args.b (held c.well_formed.0.1) (held c.well_formed.1.0.1) (number c.args.a c.if-a.false) (number c.args.b c.if-b.false)
