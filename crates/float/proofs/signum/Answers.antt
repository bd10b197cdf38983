-- `float::signum` meets its contract. Assumes nothing.
use lib.Ieee.{of_bits, neg}
use Rattle.float.specs.Values.{signum_of}
use Rattle.float.proofs.Bits.{is_nan_lem, number, signum_sign}
use Rattle.float.proofs.signum.Goals as goal

pub returns-then-x : goal.returns-then-x
unfolding signum_of
returns-then-x c = rw (is_nan_lem c.args.x c.if-x.true)

pub returns-then-is_negative : goal.returns-then-is_negative
unfolding of_bits neg
returns-then-is_negative c = rw (signum_sign c.args.x (number c.args.x c.if-x.false), ← c.is_negative.ensures, c.if-is_negative.true)

pub returns-else-is_negative : goal.returns-else-is_negative
unfolding of_bits
returns-else-is_negative c = rw (signum_sign c.args.x (number c.args.x c.if-x.false), ← c.is_negative.ensures, c.if-is_negative.false)
