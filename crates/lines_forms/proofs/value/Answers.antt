-- `lines_forms::value` meets its contract: a pattern whose magnitude is at most the infinity's is no NaN's. Assumes nothing.
use borrow.Author.Tests.{le-ltb}
use native.Mathlib.Omega.{arith}
use Prim.Native.Nat.{◌%◌, ◌^◌}
use lib.Bits.{and_mask}
use lib.Ieee.Bits.{nan_bits_above}
use Rattle.lines_forms.proofs.Values.{nan_bits}
use Rattle.lines_forms.proofs.value.Goals as goal

pub returns-then-b-gt9218868437227405312 : goal.returns-then-b-gt9218868437227405312
returns-then-b-gt9218868437227405312 c = nan_bits c.args.b c.if-b-gt9218868437227405312.true

pub float_from_bits-result : goal.float_from_bits-result
float_from_bits-result c =
    let b = c.args.b in
    rw (nan_bits_above, le-ltb 0x7ff0_0000_0000_0000 (b % 2 ^ 63) (omega (arith, and_mask b 63, c.if-b-gt9218868437227405312.false))) tt
