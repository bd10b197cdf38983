-- `float::full_width` meets its contract. Assumes nothing.
use native.Mathlib.Omega.{arith}
use lib.Bits.{bit_and}
use Rattle.float.proofs.Widths.{Top, found, full_low, full_high}
use Rattle.float.proofs.full_width.Goals as goal

pub overflow_sub-shift : goal.overflow_sub-shift
overflow_sub-shift c =
    let top : Top (bit_and c.args.b 0x000f_ffff_ffff_ffff) = found c.args.b c.requires.b_nonzero c.if-exponent-eq0.true in
    omega (arith, top.zeros, top.below)

pub returns-then-exponent-eq0 : goal.returns-then-exponent-eq0
returns-then-exponent-eq0 c = full_low c.args.b c.requires.b_nonzero c.if-exponent-eq0.true

pub returns-else-exponent-eq0 : goal.returns-else-exponent-eq0
returns-else-exponent-eq0 c = full_high c.args.b c.if-exponent-eq0.false c.requires.b_bound
