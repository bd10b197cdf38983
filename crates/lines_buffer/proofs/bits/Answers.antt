-- `lines_buffer::bits` meets its contract: the one NaN has the pattern that `to_bits` writes for it. Assumes nothing.
use mathlib.Core.Path.{◌≡◌, refl, sym, ◌∙◌}
use mathlib.Core.Bool.{true, true≢false}
use lib.Ieee.{Float, nan, inf, fin, is_nan, to_bits, binary64}
use Rattle.lines_buffer.proofs.bits.Goals as goal

nan_pattern : (x : Float) → is_nan x ≡ true → 0x7ff8_0000_0000_0000 ≡ to_bits binary64 x
unfolding to_bits is_nan
nan_pattern nan e = refl
nan_pattern (inf s) e = absurd (true≢false (sym e))
nan_pattern (fin s m d) e = absurd (true≢false (sym e))

pub returns-then-is_nan : goal.returns-then-is_nan
returns-then-is_nan c = nan_pattern c.args.x (sym c.is_nan.ensures.value ∙ c.if-is_nan.true)
