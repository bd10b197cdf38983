-- Rust's small functions on f64, by cases on the value. Definitions only.
use Rattle.std.specs.Prelude.{Bool, true, false, cond, T, pos, Float}
use Rattle.std.specs.Float.{nan, inf, fin}
use Rattle.std.specs.Float.Ieee.{lt, le, is_nan}
use Rattle.float.specs.Binary64.{plus_zero}

-- `f64::abs`
unfoldable pub abs_of : Float → Float
abs_of nan = nan
abs_of (inf s) = inf false
abs_of (fin s m e) = fin false m e

-- `f64::is_finite`
unfoldable pub finite_of : Float → Bool
finite_of nan = false
finite_of (inf s) = false
finite_of (fin s m e) = true

abbrev pub Finite : Float → Type 0
Finite x = T (finite_of x)

-- x >= 0.0 && x.is_finite(), as the Rust asks of its tolerances
unfoldable pub tolerance_of : Float → Bool
unfolding finite_of
tolerance_of x = cond (le plus_zero x) (finite_of x) false

-- x > 0.0 && x.is_finite(), as it asks of its steps
unfoldable pub positive_of : Float → Bool
unfolding finite_of
positive_of x = cond (lt plus_zero x) (finite_of x) false

-- `f64::signum`: 1 with the sign of x, of a zero too, and a NaN for a NaN
unfoldable pub signum_of : Float → Float
signum_of nan = nan
signum_of (inf s) = fin s 1 (pos 0)
signum_of (fin s m e) = fin s 1 (pos 0)

-- `f64::max`. 01: "`max` and `min` pass over a NaN operand"; of two equal operands, as -0.0 and +0.0 are, it is the first.
unfoldable pub max_of : Float → Float → Float
max_of a b = cond (is_nan a) b (cond (lt a b) b a)

-- `f64::min`, likewise
unfoldable pub min_of : Float → Float → Float
min_of a b = cond (is_nan a) b (cond (lt b a) b a)
