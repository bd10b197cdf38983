-- Every operation's result is an f64: `closed`. Assumes nothing.
use Prim.Native.Nat.{zero, suc}
use mathlib.Core.Bool.{true, false, cond}
use lib.Ieee.{Float, nan, inf, fin, binary64, lt, is_nan, fits}
use lib.Ieee.Fits.{add-fits, sub-fits, mul-fits, div-fits, neg-fits, cond-fits}
use Rattle.float.specs.Binary64.{F64}
use Rattle.float.specs.Values.{signum_of, max_of, min_of}
use Rattle.float.specs.Sqrt.{sqrt_of}
use Rattle.float.specs.Laws.{Closed}
use Rattle.float.proofs.Bits.{abs_fits}
use Rattle.float.proofs.Nearest.{roots}

signum_fits : (x : Float) → F64 (signum_of x)
unfolding signum_of fits
signum_fits nan = tt
signum_fits (inf s) = tt
signum_fits (fin s m e) = tt

max_fits : (x y : Float) → F64 x → F64 y → F64 (max_of x y)
unfolding max_of
max_fits x y f g = cond-fits binary64 (is_nan x) y (cond (lt x y) y x) g (cond-fits binary64 (lt x y) y x g f)

min_fits : (x y : Float) → F64 x → F64 y → F64 (min_of x y)
unfolding min_of
min_fits x y f g = cond-fits binary64 (is_nan x) y (cond (lt y x) y x) g (cond-fits binary64 (lt y x) y x g f)

sqrt_fits : (x : Float) → F64 x → F64 (sqrt_of x)
unfolding sqrt_of fits
sqrt_fits nan f = tt
sqrt_fits (inf true) f = tt
sqrt_fits (inf false) f = tt
sqrt_fits (fin s zero e) f = f
sqrt_fits (fin true (suc m) e) f = tt
sqrt_fits (fin false (suc m) e) f = (roots.square (fin false (suc m) e) f).value

pub closed : Closed
closed =
    record {
      sum = add-fits binary64;
      difference = sub-fits binary64;
      product = mul-fits binary64;
      quotient = div-fits binary64;
      negation = neg-fits binary64;
      abs = abs_fits;
      signum = signum_fits;
      max = max_fits;
      min = min_fits;
      sqrt = sqrt_fits;
      difference_factor_lem = roots.cube.value;
    }
