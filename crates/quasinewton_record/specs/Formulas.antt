-- The tests and the first step of a gradient fit, over points of sixteen coordinates. Definitions only.
use Rattle.std.specs.Prelude.{ℕ, Bool, true, false, not, cond, List, Float}
use Rattle.std.specs.Float.Ieee.{lt, le}
use Rattle.float.specs.Binary64.{◌⊖◌, ◌⊗◌, ◌⊘◌, bits, plus_zero}
use Rattle.float.specs.Values.{abs_of, finite_of, max_of, min_of}
use Rattle.vector.specs.Points.{dot_of, difference_of, inf_norm_of}
use Rattle.quasinewton_model.specs.Step.{one}

-- sy > 1e-12 * inf_norm(&s) * inf_norm(&y)
unfoldable pub stores_of : List Float → List Float → ℕ → Bool
stores_of s y n = lt (bits 0x3d71_9799_812d_ea11 ⊗ inf_norm_of s n ⊗ inf_norm_of y n) (dot_of s y n)

-- f_tol > 0.0 && f_prev - fx <= f_tol * fx.abs().max(1.0)
unfoldable pub small_decrease_of : Float → Float → Float → Bool
small_decrease_of ftol before now = cond (lt plus_zero ftol) (le (before ⊖ now) (ftol ⊗ max_of (abs_of now) one)) false

-- x_tol > 0.0 && inf_norm(&s) <= x_tol * inf_norm(&x).max(1.0)
unfoldable pub small_step_of : Float → List Float → List Float → ℕ → Bool
small_step_of xtol before now n = cond (lt plus_zero xtol) (le (inf_norm_of (difference_of now before n) n) (xtol ⊗ max_of (inf_norm_of now n) one)) false

-- if first_step { (1.0 / inf_norm(&d).max(1e-30)).min(1.0) } else { 1.0 }
unfoldable pub initial_step_of : Bool → List Float → ℕ → Float
initial_step_of first d n = cond first (min_of (one ⊘ max_of (inf_norm_of d n) (bits 0x39b4_484b_feeb_c2a0)) one) one

-- dphi0 >= 0.0 || !dphi0.is_finite()
unfoldable pub not_descending_of : Float → Bool
not_descending_of slope = cond (le plus_zero slope) true (not (finite_of slope))
