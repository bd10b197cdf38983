-- What the functions over lists decide of every list: the library's own require that a list is of at most sixteen. Definitions only.
use Rattle.std.specs.Prelude.{Bool, false, cond, List, ltb, eqb, length, Float}
use Rattle.std.specs.Float.{nan}
use Rattle.vector.specs.Points.{from_slice_of, dot_of, inf_norm_of, all_finite_of}

-- NaN for more than sixteen, or for two counts
unfoldable pub list_dot_of : List Float → List Float → Float
list_dot_of a b =
    cond (ltb 16 (length a)) nan
    (cond (eqb (length b) (length a)) (dot_of (from_slice_of a (length a)) (from_slice_of b (length a)) (length a)) nan)

-- NaN for more than sixteen
unfoldable pub list_inf_norm_of : List Float → Float
list_inf_norm_of a = cond (ltb 16 (length a)) nan (inf_norm_of (from_slice_of a (length a)) (length a))

-- false for more than sixteen
unfoldable pub list_finite_of : List Float → Bool
list_finite_of a = cond (ltb 16 (length a)) false (all_finite_of (from_slice_of a (length a)) (length a))
