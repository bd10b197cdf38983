-- What each function of this crate computes: points by their first n of sixteen coordinates, the count n last. Definitions only.
-- The Rust has the same over vectors of n; specs/Lists.antt says so line by line, and proofs/First.antt ties the two.
use Rattle.std.specs.Prelude.{ℕ, ◌+◌, ◌*◌, Bool, true, ◌&&◌, List, Float}
use Rattle.std.specs.Float.Ieee.{neg}
use Rattle.float.specs.Binary64.{◌⊕◌, ◌⊖◌, ◌⊗◌, ◌⊘◌, plus_zero, minus_zero}
use Rattle.float.specs.Values.{abs_of, finite_of, max_of}
use Rattle.vector.specs.Loops.{fold, point, at}

unfoldable pub from_slice_of : List Float → ℕ → List Float
from_slice_of s = point (at s)

-- 01: "`dot` sums left to right from -0.0"
unfoldable pub dot_of : List Float → List Float → ℕ → Float
dot_of a b = fold (λ s i. s ⊕ at a i ⊗ at b i) minus_zero

-- the largest magnitude, from +0; `max` passes over a NaN
unfoldable pub inf_norm_of : List Float → ℕ → Float
inf_norm_of a = fold (λ m i. max_of m (abs_of (at a i))) plus_zero

unfoldable pub all_finite_of : List Float → ℕ → Bool
all_finite_of a = fold (λ b i. b && finite_of (at a i)) true

-- x + t d
unfoldable pub plus_scaled_of : List Float → Float → List Float → ℕ → List Float
plus_scaled_of x t d = point (λ i. at x i ⊕ t ⊗ at d i)

-- x - t d
unfoldable pub minus_scaled_of : List Float → Float → List Float → ℕ → List Float
minus_scaled_of x t d = point (λ i. at x i ⊖ t ⊗ at d i)

unfoldable pub difference_of : List Float → List Float → ℕ → List Float
difference_of a b = point (λ i. at a i ⊖ at b i)

unfoldable pub addition_of : List Float → List Float → ℕ → List Float
addition_of a b = point (λ i. at a i ⊕ at b i)

-- a / t
unfoldable pub quotient_of : List Float → Float → ℕ → List Float
quotient_of a t = point (λ i. at a i ⊘ t)

-- a t
unfoldable pub scaled_of : List Float → Float → ℕ → List Float
scaled_of a t = point (λ i. at a i ⊗ t)

unfoldable pub negation_of : List Float → ℕ → List Float
negation_of a = point (λ i. neg (at a i))

-- the simplex's trial points: c + t (c - w), with the centroid c and the worst vertex w
unfoldable pub towards_of : List Float → List Float → Float → ℕ → List Float
towards_of c w t = point (λ i. at c i ⊕ t ⊗ (at c i ⊖ at w i))

-- the simplex's shrink: b + t (v - b), with the best vertex b
unfoldable pub shrunk_of : List Float → List Float → Float → ℕ → List Float
shrunk_of b v t = point (λ i. at b i ⊕ t ⊗ (at v i ⊖ at b i))

-- row i of a matrix of sixteen columns, row-major, by v
unfoldable pub row_dot_of : List Float → ℕ → List Float → ℕ → Float
row_dot_of h i v = fold (λ s j. s ⊕ at h (i * 16 + j) ⊗ at v j) minus_zero

-- the first k rows by v
unfoldable pub mat_vec_of : List Float → List Float → ℕ → ℕ → List Float
unfolding row_dot_of
mat_vec_of h v n = point (λ i. row_dot_of h i v n)
