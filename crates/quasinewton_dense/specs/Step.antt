-- What each function of this crate computes, over sixteen coordinates: H as 256 words, sixteen to a row. Definitions only.
use Rattle.std.specs.Prelude.{ℕ, ◌+◌, ◌*◌, false, not, cond, List, set, replicate, Float}
use Rattle.std.specs.Float.Ieee.{lt, neg}
use Rattle.float.specs.Binary64.{◌⊕◌, ◌⊗◌, ◌⊘◌, bits, plus_zero}
use Rattle.vector.specs.Loops.{fold, at}
use Rattle.vector.specs.Points.{dot_of, mat_vec_of, negation_of}
use Rattle.quasinewton_dense.specs.declared.Dense.{Dense}

abbrev pub one : Float
one = bits 0x3ff0_0000_0000_0000

-- c at i, i for each i below n
unfoldable pub diagonal_of : Float → ℕ → List Float
diagonal_of c = fold (λ h i. set h (i * 16 + i) c) (replicate 256 plus_zero)

-- what the update adds at i, j
abbrev pub change : List Float → List Float → Float → Float → ℕ → ℕ → Float
change s hy rho coef i j = neg rho ⊗ (at s i ⊗ at hy j ⊕ at hy i ⊗ at s j) ⊕ coef ⊗ at s i ⊗ at s j

-- the first columns of row i
unfoldable pub update_row_of : List Float → ℕ → List Float → List Float → Float → Float → ℕ → List Float
update_row_of h i s hy rho coef = fold (λ w j. set w (i * 16 + j) (at w (i * 16 + j) ⊕ change s hy rho coef i j)) h

-- the first rows, n columns of each
unfoldable pub update_rows_of : List Float → List Float → List Float → Float → Float → ℕ → ℕ → List Float
update_rows_of h s hy rho coef n = fold (λ w i. update_row_of w i s hy rho coef n) h

unfoldable pub prepared_of : Dense → Float → List Float → ℕ → List Float
prepared_of d sy y n =
    cond (not d.fresh) d.h (cond (lt plus_zero (dot_of y y n)) (cond (lt plus_zero sy) (diagonal_of (sy ⊘ dot_of y y n) n) d.h) d.h)

unfoldable pub dense_update_of : Dense → List Float → List Float → ℕ → Dense
dense_update_of d s y n =
    let sy = dot_of s y n in
    let h = prepared_of d sy y n in
    let rho = one ⊘ sy in
    let hy = mat_vec_of h y n n in
    record { fresh = false; h = update_rows_of h s hy rho (rho ⊗ rho ⊗ dot_of y hy n ⊕ rho) n n }

unfoldable pub dense_direction_of : Dense → List Float → ℕ → List Float
dense_direction_of d g n = negation_of (mat_vec_of d.h g n n) n
