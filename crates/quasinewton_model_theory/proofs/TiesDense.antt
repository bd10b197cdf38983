-- The dense model over 256 words is that over n rows of n, read off by `rows_of`. Assumes nothing.
use Prim.Native.Nat.{ℕ, zero, suc, ◌+◌, ◌*◌, ◌≤◌, ◌<◌}
use mathlib.Core.Path.{◌≡◌, refl, sym, ap, ◌∙◌}
use mathlib.Core.Logic.{inl, inr}
use mathlib.Core.Bool.{Bool, true, false, not, ◌&&◌, cond}
use mathlib.Core.List.{List, []}
use native.Mathlib.Nat.{not-suc-le-zero, le_refl, le-suc, le_trans, eq-or-lt_of_le, le_of_suc-le-suc}
use native.Mathlib.Omega.{arith}
use lib.Dec.{eqb}
use lib.ListN.{length, replicate, get_or-replicate}
use lib.Ieee.{Float, nan, lt, neg}
use borrow.Author.Tests.{eqb-true, eqb-false}
use Rattle.float.specs.Binary64.{◌⊕◌, ◌⊗◌, ◌⊘◌, plus_zero}
use Rattle.vector.specs.Loops.{at}
use Rattle.vector.specs.Points.{dot_of, mat_vec_of}
use Rattle.vector.specs.Lists.{first, row_of, rows_of, negation}
use Rattle.vector.proofs.First.{upto_same, point_laws, ties}
use Rattle.quasinewton_dense.specs.declared.Dense.{Dense}
use Rattle.quasinewton_model_theory.specs.Algorithm.{one, entry, diagonal, new_dense, dense_direction, prepared, rank_two, dense_update}
use Rattle.quasinewton_model.specs.Step.{diagonal_of, change, update_row_of, update_rows_of, prepared_of, dense_update_of, dense_direction_of}
use Rattle.quasinewton_model_theory.specs.Ties.{read_dense}
use Rattle.quasinewton_model_theory.proofs.Places.{stored_length, stored_other, stored_at, at_upto}

-- ---- the diagonal

pub diagonal_length : (c : Float) (n : ℕ) → length (diagonal_of c n) ≡ 256
unfolding diagonal_of
diagonal_length c n = stored_length nan (λ x i. c) (λ i. i * 16 + i) (replicate 256 plus_zero) n

-- off the first n places of the diagonal there is +0
pub diagonal_off : (c : Float) (n i j : ℕ) → i < 16 → j < 16 → ((k : ℕ) → k < n → i ≡ k → j ≡ k → ⊥) → n ≤ 16 → at (diagonal_of c n) (i * 16 + j) ≡ plus_zero
unfolding diagonal_of
diagonal_off c n i j a b off small =
    stored_other nan (λ x k. c) (λ k. k * 16 + k) (replicate 256 plus_zero) n (i * 16 + j)
    (λ k l e.
    let same : i ≡ k = omega arith in
    off k l same (omega arith))
    ∙ get_or-replicate 256 (i * 16 + j) plus_zero nan (omega arith)

diagonal_on : (c : Float) (n i : ℕ) → i < n → n ≤ 16 → at (diagonal_of c n) (i * 16 + i) ≡ c
unfolding diagonal_of
diagonal_on c n i l small =
    stored_at nan (λ x k. c) (λ k. k * 16 + k) (replicate 256 plus_zero) (λ a b e. omega arith) n i l (λ k t. omega arith)

diagonal_at : (c : Float) (n i j : ℕ) → i < n → j < n → n ≤ 16 → at (diagonal_of c n) (i * 16 + j) ≡ cond (eqb i j) c plus_zero
diagonal_at c n i j a b small = go (eqb i j) refl
  where
    go : (t : Bool) → eqb i j ≡ t → at (diagonal_of c n) (i * 16 + j) ≡ cond t c plus_zero
    go true e =
        let same : j ≡ i = sym (eqb-true i j e) in
        rw same (diagonal_on c n i a small)
    go false e = diagonal_off c n i j (omega arith) (omega arith) (λ k l p q. eqb-false i j e (p ∙ sym q)) small

pub read_diagonal : (c : Float) (n : ℕ) → n ≤ 16 → rows_of n (diagonal_of c n) ≡ diagonal c n
unfolding rows_of row_of diagonal
read_diagonal c n small = upto_same _ _ n (λ i a. upto_same _ _ n (λ j b. diagonal_at c n i j a b small))

-- ---- the rank-two update
module _ (s hy : List Float) (rho coef : Float) (n : ℕ) (small : n ≤ 16) where
  row_length : (h : List Float) (i : ℕ) → length (update_row_of h i s hy rho coef n) ≡ length h
  unfolding update_row_of
  row_length h i = stored_length nan (λ x j. x ⊕ change s hy rho coef i j) (λ j. i * 16 + j) h n

  row_other : (h : List Float) (i k : ℕ) → ((j : ℕ) → j < n → k ≡ i * 16 + j → ⊥) → at (update_row_of h i s hy rho coef n) k ≡ at h k
  unfolding update_row_of
  row_other h i k free = stored_other nan (λ x j. x ⊕ change s hy rho coef i j) (λ j. i * 16 + j) h n k free

  row_at : (h : List Float) (i j : ℕ) → length h ≡ 256 → i < 16 → j < n → at (update_row_of h i s hy rho coef n) (i * 16 + j) ≡ at h (i * 16 + j) ⊕ change s hy rho coef i j
  unfolding update_row_of
  row_at h i j long a b = stored_at nan (λ x j. x ⊕ change s hy rho coef i j) (λ j. i * 16 + j) h (λ a b e. omega arith) n j b (λ k t. omega arith)

  pub rows_length : (h : List Float) (m : ℕ) → length (update_rows_of h s hy rho coef n m) ≡ length h
  unfolding update_rows_of
  rows_length h zero = refl
  rows_length h (suc m) = row_length (update_rows_of h s hy rho coef n m) m ∙ rows_length h m

  pub rows_other : (h : List Float) (m k : ℕ) → ((i j : ℕ) → i < m → j < n → k ≡ i * 16 + j → ⊥) → at (update_rows_of h s hy rho coef n m) k ≡ at h k
  unfolding update_rows_of
  rows_other h zero k free = refl
  rows_other h (suc m) k free =
      row_other (update_rows_of h s hy rho coef n m) m k (λ j b e. free m j (le_refl (suc m)) b e)
      ∙ rows_other h m k (λ i j a b e. free i j (le_trans a (le-suc m)) b e)

  rows_at : (h : List Float) (m i j : ℕ) → length h ≡ 256 → i < m → m ≤ 16 → j < n → at (update_rows_of h s hy rho coef n m) (i * 16 + j) ≡ at h (i * 16 + j) ⊕ change s hy rho coef i j
  unfolding update_rows_of
  rows_at h zero i j long a few b = absurd (not-suc-le-zero a)
  rows_at h (suc m) i j long a few b = elim (eq-or-lt_of_le (le_of_suc-le-suc a)) [
    | inl e ↦ rw e
        (row_at (update_rows_of h s hy rho coef n m) m j (rows_length h m ∙ long) (omega arith) b
        ∙ ap (λ x. x ⊕ change s hy rho coef m j) (rows_other h m (m * 16 + j) (λ p q t u w. omega arith)))
    | inr l ↦ row_other (update_rows_of h s hy rho coef n m) m (i * 16 + j) (λ q u w. omega arith)
        ∙ rows_at h m i j long l (omega arith) b
  ]

  entry_of : (h : List Float) (i j : ℕ) → i < n → j < n → entry (rows_of n h) i j ≡ at h (i * 16 + j)
  unfolding rows_of row_of
  entry_of h i j a b = ap (λ (r : List Float). at r j) (at_upto (row_of n h) [] n i a) ∙ at_upto (λ k. at h (i * 16 + k)) nan n j b

  added : (h : List Float) (i j : ℕ) → length h ≡ 256 → i < n → j < n → at (update_rows_of h s hy rho coef n n) (i * 16 + j)
      ≡ entry (rows_of n h) i j ⊕ (neg rho ⊗ (at (first n s) i ⊗ at (first n hy) j ⊕ at (first n hy) i ⊗ at (first n s) j) ⊕ coef ⊗ at (first n s) i ⊗ at (first n s) j)
  added h i j long a b =
      rw (entry_of h i j a b, point_laws.read n s i a, point_laws.read n s j b, point_laws.read n hy i a, point_laws.read n hy j b)
      (rows_at h n i j long a small b)

  read_rows : (h : List Float) → length h ≡ 256 → rows_of n (update_rows_of h s hy rho coef n n) ≡ rank_two (rows_of n h) (first n s) (first n hy) rho coef
  unfolding rank_two rows_of row_of
  read_rows h long = rw (point_laws.listed n s) (upto_same _ _ n (λ i a. upto_same _ _ n (λ j b. added h i j long a b)))

-- ---- the whole
module _ (n : ℕ) (small : n ≤ 16) where
  pub prepared_length : (d : Dense) (sy : Float) (y : List Float) → length d.h ≡ 256 → length (prepared_of d sy y n) ≡ 256
  unfolding prepared_of
  prepared_length d sy y long = go d.fresh (lt plus_zero (dot_of y y n)) (lt plus_zero sy)
    where
      go : (a b c : Bool) → length (cond (not a) d.h (cond b (cond c (diagonal_of (sy ⊘ dot_of y y n) n) d.h) d.h)) ≡ 256
      go false b c = long
      go true false c = long
      go true true false = long
      go true true true = diagonal_length (sy ⊘ dot_of y y n) n

  read_prepared : (d : Dense) (sy : Float) (y : List Float) → rows_of n (prepared_of d sy y n) ≡ prepared (read_dense n d) sy (dot_of y y n) n
  unfolding prepared_of prepared
  read_prepared d sy y = go d.fresh (lt plus_zero (dot_of y y n)) (lt plus_zero sy)
    where
      go : (a b c : Bool) → rows_of n (cond (not a) d.h (cond b (cond c (diagonal_of (sy ⊘ dot_of y y n) n) d.h) d.h)) ≡ cond (a && b && c) (diagonal (sy ⊘ dot_of y y n) n) (rows_of n d.h)
      go false b c = refl
      go true false c = refl
      go true true false = refl
      go true true true = read_diagonal (sy ⊘ dot_of y y n) n small

  pub new_dense_lem : read_dense n (record { fresh = true; h = diagonal_of one n }) ≡ new_dense n
  unfolding new_dense
  new_dense_lem = ap (λ (r : List (List Float)). record { rows = r; first = true }) (read_diagonal one n small)

  pub dense_update_lem : (d : Dense) (s y : List Float) → length d.h ≡ 256 → read_dense n (dense_update_of d s y n) ≡ dense_update (read_dense n d) (first n s) (first n y)
  unfolding dense_update_of dense_update
  dense_update_lem d s y long =
      let sy = dot_of s y n in
      let h = prepared_of d sy y n in
      let rho = one ⊘ sy in
      let hy = mat_vec_of h y n n in
      ap (λ (r : List (List Float)). record { rows = r; first = false }) (read_rows s hy rho (rho ⊗ rho ⊗ dot_of y hy n ⊕ rho) n small h (prepared_length d sy y long))
      ∙ rw (point_laws.listed n s, ← ties.dot_of_lem s y n, ← ties.dot_of_lem y y n, ← read_prepared d sy y, ← ties.mat_vec_lem h y n, ← ties.dot_of_lem y hy n)

  pub dense_direction_lem : (d : Dense) (g : List Float) → first n (dense_direction_of d g n) ≡ dense_direction (read_dense n d) (first n g)
  unfolding dense_direction_of dense_direction
  dense_direction_lem d g = ties.negation_of_lem (mat_vec_of d.h g n n) n ∙ ap negation (ties.mat_vec_lem d.h g n)
