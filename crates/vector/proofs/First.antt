-- The operations over sixteen coordinates are those over lists of n, read off by `first`: `point_laws` and `ties`. Assumes nothing.
use mathlib.Core.Path.{◌≡◌, refl, sym, ap, ap₂, ◌∙◌}
use mathlib.Core.Logic.{inl, inr}
use Prim.Native.Nat.{ℕ, zero, suc, ◌+◌, ◌-◌, ◌*◌, ◌≤◌, ◌<◌}
use mathlib.Core.Bool.{true, ◌&&◌}
use mathlib.Core.List.{List, [], ◌∷◌, ◌++◌, map, foldl, foldl-append, zip_with}
use native.Mathlib.Nat.{not-suc-le-zero, le_refl, le-suc, le_trans, eq-or-lt_of_le, le_of_suc-le-suc}
use native.Mathlib.Omega.{arith}
use lib.ListN.{length, replicate, length-append, length-replicate, get_or-replicate, get_or-append}
use lib.Seq.{get_or-append-add, get_or_at}
use lib.Ieee.{Float, nan, neg}
use Rattle.float.specs.Binary64.{◌⊕◌, ◌⊖◌, ◌⊗◌, ◌⊘◌, plus_zero, minus_zero}
use Rattle.float.specs.Values.{abs_of, finite_of, max_of}
use Rattle.vector.specs.Loops.{fold, upto, point, at}
use Rattle.vector.specs.Points.{from_slice_of, dot_of, inf_norm_of, all_finite_of, plus_scaled_of, minus_scaled_of, difference_of, addition_of, quotient_of, scaled_of, negation_of, towards_of, shrunk_of, row_dot_of, mat_vec_of}
use Rattle.vector.specs.Lists.{dot, inf_norm, all_finite, plus_scaled, minus_scaled, difference, addition, quotient, scaled, negation, towards, shrunk, mat_vec, first, row_of, rows_of}
use Rattle.vector.specs.Ties.{PointLaws, Ties}
use Rattle.vector.proofs.Loops.{length_upto}

pub zip_long : (n : ℕ) (f : Float → Float → Float) (xs ys : List Float) → length xs ≡ n → length ys ≡ n → length (zip_with f xs ys) ≡ n
unfolding zip_with
zip_long n f [] ys i j = i
zip_long n f (x ∷ xs) [] i j = absurd (omega arith)
zip_long zero f (x ∷ xs) (y ∷ ys) i j = absurd (omega arith)
zip_long (suc n) f (x ∷ xs) (y ∷ ys) i j = ap suc (zip_long n f xs ys (omega arith) (omega arith))

-- ---- lists built at the end
map_more : {A B : Type 0} (f : A → B) (xs : List A) (x : A) → map f (xs ++ (x ∷ [])) ≡ map f xs ++ (f x ∷ [])
map_more f [] x = refl
map_more f (y ∷ ys) x = ap (λ l. f y ∷ l) (map_more f ys x)

zip_more : {A B C : Type 0} (f : A → B → C) (xs : List A) (ys : List B) (x : A) (y : B) → length xs ≡ length ys → zip_with f (xs ++ (x ∷ [])) (ys ++ (y ∷ [])) ≡ zip_with f xs ys ++ (f x y ∷ [])
unfolding zip_with
zip_more f [] [] x y e = refl
zip_more f [] (b ∷ bs) x y e = absurd (omega arith)
zip_more f (a ∷ as') [] x y e = absurd (omega arith)
zip_more f (a ∷ as') (b ∷ bs) x y e = ap (λ l. f a b ∷ l) (zip_more f as' bs x y (omega arith))

foldl_upto : {A B : Type 0} (f : A → B → A) (z : A) (g : ℕ → B) (n : ℕ) → foldl f z (upto g n) ≡ fold (λ s i. f s (g i)) z n
foldl_upto f z g zero = refl
foldl_upto f z g (suc n) = foldl-append f z (upto g n) (g n ∷ []) ∙ ap (λ s. f s (g n)) (foldl_upto f z g n)

map_upto : {A B : Type 0} (f : A → B) (g : ℕ → A) (n : ℕ) → map f (upto g n) ≡ upto (λ i. f (g i)) n
map_upto f g zero = refl
map_upto f g (suc n) = map_more f (upto g n) (g n) ∙ ap (λ l. l ++ (f (g n) ∷ [])) (map_upto f g n)

zip_upto : {A B C : Type 0} (f : A → B → C) (g : ℕ → A) (h : ℕ → B) (n : ℕ) → zip_with f (upto g n) (upto h n) ≡ upto (λ i. f (g i) (h i)) n
zip_upto f g h zero = unfold zip_with in refl
zip_upto f g h (suc n) = zip_more f (upto g n) (upto h n) (g n) (h n) (length_upto g n ∙ sym (length_upto h n)) ∙ ap (λ l. l ++ (f (g n) (h n) ∷ [])) (zip_upto f g h n)

pub upto_same : {A : Type 0} (f g : ℕ → A) (n : ℕ) → ((k : ℕ) → k < n → f k ≡ g k) → upto f n ≡ upto g n
upto_same f g zero h = refl
upto_same f g (suc n) h = ap₂ (λ l x. l ++ (x ∷ [])) (upto_same f g n (λ k l. h k (le_trans l (le-suc n)))) (h n (le_refl (suc n)))

-- ---- the coordinates of a point, and of the list that `first` reads
at_upto : (g : ℕ → Float) (n k : ℕ) → k < n → at (upto g n) k ≡ g k
at_upto g zero k h = absurd (not-suc-le-zero h)
at_upto g (suc n) k h = elim (eq-or-lt_of_le (le_of_suc-le-suc h)) [
  | inl e ↦ rw e (get_or_at (upto g n) (g n) [] nan n (length_upto g n))
  | inr l ↦ get_or-append (upto g n) (g n ∷ []) nan k (rw (length_upto g n) l) ∙ at_upto g n k l
]

inside : (g : ℕ → Float) (n k : ℕ) → k < n → at (point g n) k ≡ g k
inside g n k h = get_or-append (upto g n) (replicate (16 - n) plus_zero) nan k (rw (length_upto g n) h) ∙ at_upto g n k h

past : (g : ℕ → Float) (n k : ℕ) → n ≤ k → k < 16 → at (point g n) k ≡ plus_zero
past g n k h l =
    let split : k ≡ n + (k - n) = omega arith in
    ap (at (point g n)) (split ∙ ap (λ (x : ℕ). x + (k - n)) (sym (length_upto g n)))
    ∙ get_or-append-add (upto g n) (replicate (16 - n) plus_zero) (k - n) nan
    ∙ get_or-replicate (16 - n) (k - n) plus_zero nan (omega arith)

width : (g : ℕ → Float) (n : ℕ) → n ≤ 16 → length (point g n) ≡ 16
width g n h = length-append (upto g n) (replicate (16 - n) plus_zero) ∙ ap₂ (λ (a b : ℕ). a + b) (length_upto g n) (length-replicate (16 - n) plus_zero) ∙ omega arith

first_point : (g : ℕ → Float) (n : ℕ) → first n (point g n) ≡ upto g n
unfolding first
first_point g n = upto_same (at (point g n)) g n (inside g n)

listed : (n : ℕ) (x : List Float) → length (first n x) ≡ n
unfolding first
listed n x = length_upto (at x) n

read : (n : ℕ) (x : List Float) (k : ℕ) → k < n → at (first n x) k ≡ at x k
unfolding first
read n x k h = at_upto (at x) n k h

pub point_laws : PointLaws
point_laws = record { width = width; inside = inside; past = past; listed = listed; read = read }

-- ---- two patterns: a point made coordinate by coordinate from two, and from one
zipped : (f : Float → Float → Float) (a b : List Float) (n : ℕ) → first n (point (λ i. f (at a i) (at b i)) n) ≡ zip_with f (first n a) (first n b)
unfolding first
zipped f a b n = first_point (λ i. f (at a i) (at b i)) n ∙ sym (zip_upto f (at a) (at b) n)

mapped : (f : Float → Float) (a : List Float) (n : ℕ) → first n (point (λ i. f (at a i)) n) ≡ map f (first n a)
unfolding first
mapped f a n = first_point (λ i. f (at a i)) n ∙ sym (map_upto f (at a) n)

-- ---- and a fold
folded : {A : Type 0} (f : A → Float → A) (z : A) (a : List Float) (n : ℕ) → fold (λ s i. f s (at a i)) z n ≡ foldl f z (first n a)
unfolding first
folded f z a n = sym (foldl_upto f z (at a) n)

dotted : (g : ℕ → Float) (b : List Float) (n : ℕ) → fold (λ s i. s ⊕ g i ⊗ at b i) minus_zero n ≡ dot (upto g n) (first n b)
unfolding dot first
dotted g b n = sym (ap (foldl ◌⊕◌ minus_zero) (zip_upto ◌⊗◌ g (at b) n) ∙ foldl_upto ◌⊕◌ minus_zero (λ i. g i ⊗ at b i) n)

rows : (h v : List Float) (n : ℕ) → first n (mat_vec_of h v n n) ≡ mat_vec (rows_of n h) (first n v)
unfolding mat_vec_of mat_vec rows_of row_of
rows h v n =
    first_point (λ i. row_dot_of h i v n) n
    ∙ upto_same (λ i. row_dot_of h i v n) (λ i. dot (row_of n h i) (first n v)) n (λ i l. dotted (λ j. at h (i * 16 + j)) v n)
    ∙ sym (map_upto (λ row. dot row (first n v)) (row_of n h) n)

pub ties : Ties
unfolding from_slice_of dot_of inf_norm_of all_finite_of plus_scaled_of minus_scaled_of difference_of addition_of quotient_of scaled_of negation_of towards_of shrunk_of row_dot_of dot inf_norm all_finite plus_scaled minus_scaled difference addition quotient scaled negation towards shrunk first row_of
ties =
    record {
      from_slice = λ s n. first_point (at s) n;
      dot_of_lem = λ a b n. dotted (at a) b n;
      inf_norm_lem = λ a n. folded (λ m v. max_of m (abs_of v)) plus_zero a n;
      all_finite_lem = λ a n. folded (λ b v. b && finite_of v) true a n;
      plus_scaled_lem = λ x t d n. zipped (λ xi di. xi ⊕ t ⊗ di) x d n;
      minus_scaled_lem = λ x t d n. zipped (λ xi di. xi ⊖ t ⊗ di) x d n;
      difference_of_lem = λ a b n. zipped ◌⊖◌ a b n;
      addition_of_lem = λ a b n. zipped ◌⊕◌ a b n;
      quotient_of_lem = λ a t n. mapped (λ v. v ⊘ t) a n;
      scaled_of_lem = λ a t n. mapped (λ v. v ⊗ t) a n;
      negation_of_lem = λ a n. mapped neg a n;
      towards_of_lem = λ c w t n. zipped (λ ci wi. ci ⊕ t ⊗ (ci ⊖ wi)) c w n;
      shrunk_of_lem = λ b v t n. zipped (λ bi vi. bi ⊕ t ⊗ (vi ⊖ bi)) b v n;
      row_dot = λ h i v n. dotted (λ j. at h (i * 16 + j)) v n;
      mat_vec_lem = rows;
    }
