-- Directions are of f64s whatever they are made of, and updates keep a model of f64s: `hessian_words`. Assumes nothing.
use Prim.Native.Nat.{ℕ, zero, suc}
use mathlib.Core.Bool.{Bool, true, false, cond}
use mathlib.Core.List.{List, [], ◌∷◌, ◌++◌, map, foldl, zip_with, reverse}
use lib.Dec.{eqb}
use lib.ListN.{length, get_or, drop}
use lib.Ieee.{Float, nan, binary64, lt, fits, of_bits}
use lib.Ieee.Fits.{cond-fits}
use Rattle.float.proofs.Tests.{either}
use Rattle.float.specs.Binary64.{F64, ◌⊕◌, ◌⊗◌, ◌⊘◌, plus_zero, minus_zero}
use Rattle.float.proofs.Closed.{closed}
use Rattle.vector.specs.Loops.{upto}
use Rattle.vector.specs.Lists.{dot, mat_vec, negation, scaled, plus_scaled}
use Rattle.quasinewton_limited.specs.declared.Pair.{Pair}
use Rattle.quasinewton_model_theory.specs.Algorithm.{InvHessian, dense, limited, one, entry, square, diagonal, new_dense, dense_direction, rank_two, dense_update, new_memory, fall, rise, rises, limited_direction, limited_update, new_hessian, direction, update}
use Rattle.quasinewton_model.specs.Step.{no_pair, pair_at}
use Rattle.quasinewton_model_theory.specs.Ties.{Words, OfF64s, HessianWords}

-- ---- what holds at each place of a list, and of what stands in past its end
each_append : {A : Type 0} (P : A → Type 0) (d : A) (a b : List A) → ((k : ℕ) → P (get_or a k d)) → ((k : ℕ) → P (get_or b k d)) → (k : ℕ) → P (get_or (a ++ b) k d)
each_append P d [] b p q k = q k
each_append P d (x ∷ xs) b p q zero = p 0
each_append P d (x ∷ xs) b p q (suc k) = each_append P d xs b (λ i. p (suc i)) q k

each_one : {A : Type 0} (P : A → Type 0) (d x : A) → P d → P x → (k : ℕ) → P (get_or (x ∷ []) k d)
each_one P d x p q zero = q
each_one P d x p q (suc k) = p

each_upto : {A : Type 0} (P : A → Type 0) (d : A) (g : ℕ → A) → P d → ((i : ℕ) → P (g i)) → (n k : ℕ) → P (get_or (upto g n) k d)
each_upto P d g p q zero k = p
each_upto P d g p q (suc n) k = each_append P d (upto g n) (g n ∷ []) (each_upto P d g p q n) (each_one P d (g n) p (q n)) k

each_drop : {A : Type 0} (P : A → Type 0) (d : A) (a : List A) → ((k : ℕ) → P (get_or a k d)) → (k : ℕ) → P (get_or (drop 1 a) k d)
each_drop P d [] p k = p k
each_drop P d (x ∷ xs) p k = p (suc k)

-- ---- lists of f64s
none : F64 nan
unfolding fits
none = tt

zero_fits : F64 plus_zero
unfolding fits
zero_fits = tt

one_fits : F64 one
unfolding fits of_bits
one_fits = tt

map_words : {A : Type 0} (f : A → Float) → ((x : A) → F64 (f x)) → (l : List A) → Words (map f l)
map_words f p [] k = none
map_words f p (x ∷ xs) zero = p x
map_words f p (x ∷ xs) (suc k) = map_words f p xs k

zip_words : {A B : Type 0} (f : A → B → Float) → ((x : A) (y : B) → F64 (f x y)) → (a : List A) (b : List B) → Words (zip_with f a b)
unfolding zip_with
zip_words f p [] b k = none
zip_words f p (x ∷ xs) [] k = none
zip_words f p (x ∷ xs) (y ∷ ys) zero = p x y
zip_words f p (x ∷ xs) (y ∷ ys) (suc k) = zip_words f p xs ys k

negation_words : (l : List Float) → Words l → Words (negation l)
unfolding negation
negation_words [] w k = none
negation_words (x ∷ xs) w zero = closed.negation x (w 0)
negation_words (x ∷ xs) w (suc k) = negation_words xs (λ i. w (suc i)) k

sum_fits : (z : Float) (l : List Float) → F64 z → F64 (foldl ◌⊕◌ z l)
sum_fits z [] f = f
sum_fits z (x ∷ xs) f = sum_fits (z ⊕ x) xs (closed.sum z x)

dot_fits : (a b : List Float) → F64 (dot a b)
unfolding dot fits
dot_fits a b = sum_fits minus_zero (zip_with ◌⊗◌ a b) tt

-- ---- directions
rises_words : (q : List Float) (ps : List Pair) (as' : List Float) → Words q → Words (rises q ps as')
unfolding rises rise plus_scaled
rises_words q [] as' w = w
rises_words q (p ∷ ps) [] w = w
rises_words q (p ∷ ps) (a ∷ as') w = rises_words (rise q p a) ps as' (zip_words _ (λ x y. closed.sum x _) q p.s)

direction_words : (h : InvHessian) (g : List Float) → Words (direction h g)
unfolding direction dense_direction limited_direction mat_vec scaled
direction_words (dense d) g = negation_words (map (λ row. dot row g) d.rows) (map_words (λ row. dot row g) (λ row. dot_fits row g) d.rows)
direction_words (limited l) g =
    let w = foldl fall (record { q = g; alphas = [] }) (reverse l.pairs) in
    negation_words (rises (scaled w.q l.gamma) l.pairs w.alphas)
    (rises_words (scaled w.q l.gamma) l.pairs w.alphas (map_words (λ v. v ⊗ l.gamma) (λ v. closed.product v l.gamma) w.q))

-- ---- models
square_words : (f : ℕ → ℕ → Float) → ((i j : ℕ) → F64 (f i j)) → (n i j : ℕ) → F64 (entry (square f n) i j)
square_words f p n i j = each_upto (λ (r : List Float). Words r) [] (λ k. upto (f k) n) (λ k. none) (λ k. each_upto (λ x. F64 x) nan (f k) none (p k) n) n i j

diagonal_words : (c : Float) → F64 c → (n i j : ℕ) → F64 (entry (diagonal c n) i j)
unfolding diagonal
diagonal_words c f n i j = square_words (λ i j. cond (eqb i j) c plus_zero) (λ i j. cond-fits binary64 (eqb i j) c plus_zero f zero_fits) n i j

new_words : (limits : Bool) (m n : ℕ) → OfF64s (new_hessian limits m n)
unfolding new_hessian new_dense new_memory
new_words true m n = (one_fits, λ i. (λ k. none, λ k. none, none))
new_words false m n = diagonal_words one one_fits n

abbrev PairWords : Pair → Type 0
PairWords p = Words p.s × Words p.y × F64 p.rho

update_words : (h : InvHessian) (s y : List Float) → OfF64s h → Words s → Words y → OfF64s (update h s y)
unfolding update dense_update rank_two limited_update
update_words (dense d) s y w ws wy = square_words _ (λ i j. closed.sum _ _) (length s)
update_words (limited l) s y w ws wy =
    let sy = dot s y in
    let p : Pair = record { s = s; y = y; rho = one ⊘ sy } in
    let few = cond (eqb (length l.pairs) l.m) (drop 1 l.pairs) l.pairs in (
      cond-fits binary64 (lt plus_zero (dot y y)) (sy ⊘ dot y y) l.gamma (closed.quotient sy (dot y y)) w.0,
      each_append PairWords no_pair few (p ∷ [])
          (either (λ (ps : List Pair). (k : ℕ) → PairWords (pair_at ps k)) (eqb (length l.pairs) l.m) (drop 1 l.pairs) l.pairs (each_drop PairWords no_pair l.pairs w.1) w.1)
          (each_one PairWords no_pair p (λ k. none, λ k. none, none) (ws, wy, closed.quotient one sy)),
    )

pub hessian_words : HessianWords
hessian_words = record { direction_words = direction_words; new_words = new_words; update_words = update_words }
