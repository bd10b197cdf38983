-- A direction has as many coordinates as the gradient, each of them an f64, whatever pairs the model has taken in (`directions`). Assumes nothing.
use Prim.Native.Nat.{ℕ, suc}
use mathlib.Core.Path.{◌≡◌, ◌∙◌}
use mathlib.Core.Bool.{Bool, true, false, cond}
use mathlib.Core.List.{List, [], ◌∷◌, ◌++◌, foldl, reverse, reverse_aux}
use lib.Dec.{eqb}
use lib.ListN.{length, length-map, drop}
use lib.Ieee.{Float, neg}
use Rattle.float.specs.Binary64.{◌⊘◌}
use Rattle.float.proofs.Closed.{closed}
use Rattle.vector.specs.Lists.{dot, mat_vec, negation, scaled, plus_scaled, minus_scaled}
use Rattle.vector.proofs.Loops.{length_upto}
use Rattle.vector.proofs.First.{zip_long}
use Rattle.protocol.specs.Dialogue.{F64s}
use Rattle.quasinewton_limited.specs.declared.Pair.{Pair}
use Rattle.quasinewton_model_theory.specs.Algorithm.{InvHessian, dense, limited, Falling, one, diagonal, new_dense, new_memory, new_hessian, dense_direction, rank_two, dense_update, fall, rise, rises, limited_direction, limited_update, direction, update}
use Rattle.quasinewton_model_theory.specs.Ties.{Words}
use Rattle.quasinewton_model_theory.proofs.Words.{hessian_words}
use Rattle.quasinewton_theory.specs.Laws.{PairsLong, ModelShaped, DirectionLaws}

-- ---- lengths

pub negation_long : (n : ℕ) (g : List Float) → length g ≡ n → length (negation g) ≡ n
unfolding negation
negation_long n g i = length-map g neg ∙ i

falls_long : (n : ℕ) (w : Falling) (ps : List Pair) → length w.q ≡ n → PairsLong n ps → length (foldl fall w ps).q ≡ n
unfolding fall minus_scaled
falls_long n w [] i h = i
falls_long n w (p ∷ ps) i h = falls_long n (fall w p) ps (zip_long n _ w.q p.y i h.1) h.2

rises_long : (n : ℕ) (q : List Float) (ps : List Pair) (alphas : List Float) → length q ≡ n → PairsLong n ps → length (rises q ps alphas) ≡ n
unfolding rises rise plus_scaled
rises_long n q [] alphas i h = i
rises_long n q (p ∷ ps) [] i h = i
rises_long n q (p ∷ ps) (a ∷ alphas) i h = rises_long n (rise q p a) ps alphas (zip_long n _ q p.s i h.0) h.2

turned_long : (n : ℕ) (ps qs : List Pair) → PairsLong n ps → PairsLong n qs → PairsLong n (reverse_aux ps qs)
turned_long n [] qs h k = k
turned_long n (p ∷ ps) qs h k = turned_long n ps (p ∷ qs) h.2 (h.0, h.1, k)

direction_long : (n : ℕ) (h : InvHessian) (g : List Float) → ModelShaped n h → length g ≡ n → length (direction h g) ≡ n
unfolding direction dense_direction limited_direction mat_vec scaled
direction_long n (dense d) g s i = negation_long n (mat_vec d.rows g) (length-map d.rows (λ row. dot row g) ∙ s)
direction_long n (limited l) g s i =
    let w = foldl fall (record { q = g; alphas = [] }) (reverse l.pairs) in
    let long : length w.q ≡ n = falls_long n (record { q = g; alphas = [] }) (reverse l.pairs) i (turned_long n l.pairs [] s tt) in
    negation_long n (rises (scaled w.q l.gamma) l.pairs w.alphas) (rises_long n (scaled w.q l.gamma) l.pairs w.alphas (length-map w.q _ ∙ long) s)

-- ---- f64s

pub negation_f64s : (g : List Float) → F64s g → F64s (negation g)
unfolding negation
negation_f64s [] w = tt
negation_f64s (x ∷ g) w = (closed.negation x w.0, negation_f64s g w.1)

of_words : (d : List Float) → Words d → F64s d
of_words [] w = tt
of_words (x ∷ d) w = (w 0, of_words d (λ k. w (suc k)))

-- ---- the model's shape lasts

new_shaped : (limits : Bool) (m n : ℕ) → ModelShaped n (new_hessian limits m n)
unfolding new_hessian new_dense new_memory diagonal
new_shaped true m n = tt
new_shaped false m n = length_upto _ n

pairs_append : (n : ℕ) (ps : List Pair) (p : Pair) → PairsLong n ps → length p.s ≡ n → length p.y ≡ n → PairsLong n (ps ++ (p ∷ []))
pairs_append n [] p h i j = (i, j, tt)
pairs_append n (q ∷ ps) p h i j = (h.0, h.1, pairs_append n ps p h.2 i j)

pairs_popped : (n : ℕ) (b : Bool) (ps : List Pair) → PairsLong n ps → PairsLong n (cond b (drop 1 ps) ps)
pairs_popped n true [] h = tt
pairs_popped n true (p ∷ ps) h = h.2
pairs_popped n false ps h = h

update_shaped : (n : ℕ) (h : InvHessian) (s y : List Float) → ModelShaped n h → length s ≡ n → length y ≡ n → ModelShaped n (update h s y)
unfolding update dense_update limited_update rank_two
update_shaped n (dense d) s y k i j = length_upto _ (length s) ∙ i
update_shaped n (limited l) s y k i j =
    pairs_append n (cond (eqb (length l.pairs) l.m) (drop 1 l.pairs) l.pairs) (record { s = s; y = y; rho = one ⊘ dot s y })
    (pairs_popped n (eqb (length l.pairs) l.m) l.pairs k) i j

pub directions : DirectionLaws
directions = record { long = direction_long; f64s = λ h g. of_words (direction h g) (hessian_words.direction_words h g); new_shaped = new_shaped; update_shaped = update_shaped }
