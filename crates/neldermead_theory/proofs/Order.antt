-- The simplex in order (`in_order_lem`): the same vertices, as many of them, and the first is not above any. Assumes nothing.
use Prim.Native.Nat.{ℕ, zero, suc, ◌<◌}
use native.Mathlib.Omega.{arith}
use mathlib.Core.Path.{◌≡◌, refl, sym, ◌∙◌, ap, subst}
use mathlib.Core.Logic.{◌⊎◌, inl, inr, ⊎_elim}
use mathlib.Core.List.Memᴰ
use mathlib.Core.List.{List, [], ◌∷◌, Memᴰ}
use mathlib.Core.Bool.{Bool, true, false, not, cond}
use lib.Dec.{T}
use lib.ListN.{length, get_or}
use lib.Ieee.{Float}
use Rattle.float.specs.Binary64.{NotAbove}
use Rattle.float.specs.Order.{total_order, precedes_of}
use Rattle.neldermead_vertices.specs.declared.Vertex.{Vertex}
use Rattle.neldermead_vertices.specs.Order.{insert, in_order, level, Ordered}
use Rattle.neldermead_theory.specs.Algorithm.{but_last, others}
use Rattle.neldermead_theory.proofs.Precedes.{total, order_not_above, order_trans}

-- ---- a test of `precedes_of`, and the order that it says

precedes : (v w : Float) → precedes_of v w ≡ true → T (total_order w v) → ⊥
unfolding precedes_of
precedes v w e = go (total_order w v) e
  where
    go : (b : Bool) → not b ≡ true → T b → ⊥
    go true e t = subst T (sym e) tt
    go false e t = t

not_precedes : (v w : Float) → precedes_of v w ≡ false → T (total_order w v)
unfolding precedes_of
not_precedes v w e = go (total_order w v) e
  where
    go : (b : Bool) → not b ≡ false → T b
    go true e = tt
    go false e = subst T e tt

in_turn : (v w : Float) → T (total_order v w) → T (not (precedes_of w v))
unfolding precedes_of
in_turn v w t = go (total_order v w) t
  where
    go : (b : Bool) → T b → T (not (not b))
    go true t = tt
    go false t = absurd t

precedes_order : (v w : Float) → precedes_of v w ≡ true → T (total_order v w)
precedes_order v w e = ⊎_elim (λ t. t) (λ t. absurd (precedes v w e t)) (total v w)

-- ---- sorted

abbrev Sorted : List Vertex → Type 0
Sorted vs = (d : Vertex) (i : ℕ) → suc i < length vs → T (not (precedes_of (get_or vs (suc i) d).f (get_or vs i d).f))

-- the first is then the new one, or the one that was
insert_head : (u : Vertex) (ws : List Vertex) (d : Vertex) → (get_or (insert u ws) 0 d ≡ u) ⊎ ((0 < length ws) × (get_or (insert u ws) 0 d ≡ get_or ws 0 d))
unfolding insert
insert_head u [] d = inl refl
insert_head u (w ∷ ws) d = go (precedes_of w.f u.f)
  where
    go : (b : Bool) → (get_or (cond b (w ∷ insert u ws) (u ∷ w ∷ ws)) 0 d ≡ u) ⊎ ((0 < length (w ∷ ws)) × (get_or (cond b (w ∷ insert u ws) (u ∷ w ∷ ws)) 0 d ≡ w))
    go true = inr (omega arith, refl)
    go false = inl refl

insert_sorted : (u : Vertex) (ws : List Vertex) → Sorted ws → Sorted (insert u ws)
unfolding insert
insert_sorted u [] h d i l = absurd (omega arith)
insert_sorted u (w ∷ ws) h d i l = go (precedes_of w.f u.f) refl i l (insert_sorted u ws (λ e j k. h e (suc j) (omega arith)))
  where
    go : (b : Bool) → precedes_of w.f u.f ≡ b → (i : ℕ) → suc i < length (cond b (w ∷ insert u ws) (u ∷ w ∷ ws)) → Sorted (insert u ws)
        → T (not (precedes_of (get_or (cond b (w ∷ insert u ws) (u ∷ w ∷ ws)) (suc i) d).f (get_or (cond b (w ∷ insert u ws) (u ∷ w ∷ ws)) i d).f))
    go true e zero l r = elim (insert_head u ws d) [
      | inl i ↦ rw i (in_turn w.f u.f (precedes_order w.f u.f e))
      | inr i ↦ rw i.1 (h d 0 (omega (arith, i.0)))
    ]
    go true e (suc i) l r = r d i (omega arith)
    go false e zero l r = rw e tt
    go false e (suc i) l r = h d i (omega arith)

order_sorted : (us : List Vertex) → Sorted (in_order us)
unfolding in_order
order_sorted [] = λ d i l. absurd (omega arith)
order_sorted (u ∷ us) = insert_sorted u (in_order us) (order_sorted us)

-- ---- at each value the same vertices as they stood

insert_stable : (v : Float) (u : Vertex) (ws : List Vertex) → level v (insert u ws) ≡ level v (u ∷ ws)
unfolding insert level
insert_stable v u [] = refl
insert_stable v u (w ∷ ws) = go (precedes_of w.f u.f) refl (insert_stable v u ws)
  where
    -- u and w are not both at v where w precedes u
    swap : (a b c d : Bool) (rest : List Vertex) → (a ≡ false → b ≡ false → c ≡ false → d ≡ false → ⊥)
        → cond a (cond c rest (cond d rest (u ∷ rest))) (cond b (cond c rest (cond d rest (u ∷ rest))) (w ∷ cond c rest (cond d rest (u ∷ rest))))
        ≡ cond c (cond a rest (cond b rest (w ∷ rest))) (cond d (cond a rest (cond b rest (w ∷ rest))) (u ∷ cond a rest (cond b rest (w ∷ rest))))
    swap true b true d rest h = refl
    swap true b false true rest h = refl
    swap true b false false rest h = refl
    swap false true true d rest h = refl
    swap false true false true rest h = refl
    swap false true false false rest h = refl
    swap false false true d rest h = refl
    swap false false false true rest h = refl
    swap false false false false rest h = absurd (h refl refl refl refl)

    go : (b : Bool) → precedes_of w.f u.f ≡ b → level v (insert u ws) ≡ level v (u ∷ ws) → level v (cond b (w ∷ insert u ws) (u ∷ w ∷ ws)) ≡ level v (u ∷ w ∷ ws)
    go true e h =
        ap (λ (rest : List Vertex). cond (precedes_of v w.f) rest (cond (precedes_of w.f v) rest (w ∷ rest))) h
        ∙ swap (precedes_of v w.f) (precedes_of w.f v) (precedes_of v u.f) (precedes_of u.f v) (level v ws)
        (λ a b c d. precedes w.f u.f e (order_trans u.f v w.f (not_precedes v u.f c) (not_precedes w.f v b)))
    go false e h = refl

order_stable : (v : Float) (us : List Vertex) → level v (in_order us) ≡ level v us
unfolding in_order level
order_stable v [] = refl
order_stable v (u ∷ us) =
    insert_stable v u (in_order us) ∙ ap (λ (rest : List Vertex). cond (precedes_of v u.f) rest (cond (precedes_of u.f v) rest (u ∷ rest))) (order_stable v us)

pub in_order_lem : (us : List Vertex) → Ordered us (in_order us)
in_order_lem us = record { sorted = order_sorted us; stable = λ v. order_stable v us }

-- ---- the same vertices, as many of them

insert_from : (u : Vertex) (ws : List Vertex) (x : Vertex) → Memᴰ x (insert u ws) → (x ≡ u) ⊎ Memᴰ x ws
unfolding insert
insert_from u [] x m = Memᴰ.cases_cons m
insert_from u (w ∷ ws) x m = go (precedes_of w.f u.f) m (insert_from u ws x)
  where
    go : (b : Bool) → Memᴰ x (cond b (w ∷ insert u ws) (u ∷ w ∷ ws)) → (Memᴰ x (insert u ws) → (x ≡ u) ⊎ Memᴰ x ws) → (x ≡ u) ⊎ Memᴰ x (w ∷ ws)
    go true m h = ⊎_elim (λ e. inr (Memᴰ.head e)) (λ k. ⊎_elim (λ e. inl e) (λ i. inr (Memᴰ.tail i)) (h k)) (Memᴰ.cases_cons m)
    go false m h = Memᴰ.cases_cons m

pub order_from : (us : List Vertex) (x : Vertex) → Memᴰ x (in_order us) → Memᴰ x us
unfolding in_order
order_from [] x m = m
order_from (u ∷ us) x m = ⊎_elim (λ e. Memᴰ.head e) (λ k. Memᴰ.tail (order_from us x k)) (insert_from u (in_order us) x m)

-- ---- the first is not above any

-- d stands in where there is none
abbrev First : List Vertex → Vertex → Vertex → Type 0
First us d x = T (total_order (get_or us 0 d).f x.f)

order_self : (v : Float) → T (total_order v v)
order_self v = ⊎_elim (λ t. t) (λ t. t) (total v v)

insert_new : (u : Vertex) (ws : List Vertex) (d : Vertex) → First (insert u ws) d u
unfolding insert
insert_new u [] d = order_self u.f
insert_new u (w ∷ ws) d = go (precedes_of w.f u.f) refl
  where
    go : (b : Bool) → precedes_of w.f u.f ≡ b → First (cond b (w ∷ insert u ws) (u ∷ w ∷ ws)) d u
    go true e = precedes_order w.f u.f e
    go false e = order_self u.f

insert_old : (u : Vertex) (ws : List Vertex) (d x : Vertex) → ((e : Vertex) → First ws e x) → First (insert u ws) d x
unfolding insert
insert_old u [] d x h = h u
insert_old u (w ∷ ws) d x h = go (precedes_of w.f u.f) refl
  where
    go : (b : Bool) → precedes_of w.f u.f ≡ b → First (cond b (w ∷ insert u ws) (u ∷ w ∷ ws)) d x
    go true e = h d
    go false e = order_trans u.f w.f x.f (not_precedes w.f u.f e) (h d)

order_first : (us : List Vertex) (d x : Vertex) → Memᴰ x us → First (in_order us) d x
unfolding in_order
order_first [] d x m = absurd (Memᴰ.not-nil m)
order_first (u ∷ us) d x m = ⊎_elim (λ e. rw e (insert_new u (in_order us) d)) (λ k. insert_old u (in_order us) d x (λ e. order_first us e x k)) (Memᴰ.cases_cons m)

pub least_first : (us : List Vertex) (d x : Vertex) → Memᴰ x us → NotAbove (get_or (in_order us) 0 d).f x.f
least_first us d x m = order_not_above (get_or (in_order us) 0 d).f x.f (order_first us d x m)

-- ---- reading and replacing

pub get_d_cases : (us : List Vertex) (k : ℕ) (d : Vertex) → Memᴰ (get_or us k d) us ⊎ (get_or us k d ≡ d)
get_d_cases [] k d = inr refl
get_d_cases (u ∷ us) zero d = inl (Memᴰ.head refl)
get_d_cases (u ∷ us) (suc k) d = ⊎_elim (λ m. inl (Memᴰ.tail m)) (λ e. inr e) (get_d_cases us k d)

pub butlast_from : (us : List Vertex) (x : Vertex) → Memᴰ x (but_last us) → Memᴰ x us
butlast_from [] x m = m
butlast_from (u ∷ []) x m = absurd (Memᴰ.not-nil m)
butlast_from (u ∷ w ∷ ws) x m = ⊎_elim (λ e. Memᴰ.head e) (λ k. Memᴰ.tail (butlast_from (w ∷ ws) x k)) (Memᴰ.cases_cons m)

pub others_from : (us : List Vertex) (x : Vertex) → Memᴰ x (others us) → Memᴰ x us
others_from [] x m = m
others_from (u ∷ us) x m = Memᴰ.tail m
