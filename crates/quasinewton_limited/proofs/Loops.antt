-- The turns of the first of the two loops, and that a place is free where a pair is pushed. Assumes nothing.
use Prim.Native.Nat.{ℕ, zero, suc, ◌-◌, ◌≤◌, ◌<◌}
use mathlib.Core.Path.{◌≡◌, refl, sym, ap, ap₂, ◌∙◌}
use mathlib.Core.Bool.{Bool, true, false, cond}
use mathlib.Core.List.{List, [], ◌∷◌, ◌++◌, append_assoc}
use native.Mathlib.Omega.{arith}
use lib.Dec.{eqb}
use lib.ListN.{length, get_or, take, drop, set}
use lib.Seq.{set_at, take-suc, drop-cons}
use Rattle.std.proofs.lemmas.List.{length-drop, length-take-le, get_or-drop}
use borrow.Author.Tests.{eqb-true, eqb-false}
use Rattle.quasinewton_limited.specs.declared.Pair.{Pair}
use Rattle.quasinewton_limited.specs.declared.Limited.{Limited}
use Rattle.quasinewton_limited.specs.declared.Sweep.{Sweep}
use Rattle.quasinewton_limited.specs.Step.{no_pair, pair_at, down_of, down_from, shifted_of, popped_of, room_of}

-- ---- what is left to do with i pairs to go stays the same
pub down_goes : (pairs : List Pair) (n i : ℕ) (w : Sweep) → 0 < i → down_from pairs n (i - 1) (down_of (pair_at pairs (i - 1)) w (i - 1) n) ≡ down_from pairs n i w
unfolding down_from
down_goes pairs n zero w h = absurd (omega arith)
down_goes pairs n (suc i) w h =
    let e : suc i - 1 ≡ i = omega arith in
    rw e

pub down_ends : (pairs : List Pair) (n i : ℕ) (w : Sweep) → i ≤ 0 → w ≡ down_from pairs n i w
unfolding down_from
down_ends pairs n zero w h = refl
down_ends pairs n (suc i) w h = absurd (omega arith)

-- ---- one place is free after `room`, of a memory of 0 too
pub room_free : (l : Limited) (memory : ℕ) → l.count ≤ memory → memory ≤ 16 → (room_of l memory).count < 16
unfolding room_of popped_of
room_free l memory h k = go (eqb l.count memory) refl
  where
    pop : (b : Bool) → eqb l.count 0 ≡ b → (cond {A = Limited} b l (record { count = l.count - 1; gamma = l.gamma; pairs = shifted_of l.pairs (l.count - 1) })).count < 16
    pop true e = omega (arith, eqb-true l.count 0 e)
    pop false e = omega (arith, eqb-false l.count 0 e)

    go : (b : Bool) → eqb l.count memory ≡ b
        → (cond {A = Limited} b (cond {A = Limited} (eqb l.count 0) l (record { count = l.count - 1; gamma = l.gamma; pairs = shifted_of l.pairs (l.count - 1) })) l).count < 16
    go true e = pop (eqb l.count 0) refl
    go false e = omega (arith, eqb-false l.count memory e)

pub free : (l r : Limited) (memory : ℕ) → r ≡ room_of l memory → l.count ≤ memory → memory ≤ 16 → r.count < 16
free l r memory e h k = rw e (room_free l memory h k)

-- ---- the k pairs after the first, copied over the first k, are what the stores one by one make
pub shift_parts : (ps : List Pair) (k : ℕ) → k < length ps → take k (drop 1 ps) ++ drop k ps ≡ shifted_of ps k
unfolding shifted_of
shift_parts ps zero h = refl
shift_parts ps (suc k) h =
    let next = get_or (drop 1 ps) k no_pair in
    let short : k < length (drop 1 ps) = omega (arith, length-drop 1 ps, h) in
    ap (λ (l : List Pair). l ++ drop (suc k) ps) (take-suc (drop 1 ps) k no_pair short)
    ∙ append_assoc (take k (drop 1 ps)) (next ∷ []) (drop (suc k) ps)
    ∙ sym (set_at (take k (drop 1 ps)) (pair_at ps k) (drop (suc k) ps) next k (length-take-le k (drop 1 ps) (omega (arith, short))))
    ∙ ap₂ (λ (l : List Pair) (p : Pair). set l k p) (ap (λ (l : List Pair). take k (drop 1 ps) ++ l) (sym (drop-cons ps k no_pair (omega (arith, h)))) ∙ shift_parts ps k (omega (arith, h))) (get_or-drop 1 ps k no_pair ∙ ap (pair_at ps) (omega arith))
