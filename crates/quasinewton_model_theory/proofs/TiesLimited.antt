-- The model of limited memory over sixteen pairs is that over a list of pairs, read off by `read_pairs`. Assumes nothing.
use Prim.Native.Nat.{ℕ, zero, suc, ◌+◌, ◌-◌, ◌≤◌, ◌<◌}
use mathlib.Core.Path.{◌≡◌, refl, sym, ap, ◌∙◌}
use mathlib.Core.Bool.{Bool, true, false, cond}
use mathlib.Core.List.{List, [], ◌∷◌, ◌++◌, foldl, reverse, reverse_aux, append-nil, append_assoc}
use native.Mathlib.Numerals.{add-one}
use native.Mathlib.Omega.{arith}
use lib.Dec.{eqb, ltb}
use lib.ListN.{length, set, drop, replicate, length-set, length-replicate}
use lib.Seq.{get_or-set_same, get_or-set_other}
use lib.Ieee.{Float, nan, lt}
use borrow.Author.Tests.{eqb-true, eqb-false, ltb-true, ltb-false}
use Rattle.float.specs.Binary64.{◌⊖◌, ◌⊗◌, ◌⊘◌, plus_zero}
use Rattle.vector.specs.Loops.{upto, at}
use Rattle.vector.specs.Points.{dot_of, scaled_of}
use Rattle.vector.specs.Lists.{first, negation, plus_scaled}
use Rattle.vector.proofs.Loops.{length_upto}
use Rattle.vector.proofs.First.{upto_same, ties}
use Rattle.quasinewton_limited.specs.declared.Pair.{Pair}
use Rattle.quasinewton_limited.specs.declared.Limited.{Limited}
use Rattle.quasinewton_limited.specs.declared.Sweep.{Sweep}
use Rattle.quasinewton_model_theory.specs.Algorithm.{one, new_memory, fall, rise, rises, limited_direction, limited_update}
use Rattle.quasinewton_model.specs.Step.{no_pair, pair_at, down_of, down_from, all_down_of, up_of, all_up_of, limited_direction_of, shifted_of, popped_of, room_of, gamma_of, limited_update_of, no_pairs_of}
use Rattle.quasinewton_model_theory.specs.Ties.{read_pair, read_pairs, read_limited}
use Rattle.quasinewton_model_theory.proofs.Places.{stored_length, stored_other, stored_at, upto_drop, upto_push}

-- ---- lists
reverse_more : {A : Type 0} (xs : List A) (x : A) (r : List A) → reverse_aux (xs ++ (x ∷ [])) r ≡ x ∷ reverse_aux xs r
reverse_more [] x r = refl
reverse_more (y ∷ ys) x r = reverse_more ys x (y ∷ r)

rises_more : (q : List Float) (ps : List Pair) (as' : List Float) (p : Pair) (a : Float) → length ps ≡ length as' → rises q (ps ++ (p ∷ [])) (as' ++ (a ∷ [])) ≡ rise (rises q ps as') p a
unfolding rises
rises_more q [] [] p a e = refl
rises_more q [] (b ∷ bs) p a e = absurd (omega arith)
rises_more q (r ∷ rs) [] p a e = absurd (omega arith)
rises_more q (r ∷ rs) (b ∷ bs) p a e = rises_more (rise q r b) rs bs p a (omega arith)

-- ---- the two loops
module _ (pairs : List Pair) (n : ℕ) where
  -- an alpha once stored stays
  alphas_stay : (k : ℕ) (w : Sweep) (j : ℕ) → k ≤ j → at (down_from pairs n k w).alphas j ≡ at w.alphas j
  unfolding down_from down_of
  alphas_stay zero w j h = refl
  alphas_stay (suc k) w j h =
      alphas_stay k (down_of (pair_at pairs k) w k n) j (omega arith)
      ∙ get_or-set_other w.alphas k j ((pair_at pairs k).rho ⊗ dot_of (pair_at pairs k).s w.q n) nan (λ e. omega arith)

  length_of : (p : Pair) (w : Sweep) (k : ℕ) → length (down_of p w k n).alphas ≡ length w.alphas
  unfolding down_of
  length_of p w k = length-set w.alphas k (p.rho ⊗ dot_of p.s w.q n)

  stored_alpha : (p : Pair) (w : Sweep) (k : ℕ) → k < length w.alphas → at (down_of p w k n).alphas k ≡ p.rho ⊗ dot_of p.s w.q n
  unfolding down_of
  stored_alpha p w k h = get_or-set_same w.alphas k (p.rho ⊗ dot_of p.s w.q n) nan h

  fall_of : (p : Pair) (w : Sweep) (k : ℕ) (as' : List Float)
      → fall (record { q = first n w.q; alphas = as' }) (read_pair n p) ≡ record { q = first n (down_of p w k n).q; alphas = p.rho ⊗ dot_of p.s w.q n ∷ as' }
  unfolding fall down_of
  fall_of p w k as' = rw (← ties.dot_of_lem p.s w.q n, ← ties.minus_scaled_lem w.q (p.rho ⊗ dot_of p.s w.q n) p.y n)

  falls : (k : ℕ) (w : Sweep) (as' : List Float) → k ≤ length w.alphas
      → foldl fall (record { q = first n w.q; alphas = as' }) (reverse (read_pairs n k pairs))
      ≡ record { q = first n (down_from pairs n k w).q; alphas = upto (at (down_from pairs n k w).alphas) k ++ as' }
  unfolding down_from
  falls zero w as' h = refl
  falls (suc k) w as' h =
      let p = pair_at pairs k in
      let a = p.rho ⊗ dot_of p.s w.q n in
      let v = down_of p w k n in
      let last : at (down_from pairs n k v).alphas k ≡ a = alphas_stay k v k (omega arith) ∙ stored_alpha p w k (omega arith) in
      ap (foldl fall (record { q = first n w.q; alphas = as' })) (reverse_more (read_pairs n k pairs) (read_pair n p) [])
      ∙ ap (λ z. foldl fall z (reverse (read_pairs n k pairs))) (fall_of p w k as')
      ∙ falls k v (a ∷ as') (rw (length_of p w k) (omega arith))
      ∙ ap (λ (l : List Float). record { q = first n (down_from pairs n k v).q; alphas = l })
      (ap (λ (x : Float). upto (at (down_from pairs n k v).alphas) k ++ (x ∷ as')) (sym last)
      ∙ sym (append_assoc (upto (at (down_from pairs n k v).alphas) k) (at (down_from pairs n k v).alphas k ∷ []) as'))

  up_of_lem : (p : Pair) (q : List Float) (a : Float) → first n (up_of p q a n) ≡ rise (first n q) (read_pair n p) a
  unfolding up_of rise
  up_of_lem p q a =
      ties.plus_scaled_lem q (a ⊖ p.rho ⊗ dot_of p.y q n) p.s n
      ∙ ap (λ (t : Float). plus_scaled (first n q) (a ⊖ p.rho ⊗ t) (first n p.s)) (ties.dot_of_lem p.y q n)

  ups : (r alphas : List Float) (k : ℕ) → first n (all_up_of pairs r alphas n k) ≡ rises (first n r) (read_pairs n k pairs) (upto (at alphas) k)
  unfolding all_up_of
  ups r alphas zero = unfold rises in refl
  ups r alphas (suc k) =
      up_of_lem (pair_at pairs k) (all_up_of pairs r alphas n k) (at alphas k)
      ∙ ap (λ (q : List Float). rise q (read_pair n (pair_at pairs k)) (at alphas k)) (ups r alphas k)
      ∙ sym (rises_more (first n r) (read_pairs n k pairs) (upto (at alphas) k) (read_pair n (pair_at pairs k)) (at alphas k)
      (length_upto (λ i. read_pair n (pair_at pairs i)) k ∙ sym (length_upto (at alphas) k)))

pub limited_direction_lem : (l : Limited) (memory : ℕ) (g : List Float) (n : ℕ) → l.count ≤ 16 → first n (limited_direction_of l g n) ≡ limited_direction (read_limited n memory l) (first n g)
unfolding limited_direction_of all_down_of limited_direction
limited_direction_lem l memory g n h =
    let w : Sweep = record { q = g; alphas = replicate 16 plus_zero } in
    let v = down_from l.pairs n l.count w in
    let swept = falls l.pairs n l.count w [] (rw (length-replicate 16 plus_zero) h)
    ∙ ap (λ (a : List Float). record { q = first n v.q; alphas = a }) (append-nil (upto (at v.alphas) l.count)) in
    ties.negation_of_lem (all_up_of l.pairs (scaled_of v.q l.gamma n) v.alphas n l.count) n
    ∙ ap negation (ups l.pairs n (scaled_of v.q l.gamma n) v.alphas l.count)
    ∙ rw (swept, ties.scaled_of_lem v.q l.gamma n)

-- ---- the pairs that are kept when one more comes

shifted_at : (pairs : List Pair) (k i : ℕ) → k < length pairs → i < k → pair_at (shifted_of pairs k) i ≡ pair_at pairs (suc i)
unfolding shifted_of
shifted_at pairs k i long h = stored_at no_pair (λ x j. pair_at pairs (j + 1)) (λ j. j) pairs (λ a b e. e) k i h (λ j t. omega arith) ∙ ap (pair_at pairs) (add-one i)

shifted_past : (pairs : List Pair) (k i : ℕ) → k ≤ i → pair_at (shifted_of pairs k) i ≡ pair_at pairs i
unfolding shifted_of
shifted_past pairs k i h = stored_other no_pair (λ x j. pair_at pairs (j + 1)) (λ j. j) pairs k i (λ j t e. omega arith)

shifted_length : (pairs : List Pair) (k : ℕ) → length (shifted_of pairs k) ≡ length pairs
unfolding shifted_of
shifted_length pairs k = stored_length no_pair (λ x j. pair_at pairs (j + 1)) (λ j. j) pairs k

-- r is l with room for one more: how many are kept, which, and what stands past them
pub record Room (memory : ℕ) (l r : Limited) : Type 0 where
  pub fewer : r.count < 16
  pub within : 0 < memory → r.count < memory
  pub long : length r.pairs ≡ 16
  pub each : (i : ℕ) → i < 16 → (j : ℕ) × (j < 16) × (pair_at r.pairs i ≡ pair_at l.pairs j)
  pub past : (i : ℕ) → r.count < i → (l.count ≤ i) × (pair_at r.pairs i ≡ pair_at l.pairs i)
  pub kept : (n : ℕ) → read_pairs n r.count r.pairs ≡ cond (eqb l.count memory) (drop 1 (read_pairs n l.count l.pairs)) (read_pairs n l.count l.pairs)

none_less : {A : Type 0} (g : ℕ → A) (k : ℕ) → k ≡ 0 → upto g k ≡ drop 1 (upto g k)
none_less g zero e = refl
none_less g (suc k) e = absurd (omega arith)

one_less : (pairs : List Pair) (n k : ℕ) → 0 < k → k ≤ length pairs → read_pairs n (k - 1) (shifted_of pairs (k - 1)) ≡ drop 1 (read_pairs n k pairs)
one_less pairs n zero h long = absurd (omega arith)
one_less pairs n (suc k) h long =
    let e : suc k - 1 ≡ k = omega arith in
    rw e
    (upto_same (λ i. read_pair n (pair_at (shifted_of pairs k) i)) (λ i. read_pair n (pair_at pairs (suc i))) k (λ i t. ap (read_pair n) (shifted_at pairs k i (omega arith) t))
    ∙ sym (upto_drop (λ i. read_pair n (pair_at pairs i)) k))

moved : (pairs : List Pair) (k : ℕ) → k < 16 → length pairs ≡ 16 → (i : ℕ) → i < 16 → (j : ℕ) × (j < 16) × (pair_at (shifted_of pairs k) i ≡ pair_at pairs j)
moved pairs k few long i h = go (ltb i k) refl
  where
    go : (b : Bool) → ltb i k ≡ b → (j : ℕ) × (j < 16) × (pair_at (shifted_of pairs k) i ≡ pair_at pairs j)
    go true e = (suc i, omega (arith, ltb-true i k e), shifted_at pairs k i (omega arith) (ltb-true i k e))
    go false e = (i, h, shifted_past pairs k i (ltb-false i k e))

module _ (memory : ℕ) (l : Limited) (h : l.count ≤ memory) (small : memory ≤ 16) (long : length l.pairs ≡ 16) where
  popped_room : eqb l.count memory ≡ true → Room memory l (popped_of l)
  unfolding popped_of
  popped_room full = go (eqb l.count 0) refl
    where
      same : l.count ≡ memory
      same = eqb-true l.count memory full

      go : (b : Bool) → eqb l.count 0 ≡ b → Room memory l (cond {A = Limited} b l (record { count = l.count - 1; gamma = l.gamma; pairs = shifted_of l.pairs (l.count - 1) }))
      go true e =
          let none : l.count ≡ 0 = eqb-true l.count 0 e in
          record {
            fewer = omega arith;
            within = λ t. omega (arith, same);
            long = long;
            each = λ i t. (i, t, refl);
            past = λ i t. (omega arith, refl);
            kept = λ n. rw full (none_less (λ i. read_pair n (pair_at l.pairs i)) l.count none);
          }
      go false e =
          let some : 0 < l.count = omega (arith, eqb-false l.count 0 e) in
          record {
            fewer = omega arith;
            within = λ t. omega (arith, same);
            long = shifted_length l.pairs (l.count - 1) ∙ long;
            each = moved l.pairs (l.count - 1) (omega arith) long;
            past = λ i t. (omega arith, shifted_past l.pairs (l.count - 1) i (omega arith));
            kept = λ n. rw full (one_less l.pairs n l.count some (omega arith));
          }

  pub room : Room memory l (room_of l memory)
  unfolding room_of
  room = go (eqb l.count memory) refl
    where
      go : (b : Bool) → eqb l.count memory ≡ b → Room memory l (cond {A = Limited} b (popped_of l) l)
      go true e = popped_room e
      go false e =
          let less : l.count < memory = omega (arith, eqb-false l.count memory e) in
          record {
            fewer = omega arith;
            within = λ t. less;
            long = long;
            each = λ i t. (i, t, refl);
            past = λ i t. (omega arith, refl);
            kept = λ n. rw e;
          }

  pub limited_update_lem : (s y : List Float) (n : ℕ) → read_limited n memory (limited_update_of l memory s y n) ≡ limited_update (read_limited n memory l) (first n s) (first n y)
  unfolding limited_update_of gamma_of limited_update
  limited_update_lem s y n =
      let r = room_of l memory in
      let p : Pair = record { s = s; y = y; rho = one ⊘ dot_of s y n } in
      let pushed = ap (λ (k : ℕ). read_pairs n k (set r.pairs r.count p)) (add-one r.count)
      ∙ upto_push (read_pair n) r.pairs no_pair p r.count (omega (arith, room.fewer, room.long))
      ∙ ap (λ (ps : List Pair). ps ++ (read_pair n p ∷ [])) (room.kept n) in
      rw (← ties.dot_of_lem s y n, ← ties.dot_of_lem y y n, length_upto (λ i. read_pair n (pair_at l.pairs i)) l.count)
      (ap (λ (ps : List Pair). record { m = memory; pairs = ps; gamma = cond (lt plus_zero (dot_of y y n)) (dot_of s y n ⊘ dot_of y y n) l.gamma }) pushed)

pub new_limited : (n memory : ℕ) → read_limited n memory (no_pairs_of one) ≡ new_memory memory
unfolding no_pairs_of new_memory
new_limited n memory = refl
