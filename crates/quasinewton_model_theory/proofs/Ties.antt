-- The models over sixteen coordinates, read as lists, are the Algorithm's; sizes last, and words past n stay +0.0: `hessian_ties`. Assumes nothing.
use Prim.Native.Nat.{ℕ, ◌+◌, ◌*◌, ◌≤◌, ◌<◌, zero-le}
use mathlib.Core.Path.{◌≡◌, refl, sym, ap, subst, ◌∙◌}
use mathlib.Core.Logic.{◌⊎◌, ⊎_elim}
use mathlib.Core.Bool.{Bool, true, false, not, cond, false≢true}
use mathlib.Core.List.{List}
use native.Mathlib.Omega.{arith}
use lib.Dec.{eqb}
use lib.ListN.{length, set, replicate, length-set, length-replicate, get_or-replicate}
use lib.Seq.{get_or-set_same, get_or-set_other}
use lib.Ieee.{Float, nan, lt}
use borrow.Author.Tests.{eqb-true, eqb-false}
use Rattle.float.specs.Binary64.{◌⊘◌, plus_zero}
use Rattle.vector.specs.Loops.{at}
use Rattle.vector.specs.Points.{dot_of, mat_vec_of, negation_of}
use Rattle.vector.specs.Lists.{first}
use Rattle.vector.proofs.First.{point_laws}
use Rattle.vector.specs.Ties.{ZeroFrom}
use Rattle.quasinewton_limited.specs.declared.Pair.{Pair}
use Rattle.quasinewton_limited.specs.declared.Limited.{Limited}
use Rattle.quasinewton_model.specs.declared.Model.{Model}
use Rattle.quasinewton_model_theory.specs.Algorithm.{dense, limited, one, new_hessian, direction, update}
use Rattle.quasinewton_model.specs.Step.{no_pair, pair_at, blank_pair, diagonal_of, prepared_of, dense_update_of, dense_direction_of, limited_direction_of, room_of, limited_update_of, no_pairs_of, blank_of, new_model_of, direction_of, update_of}
use Rattle.quasinewton_model_theory.specs.Ties.{read_dense, read_limited, read_model, ModelSized, ModelZeroPast, HessianTies}
use Rattle.quasinewton_model_theory.proofs.TiesDense.{diagonal_length, diagonal_off, rows_length, rows_other, prepared_length, new_dense_lem, dense_update_lem, dense_direction_lem}
use Rattle.quasinewton_model_theory.proofs.TiesLimited.{Room, room, limited_update_lem, limited_direction_lem, new_limited}

-- ---- blank pairs

blank_at : (i : ℕ) → i < 16 → pair_at (replicate 16 blank_pair) i ≡ blank_pair
blank_at i h = get_or-replicate 16 i blank_pair no_pair h

blank_s : (i : ℕ) → i < 16 → length (pair_at (replicate 16 blank_pair) i).s ≡ 16
blank_s i h = ap (λ (p : Pair). length p.s) (blank_at i h)

blank_y : (i : ℕ) → i < 16 → length (pair_at (replicate 16 blank_pair) i).y ≡ 16
blank_y i h = ap (λ (p : Pair). length p.y) (blank_at i h)

zeros_s : (n i : ℕ) → i < 16 → ZeroFrom n (pair_at (replicate 16 blank_pair) i).s
zeros_s n i h k l j = ap (λ (p : Pair). at p.s k) (blank_at i h) ∙ get_or-replicate 16 k plus_zero nan j

zeros_y : (n i : ℕ) → i < 16 → ZeroFrom n (pair_at (replicate 16 blank_pair) i).y
zeros_y n i h k l j = ap (λ (p : Pair). at p.y k) (blank_at i h) ∙ get_or-replicate 16 k plus_zero nan j

-- ---- what holds of the new pair and of those that stood holds of those that stand
each_pair : (P : Pair → Type 0) (memory : ℕ) (l r : Limited) (p : Pair) → Room memory l r → P p → ((j : ℕ) → j < 16 → P (pair_at l.pairs j)) → (i : ℕ) → i < 16 → P (pair_at (set r.pairs r.count p) i)
each_pair P memory l r p o new old i h = go (eqb i r.count) refl
  where
    go : (b : Bool) → eqb i r.count ≡ b → P (pair_at (set r.pairs r.count p) i)
    go true e = subst P (sym (ap (pair_at (set r.pairs r.count p)) (eqb-true i r.count e) ∙ get_or-set_same r.pairs r.count p no_pair (omega (arith, o.fewer, o.long)))) new
    go false e =
        let f = o.each i h in
        subst P (sym (get_or-set_other r.pairs r.count i p no_pair (eqb-false i r.count e) ∙ f.2)) (old f.0 f.1)

module _ (n : ℕ) (small : n ≤ 16) where
  -- ---- the first model
  new_of : (limits : Bool) (memory : ℕ) → read_model n (new_model_of limits memory n) ≡ new_hessian limits memory n
  unfolding new_model_of new_hessian
  new_of true memory = ap limited (new_limited n memory)
  new_of false memory = ap dense (new_dense_lem n small)

  new_sized : (limits : Bool) (memory : ℕ) → (limits ≡ true → 0 < memory) → (limits ≡ true → memory ≤ 16) → ModelSized (new_model_of limits memory n)
  unfolding new_model_of blank_of no_pairs_of
  new_sized true memory some most =
      record { range = record { most = most; within = λ e. zero-le }; some = some; square = length-replicate 256 plus_zero; many = length-replicate 16 blank_pair; wide_s = blank_s; wide_y = blank_y }
  new_sized false memory some most =
      record { range = record { most = λ e. zero-le; within = λ e. zero-le }; some = λ e. absurd (false≢true e); square = diagonal_length one n; many = length-replicate 16 blank_pair; wide_s = blank_s; wide_y = blank_y }

  new_zeros : (limits : Bool) (memory : ℕ) → ModelZeroPast n (new_model_of limits memory n)
  unfolding new_model_of blank_of no_pairs_of
  new_zeros true memory =
      record {
        rows = λ i j a b past. get_or-replicate 256 (i * 16 + j) plus_zero nan (omega arith);
        zero_s = zeros_s n;
        zero_y = zeros_y n;
        past = λ i a h. blank_at i h;
      }
  new_zeros false memory =
      record {
        rows = λ i j a b past. diagonal_off one n i j a b (λ k l e f. ⊎_elim (λ t. omega arith) (λ t. omega arith) past) small;
        zero_s = zeros_s n;
        zero_y = zeros_y n;
        past = λ i a h. blank_at i h;
      }

  -- ---- directions
  direction_of_lem : (m : Model) (g : List Float) → ModelSized m → first n (direction_of m g n) ≡ direction (read_model n m) (first n g)
  unfolding direction_of direction
  direction_of_lem m g z = go m.limited refl
    where
      go : (b : Bool) → m.limited ≡ b
          → first n (cond b (limited_direction_of m.pairs g n) (dense_direction_of m.dense g n)) ≡ direction (cond b (limited (read_limited n m.memory m.pairs)) (dense (read_dense n m.dense))) (first n g)
      go true e = limited_direction_lem m.pairs m.memory g n (omega (arith, z.range.most e, z.range.within e))
      go false e = dense_direction_lem n small m.dense g

  direction_wide : (m : Model) (g : List Float) → length (direction_of m g n) ≡ 16
  unfolding direction_of limited_direction_of dense_direction_of negation_of
  direction_wide m g = go m.limited
    where
      go : (b : Bool) → length (cond b (limited_direction_of m.pairs g n) (dense_direction_of m.dense g n)) ≡ 16
      go true = point_laws.width _ n small
      go false = point_laws.width _ n small

  direction_zeros : (m : Model) (g : List Float) → ZeroFrom n (direction_of m g n)
  unfolding direction_of limited_direction_of dense_direction_of negation_of
  direction_zeros m g k l j = go m.limited
    where
      go : (b : Bool) → at (cond b (limited_direction_of m.pairs g n) (dense_direction_of m.dense g n)) k ≡ plus_zero
      go true = point_laws.past _ n k l j
      go false = point_laws.past _ n k l j

  -- ---- updates
  module _ (m : Model) (s y : List Float) (z : ModelSized m) where
    abbrev taken : Bool → Model
    taken b =
        cond {A = Model} b
        (record { limited = b; memory = m.memory; dense = m.dense; pairs = limited_update_of m.pairs m.memory s y n })
        (record { limited = b; memory = m.memory; dense = dense_update_of m.dense s y n; pairs = m.pairs })

    free : m.limited ≡ true → Room m.memory m.pairs (room_of m.pairs m.memory)
    free e = room m.memory m.pairs (z.range.within e) (z.range.most e) z.many

    update_of_lem : read_model n (update_of m s y n) ≡ update (read_model n m) (first n s) (first n y)
    unfolding update_of update
    update_of_lem = go m.limited refl
      where
        go : (b : Bool) → m.limited ≡ b → read_model n (taken b) ≡ update (cond b (limited (read_limited n m.memory m.pairs)) (dense (read_dense n m.dense))) (first n s) (first n y)
        go true e = ap limited (limited_update_lem m.memory m.pairs (z.range.within e) (z.range.most e) z.many s y n)
        go false e = ap dense (dense_update_lem n small m.dense s y z.square)

    update_sized : length s ≡ 16 → length y ≡ 16 → ModelSized (update_of m s y n)
    unfolding update_of limited_update_of dense_update_of
    update_sized ws wy = go m.limited refl
      where
        go : (b : Bool) → m.limited ≡ b → ModelSized (taken b)
        go true e =
            let o = free e in
            let p : Pair = record { s = s; y = y; rho = one ⊘ dot_of s y n } in
            record {
              range = record { most = λ t. z.range.most e; within = λ t. omega (arith, o.within (z.some e)) };
              some = λ t. z.some e;
              square = z.square;
              many = length-set (room_of m.pairs m.memory).pairs (room_of m.pairs m.memory).count p ∙ o.long;
              wide_s = each_pair (λ u. length u.s ≡ 16) m.memory m.pairs (room_of m.pairs m.memory) p o ws z.wide_s;
              wide_y = each_pair (λ u. length u.y ≡ 16) m.memory m.pairs (room_of m.pairs m.memory) p o wy z.wide_y;
            }
        go false e =
            let h = prepared_of m.dense (dot_of s y n) y n in
            record {
              range = record { most = λ t. z.range.most (e ∙ t); within = λ t. z.range.within (e ∙ t) };
              some = λ t. z.some (e ∙ t);
              square = rows_length s (mat_vec_of h y n n) (one ⊘ dot_of s y n) _ n small h n ∙ prepared_length n small m.dense (dot_of s y n) y z.square;
              many = z.many;
              wide_s = z.wide_s;
              wide_y = z.wide_y;
            }

    -- off the first n rows and columns nothing is written but +0
    prepared_zeros : ModelZeroPast n m → (i j : ℕ) → i < 16 → j < 16 → (n ≤ i) ⊎ (n ≤ j) → at (prepared_of m.dense (dot_of s y n) y n) (i * 16 + j) ≡ plus_zero
    unfolding prepared_of
    prepared_zeros o i j a b past = go m.dense.fresh (lt plus_zero (dot_of y y n)) (lt plus_zero (dot_of s y n))
      where
        go : (p q r : Bool) → at (cond (not p) m.dense.h (cond q (cond r (diagonal_of (dot_of s y n ⊘ dot_of y y n) n) m.dense.h) m.dense.h)) (i * 16 + j) ≡ plus_zero
        go false q r = o.rows i j a b past
        go true false r = o.rows i j a b past
        go true true false = o.rows i j a b past
        go true true true = diagonal_off (dot_of s y n ⊘ dot_of y y n) n i j a b (λ k l e f. ⊎_elim (λ t. omega arith) (λ t. omega arith) past) small

    update_zeros : ZeroFrom n s → ZeroFrom n y → ModelZeroPast n m → ModelZeroPast n (update_of m s y n)
    unfolding update_of limited_update_of dense_update_of
    update_zeros zs zy o = go m.limited refl
      where
        go : (b : Bool) → m.limited ≡ b → ModelZeroPast n (taken b)
        go true e =
            let f = free e in
            let r = room_of m.pairs m.memory in
            let p : Pair = record { s = s; y = y; rho = one ⊘ dot_of s y n } in
            record {
              rows = o.rows;
              zero_s = each_pair (λ u. ZeroFrom n u.s) m.memory m.pairs r p f zs o.zero_s;
              zero_y = each_pair (λ u. ZeroFrom n u.y) m.memory m.pairs r p f zy o.zero_y;
              past = λ i a h.
                  let t = f.past i (omega arith) in
                  get_or-set_other r.pairs r.count i p no_pair (λ q. omega arith) ∙ t.1 ∙ o.past i t.0 h;
            }
        go false e =
            let h = prepared_of m.dense (dot_of s y n) y n in
            record {
              rows = λ i j a b past.
                  rows_other s (mat_vec_of h y n n) (one ⊘ dot_of s y n) _ n small h n (i * 16 + j) (λ k l u v w. ⊎_elim (λ t. omega arith) (λ t. omega arith) past)
                  ∙ prepared_zeros o i j a b past;
              zero_s = o.zero_s;
              zero_y = o.zero_y;
              past = o.past;
            }

pub hessian_ties : (n : ℕ) → n ≤ 16 → HessianTies n
hessian_ties n small =
    record {
      new_of = new_of n small;
      direction_of_lem = direction_of_lem n small;
      update_of_lem = update_of_lem n small;
      new_sized = new_sized n small;
      update_sized = update_sized n small;
      direction_wide = direction_wide n small;
      new_zeros = new_zeros n small;
      update_zeros = update_zeros n small;
      direction_zeros = direction_zeros n small;
    }
