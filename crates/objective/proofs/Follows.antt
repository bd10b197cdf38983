-- The record of the differences follows the Algorithm, however values are read: `follows`. Assumes nothing.
use mathlib.Core.Path.{◌≡◌, refl, ap₂, ◌∙◌, fun_ext}
use Prim.Native.Nat.{ℕ, zero, suc, ◌+◌, ◌-◌, ◌≤◌, ◌<◌, zero-le}
use mathlib.Core.Bool.{Bool, true, false, cond}
use mathlib.Core.List.{List, [], ◌∷◌, ◌++◌}
use native.Mathlib.Omega.{arith}
use native.Mathlib.Nat.{sub-zero}
use native.Mathlib.Numerals.{add-one}
use lib.ListN.{length, get_or, set, length-set, get_or-replicate}
use lib.Seq.{get_or-set_other}
use lib.Ieee.{Float, nan}
use Rattle.float.specs.Binary64.{plus_zero}
use Rattle.vector.specs.Loops.{at}
use Rattle.vector.specs.Lists.{first}
use Rattle.vector.proofs.First.{point_laws}
use Rattle.vector.proofs.Stores.{first_set, first_more}
use Rattle.protocol.specs.declared.Kind.TheVariants.{Value}
use Rattle.protocol.specs.Ask.{finish, query, ◌>>=◌}
use Rattle.objective.specs.declared.Differences.{Differences}
use Rattle.objective.specs.Algorithm.{forward_of, backward_of, slope_at, differences_from, differences}
use Rattle.objective.specs.Step.{begun_of, probe_of, told_of}
use Rattle.objective.specs.Follows.{DifferencesSized, DifferencesZeroPast, to_do_at, to_do, DifferencesFollow}

-- ---- it lasts
begun_sized : (n : ℕ) (x : List Float) → n ≤ 16 → length x ≡ 16 → DifferencesSized n (begun_of x)
unfolding begun_of
begun_sized n x h l = record { small = h; within = zero-le; point16 = l; gradient16 = refl }

-- what holds of the record with the backward value told, and with the forward one, holds of what `told_of` makes
told_by : (s : Differences) (v : Float) (P : Differences → Type 0)
    → P (record { at = s.at + 1; forward = false; value = plus_zero; x = s.x; g = set s.g s.at (slope_at (at s.x s.at) s.value v) })
    → P (record { at = s.at; forward = true; value = v; x = s.x; g = s.g })
    → P (told_of s v)
unfolding told_of
told_by s v P b f = go s.forward
  where
    go : (t : Bool)
        → P (cond t (record { at = s.at + 1; forward = false; value = plus_zero; x = s.x; g = set s.g s.at (slope_at (at s.x s.at) s.value v) }) (record { at = s.at; forward = true; value = v; x = s.x; g = s.g }))
    go true = b
    go false = f

pub told_within : (n : ℕ) (s : Differences) (v : Float) → s.at < n → (told_of s v).at ≤ n
told_within n s v h = told_by s v (λ (t : Differences). t.at ≤ n) (omega arith) (omega arith)

told_sized : (n : ℕ) (s : Differences) (v : Float) → DifferencesSized n s → s.at < n → DifferencesSized n (told_of s v)
told_sized n s v z h =
    told_by s v (DifferencesSized n)
    (record { small = z.small; within = omega arith; point16 = z.point16; gradient16 = length-set s.g s.at (slope_at (at s.x s.at) s.value v) ∙ z.gradient16 })
    (record { small = z.small; within = z.within; point16 = z.point16; gradient16 = z.gradient16 })

begun_zeros : (n : ℕ) (x : List Float) → ((k : ℕ) → n ≤ k → k < 16 → at x k ≡ plus_zero) → DifferencesZeroPast n (begun_of x)
unfolding begun_of
begun_zeros n x h = record { point = h; gradient = λ k l j. get_or-replicate 16 k plus_zero nan j }

-- a store below n leaves what is past n
past_set : (n i k : ℕ) (x : List Float) (v : Float) → i < n → n ≤ k → at (set x i v) k ≡ at x k
past_set n i k x v h l = get_or-set_other x i k v nan (λ e. omega arith)

told_zeros : (n : ℕ) (s : Differences) (v : Float) → s.at < n → DifferencesZeroPast n s → DifferencesZeroPast n (told_of s v)
told_zeros n s v h z =
    told_by s v (DifferencesZeroPast n)
    (record { point = z.point; gradient = λ k l j. past_set n s.at k s.g (slope_at (at s.x s.at) s.value v) h l ∙ z.gradient k l j })
    (record { point = z.point; gradient = z.gradient })

probe_zeros : (n : ℕ) (s : Differences) → s.at < n → DifferencesZeroPast n s → (k : ℕ) → n ≤ k → k < 16 → at (probe_of s) k ≡ plus_zero
unfolding probe_of
probe_zeros n s h z k l j = go s.forward
  where
    go : (t : Bool) → at (cond t (set s.x s.at (backward_of (at s.x s.at))) (set s.x s.at (forward_of (at s.x s.at)))) k ≡ plus_zero
    go true = past_set n s.at k s.x (backward_of (at s.x s.at)) h l ∙ z.point k l j
    go false = past_set n s.at k s.x (forward_of (at s.x s.at)) h l ∙ z.point k l j

-- ---- it follows
module _ (read : Float → Float) where
  begin_text : (x : List Float) (k i : ℕ) (grad : List Float) (fp : Float) → differences_from read x k i grad ≡ to_do_at read x k i grad false fp
  unfolding differences_from
  begin_text x zero i grad fp = refl
  begin_text x (suc k) i grad fp = refl

  begins : (n : ℕ) (x : List Float) → differences read (first n x) ≡ to_do read n (begun_of x)
  unfolding begun_of first
  begins n x = rw (point_laws.listed n x, sub-zero n) (begin_text (first n x) n 0 [] plus_zero)

  ends : (n : ℕ) (s : Differences) → s.at ≡ n → to_do read n s ≡ finish (first n s.g)
  ends n s e =
      let z : n - s.at ≡ 0 = omega arith in
      rw (z, e)

  -- the record in its two halves, the forward value told or not
  module _ (n i : ℕ) (fp : Float) (x g : List Float) (h : i < n) (small : n ≤ 16) (x16 : length x ≡ 16) (g16 : length g ≡ 16) where
    abbrev half : Bool → Differences
    half b = record { at = i; forward = b; value = fp; x = x; g = g }

    left : n - i ≡ suc (n - suc i)
    left = omega arith

    set_in : (f : Float → Float) → set (first n x) i (f (at (first n x) i)) ≡ first n (set x i (f (at x i)))
    set_in f =
        let l : i < length x = omega arith in
        rw (first_set n x i, point_laws.read n x i)

    one_more : (v : Float) → differences_from read (first n x) (n - suc i) (suc i) (first i g ++ (slope_at (at (first n x) i) fp v ∷ [])) ≡ to_do read n (told_of (half true) v)
    unfolding told_of
    one_more v =
        let l : i < length g = omega arith in
        rw (add-one i, first_more g i, point_laws.read n x i) (begin_text (first n x) (n - suc i) (suc i) (first i g ++ (slope_at (at x i) fp v ∷ [])) plus_zero)

    halves : (b : Bool) → to_do read n (half b) ≡ query Value (first n (probe_of (half b))) (λ w. to_do read n (told_of (half b) (read (get_or w 0 nan))))
    unfolding probe_of told_of differences_from ◌>>=◌
    halves true = rw left (ap₂ (query Value) (set_in backward_of) (fun_ext (λ w. one_more (read (get_or w 0 nan)))))
    halves false = rw left (ap₂ (query Value) (set_in forward_of) refl)

  next : (n : ℕ) (s : Differences) → DifferencesSized n s → s.at < n → to_do read n s ≡ query Value (first n (probe_of s)) (λ w. to_do read n (told_of s (read (get_or w 0 nan))))
  next n s z h = halves n s.at s.value s.x s.g h z.small z.point16 z.gradient16 s.forward

  pub follows : DifferencesFollow read
  follows =
      record {
        begins = begins;
        follows = next;
        ends = ends;
        begun_sized = begun_sized;
        told_sized = told_sized;
        begun_zeros = begun_zeros;
        told_zeros = told_zeros;
        probe_zeros = probe_zeros;
      }
