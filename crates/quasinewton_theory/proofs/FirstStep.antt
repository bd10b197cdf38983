-- The first step of a search in a fit is above zero and finite (`first_step_positive`), so that 13 is never met: 1 over the largest magnitude of finite f64s does not round to
-- zero. Nor is it above 1. Assumes nothing.
use Prim.Native.Nat.{ℕ, zero, suc, ◌*◌, ◌^◌, ◌%◌, ◌≤◌, ◌<◌}
use native.Mathlib.Nat.{zero-mul, mul-pos, mul_comm}
use native.Mathlib.Omega.{arith}
use mathlib.Core.Path.{◌≡◌, refl, sym, ◌∙◌, ap, subst}
use mathlib.Core.Bool.{Bool, true, false, not, ◌&&◌, cond, true≢false}
use mathlib.Core.List.{List, [], ◌∷◌, foldl}
use lib.Pow.{pow_pos}
use lib.IntN.{ℤ, pos, negsuc}
use lib.Dec.{T, ltb, lt→ltb, ltb→lt, eqb, eqb→eq, leb}
use lib.Ieee.{Float, nan, inf, fin, binary64, round, up, down, div, lt, le, fits, is_nan, of_bits}
use lib.Ieee.Bits.{is_true, of_bits-fits, cond_no}
use lib.Ieee.Fits.{up_pos, down_pos, and_r}
use lib.Ieee.Order.{round_mono}
use lib.Ieee.Positive.{positive, above, above_of_le}
use Rattle.float.specs.Binary64.{F64, Number, ◌⊘◌, bits, plus_zero}
use Rattle.float.specs.Values.{Finite, finite_of, positive_of, abs_of, max_of, min_of}
use Rattle.float.proofs.Order.{not_lt→le}
use Rattle.float.proofs.Tests.{false_T}
use Rattle.vector.specs.Lists.{inf_norm, all_finite}
use Rattle.protocol.specs.Dialogue.{F64s}
use Rattle.protocol.proofs.Replies.{true_T, and_left, not_above_self}
use Rattle.quasinewton_model_theory.specs.Algorithm.{one}
use Rattle.quasinewton_theory.specs.Algorithm.{initial_step}

-- ---- all of a list finite

all_from : (b : Bool) (xs : List Float) → foldl (λ b v. b && finite_of v) b xs ≡ true → b ≡ true
all_from b [] e = e
all_from b (x ∷ xs) e = and_left b (finite_of x) (all_from (b && finite_of x) xs e)

pub first_finite : (x : Float) (xs : List Float) → all_finite (x ∷ xs) ≡ true → finite_of x ≡ true
unfolding all_finite
first_finite x xs e = all_from (finite_of x) xs e

pub rest_finite : (x : Float) (xs : List Float) → all_finite (x ∷ xs) ≡ true → all_finite xs ≡ true
unfolding all_finite
rest_finite x xs e = subst (λ (b : Bool). foldl (λ b v. b && finite_of v) b xs ≡ true) (all_from (finite_of x) xs e) e

-- ---- the largest magnitude of finite f64s

-- a finite f64 with no minus
abbrev Plain : Float → Type 0
Plain nan = ⊥
Plain (inf s) = ⊥
Plain (fin true m e) = ⊥
Plain (fin false m e) = F64 (fin false m e)

plain_abs : (x : Float) → F64 x → Finite x → Plain (abs_of x)
unfolding abs_of finite_of fits
plain_abs nan h f = f
plain_abs (inf s) h f = f
plain_abs (fin s zero e) h f = h
plain_abs (fin s (suc m) e) h f = h

plain_max : (x y : Float) → Plain x → Plain y → Plain (max_of x y)
unfolding max_of
plain_max x y p q = pick (is_nan x) (lt x y)
  where
    pick : (a b : Bool) → Plain (cond a y (cond b y x))
    pick true b = q
    pick false true = q
    pick false false = p

plain_from : (m : Float) (d : List Float) → Plain m → F64s d → all_finite d ≡ true → Plain (foldl (λ m v. max_of m (abs_of v)) m d)
plain_from m [] p w e = p
plain_from m (x ∷ d) p w e =
    plain_from (max_of m (abs_of x)) d (plain_max m (abs_of x) p (plain_abs x w.0 (true_T (finite_of x) (first_finite x d e)))) w.1 (rest_finite x d e)

plain_norm : (d : List Float) → F64s d → all_finite d ≡ true → Plain (inf_norm d)
unfolding inf_norm fits
plain_norm d w e = plain_from plus_zero d tt w e

-- ---- 1e-30, and the larger of it and a magnitude

tiny_is : bits 0x39b4_484b_feeb_c2a0 ≡ fin false 178405961588245 (negsuc 146)
unfolding of_bits
tiny_is = refl

tiny_plain : Plain (bits 0x39b4_484b_feeb_c2a0)
tiny_plain = rw tiny_is (rw tiny_is at (of_bits-fits binary64 0x39b4_484b_feeb_c2a0))

above_zero : (e : ℤ) (n : ℕ) (d : ℤ) → T (ltb 0 n) → lt (fin false 0 e) (fin false n d) ≡ true
unfolding lt
above_zero e n d h =
    let p : 0 < n * up d * down e = mul-pos (mul-pos (ltb→lt 0 n h) (up_pos d)) (down_pos e) in
    let z : 0 * up e * down d ≡ 0 = ap (λ (k : ℕ). k * down d) (zero-mul (up e)) ∙ zero-mul (down d) in
    is_true (ltb (0 * up e * down d) (n * up d * down e)) (subst (λ (k : ℕ). T (ltb k (n * up d * down e))) (sym z) (lt→ltb 0 (n * up d * down e) p))

positive_max : (x : Float) (n : ℕ) (d : ℤ) → Plain x → T (ltb 0 n) → T (positive (max_of x (fin false n d)))
unfolding is_nan max_of
positive_max nan n d p h = absurd p
positive_max (inf s) n d p h = absurd p
positive_max (fin true m e) n d p h = absurd p
positive_max (fin false m e) n d p h = go (lt (fin false m e) (fin false n d)) refl
  where
    some : (k : ℕ) → lt (fin false k e) (fin false n d) ≡ false → T (ltb 0 k)
    some zero i = absurd (true≢false (sym (above_zero e n d h) ∙ i))
    some (suc k) i = lt→ltb 0 (suc k) (omega arith)

    go : (c : Bool) → lt (fin false m e) (fin false n d) ≡ c → T (positive (cond c (fin false n d) (fin false m e)))
    go true i = h
    go false i = some m i

plain_f64 : (x : Float) → Plain x → F64 x
plain_f64 nan p = absurd p
plain_f64 (inf s) p = absurd p
plain_f64 (fin true m e) p = absurd p
plain_f64 (fin false m e) p = p

-- ---- 1 over a positive f64 is above zero

unit_positive : T (positive (round binary64 false 1 (2 ^ 1024)))
unfolding round
unit_positive = tt

inverse_above : (m : Float) → F64 m → T (positive m) → T (above (fin false 1 (pos 0) ⊘ m))
unfolding fits div
inverse_above nan h p = absurd p
inverse_above (inf s) h p = absurd p
inverse_above (fin true m e) h p = absurd p
inverse_above (fin false zero e) h p = absurd (no (ltb→lt 0 0 p))
  where
    no : 0 < 0 → ⊥
    no h = omega arith
inverse_above (fin false (suc m) e) h p =
    let small : suc m * up e < 2 ^ 1024 * down e =
    ltb→lt (suc m * up e) (2 ^ 1024 * down e) (and_r (eqb (suc m % 2) 1 && ltb (suc m) (2 ^ 53) && leb (down e) (2 ^ 1074)) (ltb (suc m * up e) (2 ^ 1024 * down e)) h) in
    subst (λ (z : Float). T (above z)) (sym (cond_no (eqb (suc m) 0) _ (round binary64 false (1 * 2 ^ 0 * down e) (suc m * up e * 1)) not_zero))
    (above_of_le (round binary64 false 1 (2 ^ 1024)) (round binary64 false (1 * 2 ^ 0 * down e) (suc m * up e * 1)) unit_positive
    (round_mono binary64 1 (2 ^ 1024) (1 * 2 ^ 0 * down e) (suc m * up e * 1) (pow_pos 1024) (mul-pos (mul-pos (suc_pos m) (up_pos e)) one_pos) (cross (suc m * up e) (down e) (2 ^ 1024) small)))
  where
    not_zero : T (not (eqb (suc m) 0))
    not_zero = go (eqb (suc m) 0) refl
      where
        clash : suc m ≡ 0 → ⊥
        clash e = omega arith

        go : (b : Bool) → eqb (suc m) 0 ≡ b → T (not b)
        go true i = absurd (clash (eqb→eq (suc m) 0 (true_T (eqb (suc m) 0) i)))
        go false i = tt

    suc_pos : (k : ℕ) → 0 < suc k
    suc_pos k = omega arith

    one_pos : 0 < 1
    one_pos = omega arith

    cross : (a b c : ℕ) → a < c * b → 1 * (a * 1) ≤ 1 * 2 ^ 0 * b * c
    cross a b c h =
        let i : b * c ≡ c * b = mul_comm b c in
        let j : 1 * 2 ^ 0 * b ≡ b = omega arith in
        let k : 1 * 2 ^ 0 * b * c ≡ b * c = ap (λ (z : ℕ). z * c) j in
        omega (arith, h, i, k)

-- ---- the first step: min(1/max(|d|, 1e-30), 1)

one_is : one ≡ fin false 1 (pos 0)
unfolding of_bits
one_is = refl

capped : (q : Float) → T (above q) → positive_of (min_of q (fin false 1 (pos 0))) ≡ true
unfolding min_of is_nan lt positive_of finite_of
capped nan a = absurd a
capped (inf true) a = absurd a
capped (inf false) a = refl
capped (fin true m e) a = absurd a
capped (fin false m e) a = pick (lt (fin false 1 (pos 0)) (fin false m e))
  where
    pick : (b : Bool) → positive_of (cond b (fin false 1 (pos 0)) (fin false m e)) ≡ true
    pick true = refl
    pick false = rw (above_zero (pos 0) m e a)

pub first_step_positive : (first : Bool) (d : List Float) → F64s d → all_finite d ≡ true → positive_of (initial_step first d) ≡ true
unfolding initial_step
first_step_positive false d w f = rw one_is (unfold positive_of lt finite_of in refl)
first_step_positive true d w f =
    let m = max_of (inf_norm d) (bits 0x39b4_484b_feeb_c2a0) in
    let h = plain_norm d w f in
    let p : T (positive m) = subst (λ (z : Float). T (positive (max_of (inf_norm d) z))) (sym tiny_is) (positive_max (inf_norm d) 178405961588245 (negsuc 146) h tt) in
    let i : T (above (fin false 1 (pos 0) ⊘ m)) = inverse_above m (plain_f64 m (plain_max (inf_norm d) (bits 0x39b4_484b_feeb_c2a0) h tiny_plain)) p in
    subst (λ (o : Float). positive_of (min_of (o ⊘ m) o) ≡ true) (sym one_is) (capped (fin false 1 (pos 0) ⊘ m) i)

number_one : Number one
number_one = rw one_is (unfold is_nan in tt)

at_most_one : (q : Float) → T (le (min_of q one) one)
unfolding min_of
at_most_one q = go (is_nan q) (lt one q) refl refl
  where
    self : T (le one one)
    self = not_lt→le one one number_one number_one (not_above_self one)

    go : (a b : Bool) → is_nan q ≡ a → lt one q ≡ b → T (le (cond a one (cond b one q)) one)
    go true b i j = self
    go false true i j = self
    go false false i j = not_lt→le one q number_one (false_T (is_nan q) i) (false_T (lt one q) j)

pub first_step_at_most_one : (first : Bool) (d : List Float) → T (le (initial_step first d) one)
unfolding initial_step
first_step_at_most_one false d = not_lt→le one one number_one number_one (not_above_self one)
first_step_at_most_one true d = at_most_one (one ⊘ max_of (inf_norm d) (bits 0x39b4_484b_feeb_c2a0))
