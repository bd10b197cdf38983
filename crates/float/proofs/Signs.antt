-- Products by the signs of their factors, sums with what is not above zero, and Armijo's test: `sign_laws` and `armijo`. Assumes nothing.
use mathlib.Core.Path.{◌≡◌, refl, sym, ap, ◌∙◌, subst, subst₂}
use mathlib.Core.Logic.{◌⊎◌, inl, inr}
use Prim.Native.Nat.{ℕ, zero, suc, ◌+◌, ◌*◌, ◌≤◌}
use native.Mathlib.Nat.{zero-mul, mul-zero, mul-one, one-mul}
use native.Mathlib.Omega.{arith}
use mathlib.Core.Bool.{Bool, true, false, not, cond}
use lib.IntN.{ℤ, pos}
use lib.Dec.{T, eqb, nltb→le}
use lib.Ieee.{Float, nan, inf, fin, binary64, up, down, unlike, round, add, mul, neg, lt, le, fits, is_nan}
use lib.Ieee.Fits.{up_pos}
use lib.Ieee.Scale.{finite}
use borrow.Author.Tests.{eq-eqb, le-ltb}
use Rattle.float.specs.Binary64.{F64, Number, NotAbove, negative, plus_zero, minus_zero, ◌⊕◌, ◌⊗◌}
use Rattle.float.specs.Values.{Finite, finite_of}
use Rattle.float.specs.Laws.{SignLaws, ArmijoNeverRises}
use Rattle.float.proofs.Signed.{no_factor, no_product}
use Rattle.float.proofs.Order.{no_lt_nan, by_test, le_trans, le_neg, not_lt→le, le→not_above, le_number_r}
use Rattle.float.proofs.Sums.{own_le, minus_le, added_le, round_neg, round_negative}

-- y is not above zero where u is true, and not below it where u is false; a NaN is neither above nor below
abbrev Side : Bool → Float → Type 0
Side false y = NotAbove plus_zero y
Side true y = NotAbove y plus_zero

-- ---- what lies on a side
nan_side : (u : Bool) → Side u nan
unfolding lt
nan_side true = tt
nan_side false = tt

inf_side : (u : Bool) → Side u (inf u)
unfolding lt
inf_side true = tt
inf_side false = tt

side_inf : (u t : Bool) → Side u (inf t) → t ≡ u
unfolding lt
side_inf true true h = refl
side_inf true false h = absurd h
side_inf false true h = absurd h
side_inf false false h = refl

no_size : (n : ℕ) (d : ℤ) (k : ℕ) → n * up d * 1 ≤ k → k ≡ 0 → n ≡ 0
no_size n d k h z = no_factor n (up d) (up_pos d) (omega (arith, mul-one (n * up d)))

side_fin : (u t : Bool) (n : ℕ) (d : ℤ) → Side u (fin t n d) → (t ≡ u) ⊎ (n ≡ 0)
unfolding lt
side_fin true true n d h = inl refl
side_fin true false n d h = inr (no_size n d (0 * 1 * down d) (nltb→le (0 * 1 * down d) (n * up d * 1) h) (zero-mul (down d)))
side_fin false true n d h =
    let k : n * up d * 1 + 0 * 1 * down d ≤ 0 = nltb→le 0 (n * up d * 1 + 0 * 1 * down d) h in
    inr (no_size n d 0 (omega arith) refl)
side_fin false false n d h = inl refl

-- a rounding keeps its sign, and nothing rounds to nothing
plus_side : (x : Float) → negative x ≡ false → NotAbove plus_zero x
unfolding lt
plus_side nan h = tt
plus_side (inf true) h = absurd (subst T h tt)
plus_side (inf false) h = tt
plus_side (fin true m e) h = absurd (subst T h tt)
plus_side (fin false m e) h = subst (λ (b : Bool). T (not b)) (sym (le-ltb (m * up e * 1) (0 * 1 * down e) (omega (arith, zero-mul (down e))))) tt

zero_round : (c : ℕ) → T (le (round binary64 false 0 c) plus_zero)
zero_round zero = unfold round le in tt
zero_round (suc c) =
    subst₂ (λ (x y : ℕ). T (le (round binary64 false x y) plus_zero)) (zero-mul (suc c)) (one-mul (suc c))
    (own_le binary64 false 0 (pos 0) (suc c) (omega arith) (unfold fits in tt))

minus_round : (c : ℕ) → T (le plus_zero (round binary64 true 0 c))
minus_round c =
    le_trans plus_zero minus_zero (round binary64 true 0 c) (unfold le in tt)
    (subst (λ (x : Float). T (le minus_zero x)) (sym (round_neg binary64 0 c)) (unfold neg in le_neg (round binary64 false 0 c) plus_zero (zero_round c)))

round_side : (u t : Bool) (a c : ℕ) → (t ≡ u) ⊎ (a ≡ 0) → Side u (round binary64 t a c)
round_side true true a c h = le→not_above (round binary64 true a c) plus_zero (minus_le binary64 a c 0 (pos 0))
round_side false false a c h = plus_side (round binary64 false a c) (round_negative binary64 false a c)
round_side true false a c (inl e) = absurd (subst T (sym e) tt)
round_side true false a c (inr z) = le→not_above (round binary64 false a c) plus_zero (rw z (zero_round c))
round_side false true a c (inl e) = absurd (subst T e tt)
round_side false true a c (inr z) = le→not_above plus_zero (round binary64 true a c) (rw z (minus_round c))

-- ---- the product of one that is not below zero and one on a side is on that side
inf_or_nan : (u t : Bool) (n : ℕ) → (t ≡ u) ⊎ (n ≡ 0) → Side u (cond (eqb n 0) nan (inf t))
inf_or_nan u t n (inl e) = rw e (go (eqb n 0))
  where
    go : (b : Bool) → Side u (cond b nan (inf u))
    go true = nan_side u
    go false = inf_side u
inf_or_nan u t n (inr z) = rw (eq-eqb n 0 z) (nan_side u)

unlike_false : (t : Bool) → unlike false t ≡ t
unlike_false true = refl
unlike_false false = refl

infs : (u s t : Bool) → s ≡ false → t ≡ u → Side u (inf (unlike s t))
infs u s t p q = rw (p, unlike_false t, q) (inf_side u)

factors : (u s t : Bool) (a b : ℕ) → (s ≡ false) ⊎ (a ≡ 0) → (t ≡ u) ⊎ (b ≡ 0) → (unlike s t ≡ u) ⊎ (a * b ≡ 0)
factors u s t a b (inr z) q = inr (no_product a b z)
factors u s t a b (inl e) (inl f) = inl (ap (λ (x : Bool). unlike x t) e ∙ unlike_false t ∙ f)
factors u s t a b (inl e) (inr z) = inr (ap (λ (x : ℕ). a * x) z ∙ mul-zero a)

none_up : (v s : Bool) (m : ℕ) (e : ℤ) → (s ≡ v) ⊎ (m ≡ 0) → (s ≡ v) ⊎ (m * up e ≡ 0)
none_up v s m e (inl p) = inl p
none_up v s m e (inr z) = inr (no_product m (up e) z)

product : (u : Bool) (x y : Float) → Side false x → Side u y → Side u (x ⊗ y)
unfolding mul
product u nan y p q = nan_side u
product u (inf s) nan p q = nan_side u
product u (inf s) (inf t) p q = infs u s t (side_inf false s p) (side_inf u t q)
product u (inf s) (fin t n d) p q = rw (side_inf false s p, unlike_false t) (inf_or_nan u t n (side_fin u t n d q))
product u (fin s m e) nan p q = nan_side u
product u (fin s m e) (inf t) p q = rw (side_inf u t q) (go (side_fin false s m e p))
  where
    go : (s ≡ false) ⊎ (m ≡ 0) → Side u (cond (eqb m 0) nan (inf (unlike s u)))
    go (inl z) = inf_or_nan u (unlike s u) m (inl (ap (λ (x : Bool). unlike x u) z ∙ unlike_false u))
    go (inr z) = inf_or_nan u (unlike s u) m (inr z)
product u (fin s m e) (fin t n d) p q =
    round_side u (unlike s t) (m * up e * (n * up d)) (down e * down d)
    (factors u s t (m * up e) (n * up d) (none_up false s m e (side_fin false s m e p)) (none_up u t n d (side_fin u t n d q)))

-- ---- sums
add_nan : (x : Float) → x ⊕ nan ≡ nan
unfolding add
add_nan nan = refl
add_nan (inf s) = refl
add_nan (fin s m e) = refl

is_nan_lem : (x : Float) → T (is_nan x) → x ≡ nan
unfolding is_nan
is_nan_lem nan h = refl
is_nan_lem (inf s) h = absurd h
is_nan_lem (fin s m e) h = absurd h

pub finite_number : (x : Float) → Finite x → Number x
unfolding finite_of is_nan
finite_number nan h = absurd h
finite_number (inf s) h = tt
finite_number (fin s m e) h = tt

finite_is : (x : Float) → Finite x → T (finite x)
unfolding finite_of
finite_is nan h = h
finite_is (inf s) h = h
finite_is (fin s m e) h = tt

sum_le : (f0 y : Float) → Finite f0 → F64 f0 → T (le y plus_zero) → T (le (f0 ⊕ y) f0)
sum_le f0 y i h k = added_le binary64 f0 y (finite_is f0 i) h k

sum_not_above : (f0 y : Float) → Finite f0 → F64 f0 → NotAbove y plus_zero → NotAbove (f0 ⊕ y) f0
sum_not_above f0 y i h k =
    by_test (is_nan y)
    (λ n. subst (λ (z : Float). NotAbove z f0) (sym (ap (λ (w : Float). f0 ⊕ w) (is_nan_lem y n) ∙ add_nan f0)) (subst (λ (b : Bool). T (not b)) (sym (no_lt_nan f0)) tt))
    (λ n. le→not_above (f0 ⊕ y) f0 (sum_le f0 y i h (not_lt→le plus_zero y (unfold is_nan in tt) n k)))

pub sign_laws : SignLaws
sign_laws = record { product_not_above = product true; product_not_below = product false; sum_not_above = sum_not_above; sum_le = sum_le }

-- ---- Armijo's test: what is at most f0 plus something not above zero is at most f0
pub armijo : ArmijoNeverRises
armijo f f0 c1 a slope i h p q s t =
    let most = f0 ⊕ c1 ⊗ a ⊗ slope in
    let under : NotAbove most f0 = sum_not_above f0 (c1 ⊗ a ⊗ slope) i h (product true (c1 ⊗ a) slope (product false c1 a p q) s) in
    le_trans f most f0 t (not_lt→le f0 most (finite_number f0 i) (le_number_r f most t) under)
