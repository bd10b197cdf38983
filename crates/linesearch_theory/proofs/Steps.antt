-- No step that the search tries is below zero, and none is a NaN: doubling, `min` and the midpoint keep the sign, and a cubic's minimiser is taken only where it is above the
-- lesser end. Assumes nothing.
use Prim.Native.Nat.{ℕ, ◌+◌, ◌*◌, ◌-◌}
use native.Mathlib.Nat.{zero-mul}
use native.Mathlib.Omega.{arith}
use mathlib.Core.Path.{◌≡◌, refl, sym, subst}
use mathlib.Core.Bool.{Bool, true, false, not, cond, true≢false}
use lib.IntN.{ℤ, pos, negsuc}
use lib.Dec.{T, ltb, eqb}
use lib.Ieee.{Float, nan, inf, fin, binary64, up, down, round, add, sub, mul, neg, lt, le, eq, is_nan, sum, of_bits}
use Rattle.float.specs.Binary64.{Number, NotAbove, negative, ◌⊕◌, ◌⊖◌, ◌⊗◌, ◌⊘◌, bits, plus_zero}
use Rattle.float.specs.Values.{Finite, finite_of, signum_of, max_of, min_of}
use Rattle.float.specs.Sqrt.{sqrt_of}
use Rattle.float.proofs.Order.{fin_le, le_number_l, le_trans, lt_trans, lt_irrefl, by_test}
use Rattle.float.proofs.Sums.{round_neg, round_negative, minus_le}
use Rattle.float.proofs.Tests.{false_T}
use Rattle.protocol.proofs.Replies.{true_T}
use Rattle.linesearch_trials.specs.declared.Trial.{Trial}
use Rattle.linesearch_trials.specs.Cubic.{midpoint_of, near_end_of, d1_of, minimiser_of, interpolate_of}
use Rattle.linesearch_trials.specs.Trials.{two}

-- a number with no minus
abbrev pub Plus : Float → Type 0
Plus nan = ⊥
Plus (inf s) = T (not s)
Plus (fin s m e) = T (not s)

pub plus_le : (x : Float) → Plus x → T (le plus_zero x)
unfolding le
plus_le nan h = absurd h
plus_le (inf true) h = absurd h
plus_le (inf false) h = tt
plus_le (fin true m e) h = absurd h
plus_le (fin false m e) h = fin_le false 0 (pos 0) false m e (omega (arith, zero-mul (down e)))

pub positive_plus : (x : Float) → T (lt plus_zero x) → Plus x
unfolding lt
positive_plus nan h = absurd h
positive_plus (inf true) h = absurd h
positive_plus (inf false) h = tt
positive_plus (fin true m e) h = absurd h
positive_plus (fin false m e) h = tt

-- ---- what is computed

neg_number : (x : Float) → Number (neg x) → Number x
unfolding neg is_nan
neg_number nan h = h
neg_number (inf s) h = tt
neg_number (fin s m e) h = tt

plus_of : (x : Float) → negative x ≡ false → Number x → Plus x
unfolding is_nan
plus_of nan i h = h
plus_of (inf true) i h = absurd (true≢false i)
plus_of (inf false) i h = tt
plus_of (fin true m e) i h = absurd (true≢false i)
plus_of (fin false m e) i h = tt

round_plus : (a c : ℕ) → Plus (round binary64 false a c)
round_plus a c =
    plus_of (round binary64 false a c) (round_negative binary64 false a c)
    (neg_number (round binary64 false a c) (subst Number (round_neg binary64 a c) (le_number_l (round binary64 true a c) plus_zero (minus_le binary64 a c 0 (pos 0)))))

cond_plus : (b : Bool) (x y : Float) → Plus x → Plus y → Plus (cond b x y)
cond_plus true x y p q = p
cond_plus false x y p q = q

sum_plus : (x y : Float) → Plus x → Plus y → Plus (x ⊕ y)
unfolding add sum
sum_plus nan y p q = absurd p
sum_plus (inf s) nan p q = absurd q
sum_plus (inf true) (inf t) p q = absurd p
sum_plus (inf false) (inf true) p q = absurd q
sum_plus (inf false) (inf false) p q = tt
sum_plus (inf s) (fin t n d) p q = p
sum_plus (fin s m e) nan p q = absurd q
sum_plus (fin s m e) (inf t) p q = q
sum_plus (fin true m e) (fin t n d) p q = absurd p
sum_plus (fin false m e) (fin true n d) p q = absurd q
sum_plus (fin false m e) (fin false n d) p q = round_plus (m * up e * down d + n * up d * down e) (down e * down d)

-- a constant above zero times x
times_plus : (m : ℕ) (e : ℤ) (x : Float) → eqb m 0 ≡ false → Plus x → Plus (fin false m e ⊗ x)
unfolding mul
times_plus m e nan i p = absurd p
times_plus m e (inf true) i p = absurd p
times_plus m e (inf false) i p = subst (λ (b : Bool). Plus (cond b nan (inf false))) (sym i) tt
times_plus m e (fin true n d) i p = absurd p
times_plus m e (fin false n d) i p = round_plus (m * up e * (n * up d)) (down e * down d)

pub min_plus : (x y : Float) → Plus x → Plus y → Plus (min_of x y)
unfolding min_of
min_plus x y p q = cond_plus (is_nan x) y (cond (lt y x) y x) q (cond_plus (lt y x) y x q p)

pub twice_plus : (x : Float) → Plus x → Plus (two ⊗ x)
twice_plus x p = subst (λ (z : Float). Plus (z ⊗ x)) (sym is) (times_plus 1 (pos 1) x refl p)
  where
    is : two ≡ fin false 1 (pos 1)
    is = unfold of_bits in refl

midpoint_plus : (lo hi : Trial) → Plus lo.step → Plus hi.step → Plus (midpoint_of lo hi)
unfolding midpoint_of
midpoint_plus lo hi p q = subst (λ (z : Float). Plus (z ⊗ (lo.step ⊕ hi.step))) (sym is) (times_plus 1 (negsuc 0) (lo.step ⊕ hi.step) refl (sum_plus lo.step hi.step p q))
  where
    is : bits 0x3fe0_0000_0000_0000 ≡ fin false 1 (negsuc 0)
    is = unfold of_bits in refl

-- 5% of a width
margin_plus : (w : Float) → Plus w → Plus (bits 0x3fa9_9999_9999_999a ⊗ w)
margin_plus w p = subst (λ (z : Float). Plus (z ⊗ w)) (sym is) (times_plus 3602879701896397 (negsuc 55) w refl p)
  where
    is : bits 0x3fa9_9999_9999_999a ≡ fin false 3602879701896397 (negsuc 55)
    is = unfold of_bits in refl

-- ---- the width, where the one end is finite

less_plus : (m n : ℕ) (e d : ℤ) → NotAbove (fin false n d) (fin false m e) → Plus (fin false m e ⊖ fin false n d)
unfolding sub neg add sum lt
less_plus m n e d h = go (ltb x y) h
  where
    x : ℕ
    x = m * up e * down d

    y : ℕ
    y = n * up d * down e

    go : (b : Bool) → T (not b) → Plus (cond b (round binary64 true (y - x) (down e * down d)) (round binary64 false (x - y) (down e * down d)))
    go true h = absurd h
    go false h = round_plus (x - y) (down e * down d)

width_plus : (x y : Float) → Finite y → Plus x → Plus y → Plus (max_of x y ⊖ min_of x y)
unfolding max_of min_of finite_of is_nan
width_plus x nan f p q = absurd f
width_plus x (inf t) f p q = absurd f
width_plus nan (fin t n d) f p q = absurd p
width_plus (inf true) (fin t n d) f p q = absurd p
width_plus (inf false) (fin t n d) f p q = unfold lt sub neg add in tt
width_plus (fin true m e) (fin t n d) f p q = absurd p
width_plus (fin false m e) (fin true n d) f p q = absurd q
width_plus (fin false m e) (fin false n d) f p q = go (lt x y) (lt y x) refl refl
  where
    x : Float
    x = fin false m e

    y : Float
    y = fin false n d

    go : (a b : Bool) → lt x y ≡ a → lt y x ≡ b → Plus (cond a y x ⊖ cond b y x)
    go true true i j = absurd (lt_irrefl x (lt_trans x y x (true_T (lt x y) i) (true_T (lt y x) j)))
    go true false i j = less_plus n m d e (false_T (lt y x) j)
    go false true i j = less_plus m n e d (false_T (lt x y) i)
    go false false i j = less_plus m m e e (by_test (lt x x) (λ h. absurd (lt_irrefl x h)) (λ h. h))

-- finite, and not at most something that has no minus
above_plus : (a z : Float) → Finite a → Plus z → le a z ≡ false → Plus a
unfolding finite_of
above_plus nan z f p i = absurd f
above_plus (inf s) z f p i = absurd f
above_plus (fin false m e) z f p i = tt
above_plus (fin true m e) z f p i = absurd (subst T i (le_trans (fin true m e) plus_zero z (fin_le true m e false 0 (pos 0) tt) (plus_le z p)))

-- ---- the interpolated step

-- a finite difference has a finite minuend
minuend : (x y : Float) → Finite (x ⊖ y) → Finite x
unfolding sub add finite_of neg
minuend nan y h = h
minuend (inf s) nan h = h
minuend (inf true) (inf true) h = h
minuend (inf true) (inf false) h = h
minuend (inf false) (inf true) h = h
minuend (inf false) (inf false) h = h
minuend (inf s) (fin t n d) h = h
minuend (fin s m e) y h = tt

module _ (lo hi : Trial) (lo_plus : Plus lo.step) (hi_plus : Plus hi.step) where
  abbrev mid : Float
  mid = midpoint_of lo hi

  mid_plus : Plus mid
  mid_plus = midpoint_plus lo hi lo_plus hi_plus

  inside_plus : (a : Float) → (Finite a → Finite hi.step) → Plus (cond (near_end_of a lo.step hi.step) mid a)
  unfolding near_end_of
  inside_plus a f = go (finite_of a) (le a least) (le most a) refl refl
    where
      p : Float
      p = lo.step

      q : Float
      q = hi.step

      least : Float
      least = min_of p q ⊕ bits 0x3fa9_9999_9999_999a ⊗ (max_of p q ⊖ min_of p q)

      most : Float
      most = max_of p q ⊖ bits 0x3fa9_9999_9999_999a ⊗ (max_of p q ⊖ min_of p q)

      go : (x y z : Bool) → finite_of a ≡ x → le a least ≡ y → Plus (cond (cond (not x) true (cond y true z)) mid a)
      go false y z i j = mid_plus
      go true true z i j = mid_plus
      go true false true i j = mid_plus
      go true false false i j =
          let fine : Finite a = true_T (finite_of a) i in
          above_plus a least fine
          (sum_plus (min_of p q) (bits 0x3fa9_9999_9999_999a ⊗ (max_of p q ⊖ min_of p q)) (min_plus p q lo_plus hi_plus)
          (margin_plus (max_of p q ⊖ min_of p q) (width_plus p q (f fine) lo_plus hi_plus))) j

  minimiser_plus : (d1 disc : Float) → Plus (minimiser_of lo hi d1 disc)
  unfolding minimiser_of
  minimiser_plus d1 disc =
      cond_plus (eq denom plus_zero) mid _ mid_plus
      (cond_plus (not (finite_of denom)) mid _ mid_plus
      (inside_plus (hi.step ⊖ (hi.step ⊖ lo.step) ⊗ (hi.slope ⊕ d2 ⊖ d1) ⊘ denom) (minuend hi.step ((hi.step ⊖ lo.step) ⊗ (hi.slope ⊕ d2 ⊖ d1) ⊘ denom))))
    where
      d2 : Float
      d2 = signum_of (hi.step ⊖ lo.step) ⊗ sqrt_of disc

      denom : Float
      denom = hi.slope ⊖ lo.slope ⊕ bits 0x4000_0000_0000_0000 ⊗ d2

  pub interpolate_plus : Plus (interpolate_of lo hi)
  unfolding interpolate_of
  interpolate_plus =
      cond_plus (not (finite_of lo.value)) mid _ mid_plus
      (cond_plus (not (finite_of hi.value)) mid _ mid_plus
      (cond_plus (not (finite_of lo.slope)) mid _ mid_plus
      (cond_plus (not (finite_of hi.slope)) mid _ mid_plus
      (cond_plus (lt (d1_of lo hi ⊗ d1_of lo hi ⊖ lo.slope ⊗ hi.slope) plus_zero) mid _ mid_plus
      (minimiser_plus (d1_of lo hi) (d1_of lo hi ⊗ d1_of lo hi ⊖ lo.slope ⊗ hi.slope))))))
