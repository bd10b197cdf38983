-- What `sqrt` makes of a value's significand and exponent is `root_of` its quanta. Assumes nothing.
use mathlib.Core.Path.{◌≡◌, refl, sym, ap, ◌∙◌, subst}
use Prim.Native.Nat.{ℕ, zero, suc, ◌+◌, ◌-◌, ◌*◌, ◌/◌, ◌%◌, ◌^◌, ◌≤◌, ◌<◌}
use native.Mathlib.Nat.{le_trans, le_of_eq, lt_of_le_of_lt, lt_of_lt_of_le, lt_of_not-le, le_antisymm, le_of_mul-le-mul_right, lt_of_mul-lt-mul_right, eq_of_mul-eq-mul_right, mul_assoc, mul-mul-mul_comm, mul-le-mul, mul-le-mul_right, mul-lt-mul_of_pos_right, div-eq_of_eq-mul_left, mod-eq_of_lt, pow-succ'}
use native.Mathlib.Omega.{arith}
use mathlib.Core.Bool.{false, not}
use lib.Dec.{T}
use lib.Pow.{pow_pos, pow_mono}
use lib.Ieee.{binary64, size, odd, nan_bits, top}
use lib.Ieee.Digits.{size-lt, size-le}
use lib.Ieee.Bits.{nan_bits_above}
use borrow.Author.Tests.{le-ltb}
use Rattle.float.specs.Binary64.{bits}
use Rattle.float.specs.Sqrt.{IntegerRoot, isqrt, quads, root_digits, root_of, quanta_of_bits, FullWidth}
use Rattle.float.proofs.IntegerRoots.{not_below, isqrt_is, only_root}
use Rattle.float.proofs.Widths.{made, pow_lt_back}
use Rattle.float.proofs.Quanta.{normal_bits}

pub square : (p : ℕ) → 4 ^ p ≡ 2 ^ p * 2 ^ p
square zero = refl
square (suc p) = pow-succ' 4 p ∙ ap (λ (x : ℕ). 4 * x) (square p) ∙ sym (mul-mul-mul_comm 2 (2 ^ p) 2 (2 ^ p)) ∙ ap (λ (x : ℕ). x * x) (sym (pow-succ' 2 p))

pub times : (m a b c : ℕ) → a + b ≡ c → m * 2 ^ a * 2 ^ b ≡ m * 2 ^ c
times m a b c e = mul_assoc m (2 ^ a) (2 ^ b) ∙ ap (λ (x : ℕ). m * x) (made a b c e)

size_exact : (a n : ℕ) → 2 ^ a ≤ n → n < 2 ^ suc a → size n ≡ suc a
size_exact a n lo hi = le_antisymm (size-le n (suc a) hi) (pow_lt_back a (size n) (lt_of_le_of_lt lo (size-lt n)))

-- ---- the root of a number that is not too near to 2 ^ 108 has at most 54 digits, and they are not all 1
root_high : (n r : ℕ) → IntegerRoot n r → n ≤ 2 ^ 108 - 2 ^ 55 → r < 2 ^ 54 - 1
root_high n r w h = lt_of_not-le (λ (g : 2 ^ 54 - 1 ≤ r). no (mul-le-mul {n₁ = 2 ^ 54 - 1} {m₁ = 2 ^ 54 - 1} {n₂ = r} {m₂ = r} g g))
  where
    no : (2 ^ 54 - 1) * (2 ^ 54 - 1) ≤ r * r → ⊥
    no k = omega (arith, w.least)

-- ---- the bits b, with their significand m and exponent e
module _ (b m e : ℕ) (f : FullWidth b m e) where
  abbrev n : ℕ
  n = quanta_of_bits b

  size_is : size n ≡ suc (e - 972)
  size_is =
      size_exact (e - 972) n
      (le_of_mul-le-mul_right
      (le_trans (le_of_eq (made (e - 972) 1024 (52 + e) (omega (arith, f.from)) ∙ sym (made 52 e (52 + e) refl)))
      (le_trans (mul-le-mul_right (2 ^ e) f.least) (le_of_eq (sym f.same)))) (pow_pos 1024))
      (lt_of_mul-lt-mul_right (2 ^ 1024)
      (lt_of_le_of_lt (le_of_eq f.same)
      (lt_of_lt_of_le (mul-lt-mul_of_pos_right f.most (pow_pos e)) (le_of_eq (made 53 e (53 + e) refl ∙ sym (made (suc (e - 972)) 1024 (53 + e) (omega (arith, f.from))))))))

  abbrev pub digits : ℕ
  digits = (suc (e - 972) + 1) / 2

  quads_is : quads n ≡ digits
  quads_is = ap (λ (s : ℕ). (s + 1) / 2) size_is

  abbrev pub widened : ℕ
  widened = m * 2 ^ (6 + e % 2)

  -- what the root is taken of
  abbrev pub radicand : ℕ
  radicand = widened * 2 ^ 48

  pub scaled : n * 4 ^ 54 ≡ radicand * 4 ^ digits
  scaled =
      eq_of_mul-eq-mul_right (2 ^ 916) (pow_pos 916) (n * 4 ^ 54) (radicand * 4 ^ digits)
      (mul_assoc n (4 ^ 54) (2 ^ 916)
      ∙ f.same
      ∙ sym
      (ap (λ (x : ℕ). radicand * x * 2 ^ 916) (square digits ∙ made digits digits (digits + digits) refl)
      ∙ ap (λ (x : ℕ). x * 2 ^ (digits + digits) * 2 ^ 916) (times m (6 + e % 2) 48 (6 + e % 2 + 48) refl)
      ∙ ap (λ (x : ℕ). x * 2 ^ 916) (times m (6 + e % 2 + 48) (digits + digits) (6 + e % 2 + 48 + (digits + digits)) refl)
      ∙ times m (6 + e % 2 + 48 + (digits + digits)) 916 e (omega (arith, f.from, f.to))))

  cut : n * 4 ^ 54 / 4 ^ digits ≡ radicand
  cut = div-eq_of_eq-mul_left (subst (λ (x : ℕ). 0 < x) (sym (square digits ∙ made digits digits (digits + digits) refl)) (pow_pos (digits + digits))) scaled

  -- the significand at 59 or 60 digits
  wide_low : 2 ^ 58 ≤ widened
  wide_low = mul-le-mul {n₁ = 2 ^ 52} {m₁ = 2 ^ 6} {n₂ = m} {m₂ = 2 ^ (6 + e % 2)} f.least (pow_mono {i = 6} {j = 6 + e % 2} (omega arith))

  wide_high : widened ≤ 2 ^ 60 - 2 ^ 7
  wide_high = mul-le-mul {n₁ = m} {m₁ = 2 ^ (6 + e % 2)} {n₂ = 2 ^ 53 - 1} {m₂ = 2 ^ 7} (omega (arith, f.most)) (pow_mono {i = 6 + e % 2} {j = 7} (omega arith))

  wide_kept : widened % 2 ^ 64 ≡ widened
  wide_kept = mod-eq_of_lt (omega (arith, wide_high))

  pub width : (2 ^ 58 ≤ widened % 2 ^ 64) × (widened % 2 ^ 64 < 2 ^ 60)
  width = (omega (arith, wide_low, wide_kept), omega (arith, wide_high, wide_kept))

  -- the definition's own root, where no code has made one
  pub own_root : IntegerRoot (widened % 2 ^ 64 * 2 ^ 48) (isqrt 54 (widened % 2 ^ 64 * 2 ^ 48))
  own_root = isqrt_is 54 (widened % 2 ^ 64 * 2 ^ 48) (omega (arith, width.1))

  module _ (r : ℕ) (w : IntegerRoot (widened % 2 ^ 64 * 2 ^ 48) r) where
    pub whole : IntegerRoot radicand r
    whole = subst (λ (x : ℕ). IntegerRoot (x * 2 ^ 48) r) wide_kept w

    pub r_low : 2 ^ 53 ≤ r
    r_low = not_below radicand (2 ^ 53) r (omega (arith, wide_low)) whole.most

    pub r_high : r < 2 ^ 54 - 1
    r_high = root_high radicand r whole (omega (arith, wide_high))

    half_is : (r + 1) / 2 ≡ root_digits n (quads n)
    half_is =
        ap (λ (x : ℕ). (x + 1) / 2)
        (only_root radicand r (isqrt 54 radicand) whole (isqrt_is 54 radicand (omega (arith, wide_high)))
        ∙ ap (isqrt 54) (sym cut ∙ ap (λ (p : ℕ). n * 4 ^ 54 / 4 ^ p) (sym quads_is)))

    -- the result's bits
    abbrev pub made_bits : ℕ
    made_bits = (e / 2 - 1) * 2 ^ 52 % 2 ^ 64 + (r + 1) / 2

    bits_are : made_bits ≡ suc (e / 2 - 1) * 2 ^ 52 + ((r + 1) / 2 - 2 ^ 52)
    bits_are = omega (arith, r_low, r_high, f.from, f.to)

    pub no_nan : T (not (nan_bits binary64 made_bits))
    no_nan = rw (nan_bits_above, le-ltb 0x7ff0_0000_0000_0000 (made_bits % top binary64) (omega (arith, r_low, r_high, f.from, f.to))) tt

    pub as_odd : bits made_bits ≡ odd 53 false ((r + 1) / 2) (e / 2 - 1) 1074
    as_odd =
        let whole_again : 2 ^ 52 + ((r + 1) / 2 - 2 ^ 52) ≡ (r + 1) / 2 = omega (arith, r_low) in
        ap bits bits_are
        ∙ normal_bits (e / 2 - 1) ((r + 1) / 2 - 2 ^ 52) (omega (arith, f.to)) (omega (arith, r_low, r_high))
        ∙ ap (λ (q : ℕ). odd 53 false q (e / 2 - 1) 1074) whole_again

    pub result_is : bits made_bits ≡ root_of n
    unfolding root_of
    result_is =
        let places : e / 2 - 1 ≡ digits + 484 = omega (arith, f.from) in
        as_odd
        ∙ ap (λ (q : ℕ). odd 53 false q (e / 2 - 1) 1074) half_is
        ∙ ap (λ (k : ℕ). odd 53 false (root_digits n (quads n)) k 1074) (places ∙ ap (λ (p : ℕ). p + 484) (sym quads_is))
