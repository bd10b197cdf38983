-- The bits of a finite value above zero, taken apart to a significand of full width: what `full_width` leaves. Assumes nothing.
use mathlib.Core.Path.{◌≡◌, refl, sym, ap, ◌∙◌, subst}
use Prim.Native.Nat.{ℕ, suc, ◌+◌, ◌-◌, ◌*◌, ◌/◌, ◌%◌, ◌^◌, ◌≤◌, ◌<◌}
use native.Mathlib.Nat.{le_trans, le_of_eq, lt_of_le_of_lt, lt_of_lt_of_le, lt_of_not-le, not-le_of_lt, mul_assoc, mul-le-mul_right, mul-lt-mul_of_pos_right, mod-eq_of_lt}
use native.Mathlib.Omega.{arith}
use mathlib.Core.Bool.{cond}
use lib.Count.{count_leading_zeros, leading_top}
use lib.Bits.{bit_and, and_mask}
use lib.Pow.{pow_pos, pow_mono, pow-add}
use borrow.Author.Tests.{lt-ltb, le-ltb}
use Rattle.float.specs.Sqrt.{FullWidth, quanta_of_bits}

pub pow_lt_back : (a b : ℕ) → 2 ^ a < 2 ^ b → a < b
pow_lt_back a b h = lt_of_not-le (λ g. not-le_of_lt h (pow_mono g))

-- 2 ^ a times what makes it 2 ^ c
pub made : (a b c : ℕ) → a + b ≡ c → 2 ^ a * 2 ^ b ≡ 2 ^ c
made a b c e = sym (pow-add 2 a b) ∙ ap (λ (k : ℕ). 2 ^ k) e

-- ---- a number below 2 ^ 52 has its highest digit at j, and its leading zeros less 11 bring it to full width
pub record Top (b : ℕ) : Type 0 where
  pub j : ℕ
  pub zeros : count_leading_zeros 64 b + suc j ≡ 64
  pub below : j < 52
  pub least : 2 ^ j ≤ b
  pub most : b < 2 ^ suc j

top : (b : ℕ) → 0 < b → b < 2 ^ 52 → Top b
top b h l =
    let t = leading_top 64 b h (lt_of_lt_of_le l (pow_mono {i = 52} {j = 64} (omega arith))) in
    record { j = t.0; zeros = t.1; below = pow_lt_back t.0 52 (lt_of_le_of_lt t.2 l); least = t.2; most = t.3 }

low_at : (b z : ℕ) (t : Top b) → z + t.j ≡ 52 → b < 2 ^ 52 → FullWidth b (b * 2 ^ z % 2 ^ 64) (1024 - z)
low_at b z t e l =
    let low : 2 ^ 52 ≤ b * 2 ^ z = le_trans (le_of_eq (sym (made t.j z 52 (omega (arith, e))))) (mul-le-mul_right (2 ^ z) t.least) in
    let high : b * 2 ^ z < 2 ^ 53 = lt_of_lt_of_le (mul-lt-mul_of_pos_right t.most (pow_pos z)) (le_of_eq (made (suc t.j) z 53 (omega (arith, e)))) in
    let kept : b * 2 ^ z % 2 ^ 64 ≡ b * 2 ^ z = mod-eq_of_lt (omega arith) in
    record {
      least = subst (λ (m : ℕ). 2 ^ 52 ≤ m) (sym kept) low;
      most = subst (λ (m : ℕ). m < 2 ^ 53) (sym kept) high;
      from = omega (arith, t.below, e);
      to = omega arith;
      same =
          ap (λ (x : ℕ). x * 2 ^ 1024) (ap (λ x. cond x b ((2 ^ 52 + b % 2 ^ 52) * 2 ^ (b / 2 ^ 52 - 1))) (lt-ltb b (2 ^ 52) l))
          ∙ ap (λ (x : ℕ). b * x) (sym (made z (1024 - z) 1024 (omega (arith, e))))
          ∙ sym (mul_assoc b (2 ^ z) (2 ^ (1024 - z)))
          ∙ ap (λ (x : ℕ). x * 2 ^ (1024 - z)) (sym kept);
    }

-- ---- the fraction and the exponent, by mask and shift
pub fraction : (b : ℕ) → bit_and b 0x000f_ffff_ffff_ffff ≡ b % 2 ^ 52
fraction b = and_mask b 52

module _ (b : ℕ) (h : 0 < b) (low : b / 2 ^ 52 ≡ 0) where
  abbrev bare : ℕ
  bare = bit_and b 0x000f_ffff_ffff_ffff

  itself : bare ≡ b
  itself = omega (arith, fraction b)

  pub found : Top (bit_and b 0x000f_ffff_ffff_ffff)
  found = top bare (omega (arith, itself)) (omega (arith, itself))

  pub full_low : FullWidth b (bare * 2 ^ (count_leading_zeros 64 bare - 11) % 2 ^ 64) (1024 - (count_leading_zeros 64 bare - 11))
  full_low =
      subst (λ (x : ℕ). FullWidth x (bare * 2 ^ (count_leading_zeros 64 bare - 11) % 2 ^ 64) (1024 - (count_leading_zeros 64 bare - 11))) itself
      (low_at bare (count_leading_zeros 64 bare - 11) found (omega (arith, found.zeros, found.below)) (omega (arith, itself)))

high_quanta : (b m e : ℕ) → 2 ^ 52 ≤ b → m ≡ 2 ^ 52 + b % 2 ^ 52 → e ≡ b / 2 ^ 52 + 1023 → quanta_of_bits b * 2 ^ 1024 ≡ m * 2 ^ e
high_quanta b m e h p q =
    ap (λ (x : ℕ). x * 2 ^ 1024) (ap (λ x. cond x b ((2 ^ 52 + b % 2 ^ 52) * 2 ^ (b / 2 ^ 52 - 1))) (le-ltb b (2 ^ 52) h) ∙ ap (λ (x : ℕ). x * 2 ^ (b / 2 ^ 52 - 1)) (sym p))
    ∙ mul_assoc m (2 ^ (b / 2 ^ 52 - 1)) (2 ^ 1024)
    ∙ ap (λ (x : ℕ). m * x) (made (b / 2 ^ 52 - 1) 1024 e (omega arith))

pub full_high : (b : ℕ) → (b / 2 ^ 52 ≡ 0 → ⊥) → b < 0x7ff0_0000_0000_0000 → FullWidth b (2 ^ 52 + bit_and b 0x000f_ffff_ffff_ffff) (b / 2 ^ 52 + 1023)
full_high b n l =
    let h : 2 ^ 52 ≤ b = le_of_not_lt (λ g. n (omega arith)) in
    let e = fraction b in
    record {
      least = omega arith;
      most = omega arith;
      from = omega arith;
      to = omega arith;
      same = high_quanta b (2 ^ 52 + bit_and b 0x000f_ffff_ffff_ffff) (b / 2 ^ 52 + 1023) h (ap (λ (x : ℕ). 2 ^ 52 + x) e) refl;
    }
  where
    le_of_not_lt : (b < 2 ^ 52 → ⊥) → 2 ^ 52 ≤ b
    le_of_not_lt g = le_of_suc (lt_of_not-le g)
      where
        le_of_suc : 2 ^ 52 < suc b → 2 ^ 52 ≤ b
        le_of_suc k = omega arith
