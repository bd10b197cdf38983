-- Signed words: ranks and keys as the code makes them, and tests of two of them. Assumes nothing.
use mathlib.Core.Path.{◌≡◌, refl, sym, ap, ◌∙◌}
use Prim.Native.Nat.{ℕ, zero, suc, ◌^◌, ◌<◌}
use native.Mathlib.Nat.{zero-add}
use native.Mathlib.Omega.{arith}
use mathlib.Core.Bool.{Bool, true, false}
use lib.IntN.{ℤ, pos, negsuc, neg_ℤ, ◌-ℤ◌}
use lib.Signed.{lt_z, mag}
use lib.Bits.{bit_and}
use lib.Ieee.{Float, binary64, to_bits}
use mir.Syntax.{w64}
use mir.Val.{to_z, of_z}
use mir.Facts.{to_z-of_z}
use borrow.Author.Rules.{sfits_of}
use borrow.Author.Tests.{lt-ltb, le-leb}
use Rattle.float.specs.Binary64.{F64, Number, negative}
use Rattle.float.specs.Values.{abs_of}
use Rattle.float.specs.Order.{signed, keyed, rank_of, key_of}
use Rattle.float.proofs.Bits.{magnitude, abs_most}
use Rattle.float.proofs.Ranks.{rank_parts}
use Rattle.float.proofs.Keys.{key_parts}

-- a word below 2 ^ 63 is the number that it is
pub small_word : (n : ℕ) → n < 2 ^ 63 → to_z w64 n ≡ pos n
small_word n h = rw (lt-ltb n (2 ^ 63) h)

-- an i64 that a call gave, as the machine reads it back from its bits
read_back : (a : ℤ) → mag a < 2 ^ 63 → to_z w64 (of_z w64 a) ≡ a
read_back a h = to_z-of_z {w = w64} {z = a} (sfits_of {w = w64} {z = a} h)

-- 0 - n and -1 - n
zero_less : (n : ℕ) → pos 0 -ℤ pos n ≡ neg_ℤ (pos n)
zero_less zero = refl
zero_less (suc n) = zero_minus n
  where
    zero_minus : (n : ℕ) → pos 0 -ℤ pos (suc n) ≡ negsuc n
    zero_minus n = rw (le-leb 1 (suc n) (omega arith)) (ap negsuc (omega arith))

one_less : (n : ℕ) → negsuc 0 -ℤ pos n ≡ negsuc n
one_less zero = refl
one_less (suc n) = ap (λ (k : ℕ). negsuc (suc k)) (zero-add n)

mag_neg : (n : ℕ) → n < 2 ^ 63 → mag (neg_ℤ (pos n)) < 2 ^ 63
mag_neg zero h = h
mag_neg (suc n) h = omega arith

-- ---- a number's magnitude, and its rank and key, as the code makes them from the magnitude and the sign
module _ (x : Float) (f : F64 x) (h : Number x) where
  abbrev parts : ℕ
  parts = to_bits binary64 (abs_of x)

  small : parts < 2 ^ 63
  small = omega (arith, abs_most x f h)

  pub mask_small : bit_and (to_bits binary64 x) 0x7fff_ffff_ffff_ffff < 2 ^ 63
  mask_small = omega (arith, magnitude x f h, abs_most x f h)

  pub magnitude_word : to_z w64 (bit_and (to_bits binary64 x) 0x7fff_ffff_ffff_ffff) ≡ pos parts
  magnitude_word = small_word _ mask_small ∙ ap pos (magnitude x f h)

  pub rank_plus : {m : ℤ} → m ≡ pos parts → negative x ≡ false → to_z w64 (of_z w64 m) ≡ rank_of x
  rank_plus e n = rw (e, read_back (pos parts) small) (sym (rank_parts x h ∙ ap (λ (s : Bool). signed s parts) n))

  pub rank_minus : {m : ℤ} → m ≡ pos parts → negative x ≡ true → to_z w64 (of_z w64 (pos 0 -ℤ to_z w64 (of_z w64 m))) ≡ rank_of x
  rank_minus e n =
      rw (e, read_back (pos parts) small, zero_less parts, read_back (neg_ℤ (pos parts)) (mag_neg parts small))
      (sym (rank_parts x h ∙ ap (λ (s : Bool). signed s parts) n))

  pub key_plus : {m : ℤ} → m ≡ pos parts → negative x ≡ false → to_z w64 (of_z w64 m) ≡ key_of x
  key_plus e n = rw (e, read_back (pos parts) small) (sym (key_parts x h ∙ ap (λ (s : Bool). keyed s parts) n))

  pub key_minus : {m : ℤ} → m ≡ pos parts → negative x ≡ true → to_z w64 (of_z w64 (negsuc 0 -ℤ to_z w64 (of_z w64 m))) ≡ key_of x
  key_minus e n =
      rw (e, read_back (pos parts) small, one_less parts, read_back (negsuc parts) small)
      (sym (key_parts x h ∙ ap (λ (s : Bool). keyed s parts) n))

-- a test of two i64 that calls gave is the test of the numbers
pub signed_test : {a b x y : ℤ} {t : Bool} → mag a < 2 ^ 63 → mag b < 2 ^ 63 → a ≡ x → b ≡ y → lt_z (to_z w64 (of_z w64 a)) (to_z w64 (of_z w64 b)) ≡ t → lt_z x y ≡ t
signed_test {a} {b} h k e f g = rw (← e, ← f) (rw (read_back a h, read_back b k) at g)
