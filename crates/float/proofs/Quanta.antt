-- A value in quanta of 2 ^ -1074 from its bits, and the values that `sqrt` answers at once. Assumes nothing.
use mathlib.Core.Path.{◌≡◌, refl, sym, ap, ◌∙◌}
use Prim.Native.Nat.{ℕ, zero, suc, ◌+◌, ◌-◌, ◌*◌, ◌/◌, ◌%◌, ◌^◌, ◌≤◌, ◌<◌}
use native.Mathlib.Nat.{zero-add, zero-mul, mul-one, mul-div_cancel, le_of_suc-le-suc, lt_of_not-le, eq-zero-or-pos}
use native.Mathlib.Decide.{dec_lt}
use native.Mathlib.Omega.{arith}
use mathlib.Core.Bool.{Bool, true, false, cond, true≢false}
use mathlib.Core.Logic.{inl, inr}
use lib.IntN.{ℤ}
use lib.Bits.{bit_and}
use lib.Count.{count_trailing_zeros}
use lib.Ieee.{Float, nan, inf, fin, binary64, minus, up, down, odd, is_nan, to_bits, of_bits, of_fields, top, hid}
use lib.Ieee.Fits.{down_pos}
use lib.Ieee.Digits.{odd_val}
use lib.Ieee.Bits.{of_bits-to_bits}
use borrow.Author.Tests.{lt-ltb, le-ltb, lt-leb, ne_eqb}
use Rattle.float.specs.Binary64.{F64, Number, negative, bits}
use Rattle.float.specs.Values.{abs_of}
use Rattle.float.specs.Roots.{quanta, quanta_of}
use Rattle.float.specs.Sqrt.{sqrt_of, root_of, quanta_of_bits}
use Rattle.float.proofs.Bits.{fits_bare, bare_lt, inf_bits, zero_bits, parted, magnitude, abs_most, sign_bit}
use Rattle.float.proofs.Ranks.{no_bits}

-- ---- a finite value in quanta, from its bits
quanta_is : (m : ℕ) (e : ℤ) (a : ℕ) → m * up e * 2 ^ 1074 ≡ a * down e → quanta m e ≡ a
quanta_is m e a h = ap (λ (x : ℕ). x / down e) h ∙ mul-div_cancel a (down_pos e)

pub quanta_odd : (d : ℕ) (s : Bool) (q k : ℕ) → quanta_of (odd d s q k 1074) ≡ q * 2 ^ k
unfolding odd
quanta_odd d s zero k = sym (zero-mul (2 ^ k))
quanta_odd d s (suc q) k =
    let t = count_trailing_zeros d (suc q) in
    quanta_is (suc q / 2 ^ t) (minus (k + t) 1074) (suc q * 2 ^ k) (odd_val d s (suc q) k 1074)

-- by the exponent's field and the fraction
pub normal_bits : (x t : ℕ) → x < 2046 → t < 2 ^ 52 → bits (suc x * 2 ^ 52 + t) ≡ odd 53 false (2 ^ 52 + t) x 1074
unfolding of_bits of_fields
normal_bits x t h l =
    let b = suc x * 2 ^ 52 + t in
    let p : b % top binary64 / hid binary64 ≡ suc x = omega arith in
    let q : b % hid binary64 ≡ t = omega arith in
    rw (lt-leb (top binary64) b (omega arith), p, q) (rw (ne_eqb (suc x) 2047 (λ e. omega arith)))

low_bits : (b : ℕ) → b < 2 ^ 52 → bits b ≡ odd 53 false b 0 1074
unfolding of_bits of_fields
low_bits b l =
    let p : b % top binary64 / hid binary64 ≡ 0 = omega arith in
    let q : b % hid binary64 ≡ b = omega arith in
    rw (lt-leb (top binary64) b (omega arith), p, q)

quanta_low : (b : ℕ) → b < 2 ^ 52 → quanta_of (bits b) ≡ quanta_of_bits b
quanta_low b l = rw (low_bits b l, quanta_odd, lt-ltb b (2 ^ 52) l) (mul-one b)

quanta_high : (b : ℕ) → 2 ^ 52 ≤ b → b < 0x7ff0_0000_0000_0000 → quanta_of (bits b) ≡ quanta_of_bits b
quanta_high b h l =
    let x = b / 2 ^ 52 - 1 in
    let t = b % 2 ^ 52 in
    let e : b ≡ suc x * 2 ^ 52 + t = omega arith in
    ap (λ (y : ℕ). quanta_of (bits y)) e
    ∙ ap quanta_of (normal_bits x t (omega arith) (omega arith))
    ∙ quanta_odd 53 false (2 ^ 52 + t) x
    ∙ rw (le-ltb b (2 ^ 52) h)

quanta_bits : (b : ℕ) → b < 0x7ff0_0000_0000_0000 → quanta_of (bits b) ≡ quanta_of_bits b
quanta_bits b l = elim (dec_lt b (2 ^ 52)) [ yes y ↦ quanta_low b y | no n ↦ quanta_high b (le_of_suc-le-suc (lt_of_not-le n)) l ]

pub quanta_of_lem : (x : Float) → F64 x → to_bits binary64 x < 0x7ff0_0000_0000_0000 → quanta_of x ≡ quanta_of_bits (to_bits binary64 x)
quanta_of_lem x f l = ap quanta_of (sym (of_bits-to_bits binary64 x f)) ∙ quanta_bits (to_bits binary64 x) l

-- ---- the root of a finite value above zero
above : (x : Float) → Number x → 0 < to_bits binary64 x → to_bits binary64 x < 0x7ff0_0000_0000_0000 → root_of (quanta_of x) ≡ sqrt_of x
unfolding is_nan sqrt_of abs_of
above nan h k l = absurd h
above (inf true) h k l = absurd (omega (arith, inf_bits true))
above (inf false) h k l = absurd (omega (arith, inf_bits false))
above (fin true m e) h k l = absurd (omega (arith, parted (fin true m e) tt))
above (fin false zero e) h k l = absurd (omega (arith, no_bits e))
above (fin false (suc m) e) h k l = refl

pub above_is : (x : Float) → F64 x → Number x → 0 < to_bits binary64 x → to_bits binary64 x < 0x7ff0_0000_0000_0000 → root_of (quanta_of_bits (to_bits binary64 x)) ≡ sqrt_of x
above_is x f h k l = ap root_of (sym (quanta_of_lem x f l)) ∙ above x h k l

-- ---- the others, by the tests of `sqrt`: a zero, below zero, +infinity
zero_root : (x : Float) → F64 x → Number x → to_bits binary64 (abs_of x) ≡ 0 → x ≡ sqrt_of x
unfolding is_nan abs_of sqrt_of
zero_root nan f h z = absurd h
zero_root (inf s) f h z = absurd (omega (arith, inf_bits false, z))
zero_root (fin s zero e) f h z = refl
zero_root (fin s (suc m) e) f h z = absurd (omega (arith, zero_bits (suc m) e (fits_bare s false (suc m) e f) z))

minus_root : (x : Float) → Number x → (to_bits binary64 (abs_of x) ≡ 0 → ⊥) → ◌≡◌ {A = ℕ} (cond (negative x) 1 0) 1 → nan ≡ sqrt_of x
unfolding is_nan abs_of sqrt_of
minus_root nan h n z = absurd h
minus_root (inf true) h n z = refl
minus_root (inf false) h n z = absurd (omega arith)
minus_root (fin true zero e) h n z = absurd (n (no_bits e))
minus_root (fin true (suc m) e) h n z = refl
minus_root (fin false m e) h n z = absurd (omega arith)

inf_root : (x : Float) → F64 x → Number x → negative x ≡ false → to_bits binary64 (abs_of x) / 2 ^ 52 ≡ 0x7ff → x ≡ sqrt_of x
unfolding is_nan abs_of sqrt_of
inf_root nan f h s z = absurd h
inf_root (inf true) f h s z = absurd (true≢false s)
inf_root (inf false) f h s z = refl
inf_root (fin s m e) f h q z = absurd (omega (arith, bare_lt m e (fits_bare s false m e f), z))

module _ (x : Float) (f : F64 x) (h : Number x) where
  abbrev b : ℕ
  b = to_bits binary64 x

  pub root_of_zero : bit_and b 0x7fff_ffff_ffff_ffff ≡ 0 → x ≡ sqrt_of x
  root_of_zero z = zero_root x f h (sym (magnitude x f h) ∙ z)

  module _ (some : bit_and b 0x7fff_ffff_ffff_ffff ≡ 0 → ⊥) where
    pub root_below_zero : b / 2 ^ 63 ≡ 1 → nan ≡ sqrt_of x
    root_below_zero z = minus_root x h (λ e. some (magnitude x f h ∙ e)) (sym (sign_bit x f h) ∙ z)

    module _ (plus : b / 2 ^ 63 ≡ 1 → ⊥) where
      not_negative : negative x ≡ false
      not_negative = go (negative x) (sign_bit x f h)
        where
          go : (s : Bool) → b / 2 ^ 63 ≡ cond s 1 0 → s ≡ false
          go true z = absurd (plus z)
          go false z = refl

      bare : b ≡ to_bits binary64 (abs_of x)
      bare = parted x h ∙ ap (λ (s : Bool). cond s (2 ^ 63) 0 + to_bits binary64 (abs_of x)) not_negative ∙ zero-add (to_bits binary64 (abs_of x))

      pub at_least : 0 < b
      at_least = elim (eq-zero-or-pos b) [ inl z ↦ absurd (some (magnitude x f h ∙ sym bare ∙ z)) | inr l ↦ l ]

      pub root_of_infinity : b / 2 ^ 52 ≡ 0x7ff → x ≡ sqrt_of x
      root_of_infinity z = inf_root x f h not_negative (ap (λ (n : ℕ). n / 2 ^ 52) (sym bare) ∙ z)

      pub at_most : (b / 2 ^ 52 ≡ 0x7ff → ⊥) → b < 0x7ff0_0000_0000_0000
      at_most n = lt_of_not-le (λ (g : 0x7ff0_0000_0000_0000 ≤ b). n (omega (arith, abs_most x f h, bare)))
