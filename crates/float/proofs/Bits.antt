-- What the bits of an f64 say of its value: the sign's bit, and the others, which are those of the magnitude. Assumes nothing.
use mathlib.Core.Path.{◌≡◌, refl, sym, ap, ◌∙◌, subst}
use Prim.Native.Nat.{ℕ, zero, suc, ◌+◌, ◌*◌, ◌/◌, ◌%◌, ◌^◌, ◌≤◌, ◌<◌}
use native.Mathlib.Nat.{add_assoc, zero-add, lt_of_not-le}
use native.Mathlib.Omega.{arith}
use mathlib.Core.Bool.{Bool, true, false, not, cond, true≢false}
use lib.IntN.{ℤ, pos}
use lib.Dec.{T, eqb, leb, ltb, eqb-suc-zero}
use lib.Ieee.{Float, nan, inf, fin, up, down, binary64, ne, is_nan, nan_bits, fits, to_bits, of_bits, of_fields, top, hid}
use lib.Ieee.Bits.{of_bits-to_bits, to_bits-lt, nan_bits_is, nan_bits_above}
use lib.Ieee.Compare.{differs_from_itself}
use lib.Ieee.Scale.{finite}
use lib.Bits.{bit_and, and_mask}
use borrow.Author.Tests.{lt-ltb, eq-eqb}
use Rattle.float.specs.Binary64.{F64, Number, negative, bits, plus_zero}
use Rattle.float.specs.Values.{abs_of, finite_of, signum_of}

-- that a parameter is an f64, from what a function knows of it
pub held : {b : Bool} → b ≡ true → T b
held e = subst T (sym e) tt

-- ---- a NaN is what differs from itself
pub is_nan_lem : (x : Float) → ne x x ≡ true → x ≡ nan
is_nan_lem x e = differs_from_itself x (subst T (sym e) tt)

pub number : (x : Float) → ne x x ≡ false → Number x
unfolding is_nan ne
number nan e = absurd (true≢false e)
number (inf s) e = tt
number (fin s m d) e = tt

-- a definition's `is_nan x` where the code has tested `x != x`
pub nan_test : (x : Float) → is_nan x ≡ ne x x
unfolding is_nan ne
nan_test nan = refl
nan_test (inf true) = refl
nan_test (inf false) = refl
nan_test (fin true m e) = rw (eq-eqb (m * up e * down e) (m * up e * down e) refl)
nan_test (fin false m e) = rw (eq-eqb (m * up e * down e) (m * up e * down e) refl)

-- a pattern above the infinity's, but for the sign, is a NaN's
pub nan_above : (b : ℕ) → 0x7ff0_0000_0000_0000 < b % 2 ^ 63 → bits b ≡ nan
nan_above b h =
    is_nan_lem (bits b)
    (sym (nan_test (bits b)) ∙ sym (nan_bits_is binary64 b) ∙ nan_bits_above binary64 b ∙ lt-ltb 0x7ff0_0000_0000_0000 (b % 2 ^ 63) h)

-- ---- the bits of finite values and of infinities
pub sign_apart : (s : Bool) (m : ℕ) (e : ℤ) → to_bits binary64 (fin s m e) ≡ cond s (2 ^ 63) 0 + to_bits binary64 (fin false m e)
unfolding to_bits
sign_apart s m e = simp (add_assoc, zero-add)

pub fits_bare : (s t : Bool) (m : ℕ) (e : ℤ) → F64 (fin s m e) → F64 (fin t m e)
unfolding fits
fits_bare s t zero e h = h
fits_bare s t (suc m) e h = h

top_field : (s : Bool) (t : ℕ) → finite (of_fields binary64 s 2047 t) ≡ false
unfolding of_fields
top_field s zero = refl
top_field s (suc t) = rw eqb-suc-zero

not_finite_lem : (b : ℕ) → 0x7ff0_0000_0000_0000 ≤ b → b < 2 ^ 63 → finite (bits b) ≡ false
unfolding of_bits
not_finite_lem b l h =
    let field : b % top binary64 / hid binary64 ≡ 2047 = omega arith in
    rw field (top_field (leb (top binary64) b) (b % hid binary64))

bare_in : (m : ℕ) (e : ℤ) → F64 (fin false m e) → to_bits binary64 (fin false m e) < 2 ^ 63
bare_in m e h = omega (arith, to_bits-lt binary64 (fin true m e) (fits_bare false true m e h), sign_apart true m e)

-- a finite magnitude's bits are below the infinity's
pub bare_lt : (m : ℕ) (e : ℤ) → F64 (fin false m e) → to_bits binary64 (fin false m e) < 0x7ff0_0000_0000_0000
bare_lt m e h = lt_of_not-le (λ g. true≢false (ap finite (sym (of_bits-to_bits binary64 (fin false m e) h)) ∙ not_finite_lem (to_bits binary64 (fin false m e)) g (bare_in m e h)))

pub inf_bits : (s : Bool) → to_bits binary64 (inf s) ≡ cond s (2 ^ 63) 0 + 0x7ff0_0000_0000_0000
unfolding to_bits
inf_bits s = refl

pub zero_is : bits 0 ≡ plus_zero
unfolding of_bits
zero_is = refl

-- only a zero's magnitude has no bit set
pub zero_bits : (m : ℕ) (e : ℤ) → F64 (fin false m e) → to_bits binary64 (fin false m e) ≡ 0 → m ≡ 0
zero_bits m e f z =
    let same : fin false m e ≡ plus_zero = sym (of_bits-to_bits binary64 (fin false m e) f) ∙ ap bits z ∙ zero_is in
    cc

-- ---- a number's bits are its sign's and those of |x|
pub abs_fits : (x : Float) → F64 x → F64 (abs_of x)
unfolding abs_of fits
abs_fits nan f = tt
abs_fits (inf s) f = tt
abs_fits (fin s m e) f = fits_bare s false m e f

abs_number : (x : Float) → Number x → Number (abs_of x)
unfolding abs_of is_nan
abs_number nan h = h
abs_number (inf s) h = tt
abs_number (fin s m e) h = tt

-- |x| in bits: at most the infinity's
pub abs_most : (x : Float) → F64 x → Number x → to_bits binary64 (abs_of x) ≤ 0x7ff0_0000_0000_0000
unfolding is_nan abs_of
abs_most nan f h = absurd h
abs_most (inf s) f h = omega (arith, inf_bits false)
abs_most (fin s m e) f h = omega (arith, bare_lt m e (fits_bare s false m e f))

pub parted : (x : Float) → Number x → to_bits binary64 x ≡ cond (negative x) (2 ^ 63) 0 + to_bits binary64 (abs_of x)
unfolding is_nan abs_of
parted nan h = absurd h
parted (inf true) h = omega (arith, inf_bits true, inf_bits false)
parted (inf false) h = omega (arith, inf_bits false)
parted (fin s m e) h = sign_apart s m e

-- so a mask takes the sign off, and a shift leaves it alone
off : (s : Bool) (n a : ℕ) → a ≡ cond s (2 ^ 63) 0 + n → n ≤ 0x7ff0_0000_0000_0000 → a % 2 ^ 63 ≡ n
off true n a e h = omega arith
off false n a e h = omega arith

alone : (s : Bool) (n a : ℕ) → a ≡ cond s (2 ^ 63) 0 + n → n ≤ 0x7ff0_0000_0000_0000 → a / 2 ^ 63 ≡ cond s 1 0
alone true n a e h = omega arith
alone false n a e h = omega arith

pub magnitude : (x : Float) → F64 x → Number x → bit_and (to_bits binary64 x) 0x7fff_ffff_ffff_ffff ≡ to_bits binary64 (abs_of x)
magnitude x f h = and_mask (to_bits binary64 x) 63 ∙ off (negative x) (to_bits binary64 (abs_of x)) (to_bits binary64 x) (parted x h) (abs_most x f h)

pub sign_bit : (x : Float) → F64 x → Number x → to_bits binary64 x / 2 ^ 63 ≡ cond (negative x) 1 0
sign_bit x f h = alone (negative x) (to_bits binary64 (abs_of x)) (to_bits binary64 x) (parted x h) (abs_most x f h)

-- the sign by its bit, as the code tests it
pub sign_test : (x : Float) → F64 x → Number x → eqb (to_bits binary64 x / 2 ^ 63) 1 ≡ negative x
sign_test x f h = rw (sign_bit x f h) (go (negative x))
  where
    go : (s : Bool) → eqb (cond {A = ℕ} s 1 0) 1 ≡ s
    go true = refl
    go false = refl

-- ---- |x| and finiteness
pub abs_is : (x : Float) → F64 x → Number x → bits (bit_and (to_bits binary64 x) 0x7fff_ffff_ffff_ffff) ≡ abs_of x
abs_is x f h = rw (magnitude x f h) (of_bits-to_bits binary64 (abs_of x) (abs_fits x f))

pub abs_no_nan : (x : Float) → F64 x → Number x → T (not (nan_bits binary64 (bit_and (to_bits binary64 x) 0x7fff_ffff_ffff_ffff)))
abs_no_nan x f h = rw (nan_bits_is, abs_is x f h) (abs_number x h)

-- the exponent's field
pub exponent : (x : Float) → F64 x → Number x → bit_and (to_bits binary64 x / 2 ^ 52) 0x7ff ≡ to_bits binary64 (abs_of x) / 2 ^ 52
exponent x f h =
    let low : to_bits binary64 x % 2 ^ 63 ≡ to_bits binary64 (abs_of x) = off (negative x) (to_bits binary64 (abs_of x)) (to_bits binary64 x) (parted x h) (abs_most x f h) in
    and_mask (to_bits binary64 x / 2 ^ 52) 11 ∙ omega arith

pub finite_is : (x : Float) → F64 x → Number x → ltb (bit_and (to_bits binary64 x / 2 ^ 52) 0x7ff) 0x7ff ≡ finite_of x
finite_is x f h = rw (exponent x f h) (go x f h)
  where
    go : (y : Float) → F64 y → Number y → ltb (to_bits binary64 (abs_of y) / 2 ^ 52) 0x7ff ≡ finite_of y
    go nan f h = absurd (unfold is_nan in h)
    go (inf s) f h = unfold abs_of to_bits finite_of in refl
    go (fin s m e) f h =
        let l = bare_lt m e (fits_bare s false m e f) in
        unfold abs_of finite_of in lt-ltb (to_bits binary64 (fin false m e) / 2 ^ 52) 0x7ff (omega arith)

-- ---- the sign as a number
pub signum_sign : (x : Float) → Number x → signum_of x ≡ fin (negative x) 1 (pos 0)
unfolding is_nan signum_of
signum_sign nan h = absurd h
signum_sign (inf s) h = refl
signum_sign (fin s m e) h = refl
