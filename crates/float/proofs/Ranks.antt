-- Ranks go by values: `rank_lt` says that `<` on numbers is `<` on their ranks. Assumes nothing.
use mathlib.Core.Path.{◌≡◌, refl, sym, ap, ap₂, ◌∙◌, subst, subst₂}
use mathlib.Core.Logic.{inl, inr}
use Prim.Native.Nat.{ℕ, zero, suc, ◌+◌, ◌-◌, ◌*◌, ◌/◌, ◌^◌, ◌≤◌, ◌<◌}
use native.Mathlib.Nat.{le_trans, le_of_eq, lt_of_le_of_lt, eq-or-lt_of_le, mul_right_comm, mul-le-mul_right, mul-pos, zero-mul, zero-div, le-div_iff_mul-le, zero-add, eq-zero-or-pos}
use native.Mathlib.Omega.{arith}
use mathlib.Core.Bool.{Bool, true, false, not, ◌&&◌}
use lib.IntN.{ℤ}
use lib.Dec.{T, ltb, leb-suc-suc, lt→ltb}
use lib.Signed.{lt_z}
use lib.Pow.{pow_pos, pow-add, shr_mono}
use lib.Ieee.{Float, nan, inf, fin, binary64, up, down, size, below, lt, is_nan, to_bits}
use lib.Ieee.Digits.{size-lt, size-le, size_reaches}
use lib.Ieee.Fits.{kept-lt, up_pos, down_pos}
use lib.Ieee.Nearest.{div_mono}
use lib.Ieee.Bits.{of_bits-to_bits}
use borrow.Author.Tests.{lt-ltb, le-ltb, ltb-true, ltb-false}
use Rattle.float.specs.Binary64.{F64, Number, negative, bits}
use Rattle.float.specs.Values.{abs_of}
use Rattle.float.specs.Order.{signed, rank_of}
use Rattle.float.specs.Roots.{quanta}
use Rattle.float.proofs.Bits.{fits_bare, bare_lt, inf_bits, zero_bits}
use Rattle.float.proofs.Order.{lt_irrefl}

-- ---- the bits of a value that is not negative, by its quanta: the larger has the larger bits
abbrev pub placed : ℕ → ℕ
placed u = (size u - 53) * 2 ^ 52 + u / 2 ^ (size u - 53)

fewer : (a b : ℕ) → a ≤ b → size a - 53 ≤ size b - 53
fewer a b h = less (size a) (size b) (size-le a (size b) (lt_of_le_of_lt h (size-lt b)))
  where
    less : (x y : ℕ) → x ≤ y → x - 53 ≤ y - 53
    less x y k = omega arith

full : (v k : ℕ) → k ≡ size v - 53 → 0 < k → 2 ^ 52 ≤ v / 2 ^ k
full v k e h = (le-div_iff_mul-le (pow_pos k)).1 (le_trans (le_of_eq (sym (pow-add 2 52 k))) (size_reaches v (52 + k) (omega arith)))

placed_mono : (u v : ℕ) → u ≤ v → placed u ≤ placed v
placed_mono u v h = elim (eq-or-lt_of_le (fewer u v h)) [
  | inl e ↦ subst (λ (k : ℕ). k * 2 ^ 52 + u / 2 ^ k ≤ placed v) (sym e) (add_le (u / 2 ^ (size v - 53)) (v / 2 ^ (size v - 53)) ((size v - 53) * 2 ^ 52) (shr_mono (size v - 53) h))
  | inr l ↦ under (size u - 53) (size v - 53) (u / 2 ^ (size u - 53)) (v / 2 ^ (size v - 53)) l (kept-lt 53 u) (full v (size v - 53) refl (omega arith))
]
  where
    add_le : (a b c : ℕ) → a ≤ b → c + a ≤ c + b
    add_le a b c k = omega arith

    under : (j k a b : ℕ) → j < k → a < 2 ^ 53 → 2 ^ 52 ≤ b → j * 2 ^ 52 + a ≤ k * 2 ^ 52 + b
    under j k a b p q r = omega arith

pub bits_are : (m : ℕ) (e : ℤ) → to_bits binary64 (fin false m e) ≡ placed (quanta m e)
unfolding to_bits
bits_are m e = simp zero-add

bits_mono : (m : ℕ) (e : ℤ) (n : ℕ) (d : ℤ) → m * up e * down d ≤ n * up d * down e → to_bits binary64 (fin false m e) ≤ to_bits binary64 (fin false n d)
bits_mono m e n d h =
    subst₂ (λ (a b : ℕ). a ≤ b) (sym (bits_are m e)) (sym (bits_are n d))
    (placed_mono (quanta m e) (quanta n d)
    (div_mono (m * up e * 2 ^ 1074) (down e) (n * up d * 2 ^ 1074) (down d) (down_pos e) (down_pos d)
    (le_trans (le_of_eq (mul_right_comm (m * up e) (2 ^ 1074) (down d)))
    (le_trans (mul-le-mul_right (2 ^ 1074) h) (le_of_eq (mul_right_comm (n * up d) (down e) (2 ^ 1074)))))))

-- one pattern of bits is one value
pub one_value : (x y : Float) → F64 x → F64 y → to_bits binary64 x ≡ to_bits binary64 y → x ≡ y
one_value x y f g q = sym (of_bits-to_bits binary64 x f) ∙ ap bits q ∙ of_bits-to_bits binary64 y g

-- so a smaller value has smaller bits
bits_less : (m : ℕ) (e : ℤ) (n : ℕ) (d : ℤ) → F64 (fin false m e) → F64 (fin false n d) → m * up e * down d < n * up d * down e → to_bits binary64 (fin false m e) < to_bits binary64 (fin false n d)
bits_less m e n d f g h = elim (eq-or-lt_of_le (bits_mono m e n d (omega arith))) [
  | inl q ↦
      let less : T (lt (fin false m e) (fin false n d)) = unfold lt in lt→ltb (m * up e * down d) (n * up d * down e) h in
      absurd (lt_irrefl (fin false n d) (subst (λ (x : Float). T (lt x (fin false n d))) (one_value (fin false m e) (fin false n d) f g q) less))
  | inr l ↦ l
]

by_bits : (m : ℕ) (e : ℤ) (n : ℕ) (d : ℤ) → F64 (fin false m e) → F64 (fin false n d)
    → ltb (to_bits binary64 (fin false m e)) (to_bits binary64 (fin false n d)) ≡ ltb (m * up e * down d) (n * up d * down e)
by_bits m e n d f g = go (ltb (m * up e * down d) (n * up d * down e)) refl
  where
    go : (b : Bool) → ltb (m * up e * down d) (n * up d * down e) ≡ b → ltb (to_bits binary64 (fin false m e)) (to_bits binary64 (fin false n d)) ≡ b
    go true h = lt-ltb (to_bits binary64 (fin false m e)) (to_bits binary64 (fin false n d)) (bits_less m e n d f g (ltb-true (m * up e * down d) (n * up d * down e) h))
    go false h = le-ltb (to_bits binary64 (fin false m e)) (to_bits binary64 (fin false n d)) (bits_mono n d m e (ltb-false (m * up e * down d) (n * up d * down e) h))

-- a magnitude is 0 where its bits are
size_zero : size 0 ≡ 0
unfolding size
size_zero = refl

pub no_bits : (e : ℤ) → to_bits binary64 (fin false 0 e) ≡ 0
unfolding to_bits
no_bits e = simp (zero-mul, zero-div, size_zero)

some_bits : (m : ℕ) (e : ℤ) (k : ℕ) → 0 < k → F64 (fin false m e) → ltb 0 (to_bits binary64 (fin false m e)) ≡ ltb 0 (m * up e * k)
some_bits zero e k K f = ap (ltb 0) (no_bits e) ∙ sym (ap (ltb 0) (ap (λ (x : ℕ). x * k) (zero-mul (up e)) ∙ zero-mul k))
some_bits (suc m) e k K f =
    let more : 0 < to_bits binary64 (fin false (suc m) e) = elim (eq-zero-or-pos (to_bits binary64 (fin false (suc m) e))) [ inl z ↦ absurd (omega (arith, zero_bits (suc m) e f z)) | inr l ↦ l ] in
    let most : 0 < suc m * up e * k = mul-pos (mul-pos (omega arith) (up_pos e)) K in
    lt-ltb 0 (to_bits binary64 (fin false (suc m) e)) more ∙ sym (lt-ltb 0 (suc m * up e * k) most)

either : (a A b B : ℕ) → ltb 0 a ≡ ltb 0 A → ltb 0 b ≡ ltb 0 B → ltb 0 (a + b) ≡ ltb 0 (A + B)
either a A b B p q = go (ltb 0 A) (ltb 0 B) refl refl
  where
    go : (s t : Bool) → ltb 0 A ≡ s → ltb 0 B ≡ t → ltb 0 (a + b) ≡ ltb 0 (A + B)
    go true t h k = let x = ltb-true 0 a (p ∙ h) in let y = ltb-true 0 A h in lt-ltb 0 (a + b) (omega arith) ∙ sym (lt-ltb 0 (A + B) (omega arith))
    go false true h k = let x = ltb-true 0 b (q ∙ k) in let y = ltb-true 0 B k in lt-ltb 0 (a + b) (omega arith) ∙ sym (lt-ltb 0 (A + B) (omega arith))
    go false false h k =
        let x = ltb-false 0 a (p ∙ h) in
        let y = ltb-false 0 A h in
        let z = ltb-false 0 b (q ∙ k) in
        let w = ltb-false 0 B k in
        le-ltb 0 (a + b) (omega arith) ∙ sym (le-ltb 0 (A + B) (omega arith))

-- ---- signed magnitudes compare as `below` of lib.Ieee has them
pub signed_below : (s : Bool) (a : ℕ) (t : Bool) (b : ℕ) → lt_z (signed s a) (signed t b) ≡ below s a t b
signed_below false a false b = refl
signed_below false a true zero = le-ltb a 0 (omega arith)
signed_below false a true (suc b) = refl
signed_below true zero false b = ap (ltb 0) (sym (zero-add b))
signed_below true (suc a) false b = sym (lt-ltb 0 (suc a + b) (omega arith))
signed_below true zero true zero = refl
signed_below true zero true (suc b) = sym (le-ltb (suc b) 0 (omega arith))
signed_below true (suc a) true zero = sym (lt-ltb 0 (suc a) (omega arith))
signed_below true (suc a) true (suc b) = sym (leb-suc-suc (suc b) a)

-- an infinity's magnitude is above every other
inf_left : (s : Bool) (k : ℕ) (t : Bool) (b : ℕ) → b < k → below s k t b ≡ s
inf_left false k false b h = le-ltb k b (omega arith)
inf_left false k true b h = refl
inf_left true k false b h = lt-ltb 0 (k + b) (omega arith)
inf_left true k true b h = lt-ltb b k h

inf_right : (s : Bool) (a : ℕ) (t : Bool) (k : ℕ) → a < k → below s a t k ≡ not t
inf_right false a false k h = lt-ltb a k h
inf_right false a true k h = refl
inf_right true a false k h = lt-ltb 0 (a + k) (omega arith)
inf_right true a true k h = le-ltb k a (omega arith)

inf_both : (s t : Bool) (k : ℕ) → 0 < k → below s k t k ≡ s && not t
inf_both false false k h = le-ltb k k (omega arith)
inf_both false true k h = refl
inf_both true false k h = lt-ltb 0 (k + k) (omega arith)
inf_both true true k h = le-ltb k k (omega arith)

fin_both : (s : Bool) (m : ℕ) (e : ℤ) (t : Bool) (n : ℕ) (d : ℤ) → F64 (fin false m e) → F64 (fin false n d)
    → below s (to_bits binary64 (fin false m e)) t (to_bits binary64 (fin false n d)) ≡ below s (m * up e * down d) t (n * up d * down e)
fin_both false m e false n d f g = by_bits m e n d f g
fin_both false m e true n d f g = refl
fin_both true m e false n d f g =
    either (to_bits binary64 (fin false m e)) (m * up e * down d) (to_bits binary64 (fin false n d)) (n * up d * down e)
    (some_bits m e (down d) (down_pos d) f) (some_bits n d (down e) (down_pos e) g)
fin_both true m e true n d f g = by_bits n d m e g f

-- ---- a number's parts
pub rank_parts : (x : Float) → Number x → rank_of x ≡ signed (negative x) (to_bits binary64 (abs_of x))
unfolding rank_of abs_of is_nan
rank_parts nan h = absurd h
rank_parts (inf s) h = refl
rank_parts (fin s m e) h = refl

pub below_parts : (x y : Float) → F64 x → F64 y → Number x → Number y
    → below (negative x) (to_bits binary64 (abs_of x)) (negative y) (to_bits binary64 (abs_of y)) ≡ lt x y
unfolding abs_of is_nan lt
below_parts nan y f g h k = absurd h
below_parts (inf s) nan f g h k = absurd k
below_parts (inf s) (inf t) f g h k = inf_both s t (to_bits binary64 (inf false)) (omega (arith, inf_bits false))
below_parts (inf s) (fin t n d) f g h k = inf_left s (to_bits binary64 (inf false)) t (to_bits binary64 (fin false n d)) (omega (arith, inf_bits false, bare_lt n d (fits_bare t false n d g)))
below_parts (fin s m e) nan f g h k = absurd k
below_parts (fin s m e) (inf t) f g h k = inf_right s (to_bits binary64 (fin false m e)) t (to_bits binary64 (inf false)) (omega (arith, inf_bits false, bare_lt m e (fits_bare s false m e f)))
below_parts (fin s m e) (fin t n d) f g h k = fin_both s m e t n d (fits_bare s false m e f) (fits_bare t false n d g)

pub rank_lt : (x y : Float) → F64 x → F64 y → Number x → Number y → lt_z (rank_of x) (rank_of y) ≡ lt x y
rank_lt x y f g h k =
    ap₂ lt_z (rank_parts x h) (rank_parts y k)
    ∙ signed_below (negative x) (to_bits binary64 (abs_of x)) (negative y) (to_bits binary64 (abs_of y))
    ∙ below_parts x y f g h k
