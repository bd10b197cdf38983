-- The values of binary64 in quanta of 2 ^ -1074, and how near two of them can be; from that, `nearest`: when a value is nearest to a root. Assumes nothing.
use mathlib.Core.Path.{◌≡◌, refl, sym, ap, ◌∙◌, subst}
use Prim.Native.Nat.{ℕ, zero, suc, ◌+◌, ◌-◌, ◌*◌, ◌/◌, ◌%◌, ◌^◌, ◌≤◌, ◌<◌}
use native.Mathlib.Nat.{le_trans, le_of_eq, le_of_lt, le_of_suc-le-suc, lt_of_le_of_lt, lt_of_lt_of_le, lt_of_not-le, not-le_of_lt, lt_of_mul-lt-mul_right, mul_assoc, mul-one, one-mul, mul-le-mul_right, add-mul, mul-div_cancel, pow-le-pow_left}
use native.Mathlib.Decide.{dec_le}
use native.Mathlib.Omega.{arith}
use mathlib.Core.Bool.{Bool, false, ◌&&◌}
use lib.IntN.{ℤ, pos, negsuc}
use lib.Dec.{T, eqb, ltb, leb, eqb→eq, ltb→lt, leb→le}
use lib.Pow.{pow_pos, pow_mono, pow-lt, pow-add}
use lib.Ieee.{Float, fin, up, down, fits}
use lib.Ieee.Fits.{and_l, and_r, up_pos, down_pos}
use lib.Ieee.Positive.{positive}
use Rattle.float.specs.Binary64.{F64}
use Rattle.float.specs.Roots.{quanta, quanta_of, twice_root, NearestRoot}
use Rattle.float.proofs.Widths.{made, pow_lt_back}

-- q * 2 ^ k quanta, with a q below 2 ^ 53
pub record OnGrid (Z : ℕ) : Type 0 where
  pub q : ℕ
  pub k : ℕ
  pub small : q < 2 ^ 53
  pub same : Z ≡ q * 2 ^ k

-- 2 ^ e in quanta of 2 ^ -l is 2 ^ j
pub place : (l : ℕ) (e : ℤ) → down e ≤ 2 ^ l → (j : ℕ) × (up e * 2 ^ l ≡ 2 ^ j * down e)
place l (pos k) h = (k + l, sym (pow-add 2 k l) ∙ sym (mul-one (2 ^ (k + l))))
place l (negsuc k) h = (l - suc k, one-mul (2 ^ l) ∙ ap (λ (n : ℕ). 2 ^ n) (join k l (pow_back (suc k) l h)) ∙ pow-add 2 (l - suc k) (suc k))
  where
    pow_back : (a b : ℕ) → 2 ^ a ≤ 2 ^ b → a ≤ b
    pow_back a b h = le_of_suc-le-suc (pow_lt_back a (suc b) (lt_of_le_of_lt h (pow_less b)))
      where
        pow_less : (b : ℕ) → 2 ^ b < 2 ^ suc b
        pow_less b = pow-lt {i = b} {j = suc b} (omega arith)

    join : (k l : ℕ) → suc k ≤ l → l ≡ l - suc k + suc k
    join k l h = omega arith

-- what binary64 holds is a significand below 2 ^ 53 and an exponent of at least -1074
deep : (s : Bool) (m : ℕ) (e : ℤ) → F64 (fin s m e) → (m < 2 ^ 53) × (down e ≤ 2 ^ 1074)
unfolding fits
deep s zero e h =
    (pow_pos 53, le_trans (le_trans (le_of_eq (sym (one-mul (down e)))) (mul-le-mul_right (down e) (up_pos e))) (le_trans (le_of_eq (eqb→eq (up e * down e) 1 h)) (pow_pos 1074)))
deep s (suc m) e h =
    let A = eqb (suc m % 2) 1 in
    let B = ltb (suc m) (2 ^ 53) in
    let C = leb (down e) (2 ^ 1074) in
    let D = ltb (suc m * up e) (2 ^ 1024 * down e) in
    (ltb→lt (suc m) (2 ^ 53) (and_r A B (and_l (A && B) C (and_l (A && B && C) D h))), leb→le (down e) (2 ^ 1074) (and_r (A && B) C (and_l (A && B && C) D h)))

-- so it is a whole number of quanta
module _ (s : Bool) (m : ℕ) (e : ℤ) (f : F64 (fin s m e)) where
  abbrev placed_at : ℕ
  placed_at = (place 1074 e (deep s m e f).1).0

  scaled : m * up e * 2 ^ 1074 ≡ m * 2 ^ placed_at * down e
  scaled = mul_assoc m (up e) (2 ^ 1074) ∙ ap (λ (x : ℕ). m * x) (place 1074 e (deep s m e f).1).1 ∙ sym (mul_assoc m (2 ^ placed_at) (down e))

  quanta_are : quanta m e ≡ m * 2 ^ placed_at
  quanta_are = ap (λ (x : ℕ). x / down e) scaled ∙ mul-div_cancel (m * 2 ^ placed_at) (down_pos e)

  pub exact : quanta m e * down e ≡ m * up e * 2 ^ 1074
  exact = ap (λ (x : ℕ). x * down e) quanta_are ∙ sym scaled

  pub grid : OnGrid (quanta m e)
  grid = record { q = m; k = placed_at; small = (deep s m e f).0; same = quanta_are }

-- ---- how near two of them can be
module _ (q0 k0 Z : ℕ) (g : OnGrid Z) where
  -- at a larger exponent the other is a multiple of 2 ^ k0 too
  multiple : k0 ≤ g.k → Z ≡ g.q * 2 ^ (g.k - k0) * 2 ^ k0
  multiple l = g.same ∙ ap (λ (x : ℕ). g.q * x) (sym (made (g.k - k0) k0 g.k (omega arith))) ∙ sym (mul_assoc g.q (2 ^ (g.k - k0)) (2 ^ k0))

  -- at a smaller one it is at most 2 ^ 52 of them
  little : g.k < k0 → Z ≤ 2 ^ 52 * 2 ^ k0
  little l =
      le_trans (le_of_eq g.same)
      (le_trans (mul-le-mul_right (2 ^ g.k) (le_of_lt g.small))
      (le_trans (le_of_eq (made 53 g.k (53 + g.k) refl)) (le_trans (pow_mono {i = 53 + g.k} {j = 52 + k0} (omega arith)) (le_of_eq (sym (made 52 k0 (52 + k0) refl))))))

  pub gap_above : 2 ^ 52 ≤ q0 → q0 * 2 ^ k0 < Z → (q0 + 1) * 2 ^ k0 ≤ Z
  gap_above h l = elim (dec_le k0 g.k) [
    | yes y ↦
        let less : q0 < g.q * 2 ^ (g.k - k0) = lt_of_mul-lt-mul_right (2 ^ k0) (subst (λ (x : ℕ). q0 * 2 ^ k0 < x) (multiple y) l) in
        le_trans (mul-le-mul_right (2 ^ k0) (omega arith)) (le_of_eq (sym (multiple y)))
    | no n ↦ absurd (not-le_of_lt l (le_trans (little (lt_of_not-le n)) (mul-le-mul_right (2 ^ k0) h)))
  ]

  pub gap_below : 2 ^ 52 < q0 → Z < q0 * 2 ^ k0 → Z ≤ (q0 - 1) * 2 ^ k0
  gap_below h l = elim (dec_le k0 g.k) [
    | yes y ↦
        let less : g.q * 2 ^ (g.k - k0) < q0 = lt_of_mul-lt-mul_right (2 ^ k0) (subst (λ (x : ℕ). x < q0 * 2 ^ k0) (multiple y) l) in
        le_trans (le_of_eq (multiple y)) (mul-le-mul_right (2 ^ k0) (omega arith))
    | no n ↦ le_trans (little (lt_of_not-le n)) (mul-le-mul_right (2 ^ k0) (omega arith))
  ]

  -- twice the middle of the two
  pub sum_above : 2 ^ 52 ≤ q0 → q0 * 2 ^ k0 < Z → (2 * q0 + 1) * 2 ^ k0 ≤ q0 * 2 ^ k0 + Z
  sum_above h l =
      let gap = gap_above h l in
      let twice : (2 * q0 + 1) * 2 ^ k0 ≡ q0 * 2 ^ k0 + (q0 + 1) * 2 ^ k0 = ap (λ (x : ℕ). x * 2 ^ k0) (omega arith) ∙ add-mul q0 (q0 + 1) (2 ^ k0) in
      omega arith

  pub sum_below : 2 ^ 52 < q0 → Z < q0 * 2 ^ k0 → q0 * 2 ^ k0 + Z ≤ (2 * q0 - 1) * 2 ^ k0
  sum_below h l =
      let gap = gap_below h l in
      let split : 2 * q0 - 1 ≡ q0 + (q0 - 1) = omega arith in
      let twice : (2 * q0 - 1) * 2 ^ k0 ≡ q0 * 2 ^ k0 + (q0 - 1) * 2 ^ k0 = ap (λ (x : ℕ). x * 2 ^ k0) split ∙ add-mul q0 (q0 - 1) (2 ^ k0) in
      omega arith

-- ---- r, which is q0 * 2 ^ k0 quanta, is nearest where twice the root's power lies between those of twice the middles
module _ (p : ℕ) (x r : Float) (q0 k0 low : ℕ) (value : F64 r) (above_zero : T (positive r)) (is : quanta_of r ≡ q0 * 2 ^ k0) (wide : 2 ^ 52 ≤ q0) where
  pub nearest : twice_root p (quanta_of x) < ((2 * q0 + 1) * 2 ^ k0) ^ p
      → ((Z : ℕ) → OnGrid Z → Z < q0 * 2 ^ k0 → q0 * 2 ^ k0 + Z ≤ low) → low ^ p < twice_root p (quanta_of x) → NearestRoot p x r
  nearest above below under =
      record {
        value = value;
        above_zero = above_zero;
        from_larger = λ m e f l.
            rw is
            (lt_of_lt_of_le above (pow-le-pow_left (sum_above q0 k0 (quanta m e) (grid false m e f) wide (rw is at l)) p));
        from_smaller = λ m e f l.
            rw is
            (lt_of_le_of_lt (pow-le-pow_left (below (quanta m e) (grid false m e f) (rw is at l)) p) under);
      }
