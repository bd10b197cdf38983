-- Signed magnitudes ±a and ±b, of which the two zeros are one number: `Le` is the type that the tests `below` and `level` of lib.Ieee decide. Assumes nothing.
use mathlib.Core.Path.{◌≡◌, sym, ap, ◌∙◌, subst}
use mathlib.Core.Logic.{◌⊎◌, inl, inr, ⊎_elim}
use Prim.Native.Nat.{ℕ, zero, suc, ◌+◌, ◌*◌, ◌≤◌, ◌<◌, zero-le}
use native.Mathlib.Nat.{le_trans, not-le_of_lt, mul-pos, le_of_eq, le_of_lt, eq-or-lt_of_le, zero-mul, eq-zero-or-pos}
use native.Mathlib.Omega.{arith}
use mathlib.Core.Bool.{Bool, true, false, not, ◌&&◌, ◌||◌}
use lib.Dec.{T, ltb, eqb, eqb→eq, ltb→lt, nltb→le, lt→ltb}
use lib.Ieee.{below, level}
use lib.Ieee.Fits.{and_l, and_r, and_i, eq→eqb}
use lib.Ieee.Positive.{through}
use Rattle.float.proofs.Tests.{or_l}

-- ±a ≤ ±b, where a true sign is a minus
abbrev pub Le : Bool → ℕ → Bool → ℕ → Type 0
Le false a false b = a ≤ b
Le false a true b = (a ≡ 0) × (b ≡ 0)
Le true a false b = Unit {0}
Le true a true b = b ≤ a

or_split : (x y : Bool) → T (x || y) → T x ⊎ T y
or_split true y t = inl tt
or_split false y t = inr t

or_r : (x y : Bool) → T y → T (x || y)
or_r true y t = tt
or_r false y t = t

pub le→Le : (s : Bool) (a : ℕ) (t : Bool) (b : ℕ) → T (below s a t b || level s a t b) → Le s a t b
le→Le false a false b h = ⊎_elim (λ u. le_of_lt (ltb→lt a b u)) (λ u. le_of_eq (eqb→eq a b (and_l (eqb a b) true u))) (or_split (ltb a b) (eqb a b && true) h)
le→Le false a true b h =
    let z : a ≡ 0 = eqb→eq a 0 (and_r (eqb a b) (eqb a 0) h) in
    (z, sym (eqb→eq a b (and_l (eqb a b) (eqb a 0) h)) ∙ z)
le→Le true a false b h = tt
le→Le true a true b h = ⊎_elim (λ u. le_of_lt (ltb→lt b a u)) (λ u. le_of_eq (sym (eqb→eq a b (and_l (eqb a b) true u)))) (or_split (ltb b a) (eqb a b && true) h)

pub Le→le : (s : Bool) (a : ℕ) (t : Bool) (b : ℕ) → Le s a t b → T (below s a t b || level s a t b)
Le→le false a false b h =
    ⊎_elim (λ e. or_r (ltb a b) (eqb a b && true) (and_i (eqb a b) true (eq→eqb e) tt)) (λ l. or_l (ltb a b) (eqb a b && true) (lt→ltb a b l)) (eq-or-lt_of_le h)
Le→le false a true b h = and_i (eqb a b) (eqb a 0) (eq→eqb (h.0 ∙ sym h.1)) (eq→eqb h.0)
Le→le true zero false zero h = tt
Le→le true (suc a) false b h = or_l (ltb 0 (suc a + b)) (eqb (suc a) b && eqb (suc a) 0) (lt→ltb 0 (suc a + b) (omega arith))
Le→le true zero false (suc b) h = or_l (ltb 0 (0 + suc b)) (eqb 0 (suc b) && true) (lt→ltb 0 (0 + suc b) (omega arith))
Le→le true a true b h =
    ⊎_elim (λ e. or_r (ltb b a) (eqb a b && true) (and_i (eqb a b) true (eq→eqb (sym e)) tt)) (λ l. or_l (ltb b a) (eqb a b && true) (lt→ltb b a l)) (eq-or-lt_of_le h)

-- ---- one order: ±a / p ≤ ±b / q ≤ ±c / r
pub no_factor : (x k : ℕ) → 0 < k → x * k ≡ 0 → x ≡ 0
no_factor x k K e = elim (eq-zero-or-pos x) [ inl z ↦ z | inr l ↦ absurd (omega (arith, mul-pos l K, e)) ]

pub no_more : (x : ℕ) → x ≤ 0 → x ≡ 0
no_more x h = omega arith

pub no_product : (x k : ℕ) → x ≡ 0 → x * k ≡ 0
no_product x k e = ap (λ (y : ℕ). y * k) e ∙ zero-mul k

pub Le_trans : (s : Bool) (a : ℕ) (t : Bool) (b : ℕ) (u : Bool) (c p q r : ℕ) → 0 < p → 0 < q → 0 < r
    → Le s (a * q) t (b * p) → Le t (b * r) u (c * q) → Le s (a * r) u (c * p)
Le_trans false a false b false c p q r P Q R h k = through a b c p q r Q h k
Le_trans false a false b true c p q r P Q R h k =
    let z : b * p ≡ 0 = no_product b p (no_factor b r R k.0) in
    (no_product a r (no_factor a q Q (no_more (a * q) (subst (λ (y : ℕ). a * q ≤ y) z h))), no_product c p (no_factor c q Q k.1))
Le_trans false a true b false c p q r P Q R h k = le_trans (le_of_eq (no_product a r (no_factor a q Q h.0))) zero-le
Le_trans false a true b true c p q r P Q R h k =
    let z : b * r ≡ 0 = no_product b r (no_factor b p P h.1) in
    (no_product a r (no_factor a q Q h.0), no_product c p (no_factor c q Q (no_more (c * q) (subst (λ (y : ℕ). c * q ≤ y) z k))))
Le_trans true a t b false c p q r P Q R h k = tt
Le_trans true a false b true c p q r P Q R h k = le_trans (le_of_eq (no_product c p (no_factor c q Q k.1))) zero-le
Le_trans true a true b true c p q r P Q R h k = through c b a r q p Q k h

-- ---- the sign turned round
pub Le_neg : (s : Bool) (a : ℕ) (t : Bool) (b : ℕ) → Le s a t b → Le (not t) b (not s) a
Le_neg false a false b h = h
Le_neg false a true b h = (h.1, h.0)
Le_neg true a false b h = tt
Le_neg true a true b h = h

-- ---- one of two is not above the other
pub not_below : (s : Bool) (a : ℕ) (t : Bool) (b : ℕ) → T (not (below s a t b)) → Le t b s a
not_below false a false b h = nltb→le a b h
not_below false a true b h = tt
not_below true a false b h = let z : a + b ≤ 0 = nltb→le 0 (a + b) h in (omega arith, omega arith)
not_below true a true b h = nltb→le b a h

pub below_not : (s : Bool) (a : ℕ) (t : Bool) (b : ℕ) → T (below s a t b) → Le t b s a → ⊥
below_not false a false b h k = not-le_of_lt (ltb→lt a b h) k
below_not false a true b h k = h
below_not true a false b h k = let z : 0 < a + b = ltb→lt 0 (a + b) h in let e = k.0 in let f = k.1 in omega arith
below_not true a true b h k = not-le_of_lt (ltb→lt b a h) k
