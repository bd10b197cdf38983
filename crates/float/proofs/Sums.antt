-- A finite value plus one that is not above zero is never above the value, as computed. Assumes nothing.
use mathlib.Core.Path.{◌≡◌, refl, sym, ap, ◌∙◌, subst, subst₂}
use Prim.Native.Nat.{ℕ, zero, suc, ◌+◌, ◌-◌, ◌*◌, ◌%◌, ◌^◌, ◌≤◌, ◌<◌, zero-le}
use native.Mathlib.Nat.{mul-one, le_of_eq, mul_comm, mul_assoc, mul_right_comm, mul-le-mul_right, mul-lt-mul_of_pos_right, lt_of_mul-lt-mul_right, mul-pos, add-zero, sub-zero, sub-le, le-add_right, zero-mul}
use mathlib.Core.Bool.{Bool, true, false, not, ◌&&◌, cond}
use lib.IntN.{ℤ, pos}
use lib.Dec.{T, ltb, eqb, leb, leb→le, ltb→lt, nltb→le}
use lib.Pow.{pow_pos, pow-add}
use lib.Ieee.{Float, nan, inf, fin, Format, prec, emax, low, up, down, odd, units, round, sum, add, neg, le, fits}
use lib.Ieee.Fits.{down_pos, and_l, and_r, round_is}
use lib.Ieee.Exact.{HasValue, round_exact}
use lib.Ieee.Order.{le_of_values, round_mono}
use lib.Ieee.Scale.{finite}
use borrow.Author.Tests.{le-ltb}
use Rattle.float.specs.Binary64.{negative, plus_zero}
use Rattle.float.proofs.Signed.{no_factor, no_product, no_more}
use Rattle.float.proofs.Order.{le_trans, le_neg, fin_le, le_fin, no_nan_le}
use Rattle.float.proofs.Grid.{place}

-- ---- a rounding with a minus is the rounding without it, turned round, and keeps its sign
odd_neg : (d q k l : ℕ) → odd d true q k l ≡ neg (odd d false q k l)
unfolding odd neg
odd_neg d zero k l = refl
odd_neg d (suc q) k l = refl

units_neg : (f : Format) (q k : ℕ) → units f true q k ≡ neg (units f false q k)
unfolding units neg
units_neg f q k = go (ltb (q * 2 ^ k) (2 ^ (low f + suc (emax f))))
  where
    go : (b : Bool) → cond b (odd (suc (prec f)) true q k (low f)) (inf true) ≡ neg (cond b (odd (suc (prec f)) false q k (low f)) (inf false))
    go true = odd_neg (suc (prec f)) q k (low f)
    go false = refl

pub round_neg : (f : Format) (a c : ℕ) → round f true a c ≡ neg (round f false a c)
round_neg f a c = round_is f true a c ∙ units_neg f _ _ ∙ ap neg (sym (round_is f false a c))

odd_negative : (d : ℕ) (s : Bool) (q k l : ℕ) → negative (odd d s q k l) ≡ s
unfolding odd
odd_negative d s zero k l = refl
odd_negative d s (suc q) k l = refl

units_negative : (f : Format) (s : Bool) (q k : ℕ) → negative (units f s q k) ≡ s
unfolding units
units_negative f s q k = go (ltb (q * 2 ^ k) (2 ^ (low f + suc (emax f))))
  where
    go : (b : Bool) → negative (cond b (odd (suc (prec f)) s q k (low f)) (inf s)) ≡ s
    go true = odd_negative (suc (prec f)) s q k (low f)
    go false = refl

pub round_negative : (f : Format) (s : Bool) (a c : ℕ) → negative (round f s a c) ≡ s
round_negative f s a c = ap negative (round_is f s a c) ∙ units_negative f s _ _

-- ---- a value that the format holds is where `round` changes nothing, whatever factor K the fraction is widened by
exact : (f : Format) (s : Bool) (m : ℕ) (e : ℤ) (K : ℕ) → 0 < K → m < 2 ^ prec f → down e ≤ 2 ^ low f → m * up e < 2 ^ suc (emax f) * down e
    → HasValue (round f s (m * up e * K) (down e * K)) s (m * up e * K) (down e * K)
exact f s m e K P small deep under =
    let l = low f in
    let z = place l e deep in
    let j = z.0 in
    let same : m * up e * 2 ^ l ≡ m * 2 ^ j * down e = mul_assoc m (up e) (2 ^ l) ∙ ap (λ (x : ℕ). m * x) z.1 ∙ sym (mul_assoc m (2 ^ j) (down e)) in
    round_exact f s (m * up e * K) (down e * K) m j (mul-pos (down_pos e) P) small
    (lt_of_mul-lt-mul_right (down e)
    (subst₂ (λ (x y : ℕ). x < y) same (mul_right_comm (2 ^ suc (emax f)) (down e) (2 ^ l) ∙ ap (λ (x : ℕ). x * down e) (mul_comm (2 ^ suc (emax f)) (2 ^ l) ∙ sym (pow-add 2 l (suc (emax f)))))
    (mul-lt-mul_of_pos_right under (pow_pos l))))
    (mul_right_comm (m * up e) K (2 ^ l) ∙ ap (λ (x : ℕ). x * K) same ∙ mul_assoc (m * 2 ^ j) (down e) K)

pub own : (f : Format) (s t : Bool) (m : ℕ) (e : ℤ) (K : ℕ) → 0 < K → T (fits f (fin s m e)) → HasValue (round f t (m * up e * K) (down e * K)) t (m * up e * K) (down e * K)
unfolding fits
own f s t zero e K P h =
    round_exact f t (0 * up e * K) (down e * K) 0 0 (mul-pos (down_pos e) P) (pow_pos (prec f)) (pow_pos (low f + suc (emax f)))
    (simp zero-mul)
own f s t (suc m) e K P h =
    let A = eqb (suc m % 2) 1 in
    let B = ltb (suc m) (2 ^ prec f) in
    let C = leb (down e) (2 ^ low f) in
    let D = ltb (suc m * up e) (2 ^ suc (emax f) * down e) in
    exact f t (suc m) e K P
    (ltb→lt (suc m) (2 ^ prec f) (and_r A B (and_l (A && B) C (and_l (A && B && C) D h))))
    (leb→le (down e) (2 ^ low f) (and_r (A && B) C (and_l (A && B && C) D h)))
    (ltb→lt (suc m * up e) (2 ^ suc (emax f) * down e) (and_r (A && B && C) D h))

size_of_lem : (m : ℕ) (e : ℤ) (K : ℕ) → HasValue (fin false m e) false (m * up e * K) (down e * K)
size_of_lem m e K = (refl, sym (mul_assoc (m * up e) (down e) K) ∙ mul_right_comm (m * up e) (down e) K)

pub own_le : (f : Format) (s : Bool) (m : ℕ) (e : ℤ) (K : ℕ) → 0 < K → T (fits f (fin s m e)) → T (le (round f false (m * up e * K) (down e * K)) (fin false m e))
own_le f s m e K P h =
    le_of_values (round f false (m * up e * K) (down e * K)) (fin false m e) (m * up e * K) (down e * K) (m * up e * K) (down e * K) (mul-pos (down_pos e) P) (mul-pos (down_pos e) P)
    (own f s false m e K P h) (size_of_lem m e K) (le_of_eq refl)

own_ge : (f : Format) (s : Bool) (m : ℕ) (e : ℤ) (K : ℕ) → 0 < K → T (fits f (fin s m e)) → T (le (fin false m e) (round f false (m * up e * K) (down e * K)))
own_ge f s m e K P h =
    le_of_values (fin false m e) (round f false (m * up e * K) (down e * K)) (m * up e * K) (down e * K) (m * up e * K) (down e * K) (mul-pos (down_pos e) P) (mul-pos (down_pos e) P)
    (size_of_lem m e K) (own f s false m e K P h) (le_of_eq refl)

-- ---- the sum
under_plus : (x : Float) (m : ℕ) (e : ℤ) → negative x ≡ true → T (le x (fin false m e))
under_plus nan m e h = absurd (subst T (sym h) tt)
under_plus (inf true) m e h = unfold le in tt
under_plus (inf false) m e h = absurd (subst T (sym h) tt)
under_plus (fin true n d) m e h = fin_le true n d false m e tt
under_plus (fin false n d) m e h = absurd (subst T (sym h) tt)

pub minus_le : (f : Format) (a c m : ℕ) (e : ℤ) → T (le (round f true a c) (fin false m e))
minus_le f a c m e = under_plus (round f true a c) m e (round_negative f true a c)

-- |x| - |y| ≤ |x|
both_minus : (f : Format) (m : ℕ) (e : ℤ) (K B : ℕ) → 0 < K → T (fits f (fin true m e)) → T (le (round f true (m * up e * K + B) (down e * K)) (fin true m e))
unfolding neg
both_minus f m e K B P h =
    let A = m * up e * K in
    let C = down e * K in
    let c : 0 < C = mul-pos (down_pos e) P in
    subst (λ (x : Float). T (le x (fin true m e))) (sym (round_neg f (A + B) C))
    (le_neg (fin false m e) (round f false (A + B) C)
    (le_trans (fin false m e) (round f false A C) (round f false (A + B) C) (own_ge f true m e K P h) (round_mono f A C (A + B) C c c (mul-le-mul_right C (le-add_right A B)))))

-- |x| - |y| ≤ |x|
plus_minus : (f : Format) (m : ℕ) (e : ℤ) (K B : ℕ) → 0 < K → T (fits f (fin false m e)) → T (le (round f false (m * up e * K - B) (down e * K)) (fin false m e))
plus_minus f m e K B P h =
    let A = m * up e * K in
    let C = down e * K in
    let c : 0 < C = mul-pos (down_pos e) P in
    le_trans (round f false (A - B) C) (round f false A C) (fin false m e) (round_mono f (A - B) C A C c c (mul-le-mul_right C (sub-le A B))) (own_le f false m e K P h)

-- -0 + 0 is +0, which is not above -0
zeros : (f : Format) (m : ℕ) (e : ℤ) (K : ℕ) → 0 < K → T (fits f (fin true m e)) → m * up e * K ≡ 0 → T (le (round f false (m * up e * K) (down e * K)) (fin true m e))
zeros f m e K P h z =
    let a : m * up e * down e ≡ 0 = no_product (m * up e) (down e) (no_factor (m * up e) K P z) in
    le_trans (round f false (m * up e * K) (down e * K)) (fin false m e) (fin true m e) (own_le f true m e K P h) (fin_le false m e true m e (a, a))

sum_le : (f : Format) (s : Bool) (m : ℕ) (e : ℤ) (t : Bool) (K B : ℕ) → 0 < K → T (fits f (fin s m e)) → (T (not t) → B ≡ 0) → T (le (sum f s (m * up e * K) t B (down e * K)) (fin s m e))
unfolding sum
sum_le f true m e true K B P h z = both_minus f m e K B P h
sum_le f false m e true K B P h z = go (ltb (m * up e * K) B)
  where
    go : (b : Bool) → T (le (cond b (round f true (B - m * up e * K) (down e * K)) (round f false (m * up e * K - B) (down e * K))) (fin false m e))
    go true = minus_le f (B - m * up e * K) (down e * K) m e
    go false = plus_minus f m e K B P h
sum_le f false m e false K B P h z =
    rw (z tt, add-zero) (own_le f false m e K P h)
sum_le f true m e false K B P h z =
    rw (z tt, le-ltb (m * up e * K) 0 zero-le, sub-zero) (go (ltb 0 (m * up e * K)) (nltb→le 0 (m * up e * K)))
  where
    go : (b : Bool) → (T (not b) → m * up e * K ≤ 0) → T (le (round f b (m * up e * K) (down e * K)) (fin true m e))
    go true k = rw add-zero at (both_minus f m e K 0 P h)
    go false k = zeros f m e K P h (no_more (m * up e * K) (k tt))

no_inf_le_zero : T (le (inf false) plus_zero) → ⊥
no_inf_le_zero t = unfold le in t

pub added_le : (f : Format) (x y : Float) → T (finite x) → T (fits f x) → T (le y plus_zero) → T (le (add f x y) x)
unfolding add
added_le f nan y i h k = absurd i
added_le f (inf s) y i h k = absurd i
added_le f (fin s m e) nan i h k = absurd (no_nan_le plus_zero k)
added_le f (fin s m e) (inf true) i h k = unfold le in tt
added_le f (fin s m e) (inf false) i h k = absurd (no_inf_le_zero k)
added_le f (fin s m e) (fin true n d) i h k = sum_le f s m e true (down d) (n * up d * down e) (down_pos d) h (λ t. absurd t)
added_le f (fin s m e) (fin false n d) i h k =
    sum_le f s m e false (down d) (n * up d * down e) (down_pos d) h
    (λ t. no_product (n * up d) (down e) (no_more (n * up d) (subst₂ (λ (a b : ℕ). a ≤ b) (mul-one (n * up d)) (zero-mul (down d)) (le_fin false n d false 0 (pos 0) k))))
