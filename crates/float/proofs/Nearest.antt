-- `sqrt_of` is IEEE 754's square root, and the difference factor is the cube root that 01 names; no other value is: `roots`. Assumes nothing.
use mathlib.Core.Path.{◌≡◌, refl, sym, ap, ◌∙◌, subst}
use Prim.Native.Nat.{ℕ, zero, suc, ◌+◌, ◌-◌, ◌*◌, ◌/◌, ◌%◌, ◌^◌, ◌≤◌, ◌<◌}
use native.Mathlib.Nat.{le_trans, le_of_eq, lt_of_le_of_lt, lt_of_lt_of_le, lt_of_not-le, lt_irrefl, lt_trans, mul_assoc, mul_comm, mul-pos, mul-mul-mul_comm, mul-le-mul_right, mul-lt-mul_of_pos_right, pow-suc, pow-zero, pow-le-pow_left, pow-lt-pow_left, one-mul, add_comm, eq-zero-or-pos}
use native.Mathlib.Decide.{dec_le, ℕ_discrete}
use native.Mathlib.Omega.{arith}
use mathlib.Core.Bool.{true, false}
use mathlib.Core.Logic.{inl, inr}
use lib.IntN.{ℤ, negsuc}
use lib.Dec.{T, lit<, lit≤}
use lib.Pow.{pow_pos, pow-add}
use lib.Ieee.{Float, nan, inf, fin, binary64, odd, fits, to_bits}
use lib.Ieee.Exact.{odd_sign}
use lib.Ieee.Positive.{positive, positive_of_value}
use lib.Ieee.Bits.{of_bits-fits}
use Rattle.float.specs.Binary64.{F64, bits}
use Rattle.float.specs.Roots.{quanta, quanta_of, twice_root, NearestRoot, SquareRoot, CubeRoot, difference_factor}
use Rattle.float.specs.Sqrt.{IntegerRoot, isqrt, root_of, sqrt_of, quanta_of_bits, FullWidth}
use Rattle.float.specs.Laws.{RootsAreNearest}
use Rattle.float.proofs.Bits.{bare_lt, zero_bits}
use Rattle.float.proofs.Ranks.{placed, bits_are, one_value}
use Rattle.float.proofs.IntegerRoots.{next_square, twice_square}
use Rattle.float.proofs.Widths.{made, full_low, full_high}
use Rattle.float.proofs.Quanta.{quanta_of_lem, quanta_odd}
use Rattle.float.proofs.Rounded.{square, digits, radicand, scaled, own_root, whole, r_low, made_bits, as_odd, result_is}
use Rattle.float.proofs.Grid.{exact, sum_below, nearest}

pow_two : (a : ℕ) → a ^ 2 ≡ a * a
pow_two a = pow-suc a 1 ∙ ap (λ (x : ℕ). x * a) (pow-suc a 0 ∙ ap (λ (x : ℕ). x * a) (pow-zero a) ∙ one-mul a)

squares : (a U : ℕ) → (a * U) ^ 2 ≡ a * a * (U * U)
squares a U = pow_two (a * U) ∙ mul-mul-mul_comm a U a U

-- ---- the square root of the bits b
module _ (b m e : ℕ) (f : FullWidth b m e) where
  abbrev r : ℕ
  r = isqrt 54 (m * 2 ^ (6 + e % 2) % 2 ^ 64 * 2 ^ 48)

  abbrev N : ℕ
  N = radicand b m e f

  abbrev Q : ℕ
  Q = (r + 1) / 2

  abbrev U : ℕ
  U = 2 ^ (e / 2 - 1)

  root_of_N : IntegerRoot N r
  root_of_N = whole b m e f r (own_root b m e f)

  at_least : 2 ^ 53 ≤ r
  at_least = r_low b m e f r (own_root b m e f)

  is_root : bits (made_bits b m e f r (own_root b m e f)) ≡ root_of (quanta_of_bits b)
  is_root = result_is b m e f r (own_root b m e f)

  as_digits : root_of (quanta_of_bits b) ≡ odd 53 false Q (e / 2 - 1) 1074
  as_digits = sym is_root ∙ as_odd b m e f r (own_root b m e f)

  in_quanta : quanta_of (root_of (quanta_of_bits b)) ≡ Q * U
  in_quanta = ap quanta_of as_digits ∙ quanta_odd 53 false Q (e / 2 - 1)

  held : F64 (root_of (quanta_of_bits b))
  held = subst F64 is_root (of_bits-fits binary64 (made_bits b m e f r (own_root b m e f)))

  above_zero : T (positive (root_of (quanta_of_bits b)))
  above_zero =
      subst (λ (y : Float). T (positive y)) (sym as_digits)
      (positive_of_value (odd 53 false Q (e / 2 - 1) 1074) (Q * U) (2 ^ 1074) (odd_sign 53 false Q (e / 2 - 1) 1074) (mul-pos (omega (arith, at_least)) (pow_pos (e / 2 - 1))))

  -- the power of twice the root
  power : twice_root 2 (quanta_of_bits b) ≡ N * (U * U)
  power =
      let n = quanta_of_bits b in
      let d = digits b m e f in
      sym (mul_assoc 4 n (2 ^ 1074))
      ∙ ap (λ (x : ℕ). x * 2 ^ 1074) (mul_comm 4 n)
      ∙ mul_assoc n 4 (2 ^ 1074)
      ∙ sym (mul_assoc n (4 ^ 54) (2 ^ 968))
      ∙ ap (λ (x : ℕ). x * 2 ^ 968) (scaled b m e f)
      ∙ mul_assoc N (4 ^ d) (2 ^ 968)
      ∙ ap (λ (x : ℕ). N * x) (ap (λ (x : ℕ). x * 2 ^ 968) (square d ∙ made d d (d + d) refl) ∙ made (d + d) 968 (e / 2 - 1 + (e / 2 - 1)) (omega (arith, f.from)) ∙ pow-add 2 (e / 2 - 1) (e / 2 - 1))

  UU : 0 < U * U
  UU = mul-pos (pow_pos (e / 2 - 1)) (pow_pos (e / 2 - 1))

  larger : twice_root 2 (quanta_of_bits b) < ((2 * Q + 1) * U) ^ 2
  larger =
      lt_of_le_of_lt (le_of_eq power)
      (lt_of_lt_of_le (mul-lt-mul_of_pos_right root_of_N.most UU)
      (le_trans (le_of_eq (sym (squares (r + 1) U))) (pow-le-pow_left (mul-le-mul_right U (omega arith)) 2)))

  -- a root of 54 digits that ends in 1 is not exact: its square is odd, and N is even
  not_exact : (k : ℕ) → r ≡ k * 2 + 1 → r * r < N
  not_exact k odd_r =
      let sq : r * r ≡ k * k * 4 + k * 2 * 2 + 1 = ap (λ (x : ℕ). x * x) odd_r ∙ next_square (k * 2) ∙ ap (λ (x : ℕ). x + k * 2 * 2 + 1) (twice_square k) in
      let least = root_of_N.least in
      omega arith

  smaller : (x : Float) → quanta_of x ≡ quanta_of_bits b → NearestRoot 2 x (root_of (quanta_of_bits b))
  smaller x u = elim (dec_le (Q + Q) r) [
    | yes y ↦
        let even_r : r ≡ 2 * Q = omega arith in
        nearest 2 x (root_of (quanta_of_bits b)) Q (e / 2 - 1) (2 * (Q * U) - 1) held above_zero in_quanta (omega (arith, at_least)) (rw u larger)
        (λ Z g l. omega arith)
        (rw u
        (lt_of_lt_of_le (pow-lt-pow_left (less (Q * U) (mul-pos (omega (arith, at_least)) (pow_pos (e / 2 - 1)))) (λ z. omega arith))
        (le_trans (le_of_eq (ap (λ (k : ℕ). k ^ 2) (sym (mul_assoc 2 Q U) ∙ ap (λ (k : ℕ). k * U) (sym even_r)) ∙ squares r U))
        (le_trans (mul-le-mul_right (U * U) root_of_N.least) (le_of_eq (sym power))))))
    | no n ↦
        let short : r < Q + Q = lt_of_not-le n in
        let odd_r : r ≡ 2 * Q - 1 = omega arith in
        nearest 2 x (root_of (quanta_of_bits b)) Q (e / 2 - 1) ((2 * Q - 1) * U) held above_zero in_quanta (omega (arith, at_least)) (rw u larger)
        (λ Z g l. sum_below Q (e / 2 - 1) Z g (omega (arith, at_least)) l)
        (rw u
        (lt_of_le_of_lt (le_of_eq (ap (λ (k : ℕ). (k * U) ^ 2) (sym odd_r) ∙ squares r U))
        (lt_of_lt_of_le (mul-lt-mul_of_pos_right (not_exact (Q - 1) (omega arith)) UU) (le_of_eq (sym power)))))
  ]
    where
      less : (k : ℕ) → 0 < k → 2 * k - 1 < 2 * k
      less k h = omega arith

parts_of : (b : ℕ) → 0 < b → b < 0x7ff0_0000_0000_0000 → (m : ℕ) × (e : ℕ) × FullWidth b m e
parts_of b h l = elim (ℕ_discrete (b / 2 ^ 52) 0) [ yes y ↦ (_, _, full_low b h y) | no n ↦ (_, _, full_high b n l) ]

of_bits : (b : ℕ) → 0 < b → b < 0x7ff0_0000_0000_0000 → (x : Float) → quanta_of x ≡ quanta_of_bits b → NearestRoot 2 x (root_of (quanta_of x))
of_bits b h l x u = let p = parts_of b h l in subst (λ (n : ℕ). NearestRoot 2 x (root_of n)) (sym u) (smaller b p.0 p.1 p.2 x u)

positive_square : (m : ℕ) (e : ℤ) → F64 (fin false (suc m) e) → NearestRoot 2 (fin false (suc m) e) (root_of (quanta (suc m) e))
positive_square m e f =
    let x = fin false (suc m) e in
    let l = bare_lt (suc m) e f in
    let h : 0 < to_bits binary64 x = elim (eq-zero-or-pos (to_bits binary64 x)) [ inl z ↦ absurd (omega (arith, zero_bits (suc m) e f z)) | inr k ↦ k ] in
    of_bits (to_bits binary64 x) h l x (quanta_of_lem x f l)

square_root : (x : Float) → F64 x → SquareRoot x (sqrt_of x)
unfolding sqrt_of
square_root nan f = refl
square_root (inf true) f = refl
square_root (inf false) f = refl
square_root (fin s zero e) f = refl
square_root (fin true (suc m) e) f = refl
square_root (fin false (suc m) e) f = positive_square m e f

-- ---- no two values are nearest
no_less : (p : ℕ) (x : Float) (m : ℕ) (e : ℤ) (n : ℕ) (d : ℤ) → NearestRoot p x (fin false m e) → NearestRoot p x (fin false n d) → quanta m e < quanta n d → ⊥
no_less p x m e n d a b l =
    lt_irrefl (twice_root p (quanta_of x))
    (lt_trans (a.from_larger n d b.value l) (subst (λ (k : ℕ). k ^ p < twice_root p (quanta_of x)) (add_comm (quanta n d) (quanta m e)) (b.from_smaller m e a.value l)))

one_nearest : (p : ℕ) (x : Float) (m : ℕ) (e : ℤ) (n : ℕ) (d : ℤ) → NearestRoot p x (fin false m e) → NearestRoot p x (fin false n d) → fin false m e ≡ fin false n d
one_nearest p x m e n d a b =
    let le : quanta m e ≤ quanta n d = le_of_not_lt (quanta n d) (quanta m e) (λ l. no_less p x n d m e b a l) in
    let ge : quanta n d ≤ quanta m e = le_of_not_lt (quanta m e) (quanta n d) (λ l. no_less p x m e n d a b l) in
    let same : quanta m e ≡ quanta n d = omega arith in
    one_value (fin false m e) (fin false n d) a.value b.value (bits_are m e ∙ ap placed same ∙ sym (bits_are n d))
  where
    le_of_not_lt : (a b : ℕ) → (a < b → ⊥) → b ≤ a
    le_of_not_lt a b h = let k : b < suc a = lt_of_not-le h in omega arith

only_nearest : (p : ℕ) (x r s : Float) → NearestRoot p x r → NearestRoot p x s → r ≡ s
only_nearest p x nan s a b = absurd a.above_zero
only_nearest p x (inf t) s a b = absurd a.above_zero
only_nearest p x (fin true m e) s a b = absurd a.above_zero
only_nearest p x (fin false m e) nan a b = absurd b.above_zero
only_nearest p x (fin false m e) (inf t) a b = absurd b.above_zero
only_nearest p x (fin false m e) (fin true n d) a b = absurd b.above_zero
only_nearest p x (fin false m e) (fin false n d) a b = one_nearest p x m e n d a b

only_square : (x r : Float) → F64 x → SquareRoot x r → r ≡ sqrt_of x
unfolding sqrt_of
only_square nan r f h = h
only_square (inf true) r f h = h
only_square (inf false) r f h = h
only_square (fin s zero e) r f h = h
only_square (fin true (suc m) e) r f h = h
only_square (fin false (suc m) e) r f h = only_nearest 2 (fin false (suc m) e) r (root_of (quanta (suc m) e)) h (positive_square m e f)

-- ---- the difference factor, by the cubes of 2 q - 1 and 2 q + 1
factor_held : F64 difference_factor
unfolding fits
factor_held = tt

cube_root : CubeRoot difference_factor
cube_root =
    nearest 3 (fin false 1 (negsuc 51)) difference_factor 7149018786131517 1004 ((2 * 7149018786131517 - 1) * 2 ^ 1004) factor_held tt refl (lit≤ tt) (lit< tt)
    (λ Z g l. sum_below 7149018786131517 1004 Z g (lit< tt) l)
    (lit< tt)

pub roots : RootsAreNearest
roots = record { exact = exact; square = square_root; only_square = only_square; cube = cube_root; only_cube = λ r h. only_nearest 3 (fin false 1 (negsuc 51)) r difference_factor h cube_root }
