-- Integer roots: Newton's step, what `integer_root` makes of the root of a word, and that the definition `isqrt` is one. Assumes nothing.
use mathlib.Core.Path.{◌≡◌, ap, ◌∙◌, subst}
use Prim.Native.Nat.{ℕ, zero, suc, ◌+◌, ◌-◌, ◌*◌, ◌/◌, ◌%◌, ◌^◌, ◌≤◌, ◌<◌, zero-le}
use native.Mathlib.Nat.{le_of_lt, le_antisymm, le_of_suc-le-suc, lt_of_not-le, mul_assoc, mul-one, one-mul, mul_comm, mul-add, add-mul, mul-mul-mul_comm, mul-le-mul, le_of_mul-le-mul_right, lt-mul-div-succ, div-add-mod', div-lt_iff_lt-mul, mod-lt, mod-eq_of_lt, pow-suc}
use native.Mathlib.Decide.{dec_le}
use native.Mathlib.Omega.{arith}
use mathlib.Core.Bool.{Bool, true, false, not, cond}
use lib.Dec.{T, leb, leb→le, nleb→lt}
use lib.Pow.{pow_pos}
use Rattle.float.specs.Sqrt.{IntegerRoot, NotBelowRoot, isqrt}

pub twice_square : (r : ℕ) → r * 2 * (r * 2) ≡ r * r * 4
twice_square r = mul-mul-mul_comm r 2 r 2

pub next_square : (a : ℕ) → (a + 1) * (a + 1) ≡ a * a + a * 2 + 1
next_square a = add-mul a 1 (a + 1) ∙ ap (λ (k : ℕ). k + 1 * (a + 1)) (mul-add a a 1) ∙ omega (arith, one-mul (a + 1), mul-one a)

-- what is not below the root of n is not below any number whose square is at most n
pub not_below : (n h r : ℕ) → h * h ≤ n → n < (r + 1) * (r + 1) → h ≤ r
not_below n h r l m = le_of_suc-le-suc (lt_of_not-le (λ (g : suc r ≤ h). no g))
  where
    no : suc r ≤ h → ⊥
    no g = omega (arith, mul-le-mul {n₁ = r + 1} {m₁ = r + 1} {n₂ = h} {m₂ = h} (omega arith) (omega arith))

-- ---- Newton's step: half of g + n / g, rounded down, is not below the root, since twice a product is at most the sum of the squares
twice_product : (a b : ℕ) → a * b + a * b ≤ a * a + b * b
twice_product a b = elim (dec_le a b) [ yes h ↦ up a b h | no n ↦ omega (arith, up b a (le_of_lt (lt_of_not-le n)), mul_comm a b) ]
  where
    up : (a b : ℕ) → a ≤ b → a * b + a * b ≤ a * a + b * b
    up a b h =
        let d = b - a in
        let e : b ≡ a + d = omega arith in
        rw e (omega (arith, mul-add a a d, add-mul a d (a + d), mul-add d a d, mul_comm d a))

mean : (n g m : ℕ) → 0 < g → g + n / g < m + m → n < m * m
mean n g m p h =
    let q = n / g in
    omega (arith, lt-mul-div-succ n p, mul-add g q 1, mul-one g, mul-add g g (q + 1), mul-add g m m, mul_comm g m, twice_product g m, mul-le-mul {n₁ = g} {m₁ = g + (q + 1)} {n₂ = g} {m₂ = m + m} (omega arith) (omega arith))

pub stepped : {n r : ℕ} (g : ℕ) → 0 < g → g + n / g < r * 2 + 2 → r < 2 ^ 32 → NotBelowRoot n r
stepped {n} {r} g p h l = record { small = l; most = mean n g (r + 1) p (omega arith) }

pub quotient_small : (n g : ℕ) → n < 2 ^ 60 → 2 ^ 28 ≤ g → n / g < 2 ^ 32
quotient_small n g l h = (div-lt_iff_lt-mul {k = g} {x = n} {y = 2 ^ 32} (omega arith)).1 (omega (arith, mul-le-mul {n₁ = 2 ^ 32} {m₁ = 2 ^ 28} {n₂ = 2 ^ 32} {m₂ = g} (omega arith) h))

-- ---- what `integer_root` makes of the root s of a word w
pub record WordRoot (w s : ℕ) : Type 0 where
  pub wide : 2 ^ 58 ≤ w
  pub fits : w < 2 ^ 60
  pub root : IntegerRoot w s

module _ {w s : ℕ} (h : WordRoot w s) where
  pub s_least : 2 ^ 29 ≤ s
  s_least = not_below w (2 ^ 29) s h.wide h.root.most

  pub s_most : s ≤ 2 ^ 30 - 1
  s_most = not_below w s (2 ^ 30 - 1) h.root.least h.fits

  over : w - s * s ≤ s * 2
  over = omega (arith, h.root.most, next_square s)

  abbrev rest : ℕ
  rest = (w - s * s) * 2 ^ 23 % 2 ^ 64

  kept : rest ≡ (w - s * s) * 2 ^ 23
  kept = omega (arith, over, s_most)

  parted : rest / s * s + rest % s ≡ rest
  parted = div-add-mod' rest s

  left : rest % s < s
  left = mod-lt rest (omega (arith, s_least))

  pub q_most : rest / s ≤ 2 ^ 24
  q_most = le_of_mul-le-mul_right {m = rest / s} {n = 2 ^ 24} {k = s} (omega (arith, parted, kept, over)) (omega (arith, s_least))

  pub q_square : rest / s * (rest / s) ≤ 2 ^ 48
  q_square = mul-le-mul {n₁ = rest / s} {m₁ = rest / s} {n₂ = 2 ^ 24} {m₂ = 2 ^ 24} q_most q_most

  abbrev joined : ℕ
  joined = s * 2 ^ 24 % 2 ^ 64 + rest / s

  pub raised : s * 2 ^ 24 % 2 ^ 64 ≡ s * 2 ^ 24
  raised = mod-eq_of_lt (omega (arith, s_most))

  -- the square of s * 2 ^ 24 + q
  square : joined * joined ≡ s * s * 2 ^ 48 + rest / s * s * 2 ^ 25 + rest / s * (rest / s)
  square =
      let q = rest / s in
      let a = s * 2 ^ 24 in
      ap (λ (x : ℕ). (x + q) * (x + q)) raised ∙ omega (arith, add-mul a q (a + q), mul-add a a q, mul-add q a q, mul_comm a q, mul_assoc q s (2 ^ 24), mul-mul-mul_comm s (2 ^ 24) s (2 ^ 24))

  -- what it leaves of the number under the root
  balance : joined * joined + rest % s * 2 ^ 25 ≡ w * 2 ^ 48 + rest / s * (rest / s)
  balance = omega (arith, square, parted, kept, h.root.least)

  pub lifted : rest % s * 2 ^ 25 % 2 ^ 64 ≡ rest % s * 2 ^ 25
  lifted = mod-eq_of_lt (omega (arith, left, s_most))

  pub all_digits : rest / s * (rest / s) ≤ rest % s * 2 ^ 25 → IntegerRoot (w * 2 ^ 48) joined
  all_digits l = record { least = omega (arith, balance); most = omega (arith, balance, left, raised, next_square joined) }

  pub one_less : rest % s * 2 ^ 25 < rest / s * (rest / s) → IntegerRoot (w * 2 ^ 48) (joined - 1)
  one_less l =
      let k = joined - 1 in
      let e : k + 1 ≡ joined = omega (arith, s_least, raised) in
      let again : (k + 1) * (k + 1) ≡ joined * joined = ap (λ (x : ℕ). x * x) e in
      record { least = omega (arith, balance, q_square, s_least, raised, next_square k); most = omega (arith, balance) }

-- ---- the definition `isqrt` is the integer root, and there is only one
pub isqrt_is : (k n : ℕ) → n < 4 ^ k → IntegerRoot n (isqrt k n)
unfolding isqrt
isqrt_is zero n h = record { least = zero-le; most = h }
isqrt_is (suc k) n h = go (isqrt k (n / 4)) (isqrt_is k (n / 4) ((div-lt_iff_lt-mul (pow_pos 2)).1 (subst (λ (x : ℕ). n < x) (pow-suc 4 k) h)))
  where
    go : (q : ℕ) → IntegerRoot (n / 4) q → IntegerRoot n (cond (leb ((q * 2 + 1) * (q * 2 + 1)) n) (q * 2 + 1) (q * 2))
    go q r = pick (leb ((q * 2 + 1) * (q * 2 + 1)) n) (leb→le ((q * 2 + 1) * (q * 2 + 1)) n) (nleb→lt ((q * 2 + 1) * (q * 2 + 1)) n)
      where
        pick : (b : Bool) → (T b → (q * 2 + 1) * (q * 2 + 1) ≤ n) → (T (not b) → n < (q * 2 + 1) * (q * 2 + 1)) → IntegerRoot n (cond b (q * 2 + 1) (q * 2))
        pick true y z = record { least = y tt; most = omega (arith, r.most, next_square q, next_square (q * 2 + 1), next_square (q * 2), twice_square q) }
        pick false y z = record { least = omega (arith, r.least, twice_square q); most = z tt }

pub only_root : (n a b : ℕ) → IntegerRoot n a → IntegerRoot n b → a ≡ b
only_root n a b x y = le_antisymm (not_below n a b x.least y.most) (not_below n b a y.least x.most)
