-- The square root as a definition that computes. That it is IEEE 754's is `roots` of proofs/Nearest.antt. Definitions only.
-- A finite value above zero is n quanta of 2 ^ -1074, and its root is that of n / 4 ^ 537. With p digits of n to the base 4, n * 4 ^ 54 / 4 ^ p has 54 of them,
-- with nothing left over, since binary64 holds n. Its integer root has 54 binary digits: the 53 that are kept, and one by which they are rounded.
use Rattle.std.specs.Prelude.{ℕ, zero, suc, ◌+◌, ◌-◌, ◌*◌, ◌/◌, ◌%◌, ◌^◌, ◌≤◌, ◌<◌, ◌≡◌, true, false, cond, leb, ltb, Float}
use Rattle.std.specs.Float.{nan, inf, fin}
use Rattle.std.specs.Float.Ieee.{size, odd}
use Rattle.float.specs.Roots.{quanta}

-- r is the integer square root of n
pub record IntegerRoot (n r : ℕ) : Type 0 where
  pub least : r * r ≤ n
  pub most : n < (r + 1) * (r + 1)

-- the integer square root of an n below 4 ^ k: twice that of n / 4, or one more
unfoldable pub isqrt : ℕ → ℕ → ℕ
isqrt zero n = 0
isqrt (suc k) n = let r = isqrt k (n / 4) * 2 in cond (leb ((r + 1) * (r + 1)) n) (r + 1) r

-- how many digits n has to the base 4
abbrev pub quads : ℕ → ℕ
quads n = (size n + 1) / 2

-- the 53 digits of the root of n, which has p digits to the base 4
abbrev pub root_digits : ℕ → ℕ → ℕ
root_digits n p = (isqrt 54 (n * 4 ^ 54 / 4 ^ p) + 1) / 2

-- the root of n quanta, as a value
unfoldable pub root_of : ℕ → Float
unfolding isqrt size odd
root_of n = odd 53 false (root_digits n (quads n)) (quads n + 484) 1074

-- `f64::sqrt`
unfoldable pub sqrt_of : Float → Float
unfolding root_of
sqrt_of nan = nan
sqrt_of (inf true) = nan
sqrt_of (inf false) = inf false
sqrt_of (fin s zero e) = fin s zero e
sqrt_of (fin true (suc m) e) = nan
sqrt_of (fin false (suc m) e) = root_of (quanta (suc m) e)

-- ---- what the parts of the code show of each other

-- the guess at the root of w, a number of 59 or 60 binary digits
abbrev pub guess_of : ℕ → ℕ
guess_of w = 278_750_000 + w / 2 ^ 44 * (1_100_000 - w / 2 ^ 44 * 5) / 64

-- r, of at most 32 binary digits, is not below the integer square root of n
pub record NotBelowRoot (n r : ℕ) : Type 0 where
  pub small : r < 2 ^ 32
  pub most : n < (r + 1) * (r + 1)

-- how many quanta the bits b of a finite value that is not negative stand for
abbrev pub quanta_of_bits : ℕ → ℕ
quanta_of_bits b = cond (ltb b (2 ^ 52)) b ((2 ^ 52 + b % 2 ^ 52) * 2 ^ (b / 2 ^ 52 - 1))

-- the bits b stand for m * 2 ^ (e - 1024) quanta, with a significand m of full width
pub record FullWidth (b m e : ℕ) : Type 0 where
  pub least : 2 ^ 52 ≤ m
  pub most : m < 2 ^ 53
  pub from : 972 ≤ e
  pub to : e < 3070
  pub same : quanta_of_bits b * 2 ^ 1024 ≡ m * 2 ^ e
