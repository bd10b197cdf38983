-- Correctly rounded roots, as IEEE 754-2019 has them (4.3.1 and 5.4.1): the value of binary64 nearest to the exact root. Definitions and statements only.
-- There are no real numbers here, so all goes by powers of whole numbers.
use Rattle.std.specs.Prelude.{ℕ, zero, suc, ◌+◌, ◌-◌, ◌*◌, ◌/◌, ◌^◌, ◌<◌, ◌≡◌, true, false, ℤ, negsuc, Float, T}
use Rattle.std.specs.Float.{nan, inf, fin}
use Rattle.std.specs.Float.Ieee.{up, down}
use Rattle.std.specs.Float.Ieee.Positive.{positive}
use Rattle.float.specs.Binary64.{F64}

-- The magnitude of m * 2 ^ e in quanta of 2 ^ -1074: every finite value of binary64 is a whole number of them (IEEE 754: a value's quantum is
-- a unit in the last place of its significand, and this is the smallest)
abbrev pub quanta : ℕ → ℤ → ℕ
quanta m e = m * up e * 2 ^ 1074 / down e

-- the same of a value
abbrev pub quanta_of : Float → ℕ
quanta_of nan = 0
quanta_of (inf s) = 0
quanta_of (fin s m e) = quanta m e

-- (2 Y) ^ p, where the p-th root of X quanta is Y quanta: Y ^ p is X * 2 ^ (1074 (p - 1))
abbrev pub twice_root : ℕ → ℕ → ℕ
twice_root p X = 2 ^ p * (X * 2 ^ (1074 * (p - 1)))

-- r is the value of binary64 nearest to the exact p-th root of x, a finite number above zero.
-- In quanta x is X, r is R, and any other value that is not below zero, z = m * 2 ^ e, is Z. The root Y is nearer to R than to Z where it lies on R's
-- side of their middle: 2 Y < R + Z where R < Z, and R + Z < 2 Y where Z < R. Both are said of p-th powers. Both are strict, so no value is as
-- near as r, and no tie is left to be broken. A value below zero is farther from Y than +0 is.
pub record NearestRoot (p : ℕ) (x r : Float) : Type 0 where
  pub value : F64 r
  pub above_zero : T (positive r)
  pub from_larger : (m : ℕ) (e : ℤ) → F64 (fin false m e) → quanta_of r < quanta m e → twice_root p (quanta_of x) < (quanta_of r + quanta m e) ^ p
  pub from_smaller : (m : ℕ) (e : ℤ) → F64 (fin false m e) → quanta m e < quanta_of r → (quanta_of r + quanta m e) ^ p < twice_root p (quanta_of x)

-- squareRoot(x) is r: a NaN for a NaN, for -infinity and below zero (7.2), a zero for itself (6.3), +infinity for itself (6.1)
abbrev pub SquareRoot : Float → Float → Type 0
SquareRoot nan r = r ≡ nan
SquareRoot (inf true) r = r ≡ nan
SquareRoot (inf false) r = r ≡ inf false
SquareRoot (fin s zero e) r = r ≡ fin s zero e
SquareRoot (fin true (suc m) e) r = r ≡ nan
SquareRoot (fin false (suc m) e) r = NearestRoot 2 (fin false (suc m) e) r

-- r is "the f64 nearest the cube root of 2^-52, defined by cubes of whole numbers" (01)
abbrev pub CubeRoot : Float → Type 0
CubeRoot r = NearestRoot 3 (fin false 1 (negsuc 51)) r

-- c, the factor of the difference step: 7149018786131517 * 2 ^ -70
abbrev pub difference_factor : Float
difference_factor = fin false 7149018786131517 (negsuc 69)
