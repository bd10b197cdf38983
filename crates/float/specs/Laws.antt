-- The laws of order and of rounding that later proofs cite. Statements only; each is proved under its record's name in proofs/.
use Rattle.std.specs.Prelude.{ℕ, ◌*◌, ◌^◌, ◌≡◌, Bool, ◌⊎◌, T, ℤ, Float}
use Rattle.std.specs.Float.{fin}
use Rattle.std.specs.Float.Ieee.{up, down, lt, le, neg}
use Rattle.float.specs.Binary64.{F64, Number, NotAbove, ◌⊕◌, ◌⊖◌, ◌⊗◌, ◌⊘◌, plus_zero}
use Rattle.float.specs.Values.{Finite, abs_of, signum_of, max_of, min_of}
use Rattle.float.specs.Roots.{quanta, SquareRoot, CubeRoot, difference_factor}
use Rattle.float.specs.Sqrt.{sqrt_of}

-- `<` and `<=` on all values, NaN among them
pub record OrderLaws : Type 0 where
  pub le_trans : (x y z : Float) → T (le x y) → T (le y z) → T (le x z)
  pub lt_trans : (x y z : Float) → T (lt x y) → T (lt y z) → T (lt x z)
  pub lt_le_trans : (x y z : Float) → T (lt x y) → T (le y z) → T (lt x z)
  pub le_lt_trans : (x y z : Float) → T (le x y) → T (lt y z) → T (lt x z)
  pub lt_irreflexive : (x : Float) → T (lt x x) → ⊥
  pub lt_excludes : (x y : Float) → T (lt x y) → T (le y x) → ⊥
  pub total : (x y : Float) → Number x → Number y → T (lt x y) ⊎ T (le y x)
  pub not_above_trans : (x y z : Float) → Number y → NotAbove x y → NotAbove y z → NotAbove x z

-- sums and products by their signs, as computed
pub record SignLaws : Type 0 where
  -- what is not below zero times what is not above zero is not above zero; a NaN is neither below nor above
  pub product_not_above : (x y : Float) → NotAbove plus_zero x → NotAbove y plus_zero → NotAbove (x ⊗ y) plus_zero
  pub product_not_below : (x y : Float) → NotAbove plus_zero x → NotAbove plus_zero y → NotAbove plus_zero (x ⊗ y)
  -- a finite f0 plus what is not above zero never exceeds f0
  pub sum_not_above : (f0 y : Float) → Finite f0 → F64 f0 → NotAbove y plus_zero → NotAbove (f0 ⊕ y) f0
  pub sum_le : (f0 y : Float) → Finite f0 → F64 f0 → T (le y plus_zero) → T (le (f0 ⊕ y) f0)

-- 01: "f <= f0 + c1·a·slope0, as computed": where it holds, f <= f0
abbrev pub ArmijoNeverRises : Type 0
ArmijoNeverRises =
    (f f0 c1 a slope : Float) → Finite f0 → F64 f0 → NotAbove plus_zero c1 → NotAbove plus_zero a → NotAbove slope plus_zero → T (le f (f0 ⊕ c1 ⊗ a ⊗ slope)) → T (le f f0)

-- the square root that the code computes is IEEE 754's, c is the cube root that 01 names, and no other value is either
pub record RootsAreNearest : Type 0 where
  -- quanta leave nothing over
  pub exact : (s : Bool) (m : ℕ) (e : ℤ) → F64 (fin s m e) → quanta m e * down e ≡ m * up e * 2 ^ 1074
  pub square : (x : Float) → F64 x → SquareRoot x (sqrt_of x)
  pub only_square : (x r : Float) → F64 x → SquareRoot x r → r ≡ sqrt_of x
  pub cube : CubeRoot difference_factor
  pub only_cube : (r : Float) → CubeRoot r → r ≡ difference_factor

-- every operation's result is an f64
pub record Closed : Type 0 where
  pub sum : (x y : Float) → F64 (x ⊕ y)
  pub difference : (x y : Float) → F64 (x ⊖ y)
  pub product : (x y : Float) → F64 (x ⊗ y)
  pub quotient : (x y : Float) → F64 (x ⊘ y)
  pub negation : (x : Float) → F64 x → F64 (neg x)
  pub abs : (x : Float) → F64 x → F64 (abs_of x)
  pub signum : (x : Float) → F64 (signum_of x)
  pub max : (x y : Float) → F64 x → F64 y → F64 (max_of x y)
  pub min : (x y : Float) → F64 x → F64 y → F64 (min_of x y)
  pub sqrt : (x : Float) → F64 x → F64 (sqrt_of x)
  pub difference_factor_lem : F64 difference_factor
