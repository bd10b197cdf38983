-- binary64 as the definitions of every crate speak of it: what its values are, its operations with Rust's precedence, its constants by their bits. Definitions only.
use Rattle.std.specs.Prelude.{ℕ, Bool, true, false, not, T, pos, Float}
use Rattle.std.specs.Float.{nan, inf, fin, binary64}
use Rattle.std.specs.Float.Ieee.{add, sub, mul, div, lt, fits, is_nan, of_bits}

-- x is a value of binary64. Every f64 of the code is one; the logic's `Float` has values of other formats too.
abbrev pub F64 : Float → Type 0
F64 x = T (fits binary64 x)

-- x is no NaN
abbrev pub Number : Float → Type 0
Number x = T (not (is_nan x))

-- a is not above b by `<`: the two zeros are equal, and a NaN is above nothing. 01: "larger and least go by f64's `<`".
abbrev pub NotAbove : Float → Float → Type 0
NotAbove a b = T (not (lt b a))

-- whether the sign is a minus. The logic's one NaN has none.
abbrev pub negative : Float → Bool
negative nan = false
negative (inf s) = s
negative (fin s m e) = s

-- each operation is rounded once, and none is fused (01)
infixl 65 ◌⊕◌ ◌⊖◌
infixl 70 ◌⊗◌ ◌⊘◌
abbrev pub ◌⊕◌ : Float → Float → Float
x ⊕ y = add binary64 x y

abbrev pub ◌⊖◌ : Float → Float → Float
x ⊖ y = sub binary64 x y

abbrev pub ◌⊗◌ : Float → Float → Float
x ⊗ y = mul binary64 x y

abbrev pub ◌⊘◌ : Float → Float → Float
x ⊘ y = div binary64 x y

-- the value that a pattern of 64 bits stands for
abbrev pub bits : ℕ → Float
bits b = of_bits binary64 b

abbrev pub plus_zero : Float
plus_zero = fin false 0 (pos 0)

abbrev pub minus_zero : Float
minus_zero = fin true 0 (pos 0)
