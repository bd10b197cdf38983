-- What a field may be, over its bytes: one of six shapes. Definitions only.
use Rattle.std.specs.Prelude.{ℕ, ◌+◌, ◌-◌, ◌*◌, Bool, true, false, ◌&&◌, cond, List, [], ◌∷◌, length, eqb, leb, ltb, Option, None, Some, unwrap_or}
use Rattle.protocol.specs.declared.Kind.TheVariants.{Value, Gradient}
use Rattle.protocol.specs.Protocol.{letter as kind_letter, simplex_mark, bfgs_mark, lbfgs_mark}
use Rattle.lines_field.specs.declared.Shape.{Shape}
use Rattle.lines_field.specs.declared.Shape.TheVariants.{Word, Decimal, Maybe, Flag, Letter, Job, Nothing}
use Rattle.lines_field.specs.declared.Reading.{Reading}
use Rattle.lines_field.specs.declared.Reading.TheVariants.{Unfit, Absent, Given}

-- the largest u64
abbrev pub most : ℕ
most = 18446744073709551615

-- ---- numbers

-- a byte as a digit: `0` to `9`, then `A` to `F`
unfoldable pub digit_in : ℕ → Option ℕ
digit_in b = cond (ltb b 48) None (cond (leb b 57) (Some (b - 48)) (cond (ltb b 65) None (cond (leb b 70) (Some (b - 55)) None)))

-- the same as a number, 99 for a byte that is none: no base has that digit
unfoldable pub digit_of : ℕ → ℕ
unfolding digit_in
digit_of b = unwrap_or (digit_in b) 99

unfoldable pub digits : List ℕ → List ℕ
unfolding digit_of
digits [] = []
digits (b ∷ bs) = digit_of b ∷ digits bs

-- whether each is a digit to the base
unfoldable pub below : ℕ → List ℕ → Bool
below base [] = true
below base (d ∷ ds) = ltb d base && below base ds

-- the number that v and then the digits spell, the most significant first
unfoldable pub spelt : ℕ → ℕ → List ℕ → ℕ
spelt base v [] = v
spelt base v (d ∷ ds) = spelt base (v * base + d) ds

-- whether two texts are one
unfoldable pub same : List ℕ → List ℕ → Bool
same [] [] = true
same [] (b ∷ bs) = false
same (a ∷ xs) [] = false
same (a ∷ xs) (b ∷ bs) = eqb a b && same xs bs

-- ---- what a field may be: one of six shapes

-- none that its place asks for
abbrev pub malformed : Reading
malformed = Unfit

abbrev pub formed : ℕ → Reading
formed w = Given w

-- "`-` absent"
abbrev pub absent : Reading
absent = Absent

-- whether a field is what its place asks for
abbrev pub fits : Reading → Bool
fits Unfit = false
fits Absent = true
fits (Given w) = true

-- its number, where it has one
abbrev pub given : Reading → Option ℕ
given Unfit = None
given Absent = None
given (Given w) = Some w

-- its number, 0 where it has none
abbrev pub number_in : Reading → ℕ
number_in v = unwrap_or (given v) 0

-- "f64 bits are shown as 16 hexadecimal digits": exactly 16 out of 0-9 and A-F
unfoldable pub word_field : List ℕ → Reading
word_field f = cond (eqb (length f) 16 && below 16 (digits f)) (formed (spelt 16 0 (digits f))) malformed

-- "other numbers are decimal": one or more of 0-9, at most 2^64 - 1
unfoldable pub decimal_field : List ℕ → Reading
decimal_field f = cond (eqb (length f) 0) malformed (cond (below 10 (digits f) && leb (spelt 10 0 (digits f)) most) (formed (spelt 10 0 (digits f))) malformed)

-- "max_iter max_fevals (`-` absent)"
unfoldable pub maybe_field : List ℕ → Reading
maybe_field f = cond (same f (45 ∷ [])) absent (decimal_field f)

-- "(0 or 1)"
unfoldable pub flag_field : List ℕ → Reading
flag_field f = cond (same f (48 ∷ [])) (formed 0) (cond (same f (49 ∷ [])) (formed 1) malformed)

-- "a kind (V for a value, G for a gradient)"
unfoldable pub letter_field : List ℕ → Reading
letter_field f = cond (same f (kind_letter Value ∷ [])) (formed (kind_letter Value)) (cond (same f (kind_letter Gradient ∷ [])) (formed (kind_letter Gradient)) malformed)

-- "`simplex`, `bfgs` or `lbfgs`": the marks of these jobs
unfoldable pub job_field : List ℕ → Reading
job_field f =
    cond (same f (115 ∷ 105 ∷ 109 ∷ 112 ∷ 108 ∷ 101 ∷ 120 ∷ [])) (formed simplex_mark)
    (cond (same f (98 ∷ 102 ∷ 103 ∷ 115 ∷ [])) (formed bfgs_mark)
    (cond (same f (108 ∷ 98 ∷ 102 ∷ 103 ∷ 115 ∷ [])) (formed lbfgs_mark)
    malformed))

-- a field read as a shape
unfoldable pub field_as : Shape → List ℕ → Reading
field_as Word f = word_field f
field_as Decimal f = decimal_field f
field_as Maybe f = maybe_field f
field_as Flag f = flag_field f
field_as Letter f = letter_field f
field_as Job f = job_field f
field_as Nothing f = malformed
