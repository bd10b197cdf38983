-- What each function of a field makes, for every struct that it is given. Definitions only.
use Rattle.std.specs.Prelude.{ℕ, ◌+◌, ◌*◌, Bool, ◌&&◌, cond, eqb, leb, ltb, Option, None, Some}
use Rattle.std.specs.Option.{option_eq}
use Rattle.protocol.specs.declared.Kind.TheVariants.{Value, Gradient}
use Rattle.protocol.specs.Protocol.{letter as kind_letter, simplex_mark, bfgs_mark, lbfgs_mark}
use Rattle.lines_field.specs.declared.Shape.{Shape}
use Rattle.lines_field.specs.declared.Shape.TheVariants.{Word, Decimal, Maybe, Flag, Letter, Job, Nothing}
use Rattle.lines_field.specs.declared.Field.{Field}
use Rattle.lines_field.specs.declared.Reading.{Reading}
use Rattle.lines_field.specs.Shapes.{most, digit_in, malformed, formed, absent}

-- ---- numbers

-- one digit more to the base: none once a digit is none of it, or too large a number, which no later digit mends
unfoldable pub grow_of : ℕ → Option ℕ → Option ℕ → Option ℕ
grow_of base v None = None
grow_of base None (Some d) = None
grow_of base (Some v) (Some d) = cond (ltb d base) (cond (leb (v * base + d) most) (Some (v * base + d)) None) None

-- ---- a field

-- a field with no byte
abbrev pub blank_field_of : Field
blank_field_of = record { size = 0; dec = Some 0; hex = Some 0; text = Some 0 }

-- lengths above 16 are told apart by no test
abbrev pub lengthened_of : ℕ → ℕ
lengthened_of n = cond (ltb n 17) (n + 1) n

-- one byte more
unfoldable pub added_of : Field → ℕ → Field
added_of f b = record { size = lengthened_of f.size; dec = grow_of 10 f.dec (digit_in b); hex = grow_of 16 f.hex (digit_in b); text = grow_of 256 f.text (Some b) }

-- a number that was read is what the field is
abbrev pub counted_of : Option ℕ → Reading
counted_of None = malformed
counted_of (Some w) = formed w

-- the text of so many bytes that is this number to the base 256
unfoldable pub spells_of : Field → ℕ → ℕ → Bool
spells_of f size text = eqb f.size size && option_eq eqb f.text (Some text)

-- a field as each of the shapes
unfoldable pub word_of : Field → Reading
word_of f = cond (eqb f.size 16) (counted_of f.hex) malformed

unfoldable pub decimal_of : Field → Reading
decimal_of f = cond (eqb f.size 0) malformed (counted_of f.dec)

unfoldable pub maybe_of : Field → Reading
maybe_of f = cond (spells_of f 1 45) absent (decimal_of f)

unfoldable pub flag_of : Field → Reading
flag_of f = cond (spells_of f 1 48) (formed 0) (cond (spells_of f 1 49) (formed 1) malformed)

unfoldable pub letter_of : Field → Reading
letter_of f = cond (spells_of f 1 (kind_letter Value)) (formed (kind_letter Value)) (cond (spells_of f 1 (kind_letter Gradient)) (formed (kind_letter Gradient)) malformed)

unfoldable pub job_of : Field → Reading
job_of f = cond (spells_of f 7 0x73696d706c6578) (formed simplex_mark) (cond (spells_of f 4 0x62666773) (formed bfgs_mark) (cond (spells_of f 5 0x6c62666773) (formed lbfgs_mark) malformed))

abbrev pub judged_of : Shape → Field → Reading
judged_of Word f = word_of f
judged_of Decimal f = decimal_of f
judged_of Maybe f = maybe_of f
judged_of Flag f = flag_of f
judged_of Letter f = letter_of f
judged_of Job f = job_of f
judged_of Nothing f = malformed
