-- What line 1, line 3 and an answer say: the definitions over their bytes, and what the code makes of a line that was read. Definitions only.
use Rattle.std.specs.Prelude.{ℕ, ◌+◌, ◌-◌, ◌%◌, Bool, ◌&&◌, cond, List, [], map, length, get_or, drop, min, eqb, ltb, leb, Float, Option, None, Some}
use Rattle.float.specs.Binary64.{bits, plus_zero}
use Rattle.vector.specs.Loops.{upto}
use Rattle.protocol.specs.Protocol.{Answer}
use Rattle.lines_field.specs.declared.Reading.{Reading}
use Rattle.lines_field.specs.Shapes.{malformed, number_in}
use Rattle.lines_reader.specs.declared.Form.{Form}
use Rattle.lines_reader.specs.declared.Form.TheVariants.{Line1, Line3, Answers}
use Rattle.lines_reader.specs.declared.LineRead.{LineRead}
use Rattle.lines_reader.specs.Forms.{readings, all_ok, capped, empty}
use Rattle.lines_forms.specs.declared.FirstLine.{FirstLine}
use Rattle.lines_forms.specs.declared.AnswerLine.{AnswerLine}

-- ---- fields as the engine's types

-- the number of the field at i
abbrev pub number_at : List Reading → ℕ → ℕ
number_at vs i = number_in (get_or vs i malformed)

-- "as bits"
abbrev pub value_in : Reading → Float
value_in v = bits (number_in v)

abbrev pub value_at : List Reading → ℕ → Float
value_at vs i = value_in (get_or vs i malformed)

-- ---- what a line of bytes says; `None` for one of another form, which is `bad`

-- x where b holds
abbrev pub some_if : {A : Type 0} → Bool → A → Option A
some_if b x = cond b (Some x) None

-- whether a line of a form has n fields, each of its shape
abbrev pub has_form : Form → ℕ → List ℕ → Bool
has_form form n bs = eqb (length (readings form bs)) n && all_ok (readings form bs)

-- "Line 1: `simplex`, `bfgs` or `lbfgs`, and n.": the job's mark, and n
unfoldable pub first_line : List ℕ → Option (ℕ × ℕ)
first_line bs = some_if (has_form Line1 2 bs) (number_at (readings Line1 bs) 0, number_at (readings Line1 bs) 1)

-- "Line 3: x0.", where line 1 said n: n words, and none is the empty line. A count above 2^64 - 1 counts as that.
unfoldable pub point_line : ℕ → List ℕ → Option (List Float)
point_line n bs =
    cond (eqb n 0) (some_if (empty bs) [])
    (some_if (eqb (capped (length (readings Line3 bs))) n && all_ok (readings Line3 bs)) (map value_in (readings Line3 bs)))

-- "answers: number, kind, words."; any count of words, none included
unfoldable pub answer_line : List ℕ → Option Answer
answer_line bs =
    some_if (ltb 1 (length (readings Answers bs)) && all_ok (readings Answers bs))
    (record { number = number_at (readings Answers bs) 0; kind = number_at (readings Answers bs) 1; words = map value_in (drop 2 (readings Answers bs)) })

-- ---- what the code makes of a line that was read

-- the words of n fields, from a place on
unfoldable pub words_of : List Reading → ℕ → ℕ → List Float
words_of vs from n = upto (λ i. value_at vs (from + i)) n

unfoldable pub whole_of : LineRead → ℕ → Bool
whole_of l n = eqb l.count n && l.ok

unfoldable pub first_line_of : LineRead → Option FirstLine
first_line_of l = some_if (whole_of l 2) (record { job = number_at l.fields 0; n = number_at l.fields 1 })

unfoldable pub point_holds_of : LineRead → ℕ → Bool
point_holds_of l n = cond (eqb n 0) l.empty (whole_of l n)

unfoldable pub point_line_of : LineRead → ℕ → Option (List Float)
point_line_of l n = some_if (point_holds_of l n) (words_of l.fields 0 17)

unfoldable pub answer_holds_of : LineRead → Bool
answer_holds_of l = leb 2 l.count && l.ok

-- words past the seventeenth are not kept
unfoldable pub answer_line_of : LineRead → Option AnswerLine
answer_line_of l =
    some_if (answer_holds_of l)
    (record { number = number_at l.fields 0; kind = number_at l.fields 1 % 256; count = min (l.count - 2) 17; words = words_of l.fields 2 17 })

-- the first seventeen of a list, +0.0 where it has fewer
abbrev pub seventeen : List Float → List Float
seventeen xs = upto (λ i. get_or xs i plus_zero) 17
