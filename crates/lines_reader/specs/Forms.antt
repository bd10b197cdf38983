-- The forms of the lines, over lists of bytes: fields, and what each line's places ask for. Definitions only.
use Rattle.std.specs.Prelude.{ℕ, zero, suc, Bool, true, false, ◌&&◌, cond, List, [], ◌∷◌, ◌++◌, length, get_or, min, eqb, ltb}
use Rattle.lines_field.specs.declared.Shape.{Shape}
use Rattle.lines_field.specs.declared.Shape.TheVariants.{Word, Decimal, Maybe, Flag, Letter, Job, Nothing}
use Rattle.lines_field.specs.declared.Reading.{Reading}
use Rattle.lines_field.specs.Shapes.{most, malformed, fits, field_as}
use Rattle.lines_reader.specs.declared.Form.{Form}
use Rattle.lines_reader.specs.declared.Form.TheVariants.{Stopped, Line1, SimplexLine2, GradientLine2, Line3, Answers, Other}
use Rattle.lines_reader.specs.declared.LineRead.{LineRead}

-- ---- fields

-- A line's fields, of which f is begun: "Fields are separated by exactly one space", so that a second space, or one at an end, makes an empty field.
unfoldable pub fields_from : List ℕ → List ℕ → List (List ℕ)
fields_from f [] = f ∷ []
fields_from f (b ∷ bs) = cond (eqb b 32) (f ∷ fields_from [] bs) (fields_from (f ++ (b ∷ [])) bs)

abbrev pub fields : List ℕ → List (List ℕ)
fields bs = fields_from [] bs

-- ---- lines

-- The form that a number is: none is due at 0, then lines 1, 2, 2, 3 and answers; any other number is no line's
unfoldable pub form_of : ℕ → Form
form_of k =
    cond (eqb k 0) Stopped
    (cond (eqb k 1) Line1
    (cond (eqb k 2) SimplexLine2
    (cond (eqb k 3) GradientLine2
    (cond (eqb k 4) Line3
    (cond (eqb k 5) Answers
    (Other k))))))

-- and the number of a form
abbrev pub number_of : Form → ℕ
number_of Stopped = 0
number_of Line1 = 1
number_of SimplexLine2 = 2
number_of GradientLine2 = 3
number_of Line3 = 4
number_of Answers = 5
number_of (Other k) = k

-- The shape of the field at i of a line; at a line that is not due, or is none, there is to be none. The forms are, in this order,
-- "Line 1: `simplex`, `bfgs` or `lbfgs`, and n.";
-- "Line 2, simplex: x_tol f_tol initial_step as bits, max_iter max_fevals (`-` absent), restarts, adaptive (0 or 1)";
-- "others: grad_tol f_tol x_tol c1 c2 step_max as bits, max_iter max_fevals max_evals memory, gradients (0 or 1).";
-- "Line 3: x0."; "answers: number, kind, words."
unfoldable pub shape_at_of : Form → ℕ → Shape
shape_at_of Stopped i = Nothing
shape_at_of Line1 i = get_or (Job ∷ Decimal ∷ []) i Nothing
shape_at_of SimplexLine2 i = get_or (Word ∷ Word ∷ Word ∷ Maybe ∷ Maybe ∷ Decimal ∷ Flag ∷ []) i Nothing
shape_at_of GradientLine2 i = get_or (Word ∷ Word ∷ Word ∷ Word ∷ Word ∷ Word ∷ Maybe ∷ Maybe ∷ Decimal ∷ Decimal ∷ Flag ∷ []) i Nothing
shape_at_of Line3 i = Word
shape_at_of (Other k) i = Nothing
shape_at_of Answers i = cond (ltb i 2) (get_or (Decimal ∷ Letter ∷ []) i Nothing) Word

-- what fields are, of which the first stands at i
unfoldable pub readings_from : Form → ℕ → List (List ℕ) → List Reading
readings_from form i [] = []
readings_from form i (f ∷ fs) = field_as (shape_at_of form i) f ∷ readings_from form (suc i) fs

-- what the fields of a line of a form are
abbrev pub readings : Form → List ℕ → List Reading
readings form bs = readings_from form 0 (fields bs)

unfoldable pub all_ok : List Reading → Bool
all_ok [] = true
all_ok (v ∷ vs) = fits v && all_ok vs

-- the first k, and `malformed` where there are fewer
unfoldable pub firsts : ℕ → List Reading → List Reading
firsts zero vs = []
firsts (suc k) [] = malformed ∷ firsts k []
firsts (suc k) (v ∷ vs) = v ∷ firsts k vs

-- no larger than the largest u64
abbrev pub capped : ℕ → ℕ
capped n = min n most

-- whether the line has no byte
unfoldable pub empty : List ℕ → Bool
empty [] = true
empty (b ∷ bs) = false

-- What is read off a line of a form: how many fields it has, whether each has its shape, whether it is empty, and the first twenty
unfoldable pub line_of : Form → List ℕ → LineRead
unfolding fields_from
line_of form bs =
    let vs = readings form bs in
    record { form = form; count = capped (length vs); ok = all_ok vs; empty = empty bs; fields = firsts 20 vs }
