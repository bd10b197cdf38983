-- What each function of the reader makes, for every struct that it is given. Definitions only.
use Rattle.std.specs.Prelude.{ℕ, ◌+◌, Bool, true, false, ◌&&◌, ◌||◌, not, cond, List, [], ◌∷◌, set, replicate, eqb, ltb}
use Rattle.lines_field.specs.declared.Field.{Field}
use Rattle.lines_field.specs.declared.Reading.{Reading}
use Rattle.lines_field.specs.Shapes.{most, malformed, fits}
use Rattle.lines_field.specs.Fields.{blank_field_of, added_of, judged_of}
use Rattle.lines_reader.specs.declared.Form.{Form}
use Rattle.lines_reader.specs.declared.LineRead.{LineRead}
use Rattle.lines_reader.specs.declared.Reader.{Reader}
use Rattle.lines_reader.specs.Forms.{shape_at_of}

-- ---- a line

-- counts stop at the largest u64
abbrev pub one_more_of : ℕ → ℕ
one_more_of n = cond (ltb n most) (n + 1) n

-- the first twenty are kept
unfoldable pub kept_of : List Reading → ℕ → Reading → List Reading
kept_of vs at v = cond (ltb at 20) (set vs at v) vs

-- whether the field at this place is the only one so far, and empty
abbrev pub alone_of : ℕ → ℕ → Bool
alone_of at size = eqb at 0 && eqb size 0

-- a line with no field
abbrev pub fresh_line_of : Form → LineRead
fresh_line_of form = record { form = form; count = 0; ok = true; empty = false; fields = replicate 20 malformed }

-- a field put to the line
unfoldable pub taken_of : LineRead → Field → LineRead
taken_of l f =
    let v = judged_of (shape_at_of l.form l.count) f in
    record { form = l.form; count = one_more_of l.count; ok = l.ok && fits v; empty = alone_of l.count f.size; fields = kept_of l.fields l.count v }

-- ---- the reader

-- at the beginning of a line
abbrev pub started_of : Form → Reader
started_of form = record { field = blank_field_of; line = fresh_line_of form }

-- one byte more: a space ends a field
unfoldable pub fed_of : Reader → ℕ → Reader
fed_of r b = cond (eqb b 32) (record { field = blank_field_of; line = taken_of r.line r.field }) (record { field = added_of r.field b; line = r.line })

-- all bytes of a line, in order
unfoldable pub fed_all : Reader → List ℕ → Reader
unfolding fed_of
fed_all r [] = r
fed_all r (b ∷ bs) = fed_all (fed_of r b) bs

-- the line's end ends its last field
abbrev pub finished_of : Reader → LineRead
finished_of r = taken_of r.line r.field

-- whether the line has a byte so far
unfoldable pub begun_of : Reader → Bool
begun_of r = not (eqb r.line.count 0) || not (eqb r.field.size 0)
