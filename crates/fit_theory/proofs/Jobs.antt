-- Line 1 has one of the three jobs. Assumes nothing.
use Prim.Native.Nat.{ℕ}
use mathlib.Core.Path.{◌≡◌, sym}
use mathlib.Core.Bool.{Bool, true, false, ◌&&◌, cond, true≢false}
use mathlib.Core.List.{List, [], ◌∷◌}
use native.Mathlib.Omega.{arith}
use lib.Dec.{eqb}
use lib.ListN.{length}
use Rattle.std.specs.Prelude.{IfSome}
use Rattle.std.proofs.lemmas.Bool.{and_parts}
use Rattle.float.proofs.Tests.{by}
use Rattle.lines_field.specs.declared.Reading.{Reading}
use Rattle.lines_field.specs.Shapes.{same, malformed, formed, fits, number_in, field_as, job_field}
use Rattle.lines_reader.specs.declared.Form.TheVariants.{Line1}
use Rattle.lines_reader.specs.Forms.{fields, capped, readings_from, readings, all_ok, firsts, shape_at_of, line_of}
use Rattle.lines_forms.specs.Lines.{number_at, first_line_of, whole_of}
use Rattle.fit_theory.specs.Laws.{FitMark}

among : (a b c : Bool) → let r : Reading = cond a (formed 1) (cond b (formed 2) (cond c (formed 3) malformed)) in fits r ≡ true → FitMark (number_in r)
among true b c e = (omega arith, omega arith)
among false true c e = (omega arith, omega arith)
among false false true e = (omega arith, omega arith)
among false false false e = absurd (true≢false (sym e))

job_field_lem : (f : List ℕ) → fits (job_field f) ≡ true → FitMark (number_in (job_field f))
unfolding job_field
job_field_lem f e = among (same f _) (same f _) (same f _) e

in_fields : (fs : List (List ℕ)) → let vs = readings_from Line1 0 fs in (eqb (capped (length vs)) 2 && all_ok vs) ≡ true → FitMark (number_at (firsts 20 vs) 0)
unfolding readings_from all_ok firsts field_as shape_at_of
in_fields [] e = absurd (true≢false (sym e))
in_fields (f ∷ fs) e = job_field_lem f (and_parts _ _ (and_parts _ _ e).1).0

pub jobs : (bs : List ℕ) → IfSome (first_line_of (line_of Line1 bs)) (λ f. FitMark f.job)
unfolding first_line_of whole_of line_of
jobs bs =
    let vs = readings Line1 bs in
    by (eqb (capped (length vs)) 2 && all_ok vs) (λ p. rw p (in_fields (fields bs) p)) (λ p. rw p tt)
