-- The open question of a gradient fit and its answer: the record with the next question in it, or at rest. Definitions only.
use Rattle.std.specs.Prelude.{not, cond, List, ltb, eqb, Float}
use Rattle.objective.specs.Step as objective
use Rattle.linesearch.specs.Step as linesearch
use Rattle.quasinewton_record.specs.declared.Fixed.{Fixed}
use Rattle.quasinewton_record.specs.declared.Descent.{Descent}
use Rattle.quasinewton_record.specs.Descents.{first_value, first_gradient, first_differences, searching, with_search, search_fixed}
use Rattle.quasinewton_round.specs.Opening.{graded_of, differing_of, valued_of}

-- the point of the open question
unfoldable pub probe_of : Fixed → Descent → List Float
probe_of fixed q =
    cond (eqb q.phase searching) (linesearch.probe_of (search_fixed fixed) q.line q.search)
    (cond (not (eqb q.phase first_differences)) q.line.x
    (cond (ltb q.diff.at fixed.n) (objective.probe_of q.diff) q.diff.x))

-- a value as it is read; a record that asks for none stays as it is
unfoldable pub told_of : Fixed → Descent → Float → Descent
told_of fixed q v =
    cond (eqb q.phase searching) (with_search q (linesearch.told_of (search_fixed fixed) q.line q.search v v))
    (cond (eqb q.phase first_value) (valued_of fixed q v)
    (cond (not (eqb q.phase first_differences)) q
    (cond (ltb q.diff.at fixed.n) (differing_of fixed q (objective.told_of q.diff v)) q)))

unfoldable pub told_gradient_of : Fixed → Descent → List Float → Descent
told_gradient_of fixed q g =
    cond (eqb q.phase searching) (with_search q (linesearch.told_gradient_of (search_fixed fixed) q.line q.search g))
    (cond (eqb q.phase first_gradient) (graded_of fixed q g) q)
