-- The opening of a fit: its first value, then its first gradient. Definitions only.
use Rattle.std.specs.Prelude.{not, cond, List, ltb, Float}
use Rattle.float.specs.Values.{finite_of}
use Rattle.vector.specs.Points.{all_finite_of}
use Rattle.objective.specs.declared.Differences.{Differences}
use Rattle.objective.specs.Step as objective
use Rattle.quasinewton_record.specs.declared.Fixed.{Fixed}
use Rattle.quasinewton_record.specs.declared.Descent.{Descent}
use Rattle.quasinewton_record.specs.Descents.{first_gradient, first_differences, at_head, refused_by, with_line, with_diff, valued_at}

unfoldable pub graded_of : Fixed → Descent → List Float → Descent
graded_of fixed q g =
    let w = with_line q at_head (record { x = q.line.x; g = g; d = q.line.d; f = q.line.f; slope = q.line.slope }) in
    cond (not (all_finite_of g fixed.n)) (refused_by w (record { number = 19; detail = 0 })) w

unfoldable pub differing_of : Fixed → Descent → Differences → Descent
differing_of fixed q e = cond (ltb e.at fixed.n) (with_diff q first_differences e) (graded_of fixed q e.g)

unfoldable pub valued_of : Fixed → Descent → Float → Descent
valued_of fixed q v =
    let w = with_line q first_gradient (valued_at q q.line.x v) in
    cond (not (finite_of v)) (refused_by w (record { number = 18; detail = 0 }))
    (cond fixed.options.gradients w (differing_of fixed w (objective.begun_of q.line.x)))
