-- What a search starts from, and the tests of `strong_wolfe` in order, by 01's numbers and details; the number 0 is none. Definitions only.
use Rattle.std.specs.Prelude.{ℕ, not, cond, List, eqb, Float}
use Rattle.std.specs.Float.Ieee.{lt, le}
use Rattle.float.specs.Binary64.{plus_zero}
use Rattle.float.specs.Values.{finite_of, positive_of}
use Rattle.vector.specs.Points.{dot_of, all_finite_of}
use Rattle.protocol.specs.declared.WolfeOptions.{WolfeOptions}
use Rattle.protocol.specs.declared.Refusal.{Refusal}
use Rattle.protocol.specs.Protocol.{refusal, no_refusal}
use Rattle.linesearch_trials.specs.declared.Line.{Line}
use Rattle.linesearch_trials.specs.Trials.{one}

-- dphi0 = dot(g0, d)
unfoldable pub line_from_of : List Float → List Float → Float → List Float → ℕ → Line
line_from_of x d f g n = record { x = x; g = g; d = d; f = f; slope = dot_of g d n }

-- `validate` of `WolfeOptions`: 5, "the detail is 1, or 2 .. where 0 < c1 < 1 holds", then 6 and 7
unfoldable pub options_refusal_of : WolfeOptions → Refusal
options_refusal_of o =
    cond (not (lt plus_zero o.c1)) (refusal 5 1)
    (cond (not (lt o.c1 one)) (refusal 5 1)
    (cond (not (lt o.c1 o.c2)) (refusal 5 2)
    (cond (not (lt o.c2 one)) (refusal 5 2)
    (cond (eqb o.evals 0) (refusal 6 0)
    (cond (not (positive_of o.stepmax)) (refusal 7 0) no_refusal)))))

-- 9, then 10 and 11 by the counts of the direction's and the gradient's coordinates
unfoldable pub counts_refusal_of : ℕ → ℕ → ℕ → Refusal
counts_refusal_of n dcount gcount = cond (eqb n 0) (refusal 9 0) (cond (not (eqb dcount n)) (refusal 10 0) (cond (not (eqb gcount n)) (refusal 11 0) no_refusal))

-- 12: "Something lent is not finite: detail 1 x0, 2 direction, 3 gradient, 4 f0, in that order", then 13 and 14
unfoldable pub line_refusal_of : ℕ → Line → Float → Refusal
line_refusal_of n l step =
    cond (not (all_finite_of l.x n)) (refusal 12 1)
    (cond (not (all_finite_of l.d n)) (refusal 12 2)
    (cond (not (all_finite_of l.g n)) (refusal 12 3)
    (cond (not (finite_of l.f)) (refusal 12 4)
    (cond (not (positive_of step)) (refusal 13 0)
    (cond (le plus_zero l.slope) (refusal 14 0) no_refusal)))))
