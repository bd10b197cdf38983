-- The decisions of a search, when the trial in hand is made. Definitions only.
use Rattle.std.specs.Prelude.{true, not, cond}
use Rattle.std.specs.Float.Ieee.{le}
use Rattle.float.specs.Binary64.{◌⊖◌, ◌⊗◌, plus_zero}
use Rattle.float.specs.Values.{finite_of, min_of}
use Rattle.linesearch_trials.specs.declared.Evaluation.{Evaluation}
use Rattle.linesearch_trials.specs.declared.Line.{Line}
use Rattle.linesearch_trials.specs.declared.Fixed.{Fixed}
use Rattle.linesearch_trials.specs.Trials.{two, armijo_of, curvature_of}
use Rattle.linesearch_moves.specs.declared.Search.{Search}
use Rattle.linesearch_moves.specs.Searches.{with_ends, preceding_of, risen_of, keep_of, failure_of, success_of, zoom_of, bracket_of}

-- Algorithm 3.5
unfoldable pub bracketed_of : Fixed → Line → Search → Evaluation → Search
bracketed_of fixed l s t =
    let o = fixed.options in
    let u = t.trial in
    let p = preceding_of l s in
    cond (not (armijo_of o l u)) (zoom_of fixed l s p u)
    (cond (risen_of s u) (zoom_of fixed l s p u)
    (cond (curvature_of o l u) (success_of s t)
    (cond (not (finite_of u.slope)) (zoom_of fixed l s u p)
    (cond (le plus_zero u.slope) (zoom_of fixed l s u p)
    (cond (le o.stepmax s.step) (failure_of l s)
    (bracket_of fixed l (with_ends s s.zooming true u s.hi) (min_of (two ⊗ s.step) o.stepmax)))))))

-- Algorithm 3.6
unfoldable pub zoomed_of : Fixed → Line → Search → Evaluation → Search
zoomed_of fixed l s t =
    let o = fixed.options in
    let u = t.trial in
    cond (not (armijo_of o l u)) (zoom_of fixed l s s.lo u)
    (cond (le s.lo.value u.value) (zoom_of fixed l s s.lo u)
    (cond (curvature_of o l u) (success_of s t)
    (cond (not (finite_of u.slope)) (zoom_of fixed l s s.lo u)
    (cond (le plus_zero (u.slope ⊗ (s.hi.step ⊖ s.lo.step))) (zoom_of fixed l s u s.lo)
    (zoom_of fixed l s u s.hi)))))

unfoldable pub decided_of : Fixed → Line → Search → Evaluation → Search
decided_of fixed l s t = cond s.zooming (zoomed_of fixed l (keep_of s t) t) (bracketed_of fixed l (keep_of s t) t)
