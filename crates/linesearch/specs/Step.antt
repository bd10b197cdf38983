-- What each answer does to the record of the search: it takes what is told for the open question, and gives the record with the next question or the outcome. What the crates
-- below define is passed on. Definitions only.
use Rattle.std.specs.Prelude.{not, cond, List, ltb, eqb, Float}
use Rattle.float.specs.Values.{finite_of, min_of}
use Rattle.objective.specs.declared.Differences.{Differences}
use Rattle.objective.specs.Step as objective
use Rattle.linesearch_trials.specs.declared.Line.{Line}
use Rattle.linesearch_trials.specs.declared.Fixed.{Fixed}
use Rattle.linesearch_moves.specs.declared.Search.{Search}
pub use Rattle.linesearch_trials.specs.Evaluations.{trial_of}
unfoldable pub use Rattle.linesearch_trials.specs.Evaluations.{point_at_of, nans_of, evaluated_of, infeasible_of}
pub use Rattle.linesearch_moves.specs.Searches.{asks_value, asks_gradient, asks_difference, found, failed, zeros, no_trial, with_best, with_ends, with_diff, with_value, at_start}
unfoldable pub use Rattle.linesearch_moves.specs.Searches.{preceding_of, risen_of, lower_of, keep_of, failure_of, success_of, eval_of, zoom_of, bracket_of}
unfoldable pub use Rattle.linesearch_moves.specs.Bracketing.{bracketed_of, zoomed_of, decided_of}

unfoldable pub graded_of : Fixed → Line → Search → List Float → Search
graded_of fixed l s g = decided_of fixed l s (evaluated_of fixed l s.step s.value g)

-- the differences have a question, or are done
unfoldable pub differing_of : Fixed → Line → Search → Differences → Search
differing_of fixed l s e = cond (ltb e.at fixed.n) (with_diff s asks_difference e) (graded_of fixed l s e.g)

unfoldable pub eval_gradient_of : Fixed → Line → Search → Search
eval_gradient_of fixed l s = cond fixed.gradients (with_diff s asks_gradient s.diff) (differing_of fixed l s (objective.begun_of (point_at_of fixed l s.step)))

unfoldable pub valued_of : Fixed → Line → Search → Float → Search
valued_of fixed l s v = cond (finite_of v) (eval_gradient_of fixed l (with_value s v)) (decided_of fixed l (with_value s v) (infeasible_of fixed l s.step v))

-- ---- the whole

-- "the step starts at min(initial_step, step_max)"
unfoldable pub begun_of : Fixed → Line → Float → Search
begun_of fixed l initial = bracket_of fixed l no_trial (min_of initial fixed.options.stepmax)

-- the point of the open question
unfoldable pub probe_of : Fixed → Line → Search → List Float
probe_of fixed l s =
    cond (not (eqb s.phase asks_difference)) (point_at_of fixed l s.step)
    (cond (ltb s.diff.at fixed.n) (objective.probe_of s.diff) s.diff.x)

-- a value told: v is how a trial's is read, w how one for differences is; a record that asks for none stays as it is
unfoldable pub told_of : Fixed → Line → Search → Float → Float → Search
told_of fixed l s v w =
    cond (eqb s.phase asks_value) (valued_of fixed l s v)
    (cond (not (eqb s.phase asks_difference)) s
    (cond (ltb s.diff.at fixed.n) (differing_of fixed l s (objective.told_of s.diff w)) s))

unfoldable pub told_gradient_of : Fixed → Line → Search → List Float → Search
told_gradient_of fixed l s g = cond (eqb s.phase asks_gradient) (graded_of fixed l s g) s
