-- What follows a search: the record after its step, and the tests after it. Definitions only.
use Rattle.std.specs.Prelude.{ℕ, false, not, cond, List, Float}
use Rattle.std.specs.Float.Ieee.{lt}
use Rattle.float.specs.Binary64.{plus_zero}
use Rattle.vector.specs.Points.{difference_of, all_finite_of}
use Rattle.linesearch_trials.specs.declared.Evaluation.{Evaluation}
use Rattle.quasinewton_record.specs.declared.Fixed.{Fixed}
use Rattle.quasinewton_record.specs.declared.Descent.{Descent}
use Rattle.quasinewton_record.specs.Formulas.{small_decrease_of, small_step_of}
use Rattle.quasinewton_record.specs.Descents.{by_function, by_step, by_search, by_gradient_failed, at_head, in_phase, with_line, valued_at}

-- "keep any improvement, then stop"
unfoldable pub lower_of : Descent → ℕ → Evaluation → Descent
lower_of q why t = cond (lt t.trial.value q.line.f) (with_line q why (valued_at q t.x t.trial.value)) (in_phase q why)

unfoldable pub missed_of : Descent → Evaluation → Descent
missed_of q t = cond (lt plus_zero t.trial.step) (lower_of q by_search t) (in_phase q by_search)

-- s and y of the step to the search's best trial
abbrev pub pair_step_of : Descent → ℕ → List Float
pair_step_of q n = difference_of q.search.best.x q.line.x n

abbrev pub pair_change_of : Descent → ℕ → List Float
pair_change_of q n = difference_of q.search.best.g q.line.g n

-- the record after the step to t
unfoldable pub stepped_of : Descent → Evaluation → Descent
stepped_of q t =
    record {
      phase = at_head;
      number = q.number;
      detail = q.detail;
      first = false;
      rounds = q.rounds;
      line = record { x = t.x; g = t.g; d = q.line.d; f = t.trial.value; slope = q.line.slope };
      search = q.search;
      diff = q.diff;
    }

-- the tests after the step to t, which do not read the model: past them the record is at the next head
unfoldable pub tested_of : Fixed → Descent → Evaluation → Descent
tested_of fixed q t =
    let o = fixed.options in
    let p = stepped_of q t in
    cond (not (all_finite_of t.g fixed.n)) (lower_of q by_gradient_failed t)
    (cond (small_decrease_of o.ftol q.line.f t.trial.value) (in_phase p by_function)
    (cond (small_step_of o.xtol q.line.x t.x fixed.n) (in_phase p by_step) p))
