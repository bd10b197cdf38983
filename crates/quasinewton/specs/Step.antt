-- How a gradient fit goes on. A move takes what is told for the open question, and gives the record with the next question in it, or at rest: at the head of a round, or with
-- its search ended. From there `settled_of` goes on, with the model, to the next question or the end. The code goes on in two parts: `model_after_of` takes a pair into the model,
-- and `onward_of` moves the record, with that model. What the crates below define is passed on. Definitions only.
use Rattle.std.specs.Prelude.{ℕ, Bool, false, not, cond, eqb}
use Rattle.vector.specs.Points.{difference_of, all_finite_of}
use Rattle.linesearch_trials.specs.declared.Evaluation.{Evaluation}
use Rattle.linesearch.specs.Step as linesearch
use Rattle.quasinewton_model.specs.declared.Model.{Model}
use Rattle.quasinewton_model.specs.Step.{update_of}
use Rattle.quasinewton_record.specs.declared.Fixed.{Fixed}
use Rattle.quasinewton_record.specs.declared.Descent.{Descent}
unfoldable pub use Rattle.quasinewton_record.specs.Formulas.{stores_of, small_decrease_of, small_step_of, initial_step_of, not_descending_of}
pub use Rattle.quasinewton_record.specs.Descents.{first_value, first_gradient, first_differences, searching, by_gradient, by_function, by_step, by_iterations, by_fevals, by_search, by_gradient_failed, by_refusal, at_head, in_phase, refused_by, with_line, with_search, with_diff, valued_at, search_fixed, zeros}
unfoldable pub use Rattle.quasinewton_record.specs.Descents.{asks_of, gradient_due_of, idle_of, start_of}
unfoldable pub use Rattle.quasinewton_round.specs.Opening.{graded_of, differing_of, valued_of}
pub use Rattle.quasinewton_round.specs.Rounds.{iterated}
unfoldable pub use Rattle.quasinewton_round.specs.Rounds.{sought_of, searched_of, steepest_of, directed_of, headed_of}
pub use Rattle.quasinewton_record.specs.Outcomes.{pair_step_of, pair_change_of}
unfoldable pub use Rattle.quasinewton_record.specs.Outcomes.{lower_of, missed_of, stepped_of, tested_of}
unfoldable pub use Rattle.quasinewton_answer.specs.Questions.{probe_of, told_of, told_gradient_of}

-- ---- after a search: the record and the model, where both have moved

pub record Moved : Type 0 where
  pub descent : Descent
  pub model : Model

abbrev pub moved : Descent → Model → Moved
moved q m = record { descent = q; model = m }

-- the model after the step to t
unfoldable pub stored_of : Fixed → Descent → Model → Evaluation → Model
stored_of fixed q m t =
    let n = fixed.n in
    let s = difference_of t.x q.line.x n in
    let y = difference_of t.g q.line.g n in
    cond (stores_of s y n) (update_of m s y n) m

unfoldable pub succeeded_of : Fixed → Descent → Model → Evaluation → ℕ → Moved
succeeded_of fixed q m t fevals =
    let o = fixed.options in
    let p = stepped_of q t in
    let h = stored_of fixed q m t in
    cond (not (all_finite_of t.g fixed.n)) (moved (lower_of q by_gradient_failed t) m)
    (cond (small_decrease_of o.ftol q.line.f t.trial.value) (moved (in_phase p by_function) h)
    (cond (small_step_of o.xtol q.line.x t.x fixed.n) (moved (in_phase p by_step) h)
    (moved (headed_of fixed p h fevals) h)))

-- from the head of a round, or from a search that has ended, to the next question or the end
unfoldable pub settled_of : Fixed → Descent → Model → ℕ → Moved
settled_of fixed q m fevals =
    cond (eqb q.phase at_head) (moved (headed_of fixed q m fevals) m)
    (cond (not (eqb q.phase searching)) (moved q m)
    (cond (eqb q.search.phase linesearch.found) (succeeded_of fixed q m q.search.best fevals)
    (cond (eqb q.search.phase linesearch.failed) (moved (missed_of q q.search.best) m) (moved q m))))

-- ---- the same in parts, as the code has it: the model, then the record

-- whether that pair is taken in: the search has met both conditions, at a finite gradient, and the curvature is enough
unfoldable pub stores_pair_of : Fixed → Descent → Bool
stores_pair_of fixed q =
    let n = fixed.n in
    cond (not (eqb q.phase searching)) false
    (cond (not (eqb q.search.phase linesearch.found)) false
    (cond (not (all_finite_of q.search.best.g n)) false (stores_of (pair_step_of q n) (pair_change_of q n) n)))

-- the model with that pair taken in
unfoldable pub updated_of : Fixed → Descent → Model → Model
updated_of fixed q m = update_of m (pair_step_of q fixed.n) (pair_change_of q fixed.n) fixed.n

-- the model at the next head: it changes where a pair is stored, and nowhere else
unfoldable pub model_after_of : Fixed → Descent → Model → Model
model_after_of fixed q m = cond (stores_pair_of fixed q) (updated_of fixed q m) m

-- after a search that has ended: at the next head, or at the fit's end; any other record stays as it is
unfoldable pub arrived_of : Fixed → Descent → Descent
arrived_of fixed q =
    cond (not (eqb q.phase searching)) q
    (cond (eqb q.search.phase linesearch.found) (tested_of fixed q q.search.best)
    (cond (eqb q.search.phase linesearch.failed) (missed_of q q.search.best) q))

-- from there through the head of a round; m is the model after the search
unfoldable pub onward_of : Fixed → Descent → Model → ℕ → Descent
onward_of fixed q m fevals =
    let w = arrived_of fixed q in
    cond (eqb w.phase at_head) (headed_of fixed w m fevals) w
