-- What stands in a record: its open question, or its outcome, for every record. Definitions only.
use Rattle.std.specs.Prelude.{ℕ, ◌+◌, Bool, false, cond, not, List, eqb, ltb, leb, Float}
use Rattle.vector.specs.Lists.{first}
use Rattle.protocol.specs.declared.Kind.{Kind}
use Rattle.protocol.specs.declared.Kind.TheVariants.{Value, Gradient}
use Rattle.protocol.specs.declared.Termination.{Termination}
use Rattle.protocol.specs.declared.Termination.TheVariants.{GradientTolerance, SimplexTolerance, StepTolerance, FunctionTolerance, MaxIterations, MaxFevals, LineSearchFailed, GradientFailed, ObjectiveResolution}
use Rattle.protocol.specs.Protocol.{Result, SearchResult, fitted, searched, differenced, Reply, ask, ended, refused, simplex_mark, search_mark}
use Rattle.objective.specs.Step.{probe_of}
use Rattle.linesearch.specs.Step as linesearch
use Rattle.quasinewton.specs.Step as quasinewton
use Rattle.neldermead.specs.Step.{by_tolerance, by_resolution, by_simplex_iterations, not_finite}
use Rattle.optim_record.specs.declared.Record.{Record}
use Rattle.optim_record.specs.Record.{last_asking, search_fixed_of, gradient_fixed_of, gradient_job_of}

-- the mission's 1: "a refused or repeated answer leaves the record bit for bit unchanged"
abbrev pub refused_of : Record → ℕ → ℕ → Reply × Record
refused_of r number detail = (refused number detail, r)

-- the job has ended
unfoldable pub over_of : Record → Bool
over_of r =
    cond (eqb r.job simplex_mark) (ltb last_asking r.simplex.phase)
    (cond (eqb r.job search_mark) (ltb linesearch.asks_difference r.descent.search.phase)
    (cond (gradient_job_of r.job) (not (quasinewton.asks_of r.descent)) (eqb r.diff.at r.n)))

-- whether the open question is for a gradient
unfoldable pub gradient_due_of : Record → Bool
gradient_due_of r =
    cond (eqb r.job search_mark) (eqb r.descent.search.phase linesearch.asks_gradient)
    (cond (gradient_job_of r.job) (quasinewton.gradient_due_of r.descent) false)

-- the question of a kind at a point of sixteen coordinates
abbrev pub asks_of : Record → Kind → List Float → Reply × Record
asks_of r k x = (ask (record { number = r.accepted + 1; kind = k; point = first r.n x }), r)

-- the reason that a phase stands for
unfoldable pub termination_of : ℕ → Termination
termination_of phase =
    cond (eqb phase by_tolerance) SimplexTolerance
    (cond (eqb phase by_resolution) ObjectiveResolution
    (cond (eqb phase by_simplex_iterations) MaxIterations MaxFevals))

-- the result of a simplex fit that has ended
unfoldable pub result_of : Record → Result
unfolding termination_of
result_of r =
    record {
      reason = termination_of r.simplex.phase;
      converged = eqb r.simplex.phase by_tolerance;
      iterations = r.simplex.rounds;
      fevals = r.counts.fevals;
      gevals = r.counts.gevals;
      f = r.simplex.best.f;
      x = first r.n r.simplex.best.x;
    }

abbrev pub ends_of : Record → Reply × Record
ends_of r = (ended (fitted (result_of r)), r)

-- what stands in a simplex fit: its question, refusal 20, or its result
unfoldable pub standing_simplex_of : Record → Reply × Record
unfolding result_of
standing_simplex_of r =
    cond (leb r.simplex.phase last_asking) (asks_of r Value r.simplex.x)
    (cond (eqb r.simplex.phase not_finite) (refused_of r 20 0) (ends_of r))

-- `WolfeResult` of linesearch.rs: success, step, f, x, gradient and trials
unfoldable pub search_result_of : Record → SearchResult
search_result_of r =
    let s = r.descent.search in
    record {
      success = eqb s.phase linesearch.found;
      step = s.best.trial.step;
      f = s.best.trial.value;
      x = first r.n s.best.x;
      gradient = first r.n s.best.g;
      trials = s.trials;
    }

-- what stands in a search: its question, or its outcome
unfoldable pub standing_search_of : Record → Reply × Record
unfolding search_result_of
standing_search_of r =
    let p = linesearch.probe_of (search_fixed_of r) r.descent.line r.descent.search in
    cond (ltb linesearch.asks_difference r.descent.search.phase) (ended (searched (search_result_of r)), r)
    (cond (eqb r.descent.search.phase linesearch.asks_gradient) (asks_of r Gradient p) (asks_of r Value p))

-- the reason that a gradient fit's phase stands for
unfoldable pub descent_termination_of : ℕ → Termination
descent_termination_of phase =
    cond (eqb phase quasinewton.by_gradient) GradientTolerance
    (cond (eqb phase quasinewton.by_function) FunctionTolerance
    (cond (eqb phase quasinewton.by_step) StepTolerance
    (cond (eqb phase quasinewton.by_iterations) MaxIterations
    (cond (eqb phase quasinewton.by_fevals) MaxFevals
    (cond (eqb phase quasinewton.by_search) LineSearchFailed GradientFailed)))))

-- GradientTolerance, FunctionTolerance or StepTolerance
unfoldable pub descent_converged_of : ℕ → Bool
descent_converged_of phase = cond (ltb phase quasinewton.by_gradient) false (leb phase quasinewton.by_step)

-- the result of a gradient fit that has ended
unfoldable pub descent_result_of : Record → Result
unfolding descent_termination_of descent_converged_of
descent_result_of r =
    record {
      reason = descent_termination_of r.descent.phase;
      converged = descent_converged_of r.descent.phase;
      iterations = r.descent.rounds;
      fevals = r.counts.fevals;
      gevals = r.counts.gevals;
      f = r.descent.line.f;
      x = first r.n r.descent.line.x;
    }

abbrev pub descent_ends_of : Record → Reply × Record
descent_ends_of r = (ended (fitted (descent_result_of r)), r)

-- what stands in a gradient fit: its question, the refusal that ended it, or its result
unfoldable pub standing_descent_of : Record → Reply × Record
unfolding descent_result_of
standing_descent_of r =
    let p = quasinewton.probe_of (gradient_fixed_of r) r.descent in
    cond (quasinewton.asks_of r.descent) (cond (quasinewton.gradient_due_of r.descent) (asks_of r Gradient p) (asks_of r Value p))
    (cond (eqb r.descent.phase quasinewton.by_refusal) (refused_of r r.descent.number r.descent.detail) (descent_ends_of r))

-- what stands in differences
unfoldable pub standing_differences_of : Record → Reply × Record
standing_differences_of r = cond (eqb r.diff.at r.n) (ended (differenced (first r.n r.diff.g)), r) (asks_of r Value (probe_of r.diff))

-- the question or the outcome that stands: a function of the record
unfoldable pub standing_of : Record → Reply × Record
unfolding standing_simplex_of standing_search_of standing_descent_of standing_differences_of
standing_of r =
    cond (eqb r.job simplex_mark) (standing_simplex_of r)
    (cond (eqb r.job search_mark) (standing_search_of r)
    (cond (gradient_job_of r.job) (standing_descent_of r) (standing_differences_of r)))
