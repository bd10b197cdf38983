-- What is said, as the code says it: of parts of a record, with points of sixteen coordinates. proofs/Says.antt holds it against
-- Standing.antt. Definitions only.
use Rattle.std.specs.Prelude.{ℕ, ◌+◌, Bool, cond, List, eqb, ltb, leb, replicate, Float}
use Rattle.float.specs.Binary64.{plus_zero}
use Rattle.protocol.specs.declared.Kind.{Kind}
use Rattle.protocol.specs.declared.Kind.TheVariants.{Value, Gradient}
use Rattle.protocol.specs.declared.Termination.{Termination}
use Rattle.protocol.specs.declared.Said.TheVariants.{Ask, Fitted, Searched, Differenced, Refused}
use Rattle.protocol.specs.Protocol.{Reply, ask, ended, refused, refusal, reply_of, simplex_mark, search_mark}
use Rattle.objective.specs.declared.Differences.{Differences}
use Rattle.objective.specs.Step.{probe_of}
use Rattle.linesearch_trials.specs.declared.Fixed as linesearch_fixed
use Rattle.linesearch_trials.specs.declared.Line.{Line}
use Rattle.linesearch_moves.specs.declared.Search.{Search}
use Rattle.linesearch.specs.Step as linesearch
use Rattle.quasinewton_record.specs.declared.Fixed as quasinewton_fixed
use Rattle.quasinewton_record.specs.declared.Descent.{Descent}
use Rattle.quasinewton.specs.Step as quasinewton
use Rattle.neldermead_vertices.specs.declared.Vertex.{Vertex}
use Rattle.neldermead.specs.Step.{by_tolerance, not_finite}
use Rattle.optim_record.specs.declared.Counts.{Counts}
use Rattle.optim_record.specs.declared.Record.{Record}
use Rattle.optim_record.specs.declared.Answered.{Answered}
use Rattle.optim_record.specs.Record.{last_asking, search_fixed_of, gradient_fixed_of, gradient_job_of}
use Rattle.optim_reply.specs.declared.Spoken.{Spoken}
use Rattle.optim_reply.specs.Standing.{termination_of, descent_termination_of, descent_converged_of}

-- a reply in 01's words, and the record that it is of
unfoldable pub reply_with : Spoken → Record → Reply × Record
unfolding reply_of
reply_with s r = (reply_of s.said r.n s.x s.g, r)

abbrev none : List Float
none = replicate 16 plus_zero

-- a refusal: it speaks of no point
abbrev pub refusal_of : ℕ → ℕ → Spoken
refusal_of number detail = record { said = Refused (refusal number detail); x = none; g = none }

-- the question after `accepted` answers
abbrev pub asked_of : ℕ → Kind → List Float → Spoken
asked_of accepted k x = record { said = Ask (accepted + 1) k; x = x; g = none }

-- the result of a fit, by its reason, with its best point
abbrev pub fitted_of : Termination → Bool → ℕ → Counts → Vertex → Spoken
fitted_of reason converged rounds c best =
    record {
      said = Fitted (record { reason = reason; converged = converged; iterations = rounds; fevals = c.fevals; gevals = c.gevals; f = best.f });
      x = best.x;
      g = none;
    }

-- a simplex fit
abbrev pub ended_of : Counts → ℕ → ℕ → Vertex → Spoken
ended_of c phase rounds best = fitted_of (termination_of phase) (eqb phase by_tolerance) rounds c best

unfoldable pub simplex_spoken_of : ℕ → Counts → ℕ → ℕ → List Float → Vertex → Spoken
simplex_spoken_of accepted c phase rounds x best =
    cond (leb phase last_asking) (asked_of accepted Value x) (cond (eqb phase not_finite) (refusal_of 20 0) (ended_of c phase rounds best))

-- a search
abbrev pub found_of : Search → Spoken
found_of s =
    record {
      said = Searched (record { success = eqb s.phase linesearch.found; step = s.best.trial.step; f = s.best.trial.value; trials = s.trials });
      x = s.best.x;
      g = s.best.g;
    }

unfoldable pub search_spoken_of : ℕ → linesearch_fixed.Fixed → Line → Search → Spoken
search_spoken_of accepted fixed l s =
    let p = linesearch.probe_of fixed l s in
    cond (ltb linesearch.asks_difference s.phase) (found_of s)
    (cond (eqb s.phase linesearch.asks_gradient) (asked_of accepted Gradient p) (asked_of accepted Value p))

-- a gradient fit
abbrev pub descent_ended_of : Counts → ℕ → ℕ → Line → Spoken
descent_ended_of c phase rounds l = fitted_of (descent_termination_of phase) (descent_converged_of phase) rounds c (record { x = l.x; f = l.f })

unfoldable pub descent_spoken_of : ℕ → Counts → quasinewton_fixed.Fixed → Descent → Spoken
descent_spoken_of accepted c fixed d =
    let p = quasinewton.probe_of fixed d in
    cond (quasinewton.asks_of d) (cond (quasinewton.gradient_due_of d) (asked_of accepted Gradient p) (asked_of accepted Value p))
    (cond (eqb d.phase quasinewton.by_refusal) (refusal_of d.number d.detail) (descent_ended_of c d.phase d.rounds d.line))

-- differences
unfoldable pub differences_spoken_of : ℕ → ℕ → Differences → Spoken
differences_spoken_of accepted n e =
    cond (eqb e.at n) (record { said = Differenced; x = e.x; g = e.g }) (asked_of accepted Value (probe_of e))

-- all that is said of a record: what stands in it, with sixteen places of its point and its gradient
unfoldable pub spoken_of : Record → Spoken
spoken_of r =
    cond (eqb r.job simplex_mark) (simplex_spoken_of r.accepted r.counts r.simplex.phase r.simplex.rounds r.simplex.x r.simplex.best)
    (cond (eqb r.job search_mark) (search_spoken_of r.accepted (search_fixed_of r) r.descent.line r.descent.search)
    (cond (gradient_job_of r.job) (descent_spoken_of r.accepted r.counts (gradient_fixed_of r) r.descent) (differences_spoken_of r.accepted r.n r.diff)))

-- all that is said with a reply and its record: a refusal speaks of no point, a question and an outcome say what stands
abbrev pub spoken_from : Spoken → Reply → Spoken
spoken_from s (ask q) = s
spoken_from s (ended o) = s
spoken_from s (refused k d) = refusal_of k d

abbrev pub spoken_by : Reply × Record → Spoken
spoken_by y = spoken_from (spoken_of y.1) y.0

-- what is said beside a record
abbrev pub spoken_in : Answered → Spoken
spoken_in a = record { said = a.said; x = a.x; g = a.g }
