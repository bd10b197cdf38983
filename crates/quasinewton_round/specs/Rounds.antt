-- The head of a round and its direction, up to the start of its search. Definitions only.
use Rattle.std.specs.Prelude.{ℕ, ◌+◌, not, cond, List, leb, eqb, Float}
use Rattle.std.specs.Float.Ieee.{neg, le}
use Rattle.vector.specs.Points.{dot_of, negation_of, inf_norm_of, all_finite_of}
use Rattle.protocol.specs.declared.Refusal.{Refusal}
use Rattle.linesearch_trials.specs.declared.Line.{Line}
use Rattle.linesearch_trials.specs.Start.{line_from_of, options_refusal_of, counts_refusal_of, line_refusal_of}
use Rattle.linesearch.specs.Step as linesearch
use Rattle.quasinewton_model.specs.declared.Model.{Model}
use Rattle.quasinewton_model.specs.Step.{direction_of}
use Rattle.quasinewton_record.specs.declared.Fixed.{Fixed}
use Rattle.quasinewton_record.specs.declared.Descent.{Descent}
use Rattle.quasinewton_record.specs.Formulas.{initial_step_of, not_descending_of}
use Rattle.quasinewton_record.specs.Descents.{searching, by_gradient, by_iterations, by_fevals, by_search, in_phase, refused_by, search_fixed}

-- the search along d, at the point where the record stands
unfoldable pub sought_of : Fixed → Descent → Line → Float → Descent
sought_of fixed q l step =
    record { phase = searching; number = q.number; detail = q.detail; first = q.first; rounds = q.rounds; line = l; search = linesearch.begun_of (search_fixed fixed) l step; diff = q.diff }

-- "A fit's search makes all of `strong_wolfe`'s tests in its order": the refusal that it meets, 0 for none
unfoldable pub tested_of : Fixed → Line → Float → Refusal
tested_of fixed l step =
    let n = fixed.n in
    let options = options_refusal_of fixed.options.wolfe in
    let counts = counts_refusal_of n n n in
    cond (not (eqb options.number 0)) options (cond (not (eqb counts.number 0)) counts (line_refusal_of n l step))

-- the tests, then the search
unfoldable pub searched_of : Fixed → Descent → List Float → Descent
searched_of fixed q d =
    let n = fixed.n in
    let l = line_from_of q.line.x d q.line.f q.line.g n in
    let step = initial_step_of q.first d n in
    let options = options_refusal_of fixed.options.wolfe in
    let counts = counts_refusal_of n n n in
    let lent = line_refusal_of n l step in
    cond (not (eqb options.number 0)) (refused_by q options)
    (cond (not (eqb counts.number 0)) (refused_by q counts)
    (cond (not (eqb lent.number 0)) (refused_by q lent) (sought_of fixed q l step)))

-- minus the gradient, in the place of a direction that is not descending
unfoldable pub steepest_of : Fixed → Descent → Descent
steepest_of fixed q =
    let g = q.line.g in
    cond (not_descending_of (neg (dot_of g g fixed.n))) (in_phase q by_search) (searched_of fixed q (negation_of g fixed.n))

unfoldable pub directed_of : Fixed → Descent → List Float → Descent
directed_of fixed q d =
    cond (not_descending_of (dot_of q.line.g d fixed.n)) (steepest_of fixed q)
    (cond (not (all_finite_of d fixed.n)) (steepest_of fixed q) (searched_of fixed q d))

-- iterations += 1
abbrev pub iterated : Descent → Descent
iterated q = record { phase = q.phase; number = q.number; detail = q.detail; first = q.first; rounds = q.rounds + 1; line = q.line; search = q.search; diff = q.diff }

-- the tests at the head of a round, in order, then the round
unfoldable pub headed_of : Fixed → Descent → Model → ℕ → Descent
headed_of fixed q m fevals =
    cond (le (inf_norm_of q.line.g fixed.n) fixed.options.gradtol) (in_phase q by_gradient)
    (cond (leb fixed.iter q.rounds) (in_phase q by_iterations)
    (cond (leb fixed.fevals fevals) (in_phase q by_fevals)
    (directed_of fixed (iterated q) (direction_of m q.line.g fixed.n))))
