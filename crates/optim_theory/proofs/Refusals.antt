-- The refusals that end a gradient fit are of those that a record can hold, whatever the record with an unknown and the answer: `told_named`, `told_gradient_named`, `settled_named`. Assumes nothing.
use Prim.Native.Nat.{ℕ, ◌<◌}
use mathlib.Core.Path.{◌≡◌, refl, subst}
use mathlib.Core.Bool.{Bool, true, false, not, cond}
use mathlib.Core.List.{List}
use native.Mathlib.Omega.{arith}
use borrow.Author.Tests.{eq-eqb, ne_eqb}
use lib.Dec.{T, leb, ltb, eqb}
use lib.Ieee.{Float, neg, lt, le}
use Rattle.float.specs.Binary64.{plus_zero}
use Rattle.float.specs.Values.{finite_of, positive_of}
use Rattle.vector.specs.Points.{dot_of, negation_of, inf_norm_of, all_finite_of}
use Rattle.protocol.specs.declared.Refusal.{Refusal}
use Rattle.protocol.specs.declared.WolfeOptions.{WolfeOptions}
use Rattle.protocol.specs.Protocol.{no_refusal}
use Rattle.objective.specs.declared.Differences.{Differences}
use Rattle.objective.specs.Step as objective
use Rattle.linesearch_trials.specs.declared.Evaluation.{Evaluation}
use Rattle.linesearch_trials.specs.declared.Line.{Line}
use Rattle.linesearch_moves.specs.declared.Search.{Search}
use Rattle.linesearch_trials.specs.Trials.{one}
use Rattle.linesearch_trials.specs.Start.{line_from_of, options_refusal_of, counts_refusal_of, line_refusal_of}
use Rattle.linesearch.specs.Step as linesearch
use Rattle.quasinewton_model.specs.declared.Model.{Model}
use Rattle.quasinewton_model.specs.Step.{direction_of}
use Rattle.quasinewton_record.specs.declared.Fixed.{Fixed}
use Rattle.quasinewton_record.specs.declared.Descent.{Descent}
use Rattle.quasinewton.specs.Step as step
use Rattle.quasinewton.specs.Step.{first_value, first_differences, searching, by_refusal, small_decrease_of, small_step_of, initial_step_of, not_descending_of, refused_by, with_line, with_search, valued_at, sought_of, searched_of, steepest_of, directed_of, headed_of, lower_of, missed_of, stepped_of, Moved, stored_of, succeeded_of, settled_of, graded_of, differing_of, valued_of, told_of, told_gradient_of, start_of}
use Rattle.optim_record.specs.Record.{known_refusal_of, valid_ending_of}

-- a refusal that ended the fit is one of those
pub record Named (q : Descent) : Type 0 where
  pub ending : valid_ending_of q ≡ true

-- ---- the tests of a search

-- one of those, or none
record Known (why : Refusal) : Type 0 where
  met : eqb why.number 0 ≡ false → known_refusal_of why.number why.detail ≡ true

test : (b : Bool) {x y : Refusal} → Known x → Known y → Known (cond b x y)
test true p q = p
test false p q = q

none_met : Known no_refusal
none_met = record { met = λ e. absurd (subst T e tt) }

options_known : (o : WolfeOptions) → Known (options_refusal_of o)
unfolding options_refusal_of known_refusal_of
options_known o =
    test (not (lt plus_zero o.c1)) (record { met = λ e. refl })
    (test (not (lt o.c1 one)) (record { met = λ e. refl })
    (test (not (lt o.c1 o.c2)) (record { met = λ e. refl })
    (test (not (lt o.c2 one)) (record { met = λ e. refl })
    (test (eqb o.evals 0) (record { met = λ e. refl }) (test (not (positive_of o.stepmax)) (record { met = λ e. refl }) none_met)))))

-- the lists of a record are as long as its n
counts_known : (n : ℕ) → 0 < n → Known (counts_refusal_of n n n)
unfolding counts_refusal_of
counts_known n some = rw (ne_eqb n 0 (λ e. omega arith), eq-eqb n n refl) none_met

line_known : (n : ℕ) (l : Line) (a : Float) → Known (line_refusal_of n l a)
unfolding line_refusal_of known_refusal_of
line_known n l a =
    test (not (all_finite_of l.x n)) (record { met = λ e. refl })
    (test (not (all_finite_of l.d n)) (record { met = λ e. refl })
    (test (not (all_finite_of l.g n)) (record { met = λ e. refl })
    (test (not (finite_of l.f)) (record { met = λ e. refl })
    (test (not (positive_of a)) (record { met = λ e. refl }) (test (le plus_zero l.slope) (record { met = λ e. refl }) none_met)))))

-- ---- from the head of a round to its search

both : (b : Bool) {u w : Descent} → Named u → Named w → Named (cond b u w)
both true h k = h
both false h k = k

-- a refusal that is met ends the fit
refuses : (q w : Descent) (why : Refusal) → Known why → Named w → Named (cond (not (eqb why.number 0)) (refused_by q why) w)
unfolding valid_ending_of
refuses q w why k h = go (eqb why.number 0) refl
  where
    go : (b : Bool) → eqb why.number 0 ≡ b → Named (cond (not b) (refused_by q why) w)
    go true e = h
    go false e = record { ending = k.met e }

-- a search that goes on has no refusal of its own
pub searched_named : (q : Descent) (s : Search) → Named q → Named (with_search q s)
unfolding valid_ending_of
searched_named q s h = record { ending = h.ending }

pub start_named : (x : List Float) → Named (start_of x)
unfolding start_of valid_ending_of
start_named x = record { ending = refl }

module _ (fixed : Fixed) (some : 0 < fixed.n) where
  abbrev n : ℕ
  n = fixed.n

  sought_named : (q : Descent) (d : List Float) → Named (searched_of fixed q d)
  unfolding searched_of sought_of valid_ending_of
  sought_named q d =
      let a = initial_step_of q.first d n in
      let l = line_from_of q.line.x d q.line.f q.line.g n in
      refuses q _ (options_refusal_of fixed.options.wolfe) (options_known fixed.options.wolfe)
      (refuses q _ (counts_refusal_of n n n) (counts_known n some) (refuses q (sought_of fixed q l a) (line_refusal_of n l a) (line_known n l a) (record { ending = refl })))

  steepest_named : (q : Descent) → Named (steepest_of fixed q)
  unfolding steepest_of valid_ending_of
  steepest_named q = both (not_descending_of (neg (dot_of q.line.g q.line.g n))) (record { ending = refl }) (sought_named q (negation_of q.line.g n))

  directed_named : (q : Descent) (d : List Float) → Named (directed_of fixed q d)
  unfolding directed_of
  directed_named q d = both (not_descending_of (dot_of q.line.g d n)) (steepest_named q) (both (not (all_finite_of d n)) (steepest_named q) (sought_named q d))

  headed_named : (q : Descent) (m : Model) (v : ℕ) → Named (headed_of fixed q m v)
  unfolding headed_of valid_ending_of
  headed_named q m v =
      both (le (inf_norm_of q.line.g n) fixed.options.gradtol) (record { ending = refl })
      (both (leb fixed.iter q.rounds) (record { ending = refl }) (both (leb fixed.fevals v) (record { ending = refl }) (directed_named (step.iterated q) (direction_of m q.line.g n))))

  -- ---- after a search

  lower_named : (q : Descent) (why : ℕ) (t : Evaluation) → (why ≡ by_refusal → ⊥) → Named (lower_of q why t)
  unfolding lower_of valid_ending_of
  lower_named q why t h = both (lt t.trial.value q.line.f) (record { ending = rw (ne_eqb why by_refusal h) }) (record { ending = rw (ne_eqb why by_refusal h) })

  missed_named : (q : Descent) (t : Evaluation) → Named (missed_of q t)
  unfolding missed_of valid_ending_of
  missed_named q t = both (lt plus_zero t.trial.step) (lower_named q step.by_search t (λ e. omega arith)) (record { ending = refl })

  record NamedMoved (w : Moved) : Type 0 where
    named : Named w.descent

  both_moved : (b : Bool) {u w : Moved} → NamedMoved u → NamedMoved w → NamedMoved (cond b u w)
  both_moved true h k = h
  both_moved false h k = k

  succeeded_named : (q : Descent) (m : Model) (t : Evaluation) (v : ℕ) → NamedMoved (succeeded_of fixed q m t v)
  unfolding succeeded_of valid_ending_of
  succeeded_named q m t v =
      let o = fixed.options in
      both_moved (not (all_finite_of t.g n)) (record { named = lower_named q step.by_gradient_failed t (λ e. omega arith) })
      (both_moved (small_decrease_of o.ftol q.line.f t.trial.value) (record { named = record { ending = refl } })
      (both_moved (small_step_of o.xtol q.line.x t.x n) (record { named = record { ending = refl } }) (record { named = headed_named (stepped_of q t) (stored_of fixed q m t) v })))

  pub settled_named : (q : Descent) (m : Model) (v : ℕ) → Named q → Named (settled_of fixed q m v).descent
  unfolding settled_of
  settled_named q m v h = made.named
    where
      t : Evaluation
      t = q.search.best

      made : NamedMoved (settled_of fixed q m v)
      made =
          both_moved (eqb q.phase step.at_head) (record { named = headed_named q m v })
          (both_moved (not (eqb q.phase searching)) (record { named = h })
          (both_moved (eqb q.search.phase linesearch.found) (succeeded_named q m t v)
          (both_moved (eqb q.search.phase linesearch.failed) (record { named = missed_named q t }) (record { named = h }))))

  -- ---- answers

  graded_named : (q : Descent) (g : List Float) → Named (graded_of fixed q g)
  unfolding graded_of valid_ending_of known_refusal_of
  graded_named q g = both (not (all_finite_of g n)) (record { ending = refl }) (record { ending = refl })

  differing_named : (q : Descent) (e : Differences) → Named (differing_of fixed q e)
  unfolding differing_of valid_ending_of
  differing_named q e = both (ltb e.at n) (record { ending = refl }) (graded_named q e.g)

  valued_named : (q : Descent) (v : Float) → Named (valued_of fixed q v)
  unfolding valued_of valid_ending_of known_refusal_of
  valued_named q v =
      both (not (finite_of v)) (record { ending = refl })
      (both fixed.options.gradients (record { ending = refl }) (differing_named (with_line q step.first_gradient (valued_at q q.line.x v)) (objective.begun_of q.line.x)))

  pub told_named : (q : Descent) (v : Float) → Named q → Named (told_of fixed q v)
  unfolding told_of valid_ending_of
  told_named q v h =
      both (eqb q.phase searching) (record { ending = h.ending })
      (both (eqb q.phase first_value) (valued_named q v)
      (both (not (eqb q.phase first_differences)) h (both (ltb q.diff.at n) (differing_named q (objective.told_of q.diff v)) h)))

  pub told_gradient_named : (q : Descent) (g : List Float) → Named q → Named (told_gradient_of fixed q g)
  unfolding told_gradient_of valid_ending_of
  told_gradient_named q g h = both (eqb q.phase searching) (record { ending = h.ending }) (both (eqb q.phase step.first_gradient) (graded_named q g) h)
