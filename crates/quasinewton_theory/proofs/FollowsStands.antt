-- A record that has gone on from the head of a round, or from a search that has ended, asks or has ended: `settled_stands`. Assumes nothing.
use Prim.Native.Nat.{ℕ, ◌≤◌, ◌<◌}
use mathlib.Core.Path.{◌≡◌, refl}
use mathlib.Core.Bool.{Bool, true, false, not, cond}
use mathlib.Core.List.{List}
use native.Mathlib.Omega.{arith}
use borrow.Author.Tests.{eqb-true, eqb-false}
use lib.Dec.{leb, eqb}
use lib.Ieee.{Float, neg, lt, le}
use Rattle.float.specs.Binary64.{plus_zero}
use Rattle.vector.specs.Points.{dot_of, negation_of, inf_norm_of, all_finite_of}
use Rattle.protocol.specs.declared.Refusal.{Refusal}
use Rattle.protocol.specs.Protocol.{read_of}
use Rattle.quasinewton_model.specs.declared.Model.{Model}
use Rattle.quasinewton_model.specs.Step.{direction_of}
use Rattle.linesearch_trials.specs.declared.Evaluation.{Evaluation}
use Rattle.linesearch_trials.specs.declared.Line.{Line}
use Rattle.linesearch_trials.specs.Start.{line_from_of, options_refusal_of, counts_refusal_of, line_refusal_of}
use Rattle.linesearch.specs.Step as linesearch
use Rattle.linesearch_theory.proofs.Follows.{search_follows}
use Rattle.quasinewton_record.specs.declared.Fixed.{Fixed}
use Rattle.quasinewton_record.specs.declared.Descent.{Descent}
use Rattle.quasinewton.specs.Step as step
use Rattle.quasinewton.specs.Step.{searching, by_gradient, by_function, by_step, by_iterations, by_fevals, by_search, by_gradient_failed, by_refusal, small_decrease_of, small_step_of, initial_step_of, not_descending_of, in_phase, refused_by, with_line, valued_at, search_fixed, Moved, moved, sought_of, searched_of, steepest_of, directed_of, headed_of, lower_of, missed_of, stepped_of, stored_of, succeeded_of, settled_of, start_of}
use Rattle.quasinewton_theory.specs.Follows.{DescentShaped, DescentStands}
use Rattle.quasinewton_theory.proofs.FollowsRound.{options_allow}

pub start_stands : (x : List Float) → DescentStands (start_of x)
unfolding start_of
start_stands x = record { most = omega arith; asking = λ e. omega (arith, e) }

both : (b : Bool) {u w : Descent} → DescentStands u → DescentStands w → DescentStands (cond b u w)
both true h k = h
both false h k = k

-- in a phase of a fit that has ended
over : (q : Descent) (p : ℕ) → searching < p → p ≤ by_refusal → DescentStands (in_phase q p)
over q p i j = record { most = j; asking = λ e. omega (arith, i, e) }

refused : (q : Descent) (why : Refusal) → DescentStands (refused_by q why)
refused q why = record { most = omega arith; asking = λ e. omega (arith, e) }

module _ (fixed : Fixed) where
  abbrev n : ℕ
  n = fixed.n

  -- a search that passes the tests opens with a question
  sought_stands : (q : Descent) (l : Line) (a : Float) → eqb (options_refusal_of fixed.options.wolfe).number 0 ≡ true → DescentStands (sought_of fixed q l a)
  unfolding sought_of
  sought_stands q l a h =
      let some : 0 < fixed.options.wolfe.evals = omega (arith, eqb-false fixed.options.wolfe.evals 0 (options_allow fixed.options.wolfe h)) in
      record { most = omega arith; asking = λ e. omega (arith, (search_follows read_of (search_fixed fixed) l).begun_asks a some) }

  searched_stands : (q : Descent) (d : List Float) → DescentStands (searched_of fixed q d)
  unfolding searched_of
  searched_stands q d = go (eqb options.number 0) refl
    where
      a : Float
      a = initial_step_of q.first d n

      l : Line
      l = line_from_of q.line.x d q.line.f q.line.g n

      options : Refusal
      options = options_refusal_of fixed.options.wolfe

      counts : Refusal
      counts = counts_refusal_of n n n

      lent : Refusal
      lent = line_refusal_of n l a

      go : (b : Bool) → eqb options.number 0 ≡ b
          → DescentStands (cond (not b) (refused_by q options) (cond (not (eqb counts.number 0)) (refused_by q counts) (cond (not (eqb lent.number 0)) (refused_by q lent) (sought_of fixed q l a))))
      go false e = refused q options
      go true e = both (not (eqb counts.number 0)) (refused q counts) (both (not (eqb lent.number 0)) (refused q lent) (sought_stands q l a e))

  steepest_stands : (q : Descent) → DescentStands (steepest_of fixed q)
  unfolding steepest_of
  steepest_stands q = both (not_descending_of (neg (dot_of q.line.g q.line.g n))) (over q by_search (omega arith) (omega arith)) (searched_stands q (negation_of q.line.g n))

  directed_stands : (q : Descent) (d : List Float) → DescentStands (directed_of fixed q d)
  unfolding directed_of
  directed_stands q d = both (not_descending_of (dot_of q.line.g d n)) (steepest_stands q) (both (not (all_finite_of d n)) (steepest_stands q) (searched_stands q d))

  headed_stands : (q : Descent) (m : Model) (v : ℕ) → DescentStands (headed_of fixed q m v)
  unfolding headed_of
  headed_stands q m v =
      both (le (inf_norm_of q.line.g n) fixed.options.gradtol) (over q by_gradient (omega arith) (omega arith))
      (both (leb fixed.iter q.rounds) (over q by_iterations (omega arith) (omega arith))
      (both (leb fixed.fevals v) (over q by_fevals (omega arith) (omega arith)) (directed_stands (step.iterated q) (direction_of m q.line.g n))))

  lower_stands : (q : Descent) (why : ℕ) (t : Evaluation) → searching < why → why ≤ by_refusal → DescentStands (lower_of q why t)
  unfolding lower_of
  lower_stands q why t i j = both (lt t.trial.value q.line.f) (over (with_line q why (valued_at q t.x t.trial.value)) why i j) (over q why i j)

  missed_stands : (q : Descent) (t : Evaluation) → DescentStands (missed_of q t)
  unfolding missed_of
  missed_stands q t = both (lt plus_zero t.trial.step) (lower_stands q by_search t (omega arith) (omega arith)) (over q by_search (omega arith) (omega arith))

  -- ---- with the model

  record StandsMoved (w : Moved) : Type 0 where
    stands : DescentStands w.descent

  both_moved : (b : Bool) {u w : Moved} → StandsMoved u → StandsMoved w → StandsMoved (cond b u w)
  both_moved true h k = h
  both_moved false h k = k

  succeeded_stands : (q : Descent) (m : Model) (t : Evaluation) (v : ℕ) → StandsMoved (succeeded_of fixed q m t v)
  unfolding succeeded_of
  succeeded_stands q m t v =
      let o = fixed.options in
      let w = stepped_of q t in
      both_moved (not (all_finite_of t.g n)) (record { stands = lower_stands q by_gradient_failed t (omega arith) (omega arith) })
      (both_moved (small_decrease_of o.ftol q.line.f t.trial.value) (record { stands = over w by_function (omega arith) (omega arith) })
      (both_moved (small_step_of o.xtol q.line.x t.x n) (record { stands = over w by_step (omega arith) (omega arith) }) (record { stands = headed_stands w (stored_of fixed q m t) v })))

  pub settled_stands : (q : Descent) (m : Model) (v : ℕ) → DescentShaped fixed q → DescentStands (settled_of fixed q m v).descent
  unfolding settled_of
  settled_stands q m v z = (go (eqb q.phase step.at_head) refl (eqb q.phase searching) refl (eqb q.search.phase linesearch.found) refl (eqb q.search.phase linesearch.failed) refl).stands
    where
      t : Evaluation
      t = q.search.best

      go : (a : Bool) → eqb q.phase step.at_head ≡ a → (b : Bool) → eqb q.phase searching ≡ b
          → (c : Bool) → eqb q.search.phase linesearch.found ≡ c → (d : Bool) → eqb q.search.phase linesearch.failed ≡ d
          → StandsMoved (cond a (moved (headed_of fixed q m v) m) (cond (not b) (moved q m) (cond c (succeeded_of fixed q m t v) (cond d (moved (missed_of q t) m) (moved q m)))))
      go true e b f c g d h = record { stands = headed_stands q m v }
      go false e false f c g d h = record { stands = record { most = omega (arith, z.most, eqb-false q.phase step.at_head e); asking = λ i. absurd (eqb-false q.phase searching f i) } }
      go false e true f true g d h = succeeded_stands q m t v
      go false e true f false g true h = record { stands = missed_stands q t }
      go false e true f false g false h =
          record {
            stands =
                record {
                  most = omega (arith, eqb-true q.phase searching f);
                  asking = λ i. omega (arith, z.parts.search.most, eqb-false q.search.phase linesearch.found g, eqb-false q.search.phase linesearch.failed h);
                };
          }
