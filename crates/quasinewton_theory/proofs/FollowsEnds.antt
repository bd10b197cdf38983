-- After a search the record ends or goes on to the next head as the text does: `missed_settles` and `succeeded_settles`. Assumes nothing.
use Prim.Native.Nat.{ℕ, ◌≤◌}
use mathlib.Core.Path.{◌≡◌, refl, sym, ap, subst}
use mathlib.Core.Bool.{Bool, true, false, not, ◌&&◌, cond}
use mathlib.Core.List.{List}
use lib.Ieee.{Float, lt}
use Rattle.float.specs.Binary64.{plus_zero}
use Rattle.float.proofs.Tests.{cond_and}
use Rattle.vector.specs.Points.{difference_of}
use Rattle.vector.specs.Lists.{first}
use Rattle.vector.proofs.First.{point_laws, ties}
use Rattle.protocol.specs.declared.Termination.{Termination}
use Rattle.protocol.specs.declared.Termination.TheVariants.{StepTolerance, FunctionTolerance, LineSearchFailed, GradientFailed}
use Rattle.protocol.specs.Ask.{finish}
use Rattle.protocol.specs.Rounds.{Ending, stops, FitLimits}
use Rattle.quasinewton_model.specs.declared.Model.{Model}
use Rattle.quasinewton_model.specs.Step.{update_of}
use Rattle.quasinewton_model_theory.specs.Ties as hessian
use Rattle.quasinewton_model_theory.proofs.Ties.{hessian_ties}
use Rattle.linesearch_trials.specs.declared.Evaluation.{Evaluation}
use Rattle.linesearch_theory.specs.Follows as searches
use Rattle.quasinewton_record.specs.declared.Fixed.{Fixed}
use Rattle.quasinewton_record.specs.declared.Descent.{Descent}
use Rattle.quasinewton.specs.Step.{by_function, by_step, by_search, by_gradient_failed, stores_of, small_decrease_of, small_step_of, in_phase, with_line, valued_at, Moved, moved, lower_of, missed_of, stored_of, stepped_of, succeeded_of}
use Rattle.quasinewton_theory.specs.Algorithm.{GradientPosition, stored, stepped, small_decrease, small_step, stops_lower, succeeded}
use Rattle.quasinewton_theory.specs.Follows.{position_of, to_do, settled, GradientAllows}
use Rattle.quasinewton_theory.proofs.FollowsRound.{head_does}

small_decrease_is : (tol before now : Float) → small_decrease tol before now ≡ small_decrease_of tol before now
unfolding small_decrease small_decrease_of
small_decrease_is tol before now = sym (cond_and (lt plus_zero tol) _)

module _ (fixed : Fixed) (small : fixed.n ≤ 16) where
  abbrev n : ℕ
  n = fixed.n

  abbrev at : Descent → Model → GradientPosition
  at = position_of fixed

  small_step_is : (tol : Float) (before now : List Float) → small_step tol (first n before) (first n now) ≡ small_step_of tol before now n
  unfolding small_step small_step_of
  small_step_is tol before now = rw (← ties.difference_of_lem now before n, ← ties.inf_norm_lem (difference_of now before n) n, ← ties.inf_norm_lem now n) (sym (cond_and (lt plus_zero tol) _))

  -- ---- the step to t

  module _ (q : Descent) (m : Model) (t : Evaluation) (sized : hessian.ModelSized m) where
    abbrev s : List Float
    s = difference_of t.x q.line.x n

    abbrev y : List Float
    y = difference_of t.g q.line.g n

    stored_is : stored (hessian.read_model n m) (first n s) (first n y) ≡ hessian.read_model n (stored_of fixed q m t)
    unfolding stored stored_of stores_of
    stored_is =
        rw (← ties.inf_norm_lem s n, ← ties.inf_norm_lem y n, ← ties.dot_of_lem s y n, ← (hessian_ties n small).update_of_lem m s y sized)
        (go (stores_of s y n))
      where
        go : (b : Bool) → cond b (hessian.read_model n (update_of m s y n)) (hessian.read_model n m) ≡ hessian.read_model n (cond b (update_of m s y n) m)
        go true = refl
        go false = refl

    pub stored_sized : hessian.ModelSized (stored_of fixed q m t)
    unfolding stored_of difference_of
    stored_sized = go (stores_of s y n)
      where
        go : (b : Bool) → hessian.ModelSized (cond b (update_of m s y n) m)
        go true = (hessian_ties n small).update_sized m s y sized (point_laws.width _ n small) (point_laws.width _ n small)
        go false = sized

    stepped_is : stepped (at q m) (searches.lowered n t) ≡ at (stepped_of q t) (stored_of fixed q m t)
    unfolding stepped stepped_of
    stepped_is = rw (← ties.difference_of_lem t.x q.line.x n, ← ties.difference_of_lem t.g q.line.g n, stored_is)

  -- ---- from a search that has ended
  module _ (k : FitLimits) (v : ℕ) (allows : GradientAllows fixed k v) where
    -- an ending goes on to what the record and the model have to do
    pub record Settles (e : Ending GradientPosition) (w : Moved) : Type 0 where
      pub settles : settled k v (finish e) ≡ to_do fixed w.descent w.model

    turn : {b c : Bool} → b ≡ c → {i j : Ending GradientPosition} {u w : Moved} → Settles i u → Settles j w → Settles (cond b i j) (cond c u w)
    turn {b} {c} e {i} {j} {u} {w} x y = subst (λ (d : Bool). Settles (cond b i j) (cond d u w)) e (go b)
      where
        go : (d : Bool) → Settles (cond d i j) (cond d u w)
        go true = x
        go false = y

    -- a phase stands for a reason
    abbrev Says : ℕ → Termination → Type 0
    Says why y = (q : Descent) (m : Model) → to_do fixed (in_phase q why) m ≡ finish (stops y (at q m))

    stopped : (why : ℕ) (y : Termination) → Says why y → (q : Descent) (m : Model) → Settles (stops y (at q m)) (moved (in_phase q why) m)
    stopped why y says q m = record { settles = sym (says q m) }

    lower_settles : (why : ℕ) (y : Termination) → Says why y → (q : Descent) (m : Model) (t : Evaluation)
        → Settles (stops_lower y (at q m) (searches.lowered n t) (lt t.trial.value q.line.f)) (moved (lower_of q why t) m)
    unfolding lower_of
    lower_settles why y says q m t = go (lt t.trial.value q.line.f)
      where
        go : (b : Bool)
            → Settles (stops_lower y (at q m) (searches.lowered n t) b) (moved (cond b (with_line q why (valued_at q t.x t.trial.value)) (in_phase q why)) m)
        go true = stopped why y says (with_line q why (valued_at q t.x t.trial.value)) m
        go false = stopped why y says q m

    pub missed_settles : (q : Descent) (m : Model) (t : Evaluation)
        → Settles (stops_lower LineSearchFailed (at q m) (searches.lowered n t) (lt plus_zero t.trial.step && lt t.trial.value q.line.f)) (moved (missed_of q t) m)
    unfolding missed_of
    missed_settles q m t = go (lt plus_zero t.trial.step)
      where
        go : (b : Bool)
            → Settles (stops_lower LineSearchFailed (at q m) (searches.lowered n t) (b && lt t.trial.value q.line.f)) (moved (cond b (lower_of q by_search t) (in_phase q by_search)) m)
        go true = lower_settles by_search LineSearchFailed (λ w h. refl) q m t
        go false = stopped by_search LineSearchFailed (λ w h. refl) q m

    pub succeeded_settles : (q : Descent) (m : Model) (t : Evaluation) → hessian.ModelSized m → Settles (succeeded (at q m) (searches.lowered n t)) (succeeded_of fixed q m t v)
    unfolding succeeded_of
    succeeded_settles q m t sized =
        let w = stepped_of q t in
        let h = stored_of fixed q m t in
        rw (stepped_is q m t sized)
        (turn (ap not (sym (ties.all_finite_lem t.g n))) (lower_settles by_gradient_failed GradientFailed (λ u i. refl) q m t)
        (turn (small_decrease_is fixed.options.ftol q.line.f t.trial.value) (stopped by_function FunctionTolerance (λ u i. refl) w h)
        (turn (small_step_is fixed.options.xtol q.line.x t.x) (stopped by_step StepTolerance (λ u i. refl) w h)
        (record { settles = head_does fixed h small (stored_sized q m t sized) w k v allows }))))
