-- A gradient fit puts at most 1+I·E questions of each kind where the objective gives gradients, else at most (1+2n)(1+I·E), all of them for values (`bounds`, `counts`). Assumes
-- nothing.
use Prim.Native.Nat.{ℕ, suc, ◌+◌, ◌*◌, ◌≤◌}
use native.Mathlib.Nat.{le_trans, le_refl, mul-le-mul_right, suc-mul, mul-zero, mul-one, mul_comm, mul_assoc, mul-add}
use native.Mathlib.Omega.{arith}
use mathlib.Core.Path.{◌≡◌, refl, sym, ◌∙◌, ap, subst}
use mathlib.Core.Logic.{inl, inr}
use mathlib.Core.Bool.{Bool, true, false, not, ◌&&◌, ◌||◌}
use mathlib.Core.List.{List}
use lib.Dec.{eqb}
use lib.ListN.{length}
use lib.Ieee.{Float, neg, lt}
use Rattle.float.specs.Binary64.{plus_zero}
use Rattle.float.specs.Values.{finite_of}
use Rattle.float.proofs.Tests.{by_cond}
use Rattle.vector.specs.Lists.{dot, all_finite, negation}
use Rattle.protocol.specs.declared.Kind.{Kind}
use Rattle.protocol.specs.declared.Kind.TheVariants.{Value, Gradient}
use Rattle.protocol.specs.declared.SimplexOptions.{SimplexOptions}
use Rattle.protocol.specs.declared.GradientOptions.{GradientOptions}
use Rattle.protocol.specs.declared.Termination.{Termination}
use Rattle.protocol.specs.declared.Termination.TheVariants.{LineSearchFailed, GradientFailed}
use Rattle.protocol.specs.Protocol.{read_of, Job, Fit}
use Rattle.protocol.specs.Dialogue.{of_kind, run}
use Rattle.protocol.specs.Claim.{Limit, limit, ◌⊑◌}
use Rattle.protocol.specs.Ask.{Ask, finish, ask_value, ◌>>=◌}
use Rattle.protocol.specs.Rounds.{Ending, at_head, stops, fails, Rounds, FitLimits, reached, limits_of, engine}
use Rattle.protocol.specs.Bounds.{Costs, Keeps, of_both, BoundLaws, QuestionsAtMost}
use Rattle.protocol.specs.Fits.{fits}
use Rattle.protocol.proofs.Bounds.{costs_more, costs_bind, cond_costs, keeps_by_cost, all_questions, questions_at_most, none_used, one_left}
use Rattle.protocol.proofs.FitsBounds.{bfgs_bounds, lbfgs_bounds}
use Rattle.objective.specs.Algorithm.{eval_gradient}
use Rattle.quasinewton_model_theory.specs.Algorithm.{direction}
use Rattle.linesearch_trials.specs.declared.Evaluation.{Evaluation}
use Rattle.linesearch_trials.specs.declared.Line.{Line}
use Rattle.linesearch_theory.specs.Algorithm.{Searched, refuses, gives, search, wolfe_refusal, line_from, strong_wolfe}
use Rattle.linesearch_theory.specs.Counts.{per_gradient, per_trial}
use Rattle.linesearch_theory.proofs.Counts.{counts as search_counts}
use Rattle.quasinewton_theory.specs.Algorithm.{GradientPosition, stepped, small_decrease, small_step, stops_lower, succeeded, concluded, initial_step, searched, not_descending, iterated, round, with_gradient, with_value, opened, opening, begun_with, quasi_newton}
use Rattle.quasinewton_theory.specs.Counts.{with_gradients, without_gradients, GradientBounds, GradientJob, GradientCounts}
use Rattle.quasinewton_theory.proofs.Laws.{opening_case, no_restart}

-- ---- what the texts ask

module _ (κ : Kind) (n : ℕ) where
  -- the head that a text ends at: of at most n coordinates, with the options o and so many iterations
  abbrev End : GradientOptions → ℕ → Ending GradientPosition → Type 0
  End o i (at_head p) = (length p.x ≤ n) × (p.options ≡ o) × (p.iterations ≡ i)
  End o i (stops y p) = Unit {0}
  End o i (fails k d) = Unit {0}

  -- what a trial asks
  abbrev each : GradientOptions → ℕ
  each o = per_trial κ o.gradients n

  module _ (p : GradientPosition) where
    abbrev Q : Ending GradientPosition → Type 0
    Q = End p.options p.iterations

    -- what a search gives, of at most n coordinates
    abbrev Given : Searched → Type 0
    Given (refuses w) = Unit {0}
    Given (gives r) = length r.at.x ≤ n

    stops_end : (why : Termination) (t : Evaluation) (b : Bool) → Q (stops_lower why p t b)
    stops_end why t true = tt
    stops_end why t false = tt

    succeeded_end : (t : Evaluation) → length t.x ≤ n → Q (succeeded p t)
    unfolding stepped
    succeeded_end t h =
        by_cond Q (not (all_finite t.g)) _ _ (λ i. stops_end GradientFailed t (lt t.trial.value p.f))
        (λ i. by_cond Q (small_decrease p.options.ftol p.f t.trial.value) _ _ (λ j. tt)
        (λ j. by_cond Q (small_step p.options.xtol p.x t.x) _ _ (λ k. tt) (λ k. (h, refl, refl))))

    concluded_end : (s : Searched) → Given s → Q (concluded p s)
    concluded_end (refuses w) h = tt
    concluded_end (gives r) h =
        by_cond Q r.success _ _ (λ i. succeeded_end r.at h) (λ i. stops_end LineSearchFailed r.at (lt plus_zero r.at.trial.step && lt r.at.trial.value p.f))

    -- E trials
    abbrev most : ℕ
    most = p.options.wolfe.evals * each p.options

    module _ (short : length p.x ≤ n) where
      wolfe_costs : (d : List Float) (step : Float) → Costs κ most (strong_wolfe read_of p.options.gradients p.options.wolfe p.x d p.f p.g step) Given
      unfolding strong_wolfe
      wolfe_costs d step =
          let l : Line = line_from p.x d p.f p.g in
          let m = search read_of p.options.gradients p.options.wolfe l step in
          cond_costs κ most (eqb (wolfe_refusal p.options.wolfe p.x d p.f p.g step).number 0) (m >>= λ r. finish (gives r)) _ Given
          (costs_more κ (most + 0) most (m >>= λ r. finish (gives r)) Given (omega arith)
          (costs_bind κ most 0 m (λ r. finish (gives r)) (λ r. length r.at.x ≤ n) Given
          (search_counts.search_costs κ read_of p.options.gradients p.options.wolfe l step n short) (λ r h. h)))
          tt

      searched_costs : (d : List Float) → Costs κ most (searched p d) Q
      searched_costs d =
          let step = initial_step p.first d in
          let m = strong_wolfe read_of p.options.gradients p.options.wolfe p.x d p.f p.g step in
          costs_more κ (most + 0) most (m >>= λ r. finish (concluded p r)) Q (omega arith)
          (costs_bind κ most 0 m (λ r. finish (concluded p r)) Given Q (wolfe_costs d step) concluded_end)

  round_costs : (p : GradientPosition) → length p.x ≤ n → Costs κ (p.options.wolfe.evals * each p.options) (round p) (End p.options (suc p.iterations))
  round_costs p h =
      let d = direction p.hess p.g in
      let q = iterated p in
      let b = most q in
      cond_costs κ b (not_descending (dot p.g d) || not (all_finite d)) _ (searched q d) (Q q)
      (cond_costs κ b (not_descending (neg (dot p.g p.g))) (finish (stops LineSearchFailed q)) (searched q (negation p.g)) (Q q) tt (searched_costs q h (negation p.g)))
      (searched_costs q h d)

  opened_costs : (limits : Bool) (o : GradientOptions) (x : List Float) → length x ≤ n → Costs κ (each o) (opened limits o x) (End o 0)
  opened_costs limits o x h =
      costs_bind κ (of_kind κ Value) per (ask_value read_of x) (with_value limits o x) (λ v. Unit {0}) (End o 0) (0, omega arith, λ w. tt)
      (λ v u. cond_costs κ per (not (finite_of v)) (finish (fails 18 0)) (graded v) (End o 0) tt
      (costs_more κ (per + 0) per (graded v) (End o 0) (omega arith)
      (costs_bind κ per 0 m (λ g. finish (with_gradient limits o x v g)) (λ g. Unit {0}) (End o 0) (search_counts.gradient_costs κ read_of o.gradients x n h)
      (λ g t. by_cond (End o 0) (not (all_finite g)) _ _ (λ i. tt) (λ i. (h, refl, refl))))))
    where
      per : ℕ
      per = per_gradient κ o.gradients n

      m : Ask (List Float)
      m = eval_gradient read_of o.gradients x

      graded : Float → Ask (Ending GradientPosition)
      graded v = m >>= λ g. finish (with_gradient limits o x v g)

module _ (κ : Kind) (limits : Bool) (o : GradientOptions) (x : List Float) (l : FitLimits) (bound : ℕ)
    (in_bound : (i : ℕ) → limit i ⊑ l.iter → per_trial κ o.gradients (length x) + i * (o.wolfe.evals * per_trial κ o.gradients (length x)) ≤ bound) where
  abbrev n : ℕ
  n = length x

  abbrev trial : ℕ
  trial = per_trial κ o.gradients n

  -- what the count may come to after i iterations
  abbrev cap : ℕ → ℕ
  cap i = trial + i * (o.wolfe.evals * trial)

  abbrev Head : ℕ → GradientPosition → Type 0
  Head k p = (length p.x ≤ n) × (p.options ≡ begun_with limits o) × (limit p.iterations ⊑ l.iter) × (k ≤ cap p.iterations)

  keeps : (k b i : ℕ) (m : Ask (Ending GradientPosition)) → Costs κ b m (End κ n (begun_with limits o) i) → limit i ⊑ l.iter → k + b ≤ cap i → Keeps κ bound Head k m
  keeps k b i m c few room =
      keeps_by_cost κ bound Head b k m (End κ n (begun_with limits o) i) c (le_trans room (in_bound i few))
      (λ j p j≤ e. (e.0, e.1, subst (λ (z : ℕ). limit z ⊑ l.iter) (sym e.2) few, subst (λ (z : ℕ). j ≤ cap z) (sym e.2) (le_trans j≤ room)))

  opens : Keeps κ bound Head 0 (opening limits (begun_with limits o) x)
  opens =
      opening_case (Keeps κ bound Head 0) limits (begun_with limits o) x (λ k d. tt)
      (λ a. keeps 0 trial 0 (opened limits (begun_with limits o) x) (opened_costs κ n limits (begun_with limits o) x (le_refl n)) (none_used l.iter) (omega arith))

  rounds : (v g : ℕ) (p : GradientPosition) → Head (of_both κ v g) p → reached p.iterations l.iter ≡ false → Keeps κ bound Head (of_both κ v g) (round p)
  rounds v g p h i =
      keeps (of_both κ v g) (o.wolfe.evals * trial) (suc p.iterations) (round p)
      (subst (λ (z : GradientOptions). Costs κ (z.wolfe.evals * per_trial κ z.gradients n) (round p) (End κ n z (suc p.iterations))) h.1 (round_costs κ n p h.0))
      (one_left p.iterations l.iter i) (omega (arith, h.3, suc-mul p.iterations (o.wolfe.evals * trial)))

  capped : BoundLaws quasi_newton κ bound l (limits, o) x
  capped = record { Head = Head; opening_keeps = opens; restart_keeps = λ k p m h e. absurd (no_restart p m e); round_keeps = λ v g p h i j. rounds v g p h i }

-- ---- the two bounds

-- t a trial, 1+I·E times
times : (t I E : ℕ) → t + I * (E * t) ≡ t * (1 + I * E)
times t I E = omega (arith, sym (mul_assoc I E t), mul-add t 1 (I * E), mul_comm t (I * E), mul-one t)

module _ (limits : Bool) (o : GradientOptions) (x : List Float) (l : FitLimits) where
  -- what a trial asks
  abbrev E : ℕ
  E = o.wolfe.evals

  bounded : (κ : Kind) (t I : ℕ) → per_trial κ o.gradients (length x) ≡ t → l.iter ≡ limit I → BoundLaws quasi_newton κ (t * (1 + I * E)) l (limits, o) x
  bounded κ t I e i =
      capped κ limits o x l (t * (1 + I * E))
      (λ j few.
      let within : j ≤ I = subst (λ (z : Limit). limit j ⊑ z) i few in
      subst (λ (z : ℕ). z + j * (E * z) ≤ t * (1 + I * E)) (sym e) (omega (arith, times t I E, mul-le-mul_right (E * t) within)))

  one_each : (κ : Kind) → per_trial κ true (length x) ≡ 1
  one_each Value = refl
  one_each Gradient = refl

  with_gradients_lem : (κ : Kind) (I : ℕ) → o.gradients ≡ true → l.iter ≡ limit I → BoundLaws quasi_newton κ (with_gradients I o) l (limits, o) x
  with_gradients_lem κ I e i =
      subst (λ (b : ℕ). BoundLaws quasi_newton κ b l (limits, o) x) (omega arith) (bounded κ 1 I (ap (λ (b : Bool). per_trial κ b (length x)) e ∙ one_each κ) i)

  without_gradients_lem : (I : ℕ) → o.gradients ≡ false → l.iter ≡ limit I → BoundLaws quasi_newton Value (without_gradients I o x) l (limits, o) x
  without_gradients_lem I e i = bounded Value (1 + 2 * length x) I (ap (λ (b : Bool). per_trial Value b (length x)) e) i

  no_gradients : o.gradients ≡ false → BoundLaws quasi_newton Gradient 0 l (limits, o) x
  no_gradients e =
      capped Gradient limits o x l 0
      (λ j few. subst (λ (b : Bool). per_trial Gradient b (length x) + j * (E * per_trial Gradient b (length x)) ≤ 0) (sym e)
      (omega (arith, ap (λ (k : ℕ). j * k) (mul-zero E) ∙ mul-zero j)))

pub bounds : GradientBounds
bounds = record { with_gradients_lem = λ κ limits o x l. with_gradients_lem limits o x l κ; without_gradients_lem = without_gradients_lem; no_gradients = no_gradients }

-- ---- along every list of answers

module _ (A : Rounds SimplexOptions) where
  questions : (κ : Kind) (bound : ℕ) (f : Fit) (o : GradientOptions) → GradientJob f.job o → ((limits : Bool) → BoundLaws quasi_newton κ bound (limits_of f) (limits, o) f.x0)
      → QuestionsAtMost (fits A quasi_newton) κ bound f
  questions κ bound f o (inl e) N =
      questions_at_most (fits A quasi_newton) κ bound f
      (subst (λ (j : Job). BoundLaws (fits A quasi_newton) κ bound (limits_of f) j f.x0) (sym e) (bfgs_bounds A quasi_newton κ bound (limits_of f) f.x0 o (N false)))
  questions κ bound f o (inr e) N =
      questions_at_most (fits A quasi_newton) κ bound f
      (subst (λ (j : Job). BoundLaws (fits A quasi_newton) κ bound (limits_of f) j f.x0) (sym e) (lbfgs_bounds A quasi_newton κ bound (limits_of f) f.x0 o (N true)))

  pub counts : GradientCounts A
  counts =
      record {
        with_gradients_lem = λ κ f o I j e i. questions κ (with_gradients I o) f o j (λ limits. with_gradients_lem limits o f.x0 (limits_of f) κ I e i);
        without_gradients_lem = λ f o I j e i l.
            omega (
              arith,
              all_questions (run (engine (fits A quasi_newton)) f l).questions,
              questions Value (without_gradients I o f.x0) f o j (λ limits. without_gradients_lem limits o f.x0 (limits_of f) I e i) l,
              questions Gradient 0 f o j (λ limits. no_gradients limits o f.x0 (limits_of f) e) l,
            );
        no_gradients = λ f o j e. questions Gradient 0 f o j (λ limits. no_gradients limits o f.x0 (limits_of f) e);
      }
