-- A simplex fit puts at most M+(R+1)(n+1) questions, and at most (R+1)(n+1)+I(n+2), all of them for values (`bounds`, `counts`). Assumes nothing.
use Prim.Native.Nat.{ℕ, suc, ◌+◌, ◌*◌, ◌≤◌, zero-le, suc-le-suc}
use native.Mathlib.Nat.{le_trans, le_of_eq, mul-le-mul_right, suc-mul, mul-zero, mul-one, one-mul}
use native.Mathlib.Omega.{arith}
use mathlib.Core.Path.{◌≡◌, refl, sym, subst}
use mathlib.Core.Bool.{Bool, false}
use mathlib.Core.List.{List}
use lib.Dec.{leb, nleb→lt}
use lib.ListN.{length}
use lib.Ieee.{Float}
use Rattle.float.proofs.Tests.{false_T}
use Rattle.protocol.specs.declared.Kind.{Kind}
use Rattle.protocol.specs.declared.Kind.TheVariants.{Value, Gradient}
use Rattle.protocol.specs.declared.SimplexOptions.{SimplexOptions}
use Rattle.protocol.specs.declared.GradientOptions.{GradientOptions}
use Rattle.protocol.specs.Protocol.{Answer, Job, simplex, Fit}
use Rattle.protocol.specs.Dialogue.{of_kind, run}
use Rattle.protocol.specs.Claim.{Limit, limit, ◌⊑◌}
use Rattle.protocol.specs.Ask.{Ask}
use Rattle.protocol.specs.Rounds.{Ending, restart, Rounds, FitLimits, reached, limits_of, engine}
use Rattle.protocol.specs.Bounds.{Costs, Keeps, of_both, BoundLaws, QuestionsAtMost}
use Rattle.protocol.specs.Fits.{fits}
use Rattle.protocol.proofs.Verdicts.{stop≢restart, go_on≢restart, restart_inj}
use Rattle.protocol.proofs.Bounds.{keeps_by_cost, all_questions, questions_at_most, none_used, one_left}
use Rattle.protocol.proofs.FitsBounds.{simplex_bounds}
use Rattle.neldermead_theory.specs.Algorithm.{SimplexPosition, build, round, tests, rerun, opening, nowhere, nelder_mead}
use Rattle.neldermead_theory.specs.Counts.{by_fevals, by_iterations, SimplexBounds, SimplexCounts}
use Rattle.neldermead_theory.proofs.Laws.{opening_case, tests_case}
use Rattle.neldermead_theory.proofs.CountsTexts.{Sized, End, build_costs, round_costs}

-- ---- room under an allowance

-- `cap r i` is what the count may come to after r runs and i iterations; R restarts
pub record Cap (κ : Kind) (n R : ℕ) (l : FitLimits) (bound : ℕ) (cap : ℕ → ℕ → ℕ) : Type 0 where
  pub first_room : suc n * of_kind κ Value ≤ cap 0 0
  pub run_room : (r i : ℕ) → cap r i + suc n * of_kind κ Value ≤ cap (suc r) i
  pub round_room : (r i v g : ℕ) → of_both κ v g ≤ cap r i → limit (suc v) ⊑ l.fevals → of_both κ v g + suc (suc n) * of_kind κ Value ≤ cap r (suc i)
  pub in_bound : (r i : ℕ) → r ≤ R → limit i ⊑ l.iter → cap r i ≤ bound

module _ (κ : Kind) (o : SimplexOptions) (x : List Float) (l : FitLimits) (bound : ℕ) (cap : ℕ → ℕ → ℕ) (K : Cap κ (length x) o.restarts l bound cap) where
  abbrev n : ℕ
  n = length x

  abbrev R : ℕ
  R = o.restarts

  abbrev Head : ℕ → SimplexPosition → Type 0
  Head k p = Sized κ n R p × (p.runs ≤ R) × (limit p.iterations ⊑ l.iter) × (k ≤ cap p.runs p.iterations)

  -- a text that ends after r runs and i iterations
  keeps : (k b r i : ℕ) (m : Ask (Ending SimplexPosition)) → Costs κ b m (End κ n R r i) → r ≤ R → limit i ⊑ l.iter → k + b ≤ cap r i → Keeps κ bound Head k m
  keeps k b r i m c hr hi room =
      keeps_by_cost κ bound Head b k m (End κ n R r i) c (le_trans room (K.in_bound r i hr hi))
      (λ j p j≤ e. (
        e.0,
        subst (λ (z : ℕ). z ≤ R) (sym e.1) hr,
        subst (λ (z : ℕ). limit z ⊑ l.iter) (sym e.2) hi,
        subst (λ (z : ℕ). j ≤ cap z p.iterations) (sym e.1) (subst (λ (z : ℕ). j ≤ cap r z) (sym e.2) (le_trans j≤ room)),
      ))

  opens : Keeps κ bound Head 0 (opening o x)
  opens =
      opening_case (Keeps κ bound Head 0) o x (λ k d. tt)
      (keeps 0 (suc n * of_kind κ Value) 0 0 (build (nowhere o x) x) (build_costs κ n R (nowhere o x) refl refl x refl) zero-le (none_used l.iter) (omega (arith, K.first_room)))

  restarts : (k : ℕ) (p : SimplexPosition) (m : Ask (Ending SimplexPosition)) → Head k p → tests p ≡ restart m → Keeps κ bound Head k m
  restarts k p m h =
      tests_case (λ v. v ≡ restart m → Keeps κ bound Head k m) p (λ e. absurd (stop≢restart e))
      (λ i e.
      subst (Keeps κ bound Head k) (restart_inj e)
      (keeps k (suc n * of_kind κ Value) (suc p.runs) p.iterations (build (rerun p) p.best.x)
      (build_costs κ n R (rerun p) h.0.restarts h.0.best_long p.best.x h.0.best_long)
      (omega (arith, h.0.restarts, nleb→lt p.options.restarts p.runs (false_T (leb p.options.restarts p.runs) i)))
      h.2 (omega (arith, h.3, K.run_room p.runs p.iterations))))
      (λ e. absurd (go_on≢restart e))

  rounds : (v g : ℕ) (p : SimplexPosition) → Head (of_both κ v g) p → reached p.iterations l.iter ≡ false → reached v l.fevals ≡ false → Keeps κ bound Head (of_both κ v g) (round p)
  rounds v g p h i j =
      keeps (of_both κ v g) (suc (suc n) * of_kind κ Value) p.runs (suc p.iterations) (round p) (round_costs κ n R p h.0) h.1 (one_left p.iterations l.iter i)
      (K.round_room p.runs p.iterations v g h.3 (one_left v l.fevals j))

  capped : BoundLaws nelder_mead κ bound l o x
  capped = record { Head = Head; opening_keeps = opens; restart_keeps = restarts; round_keeps = rounds }

-- ---- the two bounds

module _ (o : SimplexOptions) (x : List Float) (l : FitLimits) where
  abbrev unknowns : ℕ
  unknowns = length x

  no_gradients : BoundLaws nelder_mead Gradient 0 l o x
  no_gradients =
      capped Gradient o x l 0 (λ r i. 0)
      (record {
        first_room = le_of_eq (mul-zero (suc unknowns));
        run_room = λ r i. omega (arith, mul-zero (suc unknowns));
        round_room = λ r i v g a b. omega (arith, mul-zero (suc (suc unknowns)));
        in_bound = λ r i a b. zero-le;
      })

  by_fevals_lem : (M : ℕ) → l.fevals ≡ limit M → BoundLaws nelder_mead Value (by_fevals M o x) l o x
  by_fevals_lem M e =
      capped Value o x l (by_fevals M o x) (λ r i. M + suc r * suc unknowns)
      (record {
        first_room = omega (arith, mul-one (suc unknowns), one-mul (suc unknowns));
        run_room = λ r i. omega (arith, mul-one (suc unknowns), suc-mul (suc r) (suc unknowns));
        round_room = λ r i v g a b.
            let few : suc v ≤ M = subst (λ (z : Limit). limit (suc v) ⊑ z) e b in
            omega (arith, mul-one (suc (suc unknowns)), suc-mul r (suc unknowns));
        in_bound = λ r i a b. omega (arith, mul-le-mul_right (suc unknowns) (suc-le-suc a));
      })

  by_iterations_lem : (I : ℕ) → l.iter ≡ limit I → BoundLaws nelder_mead Value (by_iterations I o x) l o x
  by_iterations_lem I e =
      capped Value o x l (by_iterations I o x) (λ r i. suc r * suc unknowns + i * suc (suc unknowns))
      (record {
        first_room = omega (arith, mul-one (suc unknowns), one-mul (suc unknowns));
        run_room = λ r i. omega (arith, mul-one (suc unknowns), suc-mul (suc r) (suc unknowns));
        round_room = λ r i v g a b. omega (arith, mul-one (suc (suc unknowns)), suc-mul i (suc (suc unknowns)));
        in_bound = λ r i a b.
            let few : i ≤ I = subst (λ (z : Limit). limit i ⊑ z) e b in
            omega (arith, mul-le-mul_right (suc unknowns) (suc-le-suc a), mul-le-mul_right (suc (suc unknowns)) few);
      })

pub bounds : SimplexBounds
bounds = record { by_fevals_lem = by_fevals_lem; by_iterations_lem = by_iterations_lem; no_gradients = no_gradients }

-- ---- along every list of answers

module _ (B : Rounds (Bool × GradientOptions)) where
  questions : (κ : Kind) (bound : ℕ) (f : Fit) (o : SimplexOptions) → f.job ≡ simplex o → BoundLaws nelder_mead κ bound (limits_of f) o f.x0 → QuestionsAtMost (fits nelder_mead B) κ bound f
  questions κ bound f o e N =
      questions_at_most (fits nelder_mead B) κ bound f
      (subst (λ (j : Job). BoundLaws (fits nelder_mead B) κ bound (limits_of f) j f.x0) (sym e) (simplex_bounds nelder_mead B κ bound (limits_of f) f.x0 o N))

  all_values : (bound : ℕ) (f : Fit) (o : SimplexOptions) → f.job ≡ simplex o → BoundLaws nelder_mead Value bound (limits_of f) o f.x0
      → (l : List Answer) → length (run (engine (fits nelder_mead B)) f l).questions ≤ bound
  all_values bound f o e N l =
      omega (
        arith,
        all_questions (run (engine (fits nelder_mead B)) f l).questions,
        questions Value bound f o e N l,
        questions Gradient 0 f o e (no_gradients o f.x0 (limits_of f)) l,
      )

  pub counts : SimplexCounts B
  counts =
      record {
        by_fevals_lem = λ f o M e m. all_values (by_fevals M o f.x0) f o e (by_fevals_lem o f.x0 (limits_of f) M m);
        by_iterations_lem = λ f o I e i. all_values (by_iterations I o f.x0) f o e (by_iterations_lem o f.x0 (limits_of f) I i);
      }
