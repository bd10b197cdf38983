-- How many questions a gradient fit puts. 01: "Gradient fits: with gradients 1+I·E of each kind, without (1+2n)(1+I·E)", with I its iteration allowance, E max_evals and n unknowns.
-- Statements only.
use Rattle.std.specs.Prelude.{ℕ, ◌+◌, ◌*◌, ◌≤◌, ◌≡◌, ◌⊎◌, Bool, true, false, List, length, Float}
use Rattle.protocol.specs.declared.Kind.{Kind}
use Rattle.protocol.specs.declared.Kind.TheVariants.{Value, Gradient}
use Rattle.protocol.specs.declared.SimplexOptions.{SimplexOptions}
use Rattle.protocol.specs.declared.GradientOptions.{GradientOptions}
use Rattle.protocol.specs.Protocol.{Answer, Job, bfgs, lbfgs, Fit}
use Rattle.protocol.specs.Dialogue.{run}
use Rattle.protocol.specs.Claim.{limit, iter_allowance}
use Rattle.protocol.specs.Rounds.{Rounds, FitLimits, engine}
use Rattle.protocol.specs.Bounds.{BoundLaws, QuestionsAtMost}
use Rattle.protocol.specs.Fits.{fits}
use Rattle.quasinewton_theory.specs.Algorithm.{quasi_newton}

-- 1+I·E
abbrev pub with_gradients : ℕ → GradientOptions → ℕ
with_gradients I o = 1 + I * o.wolfe.evals

-- (1+2n)(1+I·E)
abbrev pub without_gradients : ℕ → GradientOptions → List Float → ℕ
without_gradients I o x = (1 + 2 * length x) * (1 + I * o.wolfe.evals)

-- the laws of both bounds, and that no gradient is asked for where the objective gives none
pub record GradientBounds : Type 1 where
  pub with_gradients_lem : (κ : Kind) (limits : Bool) (o : GradientOptions) (x : List Float) (l : FitLimits) (I : ℕ) → o.gradients ≡ true → l.iter ≡ limit I
      → BoundLaws quasi_newton κ (with_gradients I o) l (limits, o) x
  pub without_gradients_lem : (limits : Bool) (o : GradientOptions) (x : List Float) (l : FitLimits) (I : ℕ) → o.gradients ≡ false → l.iter ≡ limit I
      → BoundLaws quasi_newton Value (without_gradients I o x) l (limits, o) x
  pub no_gradients : (limits : Bool) (o : GradientOptions) (x : List Float) (l : FitLimits) → o.gradients ≡ false → BoundLaws quasi_newton Gradient 0 l (limits, o) x

abbrev pub GradientJob : Job → GradientOptions → Type 0
GradientJob j o = (j ≡ bfgs o) ⊎ (j ≡ lbfgs o)

-- both bounds on the questions that a gradient fit puts, whatever is answered, and whatever the simplex fit of the engine is
pub record GradientCounts (A : Rounds SimplexOptions) : Type 0 where
  -- of each kind
  pub with_gradients_lem : (κ : Kind) (f : Fit) (o : GradientOptions) (I : ℕ) → GradientJob f.job o → o.gradients ≡ true → iter_allowance f ≡ limit I
      → QuestionsAtMost (fits A quasi_newton) κ (with_gradients I o) f
  -- of both together, of which none is for a gradient
  pub without_gradients_lem : (f : Fit) (o : GradientOptions) (I : ℕ) → GradientJob f.job o → o.gradients ≡ false → iter_allowance f ≡ limit I
      → (l : List Answer) → length (run (engine (fits A quasi_newton)) f l).questions ≤ without_gradients I o f.x0
  pub no_gradients : (f : Fit) (o : GradientOptions) → GradientJob f.job o → o.gradients ≡ false → QuestionsAtMost (fits A quasi_newton) Gradient 0 f
