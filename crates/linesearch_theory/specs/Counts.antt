-- How many questions of a kind the search puts, at most, whatever is told: what a trial asks, times max_evals. 01: "E max_evals .. with gradients 1+I·E of each kind, without
-- (1+2n)(1+I·E)". Statements only.
use Rattle.std.specs.Prelude.{ℕ, ◌+◌, ◌*◌, ◌≤◌, Bool, true, false, List, length, Float}
use Rattle.protocol.specs.declared.Kind.{Kind}
use Rattle.protocol.specs.declared.Kind.TheVariants.{Value}
use Rattle.protocol.specs.declared.WolfeOptions.{WolfeOptions}
use Rattle.protocol.specs.Dialogue.{of_kind}
use Rattle.protocol.specs.Bounds.{Costs, of_both}
use Rattle.objective.specs.Algorithm.{eval_gradient}
use Rattle.linesearch_trials.specs.declared.Line.{Line}
use Rattle.linesearch_theory.specs.Algorithm.{search}

-- what a gradient asks of the kind at a point of n coordinates: itself, or the 2n values of its differences
abbrev pub per_gradient : Kind → Bool → ℕ → ℕ
per_gradient κ true n = of_both κ 0 1
per_gradient κ false n = of_both κ (2 * n) 0

-- a value, and a gradient
abbrev pub per_trial : Kind → Bool → ℕ → ℕ
per_trial κ gradients n = of_kind κ Value + per_gradient κ gradients n

pub record SearchCounts : Type 0 where
  pub gradient_costs : (κ : Kind) (read : Float → Float) (gradients : Bool) (x : List Float) (n : ℕ) → length x ≤ n
      → Costs κ (per_gradient κ gradients n) (eval_gradient read gradients x) (λ g. Unit {0})
  pub search_costs : (κ : Kind) (read : Float → Float) (gradients : Bool) (o : WolfeOptions) (l : Line) (initial : Float) (n : ℕ) → length l.x ≤ n
      → Costs κ (o.evals * per_trial κ gradients n) (search read gradients o l initial) (λ r. length r.at.x ≤ n)
