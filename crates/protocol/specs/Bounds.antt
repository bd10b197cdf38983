-- How many questions of a kind a fit puts, at most. `Costs` bounds what a text asks; `BoundLaws` is what a fit owes, text by text, for a bound on the questions of every list
-- of answers, whatever is answered. Here the allowances count. Statements only.
use Rattle.std.specs.Prelude.{ℕ, ◌+◌, ◌≤◌, ◌≡◌, false, List, [], ◌∷◌, Float}
use Rattle.protocol.specs.declared.Kind.{Kind}
use Rattle.protocol.specs.declared.Kind.TheVariants.{Value, Gradient}
use Rattle.protocol.specs.Protocol.{Question, Answer, Job, Fit}
use Rattle.protocol.specs.Dialogue.{of_kind, run}
use Rattle.protocol.specs.Ask.{Ask, finish, query}
use Rattle.protocol.specs.Rounds.{Ending, at_head, stops, fails, restart, Rounds, FitLimits, reached, engine}

module _ (κ : Kind) where
  -- the text asks at most b questions of the kind, and ends in a value of which Q holds
  abbrev pub Costs : {A : Type 0} → ℕ → Ask A → (A → Type 0) → Type 0
  Costs b (finish a) Q = Q a
  Costs b (query k x c) Q = (d : ℕ) × (of_kind κ k + d ≤ b) × ((w : List Float) → Costs d (c w) Q)

module _ {Position : Type 0} (κ : Kind) (bound : ℕ) (Head : ℕ → Position → Type 0) where
  -- a text begun after k questions of the kind keeps to the bound, and leads to heads of which `Head` holds
  abbrev pub Keeps : ℕ → Ask (Ending Position) → Type 0
  Keeps k (query j x c) = (k + of_kind κ j ≤ bound) × ((w : List Float) → Keeps (k + of_kind κ j) (c w))
  Keeps k (finish (at_head p)) = Head k p
  Keeps k (finish (stops y p)) = Unit {0}
  Keeps k (finish (fails m d)) = Unit {0}

-- of v values and g gradients, those of the kind
abbrev pub of_both : Kind → ℕ → ℕ → ℕ
of_both Value v g = v
of_both Gradient v g = g

-- what a fit owes for the bound, started with s at x under the limits l
pub record BoundLaws {Start : Type 0} (R : Rounds Start) (κ : Kind) (bound : ℕ) (l : FitLimits) (s : Start) (x : List Float) : Type 1 where
  -- `Head k p`: the fit may be at the head p after k questions of the kind, all of them answered
  pub Head : ℕ → R.Position → Type 0
  pub opening_keeps : Keeps κ bound Head 0 (R.opening s x)
  pub restart_keeps : (k : ℕ) (p : R.Position) (m : Ask (Ending R.Position)) → Head k p → R.tests p ≡ restart m → Keeps κ bound Head k m
  pub round_keeps : (v g : ℕ) (p : R.Position) → Head (of_both κ v g) p → reached (R.iterations p) l.iter ≡ false → reached v l.fevals ≡ false
      → Keeps κ bound Head (of_both κ v g) (R.round p)

-- how many questions are of the kind
abbrev pub questions_of : Kind → List Question → ℕ
questions_of κ [] = 0
questions_of κ (q ∷ qs) = of_kind κ q.kind + questions_of κ qs

-- "Questions at most": along every list of answers the fit puts no more than the bound
abbrev pub QuestionsAtMost : Rounds Job → Kind → ℕ → Fit → Type 0
QuestionsAtMost R κ bound f = (l : List Answer) → questions_of κ (run (engine R) f l).questions ≤ bound
