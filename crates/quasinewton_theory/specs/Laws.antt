-- What holds at the head of every round of a gradient fit, which refusals can end one, and what it gives: the laws of rounds. Definitions and statements only.
use Rattle.std.specs.Prelude.{ℕ, ◌≡◌, ◌⊎◌, Bool, true, false, ◌&&◌, List, [], ◌∷◌, T, length, Float}
use Rattle.std.specs.Float.Ieee.{neg, lt, le}
use Rattle.float.specs.Binary64.{NotAbove, plus_zero}
use Rattle.float.specs.Values.{positive_of}
use Rattle.vector.specs.Lists.{dot, all_finite, negation}
use Rattle.protocol.specs.declared.GradientOptions.{GradientOptions}
use Rattle.protocol.specs.declared.Termination.{Termination}
use Rattle.protocol.specs.declared.Termination.TheVariants.{GradientTolerance, SimplexTolerance, StepTolerance, FunctionTolerance, MaxIterations, MaxFevals, LineSearchFailed, GradientFailed, ObjectiveResolution}
use Rattle.protocol.specs.Dialogue.{Exchange, F64s}
use Rattle.protocol.specs.Calls.{FirstRefusal, SearchRefusal}
use Rattle.protocol.specs.Ask.{wp}
use Rattle.protocol.specs.Rounds.{Ending, at_head, stops, fails}
use Rattle.protocol.specs.RoundsLaws.{Own, Begins, RoundsLaws}
use Rattle.quasinewton_limited.specs.declared.Pair.{Pair}
use Rattle.quasinewton_model_theory.specs.Algorithm.{one, InvHessian, dense, limited, direction, update, new_hessian}
use Rattle.linesearch_theory.specs.Laws.{ValueTold}
use Rattle.quasinewton_theory.specs.Algorithm.{GradientPosition, initial_step, not_descending, round, opened, quasi_newton}

-- ---- a model of n unknowns

abbrev pub PairsLong : ℕ → List Pair → Type 0
PairsLong n [] = Unit {0}
PairsLong n (p ∷ ps) = (length p.s ≡ n) × (length p.y ≡ n) × PairsLong n ps

abbrev pub ModelShaped : ℕ → InvHessian → Type 0
ModelShaped n (dense d) = length d.rows ≡ n
ModelShaped n (limited l) = PairsLong n l.pairs

-- Directions are as long as the gradient, and of f64s: each coordinate is a result of an operation.
pub record DirectionLaws : Type 0 where
  pub long : (n : ℕ) (h : InvHessian) (g : List Float) → ModelShaped n h → length g ≡ n → length (direction h g) ≡ n
  pub f64s : (h : InvHessian) (g : List Float) → F64s (direction h g)
  pub new_shaped : (limits : Bool) (m n : ℕ) → ModelShaped n (new_hessian limits m n)
  pub update_shaped : (n : ℕ) (h : InvHessian) (s y : List Float) → ModelShaped n h → length s ≡ n → length y ≡ n → ModelShaped n (update h s y)

-- ---- at the head of a round

-- the start's own tests, of c1 and c2 (5) and of n (9)
pub record Admitted (o : GradientOptions) (x : List Float) : Type 0 where
  pub wolfe : lt plus_zero o.wolfe.c1 && lt o.wolfe.c1 o.wolfe.c2 && lt o.wolfe.c2 one ≡ true
  pub unknowns : length x ≡ 0 → ⊥

-- after the exchanges es
pub record GradientAtHead (es : List Exchange) (p : GradientPosition) : Type 0 where
  -- f is finite, an f64, and told for x
  pub value_told_lem : ValueTold es p.x p.f
  pub gradient_finite : all_finite p.g ≡ true
  pub gradient_f64s : F64s p.g
  pub gradient_long : length p.g ≡ length p.x
  pub shaped : ModelShaped (length p.x) p.hess
  -- what the start has seen to
  pub admitted : Admitted p.options p.x

-- ---- which refusals end a gradient fit

-- ---- how a round ends

-- the two reasons for which a fit stops after a search that failed, or that gave no finite gradient. quasinewton.rs: "keep any improvement, then stop"
abbrev pub FailedReason : Termination → Type 0
FailedReason GradientTolerance = ⊥
FailedReason SimplexTolerance = ⊥
FailedReason StepTolerance = ⊥
FailedReason FunctionTolerance = ⊥
FailedReason MaxIterations = ⊥
FailedReason MaxFevals = ⊥
FailedReason LineSearchFailed = Unit {0}
FailedReason GradientFailed = Unit {0}
FailedReason ObjectiveResolution = ⊥

-- q has the point and the value of p, or a lower value
abbrev pub NotWorse : GradientPosition → GradientPosition → Type 0
NotWorse p q = ((q.x ≡ p.x) × (q.f ≡ p.f)) ⊎ T (lt q.f p.f)

-- begun at p: f never rises, and is told for x; where a search or its gradient failed, the fit is where the round began, or lower
abbrev pub RoundEnds : GradientPosition → List Exchange → Ending GradientPosition → Type 0
RoundEnds p es (at_head q) = GradientAtHead es q × NotAbove q.f p.f
RoundEnds p es (stops y q) = ValueTold es q.x q.f × NotAbove q.f p.f × Own y × (FailedReason y → NotWorse p q)
RoundEnds p es (fails k d) = SearchRefusal k d

abbrev pub OpeningEnds : List Exchange → Ending GradientPosition → Type 0
OpeningEnds es (at_head q) = GradientAtHead es q
OpeningEnds es (stops y q) = ⊥
OpeningEnds es (fails k d) = FirstRefusal k d

pub record HeadLaws : Type 0 where
  pub opening_ends : (limits : Bool) (o : GradientOptions) (x : List Float) → Admitted o x → wp [] (opened limits o x) OpeningEnds
  pub round_begins : (es : List Exchange) (p : GradientPosition) → GradientAtHead es p → Begins (round p)
  pub round_ends : (es : List Exchange) (p : GradientPosition) → GradientAtHead es p → wp es (round p) (RoundEnds p)

-- a gradient fit's f is told for its x, and never rises; it need not be the least told
abbrev pub GradientLaws : Type 1
GradientLaws = RoundsLaws quasi_newton (λ s. ⊥)

-- ---- refusals by name

-- a text that fails does so with a refusal of which P holds
abbrev pub FailsBy : (ℕ → ℕ → Type 0) → List Exchange → Ending GradientPosition → Type 0
FailsBy P es (at_head p) = Unit {0}
FailsBy P es (stops y p) = Unit {0}
FailsBy P es (fails k d) = P k d

pub record RefusalLaws : Type 0 where
  -- of all that `strong_wolfe` tests, a fit that was started meets 6, 7 and 12 with detail 1 alone: not 5, nor 9 to 11, nor 12 for direction, gradient or f0, nor 13, nor 14
  pub in_rounds : (es : List Exchange) (p : GradientPosition) → GradientAtHead es p → wp es (round p) (FailsBy SearchRefusal)
  pub in_opening : (limits : Bool) (o : GradientOptions) (x : List Float) → wp [] (opened limits o x) (FailsBy FirstRefusal)
  -- 13 is never met, since the first step is positive and finite
  pub first_step_positive : (first : Bool) (d : List Float) → F64s d → all_finite d ≡ true → positive_of (initial_step first d) ≡ true
  -- 01: "First step min(1/max(|d|, 1e-30), 1)"
  pub first_step_at_most_one : (first : Bool) (d : List Float) → T (le (initial_step first d) one)
  pub never_13 : (es : List Exchange) (p : GradientPosition) → GradientAtHead es p → wp es (round p) (FailsBy (λ k d. k ≡ 13 → ⊥))
  -- 14 is never met, since the direction was tested, or else minus the gradient was and descends
  pub steepest_descends : (g : List Float) → not_descending (neg (dot g g)) ≡ false → le plus_zero (dot g (negation g)) ≡ false
  pub never_14 : (es : List Exchange) (p : GradientPosition) → GradientAtHead es p → wp es (round p) (FailsBy (λ k d. k ≡ 14 → ⊥))
