-- What the search asks at most, of a kind: so much a trial, times max_evals (`counts`). Assumes nothing.
use Prim.Native.Nat.{ℕ, zero, suc, ◌+◌, ◌*◌, ◌≤◌, zero-le, suc-le-suc}
use native.Mathlib.Nat.{le_trans, suc-mul, mul-zero}
use native.Mathlib.Omega.{arith}
use mathlib.Core.Option.{Option, none, some}
use mathlib.Core.List.{List, [], ◌∷◌, ◌++◌, zip_with}
use mathlib.Core.Bool.{Bool, true, false}
use lib.ListN.{length, get_or}
use lib.Ieee.{Float, nan}
use Rattle.float.specs.Binary64.{◌⊕◌, ◌⊗◌}
use Rattle.float.specs.Values.{finite_of}
use Rattle.vector.specs.Loops.{at}
use Rattle.vector.specs.Lists.{plus_scaled}
use Rattle.protocol.specs.declared.Kind.{Kind}
use Rattle.protocol.specs.declared.Kind.TheVariants.{Value, Gradient}
use Rattle.protocol.specs.declared.WolfeOptions.{WolfeOptions}
use Rattle.protocol.specs.Protocol.{read_of}
use Rattle.protocol.specs.Dialogue.{of_kind}
use Rattle.protocol.specs.Ask.{Ask, finish, ask_value, ◌>>=◌}
use Rattle.protocol.specs.Bounds.{Costs, of_both}
use Rattle.protocol.proofs.Bounds.{costs_more, costs_bind}
use Rattle.objective.specs.Algorithm.{slope_at, differences_from, eval_gradient}
use Rattle.linesearch_trials.specs.declared.Evaluation.{Evaluation}
use Rattle.linesearch_trials.specs.declared.Line.{Line}
use Rattle.linesearch_theory.specs.Algorithm.{WolfeResult, point_at, eval, keep, best_or_start, search}
use Rattle.linesearch_theory.specs.Counts.{per_gradient, per_trial, SearchCounts}
use Rattle.linesearch_theory.proofs.LawsTold.{made, valued}
use Rattle.linesearch_theory.proofs.LawsInduction.{Invariant, search_holds, keep_cases, given_cases}

-- ---- a gradient

module _ (κ : Kind) (read : Float → Float) where
  -- a value counts so much
  abbrev u : ℕ
  u = of_kind κ Value

  differences_costs : (x : List Float) (k i : ℕ) (grad : List Float) → Costs κ (k * (u + u)) (differences_from read x k i grad) (λ g. Unit {0})
  unfolding differences_from ◌>>=◌
  differences_costs x zero i grad = tt
  differences_costs x (suc k) i grad = (
    u + k * (u + u),
    omega (arith, suc-mul k (u + u)),
    λ v. (k * (u + u), omega arith, λ w. differences_costs x k (suc i) (grad ++ (slope_at (at x i) (read (get_or v 0 nan)) (read (get_or w 0 nan)) ∷ []))),
  )

  -- 2n values
  pairs : (κ : Kind) (n k : ℕ) → k ≤ n → k * (of_kind κ Value + of_kind κ Value) ≤ of_both κ (2 * n) 0
  pairs Value n k h = omega arith
  pairs Gradient n k h = omega (arith, mul-zero k)

  one : (κ : Kind) → of_kind κ Gradient + 0 ≤ of_both κ 0 1
  one Value = omega arith
  one Gradient = omega arith

  gradient_costs : (gradients : Bool) (x : List Float) (n : ℕ) → length x ≤ n → Costs κ (per_gradient κ gradients n) (eval_gradient read gradients x) (λ g. Unit {0})
  gradient_costs true x n h = (0, one κ, λ w. tt)
  gradient_costs false x n h =
      costs_more κ (length x * (u + u)) (per_gradient κ false n) (differences_from read x (length x) 0 []) (λ g. Unit {0}) (pairs κ n (length x) h) (differences_costs x (length x) 0 [])

zip_short : (f : Float → Float → Float) (xs ys : List Float) → length (zip_with f xs ys) ≤ length xs
unfolding zip_with
zip_short f [] ys = zero-le
zip_short f (x ∷ xs) [] = zero-le
zip_short f (x ∷ xs) (y ∷ ys) = suc-le-suc (zip_short f xs ys)

-- ---- the search

module _ (κ : Kind) (read : Float → Float) (gradients : Bool) (o : WolfeOptions) (l : Line) (n : ℕ) (short : length l.x ≤ n) where
  abbrev each : ℕ
  each = per_trial κ gradients n

  -- of at most n coordinates
  abbrev Short : Evaluation → Type 0
  Short t = length t.x ≤ n

  point_short : (a : Float) → length (point_at read gradients o l a) ≤ n
  unfolding plus_scaled
  point_short a = le_trans (zip_short (λ x d. x ⊕ a ⊗ d) l.x l.d) short

  valued_costs : (a v : Float) (b : Bool) → Costs κ (per_gradient κ gradients n) (valued read gradients o l a v b) Short
  valued_costs a v true =
      costs_more κ (per_gradient κ gradients n + 0) (per_gradient κ gradients n) (valued read gradients o l a v true) Short (omega arith)
      (costs_bind κ (per_gradient κ gradients n) 0 (eval_gradient read gradients (point_at read gradients o l a)) (λ g. finish (made read gradients o l a v g)) (λ g. Unit {0}) Short
      (gradient_costs κ read gradients (point_at read gradients o l a) n (point_short a)) (λ g h. point_short a))
  valued_costs a v false = point_short a

  value_costs : (x : List Float) → Costs κ (of_kind κ Value) (ask_value read_of x) (λ v. Unit {0})
  value_costs x = (0, omega arith, λ w. tt)

  eval_costs : (a : Float) → Costs κ each (eval read gradients o l a) Short
  eval_costs a =
      costs_bind κ (of_kind κ Value) (per_gradient κ gradients n) (ask_value read_of (point_at read gradients o l a)) (λ v. valued read gradients o l a v (finite_of v)) (λ v. Unit {0}) Short
      (value_costs (point_at read gradients o l a)) (λ v h. valued_costs a v (finite_of v))

  abbrev Best : Option Evaluation → Type 0
  Best none = Unit {0}
  Best (some b) = Short b

  keeps : (t : Evaluation) (best : Option Evaluation) → Short t → Best best → Best (keep read gradients o l t best)
  keeps t best h k = keep_cases read gradients o l Best t best (λ f. h) k

  fails : (best : Option Evaluation) → Best best → Short (best_or_start read gradients o l best)
  fails none h = short
  fails (some b) h = given_cases read gradients o l Short b (λ e. h) (λ e. short)

  abbrev Then : ℕ → Ask WolfeResult → Type 0
  Then k m = Costs κ (k * each) m (λ r. Short r.at)

  tries : (k : ℕ) (a : Float) (best : Option Evaluation) (f : Evaluation → Ask WolfeResult) → Best best
      → ((t : Evaluation) → Short t → Best (keep read gradients o l t best) → Then k (f t)) → Then (suc k) (eval read gradients o l a >>= f)
  tries k a best f b h =
      costs_more κ (each + k * each) (suc k * each) (eval read gradients o l a >>= f) (λ r. Short r.at) (omega (arith, suc-mul k each))
      (costs_bind κ each (k * each) (eval read gradients o l a) f Short (λ r. Short r.at) (eval_costs a) (λ t s. h t s (keeps t best s b)))

  invariant : Invariant read gradients o l
  invariant = record {
    State = Unit {0};
    Then = λ k c m. Then k m;
    Step = λ a. Unit {0};
    Fine = λ c t. Short t;
    Best = λ c b. Best b;
    at_zero = tt;
    doubled = λ a h. tt;
    between = λ lo hi p q. tt;
    fine_step = λ c t h. tt;
    tries = λ k c a best f s b h. tries k a best f b (h tt);
    fails = λ k c best b. fails best b;
    succeeds = λ k c t h i j. h;
  }

  search_costs : (initial : Float) → Costs κ (o.evals * each) (search read gradients o l initial) (λ r. Short r.at)
  unfolding invariant
  search_costs initial = search_holds read gradients o l invariant tt initial tt tt

pub counts : SearchCounts
counts = record { gradient_costs = gradient_costs; search_costs = λ κ read gradients o l initial n h. search_costs κ read gradients o l n h initial }
