-- The record of a gradient fit follows the Algorithm: its question is the text's next, after any answer it has the rest of the text to do, and it goes on through the head of a
-- round as the text does; sizes and zeros last. Definitions and statements only.
use Rattle.std.specs.Prelude.{ℕ, ◌≤◌, ◌<◌, ◌≡◌, Bool, true, false, not, cond, List, eqb, length, get_or, Float}
use Rattle.std.proofs.Common.{inr}
use Rattle.std.specs.Float.{nan}
use Rattle.float.specs.Values.{finite_of}
use Rattle.vector.specs.Points.{from_slice_of}
use Rattle.vector.specs.Lists.{first, all_finite}
use Rattle.vector.specs.Ties.{ZeroFrom}
use Rattle.protocol.specs.declared.Kind.{Kind}
use Rattle.protocol.specs.declared.Kind.TheVariants.{Value, Gradient}
use Rattle.protocol.specs.declared.SimplexOptions.{SimplexOptions}
use Rattle.protocol.specs.declared.Termination.{Termination}
use Rattle.protocol.specs.declared.Termination.TheVariants.{GradientTolerance, StepTolerance, FunctionTolerance, MaxIterations, MaxFevals, LineSearchFailed, GradientFailed}
use Rattle.protocol.specs.Protocol.{read_of}
use Rattle.protocol.specs.Claim.{Limit, limit, unlimited}
use Rattle.protocol.specs.Ask.{Ask, finish, query, ask_value, ◌>>=◌}
use Rattle.protocol.specs.Rounds.{Ending, at_head, stops, fails, Verdict, go_on, stop, restart, Rounds, FitLimits, reached, settle}
use Rattle.protocol.specs.Fits.{map_text, fits}
use Rattle.objective.specs.declared.Differences.{Differences}
use Rattle.objective.specs.Algorithm.{eval_gradient}
use Rattle.objective.specs.Follows as differences
use Rattle.quasinewton_model.specs.declared.Model.{Model}
use Rattle.quasinewton_model.specs.Step.{new_model_of}
use Rattle.quasinewton_model_theory.specs.Ties as hessian
use Rattle.linesearch_moves.specs.declared.Search.{Search}
use Rattle.linesearch.specs.Step.{asks_gradient, asks_difference}
use Rattle.linesearch_theory.specs.Algorithm.{gives}
use Rattle.linesearch_theory.specs.Follows as search
use Rattle.quasinewton_record.specs.declared.Fixed.{Fixed}
use Rattle.quasinewton_record.specs.declared.Descent.{Descent}
use Rattle.quasinewton.specs.Step as step
use Rattle.quasinewton.specs.Step.{first_value, first_gradient, first_differences, searching, by_gradient, by_function, by_step, by_iterations, by_fevals, by_search, by_refusal, search_fixed, probe_of, asks_of, settled_of, told_of, told_gradient_of, start_of}
use Rattle.quasinewton_theory.specs.Algorithm.{GradientPosition, concluded, tests, round, opened, quasi_newton}

-- ---- the record and the model, read as the text's position

abbrev pub position_of : Fixed → Descent → Model → GradientPosition
position_of fixed q m =
    let n = fixed.n in
    record { options = fixed.options; x = first n q.line.x; f = q.line.f; g = first n q.line.g; hess = hessian.read_model n m; iterations = q.rounds; first = q.first }

-- ---- the opening's lines from a position on

abbrev pub graded : GradientPosition → List Float → Ending GradientPosition
graded p g =
    cond (not (all_finite g)) (fails 19 0)
    (at_head (record { options = p.options; x = p.x; f = p.f; g = g; hess = p.hess; iterations = p.iterations; first = p.first }))

abbrev pub valued : GradientPosition → Float → Ask (Ending GradientPosition)
valued p v =
    let w : GradientPosition = record { options = p.options; x = p.x; f = v; g = p.g; hess = p.hess; iterations = p.iterations; first = p.first } in
    cond (not (finite_of v)) (finish (fails 18 0)) (eval_gradient read_of p.options.gradients p.x >>= λ g. finish (graded w g))

-- ---- what a record has still to do

-- the reason that a phase stands for
abbrev pub reason_of : ℕ → Termination
reason_of p =
    cond (eqb p by_gradient) GradientTolerance
    (cond (eqb p by_function) FunctionTolerance
    (cond (eqb p by_step) StepTolerance
    (cond (eqb p by_iterations) MaxIterations (cond (eqb p by_fevals) MaxFevals (cond (eqb p by_search) LineSearchFailed GradientFailed)))))

module _ (fixed : Fixed) where
  -- how a fit that has ended ended
  abbrev pub ending_of : Descent → Model → Ending GradientPosition
  ending_of q m = cond (eqb q.phase by_refusal) (fails q.number q.detail) (stops (reason_of q.phase) (position_of fixed q m))

  abbrev pub to_do : Descent → Model → Ask (Ending GradientPosition)
  to_do q m =
      let p = position_of fixed q m in
      cond (eqb q.phase first_value) (ask_value read_of p.x >>= valued p)
      (cond (eqb q.phase first_gradient) (query Gradient p.x (λ w. finish (graded p (first fixed.n w))))
      (cond (eqb q.phase first_differences) (differences.to_do read_of fixed.n q.diff >>= λ g. finish (graded p g))
      (cond (eqb q.phase searching) (search.to_do read_of (search_fixed fixed) q.line q.search >>= λ r. finish (concluded p (gives r)))
      (cond (eqb q.phase step.at_head) (finish (at_head p)) (finish (ending_of q m))))))

  -- ---- the open question and its answer

  abbrev pub wants_gradient : Descent → Bool
  wants_gradient q = cond (eqb q.phase searching) (eqb q.search.phase asks_gradient) (eqb q.phase first_gradient)

  abbrev pub kind_of : Descent → Kind
  kind_of q = cond (wants_gradient q) Gradient Value

  -- the record after the words of an answer to its question
  abbrev pub heard_of : Descent → List Float → Descent
  heard_of q w = cond (wants_gradient q) (told_gradient_of fixed q (from_slice_of w fixed.n)) (told_of fixed q (read_of (get_or w 0 nan)))

-- ---- a text goes on through the head, after v accepted values

-- tests of max_iter and max_fevals, then the round
abbrev pub allowed : Bool → Bool → GradientPosition → Ask (Ending GradientPosition)
allowed true b p = finish (stops MaxIterations p)
allowed false true p = finish (stops MaxFevals p)
allowed false false p = round p

-- by what the fit's own tests say
abbrev pub headed : FitLimits → ℕ → Verdict GradientPosition → GradientPosition → Ask (Ending GradientPosition)
headed l v go_on p = allowed (reached p.iterations l.iter) (reached v l.fevals) p
headed l v (stop y) p = finish (stops y p)
headed l v (restart m) p = m

abbrev pub settled : FitLimits → ℕ → Ask (Ending GradientPosition) → Ask (Ending GradientPosition)
settled l v (query k x c) = query k x c
settled l v (finish (at_head p)) = headed l v (tests p) p
settled l v (finish (stops y p)) = finish (stops y p)
settled l v (finish (fails k d)) = finish (fails k d)

-- it is protocol's `settle` of the fit of any job, at a text of a gradient fit's
abbrev pub GradientSettlesAsFits : Type 1
GradientSettlesAsFits = (A : Rounds SimplexOptions) (l : FitLimits) (v : ℕ) (m : Ask (Ending GradientPosition)) → settle (fits A quasi_newton) l v (map_text inr m) ≡ map_text inr (settled l v m)

-- ---- the limits are the allowances that the start fixed; where there is none, the count is below the record's

abbrev pub AllowsFevals : Limit → ℕ → ℕ → Type 0
AllowsFevals (limit k) most v = k ≡ most
AllowsFevals unlimited most v = v < most

pub record GradientAllows (fixed : Fixed) (l : FitLimits) (v : ℕ) : Type 0 where
  pub iter : l.iter ≡ limit fixed.iter
  pub fevals : AllowsFevals l.fevals fixed.fevals v

-- ---- what holds of a record

-- P holds of the line's arrays, S of the search and D of the differences
pub record EveryPart (P : List Float → Type 0) (S : Search → Type 0) (D : Differences → Type 0) (q : Descent) : Type 0 where
  pub point : P q.line.x
  pub gradient : P q.line.g
  pub direction : P q.line.d
  pub search : S q.search
  pub diff : D q.diff

abbrev pub Sixteen : List Float → Type 0
Sixteen x = length x ≡ 16

-- from 1 to 16 unknowns, a phase that is known, rounds within the allowance, a difference that is asked for is one of the n, and arrays are sixteen long
pub record DescentShaped (fixed : Fixed) (q : Descent) : Type 0 where
  pub positive : 1 ≤ fixed.n
  pub small : fixed.n ≤ 16
  pub least : first_value ≤ q.phase
  pub most : q.phase ≤ step.at_head
  pub rounds : q.rounds ≤ fixed.iter
  pub asked : q.phase ≡ first_differences → q.diff.at < fixed.n
  pub parts : EveryPart Sixteen (search.SearchShaped (search_fixed fixed)) (differences.DifferencesSized fixed.n) q

-- the coordinates past n are +0 in every array
abbrev pub DescentZeroPast : ℕ → Descent → Type 0
DescentZeroPast n = EveryPart (ZeroFrom n) (search.SearchZeroPast n) (differences.DifferencesZeroPast n)

-- a record that is handed back asks, or has ended
pub record DescentStands (q : Descent) : Type 0 where
  pub most : q.phase ≤ by_refusal
  pub asking : q.phase ≡ searching → q.search.phase ≤ asks_difference

-- ---- the record follows

module _ (fixed : Fixed) where
  pub record GradientFollows : Type 0 where
    -- the start has the opening to do that comes after its refusals
    pub starts : (limited : Bool) (x : List Float) → fixed.n ≤ 16
        → to_do fixed (start_of x) (new_model_of limited fixed.options.memory fixed.n) ≡ opened limited fixed.options (first fixed.n x)
    -- whatever the words w tell
    pub follows : (q : Descent) (m : Model) → DescentShaped fixed q → asks_of q ≡ true
        → to_do fixed q m ≡ query (kind_of fixed q) (first fixed.n (probe_of fixed q)) (λ w. to_do fixed (heard_of fixed q w) m)
    -- from the head of a round, or from a search that has ended, after whatever count v
    pub settles : (q : Descent) (m : Model) (l : FitLimits) (v : ℕ) → GradientAllows fixed l v → DescentShaped fixed q → hessian.ModelSized m
        → settled l v (to_do fixed q m) ≡ to_do fixed (settled_of fixed q m v).descent (settled_of fixed q m v).model
    -- a record that is handed back and does not ask has ended
    pub ends : (q : Descent) (m : Model) → DescentShaped fixed q → DescentStands q → asks_of q ≡ false → to_do fixed q m ≡ finish (ending_of fixed q m)
    -- it lasts
    pub start_shaped : (x : List Float) → 1 ≤ fixed.n → fixed.n ≤ 16 → Sixteen x → DescentShaped fixed (start_of x)
    pub start_stands : (x : List Float) → DescentStands (start_of x)
    pub told_shaped : (q : Descent) (v : Float) → DescentShaped fixed q → DescentShaped fixed (told_of fixed q v)
    pub told_gradient_shaped : (q : Descent) (g : List Float) → Sixteen g → DescentShaped fixed q → DescentShaped fixed (told_gradient_of fixed q g)
    pub heard_shaped : (q : Descent) (w : List Float) → DescentShaped fixed q → DescentShaped fixed (heard_of fixed q w)
    pub settled_shaped : (q : Descent) (m : Model) (v : ℕ) → DescentShaped fixed q → hessian.ModelSized m → DescentShaped fixed (settled_of fixed q m v).descent × hessian.ModelSized (settled_of fixed q m v).model
    pub settled_stands : (q : Descent) (m : Model) (v : ℕ) → DescentShaped fixed q → DescentStands (settled_of fixed q m v).descent
    -- every coordinate past n is +0.0
    pub start_zeros : (x : List Float) → ZeroFrom fixed.n x → DescentZeroPast fixed.n (start_of x)
    pub told_zeros : (q : Descent) (v : Float) → DescentShaped fixed q → DescentZeroPast fixed.n q → DescentZeroPast fixed.n (told_of fixed q v)
    pub told_gradient_zeros : (q : Descent) (g : List Float) → Sixteen g → ZeroFrom fixed.n g → DescentShaped fixed q → DescentZeroPast fixed.n q → DescentZeroPast fixed.n (told_gradient_of fixed q g)
    pub heard_zeros : (q : Descent) (w : List Float) → DescentShaped fixed q → DescentZeroPast fixed.n q → DescentZeroPast fixed.n (heard_of fixed q w)
    pub settled_zeros : (q : Descent) (m : Model) (v : ℕ) → DescentShaped fixed q → hessian.ModelSized m → DescentZeroPast fixed.n q → hessian.ModelZeroPast fixed.n m
        → DescentZeroPast fixed.n (settled_of fixed q m v).descent × hessian.ModelZeroPast fixed.n (settled_of fixed q m v).model
    pub probe_zeros : (q : Descent) → DescentShaped fixed q → DescentZeroPast fixed.n q → ZeroFrom fixed.n (probe_of fixed q)
