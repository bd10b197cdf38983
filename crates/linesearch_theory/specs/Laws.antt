-- What holds of the strong Wolfe search, begun after any exchanges and whatever is told, with the objective's gradients or with differences. Definitions and statements only.
use Rattle.std.specs.Prelude.{ℕ, ◌≤◌, ◌≡◌, ◌⊎◌, Bool, true, false, T, length, get_or, set, Float}
use mathlib.Core.List.{List, [], ◌∷◌, ◌++◌, Memᴰ}
use Rattle.std.specs.Float.{nan, inf}
use Rattle.std.specs.Float.Ieee.{lt, le}
use Rattle.float.specs.Binary64.{F64, NotAbove, plus_zero}
use Rattle.float.specs.Values.{Finite}
use Rattle.vector.specs.Loops.{at}
use Rattle.vector.specs.Lists.{dot, plus_scaled}
use Rattle.protocol.specs.declared.Kind.{Kind}
use Rattle.protocol.specs.declared.Kind.TheVariants.{Value, Gradient}
use Rattle.protocol.specs.declared.WolfeOptions.{WolfeOptions}
use Rattle.protocol.specs.Protocol.{read_of}
use Rattle.protocol.specs.Dialogue.{Exchange, F64s, Told}
use Rattle.protocol.specs.Ask.{Ask, finish, query, ask_value, ◌>>=◌, heard_at, wp}
use Rattle.protocol.specs.Rounds.{Ending}
use Rattle.protocol.specs.RoundsLaws.{Begins}
use Rattle.objective.specs.Algorithm.{forward_of, backward_of, eval_gradient}
use Rattle.linesearch_trials.specs.declared.Evaluation.{Evaluation}
use Rattle.linesearch_trials.specs.declared.Line.{Line}
use Rattle.linesearch_trials.specs.Trials.{armijo_of, curvature_of}
use Rattle.linesearch_theory.specs.Algorithm.{WolfeResult, start, search}

-- ---- values and gradients

-- v is finite, an f64 and told for x
abbrev pub ValueTold : List Exchange → List Float → Float → Type 0
ValueTold es x v = Finite v × F64 v × Told es x v

-- a value as it is read in a fit and of a trial
abbrev pub Heard : List Float → List Exchange → Float → Type 0
Heard x es v = ValueTold es x v ⊎ (v ≡ inf false)

pub record EvaluationLaws : Type 0 where
  pub value_heard : (x : List Float) (es : List Exchange) → wp es (ask_value read_of x) (Heard x)
  pub gradient_f64s : (read : Float → Float) (gradients : Bool) (x : List Float) (es : List Exchange) → wp es (eval_gradient read gradients x) (λ fs g. F64s g)

-- ---- what a search gives

-- the evaluation's value, told for its point
abbrev pub EvaluationTold : List Exchange → Evaluation → Type 0
EvaluationTold es t = ValueTold es t.x t.trial.value

-- point and slope are those of the step
pub record Together (l : Line) (t : Evaluation) : Type 0 where
  pub point : t.x ≡ plus_scaled l.x t.trial.step l.d
  pub slope : Finite t.trial.value → t.trial.slope ≡ dot t.g l.d

-- f0 is a finite f64, c1 is not below zero and the slope not above: what the tests before a search leave. 01: "a NaN or -infinity slope is not refused".
pub record Descending (o : WolfeOptions) (l : Line) : Type 0 where
  pub finite : Finite l.f
  pub f64 : F64 l.f
  pub c1 : NotAbove plus_zero o.c1
  pub slope : NotAbove l.slope plus_zero

-- each question that the text puts, whatever is told, is of a kind and a point of which P holds
abbrev pub Puts : {A : Type 0} → (Kind → List Float → Type 0) → Ask A → Type 0
Puts P (finish a) = Unit {0}
Puts P (query k x c) = P k x × ((w : List Float) → Puts P (c w))

-- x is a point that the differences at y ask about
abbrev pub Probe : List Float → List Float → Type 0
Probe y x = (i : ℕ) × ((x ≡ set y i (forward_of (at y i))) ⊎ (x ≡ set y i (backward_of (at y i))))

-- x is the point y, or a probe of its differences where the objective gives no gradients
abbrev pub Evaluates : Bool → List Float → List Float → Type 0
Evaluates gradients y x = (x ≡ y) ⊎ ((gradients ≡ false) × Probe y x)

-- a question about the point of a step that is not below zero and no NaN
abbrev pub AtStep : Bool → Line → Kind → List Float → Type 0
AtStep gradients l k x = (a : Float) × T (le plus_zero a) × Evaluates gradients (plus_scaled l.x a l.d) x

-- the exchange is about the gradient at y: the gradient itself, or a probe of its differences
abbrev pub OfGradient : Bool → List Float → Exchange → Type 0
OfGradient true y e = (e.question.kind ≡ Gradient) × (e.question.point ≡ y)
OfGradient false y e = (e.question.kind ≡ Value) × Probe y e.question.point

-- the trials ts, made one after the other from the exchanges es to fs: each asks for its value at the point of its step, and then for its gradient there
abbrev pub Trials : Bool → Line → List Exchange → List Exchange → List Evaluation → Type 0
Trials gradients l es fs [] = es ≡ fs
Trials gradients l es fs (t ∷ ts) =
    (n : ℕ) × (w : List Float) × (rest : List Exchange) × (read_of (get_or w 0 nan) ≡ t.trial.value) × Together l t × ((e : Exchange) → Memᴰ e rest → OfGradient gradients t.x e)
    × Trials gradients l (es ++ (heard_at n Value t.x w ∷ rest)) fs ts

-- b is the first of the least finite ones of ts
pub record FirstLeast (ts : List Evaluation) (b : Evaluation) : Type 0 where
  pub before : List Evaluation
  pub after : List Evaluation
  pub split : ts ≡ before ++ (b ∷ after)
  pub finite : Finite b.trial.value
  pub above : (t : Evaluation) → Memᴰ t before → Finite t.trial.value → T (lt b.trial.value t.trial.value)
  pub not_below : (t : Evaluation) → Memᴰ t after → Finite t.trial.value → T (le b.trial.value t.trial.value)

-- `search`, ended after the exchanges fs with the result r
module _ (read : Float → Float) (gradients : Bool) (o : WolfeOptions) (l : Line) (initial : Float) (es : List Exchange) where
  abbrev pub SearchEnds : (List Exchange → WolfeResult → Type 0) → Type 0
  SearchEnds Q = wp es (search read gradients o l initial) Q

  -- the trials that a search made which ended with r after fs
  pub record Made (fs : List Exchange) (r : WolfeResult) : Type 0 where
    pub made : List Evaluation
    pub asked : Trials gradients l es fs made
    pub count : r.trials ≡ length made
    pub success_last : r.success ≡ true → (ts : List Evaluation) × (made ≡ ts ++ (r.at ∷ []))
    -- 01: "A failure gives the best finite trial below f0, first on ties, else step 0 and the start."
    pub failure_best : r.success ≡ false
        → (FirstLeast made r.at × T (lt r.at.trial.value l.f))
        ⊎ ((r.at ≡ start read gradients o l) × ((t : Evaluation) → Memᴰ t made → Finite t.trial.value → NotAbove l.f t.trial.value))

  pub record ResultLaws : Type 0 where
    -- 01: "Doubling and zoom fail when the trial count reaches max_evals"
    pub trials_at_most : SearchEnds (λ fs r. r.trials ≤ o.evals)
    pub trials_made : SearchEnds Made
    -- 01: "Armijo: f <= f0 + c1·a·slope0, as computed. Curvature: slope finite and |slope| <= -c2·slope0."
    pub success_meets : SearchEnds (λ fs r. r.success ≡ true → T (armijo_of o l r.at.trial) × T (curvature_of o l r.at.trial))
    -- what a failure gives is told for its point
    pub failure_below : SearchEnds (λ fs r. r.success ≡ false → (EvaluationTold fs r.at × T (lt r.at.trial.value l.f)) ⊎ (r.at ≡ start read gradients o l))
    -- 01: "Each trial keeps its step, value and slope together, with its point and gradient."
    pub together : SearchEnds (λ fs r. Together l r.at ⊎ (r.at ≡ start read gradients o l))
    pub gradient_f64s : F64s l.g → SearchEnds (λ fs r. F64s r.at.g)

  -- with a first step and a step_max above zero
  pub record StepLaws : Type 0 where
    -- a step is never negative and never a NaN: the result's, that of every trial, and that of every question
    pub step_not_negative : SearchEnds (λ fs r. T (le plus_zero r.at.trial.step))
    pub trials_not_negative : SearchEnds (λ fs r. (m : Made fs r) × ((t : Evaluation) → Memᴰ t m.made → T (le plus_zero t.trial.step)))
    pub asked_not_negative : Puts (AtStep gradients l) (search read gradients o l initial)
    -- Armijo as computed never lets f rise
    pub success_not_above : Descending o l → SearchEnds (λ fs r. r.success ≡ true → EvaluationTold fs r.at × T (le r.at.trial.value l.f))
    -- so of every result, where f0 is told for the start
    pub result_not_above : Descending o l → Told es l.x l.f → SearchEnds (λ fs r. EvaluationTold fs r.at × T (le r.at.trial.value l.f))

pub record SearchLaws : Type 1 where
  pub evaluations : EvaluationLaws
  pub results : (read : Float → Float) (gradients : Bool) (o : WolfeOptions) (l : Line) (initial : Float) (es : List Exchange) → ResultLaws read gradients o l initial es
  pub steps : (read : Float → Float) (gradients : Bool) (o : WolfeOptions) (l : Line) (initial : Float) (es : List Exchange)
      → T (lt plus_zero initial) → T (lt plus_zero o.stepmax) → StepLaws read gradients o l initial es
  -- a search with a trial to make begins with a question
  pub begins : {Position : Type 0} (read : Float → Float) (gradients : Bool) (o : WolfeOptions) (l : Line) (initial : Float) (f : WolfeResult → Ask (Ending Position))
      → (o.evals ≡ 0 → ⊥) → Begins (search read gradients o l initial >>= f)
