-- The mission's 3:
--   "For every fit started and every list of answers then given to it, one after another, refused and repeated ones included and whatever they tell: a result's f is a
--   value told for its x, and in simplex fits the least told, non-finite read as infinity. For every two such lists, if the second runs the first's fit again with neither
--   allowance lowered, one objective answers both by the point alone and both reach a result, then the second opens with all the first's questions, its f is no larger,
--   and the results are equal where the first stopped for anything but an allowance."
-- Its words stand first, each beside the words of 01 that fix it; `Claim`, at the end, is the sentence (`one`, `two`), with what every single call along a list replies (`starts`, `calls`).
-- Definitions only.
use Rattle.std.specs.Prelude.{◌≡◌, ℕ, ◌+◌, ◌*◌, ◌≤◌, Option, None, Some, length, Float}
use mathlib.Core.List.{List, ◌++◌, Memᴰ}
use Rattle.float.specs.Binary64.{NotAbove}
use Rattle.float.specs.Values.{Finite}
use Rattle.protocol.specs.declared.Kind.TheVariants.{Value, Gradient}
use Rattle.protocol.specs.declared.Termination.{Termination}
use Rattle.protocol.specs.declared.Termination.TheVariants.{GradientTolerance, SimplexTolerance, StepTolerance, FunctionTolerance, MaxIterations, MaxFevals, LineSearchFailed, GradientFailed, ObjectiveResolution}
use Rattle.protocol.specs.Protocol.{Question, Answer, Result, read_of, Job, simplex, bfgs, lbfgs, Fit, Engine}
use Rattle.protocol.specs.Dialogue.{F64s, GivenF64s, Exchange, Dialogue, run, Started, Brings, Told, answers_of}
use Rattle.protocol.specs.Calls.{Numbered, OfCall}

-- "larger and least go by f64's `<`": nothing told is less than f, non-finite read as infinity
abbrev pub LeastTold : List Exchange → Float → Type 0
LeastTold es f = (x : List Float) (v : Float) → Told es x v → NotAbove f (read_of v)

abbrev pub IsSimplex : Job → Type 0
IsSimplex (simplex o) = Unit {0}
IsSimplex (bfgs o) = ⊥
IsSimplex (lbfgs o) = ⊥

-- "An absent allowance is compared as its default; "none" exceeds any number."
pub data Limit : Type 0 where
  limit : ℕ → Limit
  unlimited : Limit

infixl 20 ◌⊑◌
abbrev pub ◌⊑◌ : Limit → Limit → Type 0
limit k ⊑ limit n = k ≤ n
limit k ⊑ unlimited = Unit {0}
unlimited ⊑ limit n = ⊥
unlimited ⊑ unlimited = Unit {0}

abbrev pub or_default : Option ℕ → Limit → Limit
or_default None d = d
or_default (Some k) d = limit k

-- simplex: "absent, each is 200·n·(1+restarts)"; gradient fits: "max_iter (absent: 200·n), max_fevals (absent: none)"
abbrev pub default_iter : Job → ℕ → Limit
default_iter (simplex o) n = limit (200 * n * (1 + o.restarts))
default_iter (bfgs o) n = limit (200 * n)
default_iter (lbfgs o) n = limit (200 * n)

abbrev pub default_fevals : Job → ℕ → Limit
default_fevals (simplex o) n = limit (200 * n * (1 + o.restarts))
default_fevals (bfgs o) n = unlimited
default_fevals (lbfgs o) n = unlimited

abbrev pub iter_allowance : Fit → Limit
iter_allowance f = or_default f.allowances.iter (default_iter f.job (length f.x0))

abbrev pub fevals_allowance : Fit → Limit
fevals_allowance f = or_default f.allowances.fevals (default_fevals f.job (length f.x0))

-- "Run again, a fit starts alike in all but max_iter and max_fevals", with neither lowered
pub record RunsAgain (first second : Fit) : Type 0 where
  pub job : first.job ≡ second.job
  pub x0 : first.x0 ≡ second.x0
  pub iter : iter_allowance first ⊑ iter_allowance second
  pub fevals : fevals_allowance first ⊑ fevals_allowance second

-- "accepted answers of one kind to one point, in both lists taken together, carry equal words"
abbrev pub ByPointAlone : List Exchange → Type 0
ByPointAlone es = (d e : Exchange) → Memᴰ d es → Memᴰ e es → d.question.kind ≡ e.question.kind → d.question.point ≡ e.question.point → d.words ≡ e.words

-- "the second opens with the first's where it puts each under the same number, with equal kind and point"
abbrev pub OpensWith : List Question → List Question → Type 0
OpensWith ps qs = (rest : List Question) × (ps ≡ qs ++ rest)

-- "It stopped for an allowance where the test of max_iter or max_fevals ended it"
abbrev pub ForAllowance : Termination → Type 0
ForAllowance GradientTolerance = ⊥
ForAllowance SimplexTolerance = ⊥
ForAllowance StepTolerance = ⊥
ForAllowance FunctionTolerance = ⊥
ForAllowance MaxIterations = Unit {0}
ForAllowance MaxFevals = Unit {0}
ForAllowance LineSearchFailed = ⊥
ForAllowance GradientFailed = ⊥
ForAllowance ObjectiveResolution = ⊥

-- ---- the sentence

-- of one list of the fit f that brings the result r: its accepted answers are es
pub record OfOne (f : Fit) (es : List Exchange) (r : Result) : Type 0 where
  pub told : Told es r.x r.f
  pub finite_f : Finite r.f
  pub least : IsSimplex f.job → LeastTold es r.f
  pub fevals : r.fevals ≡ answers_of Value es
  pub gevals : r.gevals ≡ answers_of Gradient es
  -- an allowance that a result is put down to is used up
  pub iter_used : r.reason ≡ MaxIterations → iter_allowance f ⊑ limit r.iterations
  pub fevals_used : r.reason ≡ MaxFevals → fevals_allowance f ⊑ limit r.fevals

-- of two lists that bring the results r and s
pub record OfTwo {Record : Type 0} (d : Dialogue Record) (r : Result) (e : Dialogue Record) (s : Result) : Type 0 where
  pub opens : OpensWith e.questions d.questions
  pub no_larger : NotAbove s.f r.f
  pub equal : (ForAllowance r.reason → ⊥) → r ≡ s

module _ (E : Engine) where
  pub record Claim : Type 0 where
    pub starts : (f : Fit) → Numbered 0 (E.start f).0
    pub calls : (f : Fit) (l : List Answer) (a : Answer) → Started E f → GivenF64s l → F64s a.words → OfCall E (run E f l) a
    pub one : (f : Fit) (l : List Answer) (r : Result) → Started E f → GivenF64s l → Brings (run E f l) r → OfOne f (run E f l).exchanges r
    pub two : (f g : Fit) (l m : List Answer) (r s : Result) → Started E f → Started E g → GivenF64s l → GivenF64s m
        → RunsAgain f g
        → ByPointAlone ((run E f l).exchanges ++ (run E g m).exchanges)
        → Brings (run E f l) r
        → Brings (run E g m) s
        → OfTwo (run E f l) r (run E g m) s
