-- A fit as small as can be that still descends: a round halves the first coordinate and takes the point where its value is less. The claim and the laws are tried on it before
-- any algorithm stands. Every job is this fit, and no option is looked at but by refusal 2. Below it, three lists of answers to it, and what they come to. Definitions only.
use Rattle.std.specs.Prelude.{ℕ, suc, Bool, true, false, cond, Option, None, List, [], ◌∷◌, ◌++◌, leb, Float}
use Rattle.std.specs.Float.Ieee.{lt}
use Rattle.float.specs.Binary64.{bits, ◌⊗◌}
use Rattle.float.specs.Values.{finite_of}
use Rattle.protocol.specs.declared.Kind.TheVariants.{Value}
use Rattle.protocol.specs.declared.Termination.{Termination}
use Rattle.protocol.specs.declared.Termination.TheVariants.{SimplexTolerance, MaxIterations}
use Rattle.protocol.specs.Protocol.{letter, Question, Answer, converges, Result, read_of, Job, simplex, bfgs, Fit, Engine}
use Rattle.protocol.specs.Dialogue.{GivenF64s, run, Started, Brings}
use Rattle.protocol.specs.Claim.{RunsAgain, ByPointAlone}
use Rattle.protocol.specs.Ask.{Ask, finish, ◌>>=◌, ask_value}
use Rattle.protocol.specs.Rounds.{Ending, at_head, fails, Verdict, go_on, stop, Rounds}

-- the head of a round: the best point, its value, and the iterations so far
pub record Head : Type 0 where
  pub x : List Float
  pub f : Float
  pub iterations : ℕ

-- the point with its first coordinate halved
abbrev pub halved : List Float → List Float
halved [] = []
halved (v ∷ x) = v ⊗ bits 0x3FE0_0000_0000_0000 ∷ x

-- the first head, with the value v of x; 20 where it is not finite
abbrev pub valued : List Float → Float → Ask (Ending Head)
valued x v = finish (cond (finite_of v) (at_head (record { x = x; f = v; iterations = 0 })) (fails 20 0))

-- 9 where there is no coordinate
abbrev pub opening : List Float → Ask (Ending Head)
opening [] = finish (fails 9 0)
opening (v ∷ x) = ask_value read_of (v ∷ x) >>= valued (v ∷ x)

-- three iterations and no more
abbrev pub tests : Head → Verdict Head
tests p = cond (leb 3 p.iterations) (stop SimplexTolerance) go_on

-- the next head: the point y with the value v, where it is taken
abbrev pub next : Head → List Float → Float → Bool → Head
next p y v true = record { x = y; f = v; iterations = suc p.iterations }
next p y v false = record { x = p.x; f = p.f; iterations = suc p.iterations }

-- it is taken where v is less
abbrev pub compared : Head → List Float → Float → Ask (Ending Head)
compared p y v = finish (at_head (next p y v (lt v p.f)))

abbrev pub round : Head → Ask (Ending Head)
round p = ask_value read_of (halved p.x) >>= compared p (halved p.x)

-- the fit, of every job
abbrev pub example : Rounds Job
example = record {
  Position = Head;
  x = λ p. p.x;
  f = λ p. p.f;
  iterations = λ p. p.iterations;
  opening = λ j x. opening x;
  tests = tests;
  round = round;
}

-- ---- the claim's hypotheses

-- every hypothesis of its first part, of a list l of the fit f that brings the result r
pub record Reaches (E : Engine) (f : Fit) (l : List Answer) (r : Result) : Type 0 where
  pub started : Started E f
  pub given : GivenF64s l
  pub brings : Brings (run E f l) r

-- every hypothesis of its second part, of two lists
pub record Pair (E : Engine) (f g : Fit) (l m : List Answer) (r s : Result) : Type 0 where
  pub first : Reaches E f l r
  pub second : Reaches E g m s
  pub again : RunsAgain f g
  pub by_point : ByPointAlone ((run E f l).exchanges ++ (run E g m).exchanges)

-- ---- lists of answers by the objective f(x) = x, from x0 = 1

-- the bits of 1, 1/2, 1/4 and 1/8, which are the points of the questions 1, 2, 3 and 4
abbrev pub one : ℕ
one = 0x3FF0_0000_0000_0000

abbrev pub half : ℕ
half = 0x3FE0_0000_0000_0000

abbrev pub quarter : ℕ
quarter = 0x3FD0_0000_0000_0000

abbrev pub eighth : ℕ
eighth = 0x3FC0_0000_0000_0000

-- the fit with the max_iter a
abbrev pub sample : Option ℕ → Fit
sample a = record {
  job = simplex (record { xtol = bits half; ftol = bits half; step = bits half; restarts = 0; adaptive = true });
  allowances = record { iter = a; fevals = None };
  x0 = bits one ∷ [];
}

-- the same as a gradient fit, with the max_fevals a: an absent one is no limit here
abbrev pub gradient_sample : Option ℕ → Fit
gradient_sample a = record {
  job = bfgs (record {
    gradtol = bits half;
    ftol = bits half;
    xtol = bits half;
    wolfe = record { c1 = bits quarter; c2 = bits half; stepmax = bits one; evals = 1 };
    memory = 0;
    gradients = false;
  });
  allowances = record { iter = None; fevals = a };
  x0 = bits one ∷ [];
}

-- a value by its bits, asked for and told
abbrev pub question_for : ℕ → ℕ → Question
question_for n w = record { number = n; kind = Value; point = bits w ∷ [] }

abbrev pub value_told : ℕ → ℕ → Answer
value_told n w = record { number = n; kind = letter Value; words = bits w ∷ [] }

-- a result where f(x) = x, by its reason, iterations and fevals, and the bits of f
abbrev pub found : Termination → ℕ → ℕ → ℕ → Result
found y k v w = record { reason = y; converged = converges y; iterations = k; fevals = v; gevals = 0; f = bits w; x = bits w ∷ [] }

-- for max_iter 1: it is used up after the first round
abbrev pub short_answers : List Answer
short_answers = value_told 1 one ∷ value_told 2 half ∷ []

abbrev pub short_result : Result
short_result = found MaxIterations 1 2 half

-- for max_iter 5: the same, a repeat of 1 with another word and a 4 out of turn between them, and on to the fit's own end
abbrev pub long_answers : List Answer
long_answers = value_told 1 one ∷ value_told 1 half ∷ value_told 2 half ∷ value_told 4 eighth ∷ value_told 3 quarter ∷ value_told 4 eighth ∷ []

abbrev pub long_result : Result
long_result = found SimplexTolerance 3 4 eighth

-- for an absent max_iter: no more than is asked
abbrev pub plain_answers : List Answer
plain_answers = value_told 1 one ∷ value_told 2 half ∷ value_told 3 quarter ∷ value_told 4 eighth ∷ []
