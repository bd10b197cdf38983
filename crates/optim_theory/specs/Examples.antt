-- Lists of answers that the code's definitions compute to their results: 01's sample, a simplex fit that is told a NaN and -infinity, a short run of bfgs and one of lbfgs, and a run of bfgs
-- that stops for an allowance, which is then raised. They meet every hypothesis of the mission's 3. Definitions and statements only.
use Rattle.std.specs.Prelude.{ℕ, ◌≡◌, true, false, Option, None, Some, List, [], ◌∷◌}
use Rattle.float.specs.Binary64.{bits}
use Rattle.protocol.specs.declared.Kind.{Kind}
use Rattle.protocol.specs.declared.Kind.TheVariants.{Value, Gradient}
use Rattle.protocol.specs.declared.GradientOptions.{GradientOptions}
use Rattle.protocol.specs.declared.Termination.TheVariants.{GradientTolerance, SimplexTolerance, MaxIterations}
use Rattle.protocol.specs.Protocol.{letter, Answer, Result, fitted, Reply, ask, ended, Job, simplex, bfgs, lbfgs, Fit}
use Rattle.protocol.specs.Dialogue.{run}
use Rattle.protocol.specs.Claim.{OfOne, OfTwo}
use Rattle.protocol.specs.Example.{Reaches, Pair}
use Rattle.optim_theory.specs.Engine.{code}

-- a question of one coordinate, and an answer of one word
abbrev pub asks : ℕ → Kind → ℕ → Reply
asks n k x = ask (record { number = n; kind = k; point = bits x ∷ [] })

abbrev pub tells : ℕ → Kind → ℕ → Answer
tells n k w = record { number = n; kind = letter k; words = bits w ∷ [] }

-- the bits of 0, 0.5, 1, 1.25, 1.5 and 2, and of two that are not finite
abbrev pub zero : ℕ
zero = 0x0000_0000_0000_0000

abbrev pub half : ℕ
half = 0x3FE0_0000_0000_0000

abbrev pub one : ℕ
one = 0x3FF0_0000_0000_0000

abbrev pub one_quarter : ℕ
one_quarter = 0x3FF4_0000_0000_0000

abbrev pub one_half : ℕ
one_half = 0x3FF8_0000_0000_0000

abbrev pub two : ℕ
two = 0x4000_0000_0000_0000

abbrev pub a_na_n : ℕ
a_na_n = 0x7FF8_0000_0000_0000

abbrev pub minus_infinity : ℕ
minus_infinity = 0xFFF0_0000_0000_0000

-- ---- 01's sample, whose allowances are absent

abbrev pub sample : Fit
sample =
    record {
      job = simplex (record { xtol = bits one; ftol = bits one; step = bits half; restarts = 0; adaptive = true });
      allowances = record { iter = None; fevals = None };
      x0 = bits one ∷ [];
    }

abbrev pub sample_answers : List Answer
sample_answers = tells 1 Value two ∷ tells 2 Value one ∷ []

abbrev pub sample_result : Result
sample_result = record { reason = SimplexTolerance; converged = true; iterations = 0; fevals = 2; gevals = 0; f = bits one; x = bits one_half ∷ [] }

abbrev pub sample_replies : List Reply
sample_replies = asks 1 Value one ∷ asks 2 Value one_half ∷ ended (fitted sample_result) ∷ []

-- ---- the same fit told a NaN at 1 and -infinity at 2, the reflection: each is read as +infinity, so that it contracts to 1.25

abbrev pub non_finite_answers : List Answer
non_finite_answers = tells 1 Value a_na_n ∷ tells 2 Value one ∷ tells 3 Value minus_infinity ∷ tells 4 Value one ∷ []

abbrev pub non_finite_result : Result
non_finite_result = record { reason = SimplexTolerance; converged = true; iterations = 1; fevals = 4; gevals = 0; f = bits one; x = bits one_half ∷ [] }

abbrev pub non_finite_replies : List Reply
non_finite_replies = asks 1 Value one ∷ asks 2 Value one_half ∷ asks 3 Value two ∷ asks 4 Value one_quarter ∷ ended (fitted non_finite_result) ∷ []

-- ---- bfgs and lbfgs on x² from 1, with gradients: c1 1e-4, c2 0.9, step_max 1e10, max_evals 25, memory 1, and no tolerances

abbrev options : GradientOptions
options =
    record {
      gradtol = bits zero;
      ftol = bits zero;
      xtol = bits zero;
      wolfe = record { c1 = bits 0x3F1A_36E2_EB1C_432D; c2 = bits 0x3FEC_CCCC_CCCC_CCCD; stepmax = bits 0x4202_A05F_2000_0000; evals = 25 };
      memory = 1;
      gradients = true;
    }

-- with the max_iter a: absent, it is 200; max_fevals is absent, which is no limit
abbrev gradient_fit : Job → Option ℕ → Fit
gradient_fit j a = record { job = j; allowances = record { iter = a; fevals = None }; x0 = bits one ∷ [] }

abbrev pub dense : Option ℕ → Fit
dense a = gradient_fit (bfgs options) a

abbrev pub limited : Fit
limited = gradient_fit (lbfgs options) None

abbrev pub opening_answers : List Answer
opening_answers = tells 1 Value one ∷ tells 2 Gradient two ∷ []

abbrev pub whole_answers : List Answer
whole_answers = tells 1 Value one ∷ tells 2 Gradient two ∷ tells 3 Value zero ∷ tells 4 Gradient zero ∷ []

abbrev pub stopped_result : Result
stopped_result = record { reason = MaxIterations; converged = false; iterations = 0; fevals = 1; gevals = 1; f = bits one; x = bits one ∷ [] }

abbrev pub whole_result : Result
whole_result = record { reason = GradientTolerance; converged = true; iterations = 1; fevals = 2; gevals = 2; f = bits zero; x = bits zero ∷ [] }

abbrev pub stopped_replies : List Reply
stopped_replies = asks 1 Value one ∷ asks 2 Gradient one ∷ ended (fitted stopped_result) ∷ []

abbrev pub whole_replies : List Reply
whole_replies = asks 1 Value one ∷ asks 2 Gradient one ∷ asks 3 Value zero ∷ asks 4 Gradient zero ∷ ended (fitted whole_result) ∷ []

-- ---- what holds of them

-- computed on `simplex_of`, `bfgs_of`, `lbfgs_of` and `answer_of`
pub record Computed : Type 0 where
  pub simplex_run : (run code sample sample_answers).replies ≡ sample_replies
  pub non_finite_run : (run code sample non_finite_answers).replies ≡ non_finite_replies
  pub bfgs_run : (run code (dense None) whole_answers).replies ≡ whole_replies
  pub lbfgs_run : (run code limited whole_answers).replies ≡ whole_replies
  pub stopped_run : (run code (dense (Some 0)) opening_answers).replies ≡ stopped_replies

-- they meet the hypotheses of both parts, which so hold of them
pub record NotVacuous : Type 0 where
  pub simplex_reaches : Reaches code sample sample_answers sample_result
  pub non_finite_reaches : Reaches code sample non_finite_answers non_finite_result
  pub bfgs_reaches : Reaches code (dense None) whole_answers whole_result
  pub lbfgs_reaches : Reaches code limited whole_answers whole_result
  pub raised : Pair code (dense (Some 0)) (dense None) opening_answers whole_answers stopped_result whole_result
  pub simplex_one : OfOne sample (run code sample sample_answers).exchanges sample_result
  pub non_finite_one : OfOne sample (run code sample non_finite_answers).exchanges non_finite_result
  pub raised_two : OfTwo (run code (dense (Some 0)) opening_answers) stopped_result (run code (dense None) whole_answers) whole_result
