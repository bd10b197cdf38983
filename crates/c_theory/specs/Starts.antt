-- 01's sample as C starts it, with any count beside its absent allowances. Definitions and statements only.
use Rattle.std.specs.Prelude.{ℕ, ◌≡◌, false}
use Rattle.protocol.specs.Protocol.{Fit}
use Rattle.protocol.specs.Dialogue.{run}
use Rattle.protocol.specs.Claim.{OfOne}
use Rattle.protocol.specs.Example.{Reaches}
use Rattle.optim_theory.specs.Engine.{code}
use Rattle.optim_theory.specs.Examples.{sample, sample_answers, sample_result, sample_replies}
use Rattle.c_api.specs.declared.options.Allowance.{Allowance}
use Rattle.c_api.specs.Options.{to_allowances_of}

-- an allowance that is absent, beside the count k
abbrev pub absent : ℕ → Allowance
absent k = record { given = false; count = k }

-- the sample, whose max_iter is absent beside k, and whose max_fevals beside m
abbrev pub sample_with : ℕ → ℕ → Fit
sample_with k m = record { job = sample.job; allowances = to_allowances_of (record { iter = absent k; fevals = absent m }); x0 = sample.x0 }

-- whatever the two counts are, the sample runs to its result, meets the hypotheses of the mission's 3, and so its conclusion
pub record AnyCount : Type 0 where
  pub simplex_run : (k m : ℕ) → (run code (sample_with k m) sample_answers).replies ≡ sample_replies
  pub simplex_reaches : (k m : ℕ) → Reaches code (sample_with k m) sample_answers sample_result
  pub simplex_one : (k m : ℕ) → OfOne (sample_with k m) (run code (sample_with k m) sample_answers).exchanges sample_result
