-- The counts beside absent allowances are not looked at: the fit is the sample. Assumes nothing.
use Prim.Native.Nat.{ℕ}
use mathlib.Core.Path.{◌≡◌, refl, sym, subst}
use Rattle.protocol.specs.Protocol.{Fit}
use Rattle.protocol.specs.Dialogue.{run}
use Rattle.protocol.specs.Claim.{OfOne}
use Rattle.protocol.specs.Example.{Reaches}
use Rattle.optim_theory.specs.Engine.{code}
use Rattle.optim_theory.specs.Examples.{sample, sample_answers, sample_result, sample_replies}
use Rattle.optim_theory.proofs.NotVacuous.{computed, not_vacuous}
use Rattle.c_api.specs.Options.{to_allowance_of, to_allowances_of}
use Rattle.c_theory.specs.Starts.{sample_with, AnyCount}

same : (k m : ℕ) → sample_with k m ≡ sample
unfolding to_allowances_of to_allowance_of
same k m = refl

-- what holds of the sample
of_sample : (P : Fit → Type 0) → P sample → (k m : ℕ) → P (sample_with k m)
of_sample P h k m = subst P (sym (same k m)) h

pub any_count : AnyCount
any_count =
    record {
      simplex_run = of_sample (λ f. (run code f sample_answers).replies ≡ sample_replies) computed.simplex_run;
      simplex_reaches = of_sample (λ f. Reaches code f sample_answers sample_result) not_vacuous.simplex_reaches;
      simplex_one = of_sample (λ f. OfOne f (run code f sample_answers).exchanges sample_result) not_vacuous.simplex_one;
    }
