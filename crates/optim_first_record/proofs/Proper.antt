-- The refusals that starts meet before their points are looked at: one with the number 0 has no detail. Assumes nothing.
use Prim.Native.Nat.{ℕ}
use mathlib.Core.Bool.{Bool, not}
use lib.Dec.{eqb}
use lib.Ieee.{lt}
use Rattle.float.specs.Binary64.{plus_zero}
use Rattle.float.specs.Values.{positive_of}
use Rattle.protocol.specs.declared.SimplexOptions.{SimplexOptions}
use Rattle.protocol.specs.declared.WolfeOptions.{WolfeOptions}
use Rattle.protocol.specs.declared.GradientOptions.{GradientOptions}
use Rattle.protocol.specs.declared.Allowances.{Allowances}
use Rattle.protocol.proofs.Refusals.{Proper, nothing, made, either}
use Rattle.linesearch_trials.specs.Trials.{one}
use Rattle.linesearch_trials.specs.Start.{options_refusal_of, counts_refusal_of}
use Rattle.optim_first_record.specs.Starts.{simplex_refusal_of, search_past_limits_of, search_refusal_of, gradient_refusal_of}

pub simplex_proper : (count : ℕ) (o : SimplexOptions) (a : Allowances) → Proper (simplex_refusal_of count o a)
unfolding simplex_refusal_of
simplex_proper count o a = either _ (made 1 0) (either _ (made 3 1) (either _ (made 3 2) (either _ (made 7 0) (either _ (made 8 0) nothing))))

pub gradient_proper : (count : ℕ) (o : GradientOptions) (a : Allowances) (limited : Bool) → Proper (gradient_refusal_of count o a limited)
unfolding gradient_refusal_of
gradient_proper count o a limited =
    either _ (made 1 0) (either _ (made 2 0) (either _ (made 3 1) (either _ (made 3 2) (either _ (made 3 3) (either _ (made 4 1) (either _ (made 8 0) nothing))))))

options_proper : (o : WolfeOptions) → Proper (options_refusal_of o)
unfolding options_refusal_of
options_proper o =
    either (not (lt plus_zero o.c1)) (made 4 1)
    (either (not (lt o.c1 one)) (made 4 1)
    (either (not (lt o.c1 o.c2)) (made 4 2)
    (either (not (lt o.c2 one)) (made 4 2) (either (eqb o.evals 0) (made 5 0) (either (not (positive_of o.stepmax)) (made 6 0) nothing)))))

counts_proper : (n dcount gcount : ℕ) → Proper (counts_refusal_of n dcount gcount)
unfolding counts_refusal_of
counts_proper n dcount gcount = either (eqb n 0) (made 8 0) (either (not (eqb dcount n)) (made 9 0) (either (not (eqb gcount n)) (made 10 0) nothing))

pub search_proper : (n dcount gcount : ℕ) (o : WolfeOptions) → Proper (search_refusal_of n dcount gcount o)
unfolding search_refusal_of
search_proper n dcount gcount o =
    either (search_past_limits_of n dcount gcount o) (made 1 0) (either (not (eqb (options_refusal_of o).number 0)) (options_proper o) (counts_proper n dcount gcount))
