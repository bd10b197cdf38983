-- What a start that meets no refusal keeps to. Assumes nothing.
use Prim.Native.Nat.{ℕ, ◌+◌, ◌*◌, ◌^◌, ◌≤◌, ◌<◌}
use native.Mathlib.Nat.{le_trans, lt_of_le_of_lt, mul-le-mul_left, mul-le-mul_right}
use mathlib.Core.Path.{◌≡◌, refl, subst}
use mathlib.Core.Bool.{Bool, true, false, not, cond}
use native.Mathlib.Omega.{arith}
use lib.Dec.{T, eqb, ltb}
use borrow.Author.Tests.{ltb-false, eqb-true, eqb-false}
use Rattle.protocol.specs.declared.SimplexOptions.{SimplexOptions}
use Rattle.protocol.specs.declared.WolfeOptions.{WolfeOptions}
use Rattle.protocol.specs.declared.GradientOptions.{GradientOptions}
use Rattle.protocol.specs.declared.Allowances.{Allowances}
use Rattle.protocol.specs.Protocol.{refusal, no_refusal}
use Rattle.protocol.specs.PastLimits.{excess}
use Rattle.linesearch_trials.specs.Start.{options_refusal_of, counts_refusal_of}
use Rattle.optim_first_record.specs.Starts.{past_limits_of, simplex_refusal_of, search_past_limits_of, search_refusal_of, gradient_past_limits_of, gradient_refusal_of}

-- a chain of tests that is false has met none
missed : (b x : Bool) → cond b true x ≡ false → (b ≡ false) × (x ≡ false)
missed true x e = absurd (subst T e tt)
missed false x e = (refl, e)

within_limits : (count : ℕ) (o : SimplexOptions) (a : Allowances) → past_limits_of count o a ≡ false → (count ≤ 16) × (o.restarts ≤ 100)
unfolding past_limits_of
within_limits count o a e =
    let f = missed (ltb 16 count) _ e in
    let g = missed (excess a.iter) _ f.1 in
    let h = missed (excess a.fevals) _ g.1 in
    (ltb-false _ _ f.0, ltb-false _ _ h.1)

-- a start that meets no refusal keeps to 2's limits
pub simplex_limits : (count : ℕ) (o : SimplexOptions) (a : Allowances) → (simplex_refusal_of count o a).number ≡ 0 → (count ≤ 16) × (o.restarts ≤ 100)
unfolding simplex_refusal_of
simplex_limits count o a e = at (past_limits_of count o a) refl e
  where
    two : ◌≡◌ {A = ℕ} 2 0 → ⊥
    two q = omega arith

    at : (b : Bool) → past_limits_of count o a ≡ b → (simplex_refusal_of count o a).number ≡ 0 → (count ≤ 16) × (o.restarts ≤ 100)
    at true h z = absurd (two (rw h at z))
    at false h z = within_limits count o a h

-- lists of one length
same_counts : (n dcount gcount : ℕ) → (counts_refusal_of n dcount gcount).number ≡ 0 → (dcount ≡ n) × (gcount ≡ n)
unfolding counts_refusal_of
same_counts n dcount gcount e = none (eqb n 0) e
  where
    nine : ◌≡◌ {A = ℕ} 9 0 → ⊥
    nine q = omega arith

    ten : ◌≡◌ {A = ℕ} 10 0 → ⊥
    ten q = omega arith

    eleven : ◌≡◌ {A = ℕ} 11 0 → ⊥
    eleven q = omega arith

    slopes : (b : Bool) → eqb gcount n ≡ b → (cond (not b) (refusal 11 0) no_refusal).number ≡ 0 → gcount ≡ n
    slopes true h z = eqb-true _ _ h
    slopes false h z = absurd (eleven z)

    along : (b : Bool) → eqb dcount n ≡ b → (cond (not b) (refusal 10 0) (cond (not (eqb gcount n)) (refusal 11 0) no_refusal)).number ≡ 0 → (dcount ≡ n) × (gcount ≡ n)
    along true h z = (eqb-true _ _ h, slopes (eqb gcount n) refl z)
    along false h z = absurd (ten z)

    none : (b : Bool) → (cond b (refusal 9 0) (cond (not (eqb dcount n)) (refusal 10 0) (cond (not (eqb gcount n)) (refusal 11 0) no_refusal))).number ≡ 0
        → (dcount ≡ n) × (gcount ≡ n)
    none true z = absurd (nine z)
    none false z = along (eqb dcount n) refl z

-- a search that meets no refusal keeps to 2's limits, and its lists are of one length
pub search_limits : (n dcount gcount : ℕ) (o : WolfeOptions) → (search_refusal_of n dcount gcount o).number ≡ 0 → (n ≤ 16) × (dcount ≡ n) × (gcount ≡ n)
unfolding search_refusal_of search_past_limits_of
search_limits n dcount gcount o e = at (search_past_limits_of n dcount gcount o) refl e
  where
    two : ◌≡◌ {A = ℕ} 2 0 → ⊥
    two q = omega arith

    few : search_past_limits_of n dcount gcount o ≡ false → n ≤ 16
    few h = ltb-false _ _ (missed (ltb 16 n) _ h).0

    counted : (b : Bool) → eqb (options_refusal_of o).number 0 ≡ b
        → (cond (not b) (options_refusal_of o) (counts_refusal_of n dcount gcount)).number ≡ 0 → (counts_refusal_of n dcount gcount).number ≡ 0
    counted true h z = z
    counted false h z = absurd (eqb-false _ _ h z)

    at : (b : Bool) → search_past_limits_of n dcount gcount o ≡ b → (search_refusal_of n dcount gcount o).number ≡ 0 → (n ≤ 16) × (dcount ≡ n) × (gcount ≡ n)
    at true h z = absurd (two (rw h at z))
    at false h z = let c = same_counts n dcount gcount (counted (eqb (options_refusal_of o).number 0) refl (rw h at z)) in (few h, c.0, c.1)

-- a gradient fit that meets no refusal keeps to 2's limits
pub gradient_limits : (count : ℕ) (o : GradientOptions) (a : Allowances) (limited : Bool) → (gradient_refusal_of count o a limited).number ≡ 0 → count ≤ 16
unfolding gradient_refusal_of gradient_past_limits_of
gradient_limits count o a limited e = at (gradient_past_limits_of count o a limited) refl e
  where
    two : ◌≡◌ {A = ℕ} 2 0 → ⊥
    two q = omega arith

    at : (b : Bool) → gradient_past_limits_of count o a limited ≡ b → (gradient_refusal_of count o a limited).number ≡ 0 → count ≤ 16
    at true h z = absurd (two (rw h at z))
    at false h z = ltb-false _ _ (missed (ltb 16 count) _ h).0
