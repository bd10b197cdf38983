-- What ties a record of a gradient fit to the engine of the texts (`Sound`): such a record is in range (`valid`), and shows what its text shows (`shows`). Assumes nothing.
use Prim.Native.Nat.{ℕ, ◌+◌, ◌≤◌}
use native.Mathlib.Numerals.{add-one}
use native.Mathlib.Omega.{arith}
use mathlib.Core.Path.{◌≡◌, refl, sym, ◌∙◌, ap, subst}
use mathlib.Core.Logic.{◌⊎◌, inr}
use mathlib.Core.Bool.{Bool, true, false, not, cond, true≢false}
use mathlib.Core.List.{List}
use borrow.Author.Tests.{le-ltb, le-leb, lt-leb, leb-false, eqb-true, eqb-false}
use lib.Dec.{leb, eqb}
use lib.Ieee.{Float}
use Rattle.vector.specs.Lists.{first}
use Rattle.protocol.specs.declared.Kind.TheVariants.{Value, Gradient}
use Rattle.protocol.specs.declared.Termination.TheVariants.{MaxIterations, MaxFevals, LineSearchFailed, GradientFailed}
use Rattle.protocol.specs.Protocol.{converges, fitted, Reply, ask, ended, refused}
use Rattle.protocol.specs.Ask.{Ask, finish, query, ◌>>=◌}
use Rattle.protocol.specs.Rounds.{Ending, stops, fails, FitLimits, Kept, question_at, put}
use Rattle.protocol.specs.Fits.{map_text}
use Rattle.quasinewton_model.specs.declared.Model.{Model}
use Rattle.quasinewton_model_theory.specs.Ties as hessian
use Rattle.linesearch.specs.Step.{asks_difference}
use Rattle.quasinewton_record.specs.declared.Fixed.{Fixed}
use Rattle.quasinewton.specs.Step as quasinewton
use Rattle.quasinewton.specs.Step.{searching, by_refusal, probe_of, asks_of}
use Rattle.quasinewton_theory.specs.Algorithm.{GradientPosition}
use Rattle.quasinewton_theory.specs.Follows.{position_of, reason_of, ending_of, to_do, wants_gradient, kind_of, heard_of, DescentShaped, DescentZeroPast, DescentStands}
use Rattle.quasinewton_theory.proofs.Follows.{gradient_follows}
use Rattle.optim_fits_theory.specs.Fits.{all_fits}
use Rattle.optim_record.specs.declared.Record.{Record}
use Rattle.optim_record.specs.Record.{most_allowed, most_evals, no_limit, gradient_fixed_of, gradient_job_of, valid_of}
use Rattle.optim_record.proofs.Refusal1Parts.{ending_part}
use Rattle.optim_record.proofs.Refusal1.{descent_valid}
use Rattle.optim_reply.specs.Standing.{over_of, gradient_due_of, descent_termination_of, descent_converged_of, descent_result_of, standing_descent_of, standing_of}
use Rattle.optim_theory.proofs.Refusals.{Named}
use Rattle.optim_theory.proofs.Replies.{gradient_marks, no_simplex, no_search}

-- ---- the text that a record stands for

abbrev pub Text : Type 0
Text = Ask (Ending GradientPosition)

abbrev pub rest_of : Record → Text
rest_of r = to_do (gradient_fixed_of r) r.descent r.model

-- as the engine of all fits has it
abbrev pub shown_as : FitLimits → Record → Text → Reply × Kept all_fits.Position
shown_as l r m = put all_fits l r.accepted r.counts.fevals r.counts.gevals (map_text inr m)

-- a dense model has no pairs, and no memory for them
pub record NoPairs (m : Model) : Type 0 where
  pub memory : m.limited ≡ false → m.memory ≡ 0
  pub count : m.limited ≡ false → m.pairs.count ≡ 0

-- what holds of the record itself
pub record Sound (r : Record) : Type 0 where
  pub job : gradient_job_of r.job ≡ true
  pub numbers : r.accepted ≡ r.counts.fevals + r.counts.gevals
  pub shape : DescentShaped (gradient_fixed_of r) r.descent
  pub stands : DescentStands r.descent
  pub named : Named r.descent
  pub zeros : DescentZeroPast r.n r.descent
  pub model : hessian.ModelSized r.model
  pub dense : NoPairs r.model
  pub model_zeros : hessian.ModelZeroPast r.n r.model
  pub iter : r.limits.iter ≤ most_allowed
  pub fevals : (r.limits.fevals ≡ no_limit) ⊎ (r.limits.fevals ≤ most_allowed)
  pub evals : r.gradient.wolfe.evals ≤ most_evals
  pub memory : r.gradient.memory ≤ 16

-- 33*(1+10^9) values and 1+10^9 gradients at most
pub record Low (r : Record) : Type 0 where
  pub values : r.counts.fevals ≤ 33000000033
  pub gradients : r.counts.gevals ≤ 1000000001

-- ---- it is in range

model_within : (m : Model) → hessian.ModelSized m → NoPairs m → (m.memory ≤ 16) × (m.pairs.count ≤ m.memory)
model_within m S N = go m.limited refl
  where
    go : (b : Bool) → m.limited ≡ b → (m.memory ≤ 16) × (m.pairs.count ≤ m.memory)
    go true e = (S.range.most e, S.range.within e)
    go false e = (omega (arith, N.memory e), omega (arith, N.count e))

pub valid : (r : Record) → Sound r → Low r → valid_of r ≡ true
valid r S L =
    let s = r.descent.search in
    let M = model_within r.model S.model S.dense in
    descent_valid r (gradient_marks r.job S.job)
    (record { few = S.shape.small; accepted = omega (arith, S.numbers, L.values, L.gradients); fevals = omega (arith, L.values); gevals = omega (arith, L.gradients) })
    (record {
      some_n = S.shape.positive;
      phase_low = S.shape.least;
      phase_high = S.stands.most;
      ending = (ending_part r.descent).0 S.named.ending;
      rounds = omega (arith, S.shape.rounds, S.iter);
      at = S.shape.parts.diff.within;
      iter = S.iter;
      memory = S.memory;
      fevals = S.fevals;
      model = record { most = M.0; pairs = M.1 };
      search = record {
        phase_low = S.shape.parts.search.least;
        phase_high = S.shape.parts.search.most;
        evals = S.evals;
        trials = S.shape.parts.search.trials;
        at = S.shape.parts.search.diff.within;
      };
    })

-- ---- it shows what the text shows

-- the reasons are the text's
reasons : (p : ℕ) → descent_termination_of p ≡ reason_of p
unfolding descent_termination_of
reasons p = refl

-- GradientTolerance, FunctionTolerance and StepTolerance
converged_as : (p : ℕ) → 5 ≤ p → descent_converged_of p ≡ converges (reason_of p)
unfolding descent_converged_of
converged_as p h = go (eqb p 5) refl (eqb p 6) refl (eqb p 7) refl
  where
    at : (q : ℕ) → descent_converged_of q ≡ converges (reason_of q) → p ≡ q → descent_converged_of p ≡ converges (reason_of p)
    at q i e = subst (λ (z : ℕ). descent_converged_of z ≡ converges (reason_of z)) (sym e) i

    others : (a b c : Bool) → false ≡ converges (cond a MaxIterations (cond b MaxFevals (cond c LineSearchFailed GradientFailed)))
    others true b c = refl
    others false true c = refl
    others false false true = refl
    others false false false = refl

    go : (a : Bool) → eqb p 5 ≡ a → (b : Bool) → eqb p 6 ≡ b → (c : Bool) → eqb p 7 ≡ c → descent_converged_of p ≡ converges (reason_of p)
    go true i b j c k = at 5 refl (eqb-true p 5 i)
    go false i true j c k = at 6 refl (eqb-true p 6 j)
    go false i false j true k = at 7 refl (eqb-true p 7 k)
    go false i false j false k =
        rw (le-ltb p 5 h, lt-leb p 7 (omega (arith, eqb-false p 5 i, eqb-false p 6 j, eqb-false p 7 k)), i, j, k) (others (eqb p 8) (eqb p 9) (eqb p 10))

module _ (r : Record) (S : Sound r) where
  abbrev fixed : Fixed
  fixed = gradient_fixed_of r

  -- the question that the text puts next, and the rest after its answer
  pub asks : asks_of r.descent ≡ true → rest_of r ≡ query (kind_of fixed r.descent) (first r.n (probe_of fixed r.descent)) (λ w. to_do fixed (heard_of fixed r.descent w) r.model)
  asks e = (gradient_follows fixed).follows r.descent r.model S.shape e

  pub ended_by : asks_of r.descent ≡ false → rest_of r ≡ finish (ending_of fixed r.descent r.model)
  ended_by e = (gradient_follows fixed).ends r.descent r.model S.shape S.stands e

  as_descent : standing_of r ≡ standing_descent_of r
  unfolding standing_of
  as_descent = rw (no_simplex r.job S.job, no_search r.job S.job, S.job)

  pub over_as : over_of r ≡ not (asks_of r.descent)
  unfolding over_of
  over_as = rw (no_simplex r.job S.job, no_search r.job S.job, S.job)

  pub due_as : gradient_due_of r ≡ wants_gradient fixed r.descent
  unfolding gradient_due_of quasinewton.gradient_due_of
  due_as = rw (no_search r.job S.job, S.job)

  -- a question stands open
  shows_question : (l : FitLimits) → asks_of r.descent ≡ true → (standing_descent_of r).0 ≡ (shown_as l r (rest_of r)).0
  unfolding standing_descent_of quasinewton.gradient_due_of ◌>>=◌
  shows_question l e =
      subst (λ (m : Text). (standing_descent_of r).0 ≡ (shown_as l r m).0) (sym (asks e)) (rw e (go (wants_gradient fixed r.descent)))
    where
      x : List Float
      x = first r.n (probe_of fixed r.descent)

      go : (b : Bool) → (cond {A = Reply × Record} b (ask (record { number = r.accepted + 1; kind = Gradient; point = x }), r) (ask (record { number = r.accepted + 1; kind = Value; point = x }), r)).0
          ≡ ask (question_at all_fits r.accepted (cond b Gradient Value) x)
      go true = rw (add-one r.accepted)
      go false = rw (add-one r.accepted)

  -- the last phase that asks is behind
  past : asks_of r.descent ≡ false → 5 ≤ r.descent.phase
  unfolding asks_of
  past e = go (eqb r.descent.phase searching) refl e
    where
      go : (b : Bool) → eqb r.descent.phase searching ≡ b
          → cond b (leb r.descent.search.phase asks_difference) (leb r.descent.phase quasinewton.first_differences) ≡ false → 5 ≤ r.descent.phase
      go true i f = absurd (true≢false (sym (le-leb _ _ (S.stands.asking (eqb-true _ _ i))) ∙ f))
      go false i f = omega (arith, eqb-false r.descent.phase searching i, leb-false r.descent.phase quasinewton.first_differences f)

  -- the fit has ended
  shows_end : (l : FitLimits) → asks_of r.descent ≡ false → (standing_descent_of r).0 ≡ (shown_as l r (rest_of r)).0
  unfolding standing_descent_of descent_result_of ◌>>=◌
  shows_end l e = subst (λ (m : Text). (standing_descent_of r).0 ≡ (shown_as l r m).0) (sym (ended_by e)) (rw e (go (eqb r.descent.phase by_refusal)))
    where
      p : ℕ
      p = r.descent.phase

      go : (b : Bool)
          → (cond {A = Reply × Record} b (refused r.descent.number r.descent.detail, r) (ended (fitted (descent_result_of r)), r)).0
          ≡ (shown_as l r (finish (cond b (fails r.descent.number r.descent.detail) (stops (reason_of p) (position_of fixed r.descent r.model))))).0
      go true = refl
      go false = rw (reasons p, converged_as p (past e))

  pub shows : (l : FitLimits) → (standing_of r).0 ≡ (shown_as l r (rest_of r)).0
  shows l = ap (λ a. a.0) as_descent ∙ go (asks_of r.descent) refl
    where
      go : (b : Bool) → asks_of r.descent ≡ b → (standing_descent_of r).0 ≡ (shown_as l r (rest_of r)).0
      go true e = shows_question l e
      go false e = shows_end l e
