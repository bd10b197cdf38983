-- What every search ends with: a trial that meets both conditions, or the best trial below f0, or the start (`results`). Assumes nothing.
use Prim.Native.Nat.{ℕ, ◌-◌, ◌≤◌}
use native.Mathlib.Omega.{arith}
use mathlib.Core.Path.{◌≡◌, refl, sym, subst}
use mathlib.Core.Logic.{◌⊎◌, inl, inr}
use mathlib.Core.Option.{Option, none, some}
use mathlib.Core.List.{List}
use mathlib.Core.Bool.{Bool, true, false, true≢false, false≢true}
use lib.Dec.{T}
use lib.Ieee.{Float, lt}
use Rattle.float.specs.Binary64.{◌⊗◌, plus_zero}
use Rattle.float.specs.Values.{Finite, min_of}
use Rattle.protocol.specs.declared.WolfeOptions.{WolfeOptions}
use Rattle.protocol.specs.Dialogue.{Exchange}
use Rattle.protocol.specs.Ask.{Ask, ◌>>=◌, wp, Grows}
use Rattle.protocol.proofs.Texts.{wp_bind, wp_map}
use Rattle.protocol.proofs.Replies.{true_T}
use Rattle.linesearch_trials.specs.declared.Trial.{Trial}
use Rattle.linesearch_trials.specs.declared.Evaluation.{Evaluation}
use Rattle.linesearch_trials.specs.declared.Line.{Line}
use Rattle.linesearch_trials.specs.Cubic.{interpolate_of}
use Rattle.linesearch_trials.specs.Trials.{two, armijo_of, curvature_of}
use Rattle.linesearch_theory.specs.Algorithm.{WolfeResult, eval, keep, start, best_or_start, search}
use Rattle.linesearch_theory.proofs.LawsInduction.{Invariant, search_holds, keep_cases, given_cases}
use Rattle.linesearch_theory.proofs.LawsTold.{Tried, tried_grows, AtA, eval_told}

-- `Step` holds of the steps tried: each is made from such ones
module _ (read : Float → Float) (gradients : Bool) (o : WolfeOptions) (l : Line) (Step : Float → Type 0) (at_zero : Step plus_zero)
    (doubled : (a : Float) → Step a → Step (min_of (two ⊗ a) o.stepmax)) (between : (lo hi : Trial) → Step lo.step → Step hi.step → Step (interpolate_of lo hi)) where
  abbrev pub Fine : List Exchange → Evaluation → Type 0
  Fine es t = Step t.trial.step × Tried l es t

  pub record Result (es : List Exchange) (r : WolfeResult) : Type 0 where
    pub trials : r.trials ≤ o.evals
    pub succeeded : r.success ≡ true → Fine es r.at × T (armijo_of o l r.at.trial) × T (curvature_of o l r.at.trial)
    pub failed : r.success ≡ false → (Fine es r.at × Finite r.at.trial.value × T (lt r.at.trial.value l.f)) ⊎ (r.at ≡ start read gradients o l)

  abbrev Best : List Exchange → Option Evaluation → Type 0
  Best es none = Unit {0}
  Best es (some b) = Fine es b × Finite b.trial.value

  best_grows : (es fs : List Exchange) (best : Option Evaluation) → Grows es fs → Best es best → Best fs best
  best_grows es fs none g h = tt
  best_grows es fs (some b) g h = ((h.0.0, tried_grows read gradients o l es fs b g h.0.1), h.1)

  keeps : (es : List Exchange) (t : Evaluation) (best : Option Evaluation) → Fine es t → Best es best → Best es (keep read gradients o l t best)
  keeps es t best h k = keep_cases read gradients o l (Best es) t best (λ f. (h, f)) k

  abbrev Then : List Exchange → Ask WolfeResult → Type 0
  Then es m = wp es m Result

  tries : (es : List Exchange) (a : Float) (best : Option Evaluation) (f : Evaluation → Ask WolfeResult) → Step a → Best es best
      → ((fs : List Exchange) (t : Evaluation) → Fine fs t → Best fs (keep read gradients o l t best) → Then fs (f t)) → Then es (eval read gradients o l a >>= f)
  tries es a best f s b h =
      let m = eval read gradients o l a in
      wp_bind es m f Result
      (wp_map es m (λ fs t. Grows es fs × AtA read gradients o l a fs t) (λ fs t. Then fs (f t))
      (λ fs t p.
      let fine : Fine fs t = (subst Step (sym p.1.0) s, p.1.1) in
      h fs t fine (keeps fs t best fine (best_grows es fs best p.0 b)))
      (eval_told read gradients o l a es))

  within : (k : ℕ) → o.evals - k ≤ o.evals
  within k = omega arith

  fails : (k : ℕ) (es : List Exchange) (best : Option Evaluation) → Best es best → Result es (record { success = false; at = best_or_start read gradients o l best; trials = o.evals - k })
  fails k es none b = record { trials = within k; succeeded = λ e. absurd (false≢true e); failed = λ e. inr refl }
  fails k es (some t) b =
      record {
        trials = within k;
        succeeded = λ e. absurd (false≢true e);
        failed = λ e.
            given_cases read gradients o l (λ at. (Fine es at × Finite at.trial.value × T (lt at.trial.value l.f)) ⊎ (at ≡ start read gradients o l)) t
            (λ i. inl (b.0, b.1, true_T (lt t.trial.value l.f) i)) (λ i. inr refl);
      }

  invariant : Invariant read gradients o l
  invariant = record {
    State = List Exchange;
    Then = λ k es m. Then es m;
    Step = Step;
    Fine = Fine;
    Best = Best;
    at_zero = at_zero;
    doubled = doubled;
    between = between;
    fine_step = λ es t h. h.0;
    tries = λ k es a best f s b h. tries es a best f s b h;
    fails = fails;
    succeeds = λ k es t h i j. record {
      trials = within k;
      succeeded = λ e. (h, true_T (armijo_of o l t.trial) i, true_T (curvature_of o l t.trial) j);
      failed = λ e. absurd (true≢false e);
    };
  }

  pub results : (initial : Float) (es : List Exchange) → Step (min_of initial o.stepmax) → wp es (search read gradients o l initial) Result
  unfolding invariant
  results initial es s = search_holds read gradients o l invariant es initial s tt
