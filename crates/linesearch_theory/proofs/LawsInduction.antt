-- An induction along the search: what its beginning has and each trial keeps, its end has (`search_holds`); and what is kept and given, by cases. Assumes nothing.
use Prim.Native.Nat.{ℕ, zero, suc}
use mathlib.Core.Path.{◌≡◌, refl}
use mathlib.Core.Option.{Option, none, some}
use mathlib.Core.Bool.{Bool, true, false, not, ◌||◌, cond, true≢false}
use lib.Ieee.{Float, lt, le}
use Rattle.float.specs.Binary64.{◌⊖◌, ◌⊗◌, plus_zero}
use Rattle.float.specs.Values.{Finite, finite_of, min_of}
use Rattle.float.proofs.Tests.{by_cond}
use Rattle.protocol.specs.declared.WolfeOptions.{WolfeOptions}
use Rattle.protocol.specs.Ask.{Ask, ◌>>=◌}
use Rattle.protocol.proofs.Replies.{true_T}
use Rattle.linesearch_trials.specs.declared.Trial.{Trial}
use Rattle.linesearch_trials.specs.declared.Evaluation.{Evaluation}
use Rattle.linesearch_trials.specs.declared.Line.{Line}
use Rattle.linesearch_trials.specs.Cubic.{interpolate_of}
use Rattle.linesearch_trials.specs.Trials.{two, start_of, armijo_of, curvature_of, narrow_of}
use Rattle.linesearch_theory.specs.Algorithm.{WolfeResult, eval, lower, keep, start, best_or_start, failure, success, zoom, before, risen, bracket, search}

module _ (read : Float → Float) (gradients : Bool) (o : WolfeOptions) (l : Line) where
  -- `Then k c m`: what is to hold of the text m, with k trials left and with all that was so far in c
  pub record Invariant : Type 1 where
    pub State : Type 0
    pub Then : ℕ → State → Ask WolfeResult → Type 0
    -- of each step that is tried, of each trial made and of the best so far
    pub Step : Float → Type 0
    pub Fine : State → Evaluation → Type 0
    pub Best : State → Option Evaluation → Type 0
    pub at_zero : Step plus_zero
    pub doubled : (a : Float) → Step a → Step (min_of (two ⊗ a) o.stepmax)
    pub between : (lo hi : Trial) → Step lo.step → Step hi.step → Step (interpolate_of lo hi)
    pub fine_step : (c : State) (t : Evaluation) → Fine c t → Step t.trial.step
    pub tries : (k : ℕ) (c : State) (a : Float) (best : Option Evaluation) (f : Evaluation → Ask WolfeResult) → Step a → Best c best
        → ((d : State) (t : Evaluation) → Fine d t → Best d (keep read gradients o l t best) → Then k d (f t)) → Then (suc k) c (eval read gradients o l a >>= f)
    pub fails : (k : ℕ) (c : State) (best : Option Evaluation) → Best c best → Then k c (failure read gradients o l k best)
    pub succeeds : (k : ℕ) (c : State) (t : Evaluation) → Fine c t → armijo_of o l t.trial ≡ true → curvature_of o l t.trial ≡ true → Then k c (success read gradients o l k t)

  -- what is kept after a trial: the trial, which is then finite, or the best before it
  pub keep_cases : (P : Option Evaluation → Type 0) (t : Evaluation) (best : Option Evaluation) → (Finite t.trial.value → P (some t)) → P best → P (keep read gradients o l t best)
  keep_cases P t best h k = go (finite_of t.trial.value) (lower read gradients o l t best) refl
    where
      go : (b c : Bool) → finite_of t.trial.value ≡ b → P (cond b (cond c (some t) best) best)
      go true true e = h (true_T (finite_of t.trial.value) e)
      go true false e = k
      go false c e = k

  -- what a failure gives: the best where it is below f0, or the start
  pub given_cases : (P : Evaluation → Type 0) (b : Evaluation) → (lt b.trial.value l.f ≡ true → P b) → (lt b.trial.value l.f ≡ false → P (start read gradients o l))
      → P (best_or_start read gradients o l (some b))
  given_cases P b h k = go (lt b.trial.value l.f) refl
    where
      go : (c : Bool) → lt b.trial.value l.f ≡ c → P (cond c b (start read gradients o l))
      go true e = h e
      go false e = k e

  -- a trial for which neither test holds meets Armijo
  or_false : (a b : Bool) → not a || b ≡ false → a ≡ true
  or_false true b e = refl
  or_false false b e = absurd (true≢false e)

  module _ (I : Invariant) where
    zoom_holds : (k : ℕ) (c : I.State) (lo hi : Trial) (best : Option Evaluation) → I.Step lo.step → I.Step hi.step → I.Best c best
        → I.Then k c (zoom read gradients o l k lo hi best)
    unfolding zoom
    zoom_holds zero c lo hi best p q b = I.fails zero c best b
    zoom_holds (suc k) c lo hi best p q b =
        by_cond (I.Then (suc k) c) (narrow_of lo hi) _ _ (λ e. I.fails (suc k) c best b)
        (λ e. I.tries k c (interpolate_of lo hi) best _ (I.between lo hi p q) b
        (λ d t h kept.
        let r = I.fine_step d t h in
        let best' = keep read gradients o l t best in
        by_cond (I.Then k d) (not (armijo_of o l t.trial) || le lo.value t.trial.value) _ _ (λ i. zoom_holds k d lo t.trial best' p r kept)
        (λ i. by_cond (I.Then k d) (curvature_of o l t.trial) _ _ (I.succeeds k d t h (or_false (armijo_of o l t.trial) (le lo.value t.trial.value) i))
        (λ j. by_cond (I.Then k d) (not (finite_of t.trial.slope)) _ _ (λ m. zoom_holds k d lo t.trial best' p r kept)
        (λ m. by_cond (I.Then k d) (le plus_zero (t.trial.slope ⊗ (hi.step ⊖ lo.step))) _ _ (λ n. zoom_holds k d t.trial lo best' r p kept) (λ n. zoom_holds k d t.trial hi best' r q kept))))))

    abbrev PrevStep : Option Trial → Type 0
    PrevStep none = Unit {0}
    PrevStep (some p) = I.Step p.step

    before_step : (prev : Option Trial) → PrevStep prev → I.Step (before read gradients o l prev).step
    unfolding start_of
    before_step none h = I.at_zero
    before_step (some p) h = h

    bracket_holds : (k : ℕ) (c : I.State) (a : Float) (prev : Option Trial) (best : Option Evaluation) → I.Step a → PrevStep prev → I.Best c best
        → I.Then k c (bracket read gradients o l k a prev best)
    unfolding bracket
    bracket_holds zero c a prev best s p b = I.fails zero c best b
    bracket_holds (suc k) c a prev best s p b =
        I.tries k c a best _ s b
        (λ d t h kept.
        let r = I.fine_step d t h in
        let q = before_step prev p in
        let best' = keep read gradients o l t best in
        let prev' = before read gradients o l prev in
        by_cond (I.Then k d) (not (armijo_of o l t.trial) || risen read gradients o l prev t.trial) _ _ (λ i. zoom_holds k d prev' t.trial best' q r kept)
        (λ i. by_cond (I.Then k d) (curvature_of o l t.trial) _ _ (I.succeeds k d t h (or_false (armijo_of o l t.trial) (risen read gradients o l prev t.trial) i))
        (λ j. by_cond (I.Then k d) (not (finite_of t.trial.slope) || le plus_zero t.trial.slope) _ _ (λ m. zoom_holds k d t.trial prev' best' r q kept)
        (λ m. by_cond (I.Then k d) (le o.stepmax a) _ _ (λ n. I.fails k d best' kept) (λ n. bracket_holds k d (min_of (two ⊗ a) o.stepmax) (some t.trial) best' (I.doubled a s) r kept)))))

    pub search_holds : (c : I.State) (initial : Float) → I.Step (min_of initial o.stepmax) → I.Best c none → I.Then o.evals c (search read gradients o l initial)
    search_holds c initial s b = bracket_holds o.evals c (min_of initial o.stepmax) none none s tt b
