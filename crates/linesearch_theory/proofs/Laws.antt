-- The laws of the search: `search_laws`. Assumes nothing.
use Prim.Native.Nat.{ℕ, zero, suc, ◌≤◌}
use mathlib.Core.Path.{◌≡◌, refl, sym, subst}
use mathlib.Core.Logic.{◌⊎◌, inl, inr, ⊎_elim}
use mathlib.Core.Option.{none}
use mathlib.Core.List.{List, Memᴰ}
use mathlib.Core.Bool.{Bool, true, false}
use lib.Dec.{T}
use lib.Ieee.{Float, nan, inf, fin, lt, le}
use Rattle.float.specs.Binary64.{plus_zero, ◌⊗◌}
use Rattle.float.specs.Values.{Finite, finite_of, min_of}
use Rattle.float.proofs.Order.{lt→le, le→not_above, not_lt→le}
use Rattle.float.proofs.Signs.{finite_number, armijo}
use Rattle.float.proofs.Tests.{by}
use Rattle.protocol.specs.declared.WolfeOptions.{WolfeOptions}
use Rattle.protocol.specs.Dialogue.{Exchange, F64s, Told}
use Rattle.protocol.specs.Ask.{Ask, ◌>>=◌, wp, Grows}
use Rattle.protocol.specs.Rounds.{Ending}
use Rattle.protocol.specs.RoundsLaws.{Begins}
use Rattle.protocol.proofs.Texts.{wp_map, wp_grows}
use Rattle.protocol.proofs.Replies.{not_above_self}
use Rattle.linesearch_trials.specs.declared.Evaluation.{Evaluation}
use Rattle.linesearch_trials.specs.declared.Line.{Line}
use Rattle.linesearch_trials.specs.Trials.{two, start_of, armijo_of}
use Rattle.linesearch_theory.specs.Algorithm.{WolfeResult, start, bracket, search}
use Rattle.linesearch_theory.specs.Laws.{Heard, EvaluationTold, Descending, Made, ResultLaws, StepLaws, SearchLaws}
use Rattle.linesearch_theory.proofs.Steps.{Plus, plus_le, positive_plus, min_plus, twice_plus, interpolate_plus}
use Rattle.linesearch_theory.proofs.LawsTold.{evaluations, heard_finite, Tried}
use Rattle.linesearch_theory.proofs.LawsResults.{Result, results}
use Rattle.linesearch_theory.proofs.LawsTrials.{End, trials_made}
use Rattle.linesearch_theory.proofs.LawsAsked.{asked}

not_infinite : (v f : Float) → v ≡ inf false → Finite f → T (le v f) → ⊥
not_infinite v f e i h = go f i (subst (λ (z : Float). T (le z f)) e h)
  where
    go : (f : Float) → Finite f → T (le (inf false) f) → ⊥
    go nan i h = unfold finite_of in i
    go (inf s) i h = unfold finite_of in i
    go (fin s m e) i h = unfold le in h

module _ (read : Float → Float) (gradients : Bool) (o : WolfeOptions) (l : Line) (initial : Float) (es : List Exchange) where
  abbrev text : Ask WolfeResult
  text = search read gradients o l initial

  abbrev begin : Evaluation
  begin = start read gradients o l

  -- ---- whatever the steps

  abbrev Any : List Exchange → WolfeResult → Type 0
  Any fs r = Result read gradients o l (λ a. Unit {0}) tt (λ a h. tt) (λ lo hi p q. tt) fs r

  any : wp es text Any
  any = results read gradients o l (λ a. Unit {0}) tt (λ a h. tt) (λ lo hi p q. tt) initial es tt

  tried_or_start : (fs : List Exchange) (r : WolfeResult) → Any fs r → Tried l fs r.at ⊎ (r.at ≡ begin)
  tried_or_start fs r h = by r.success (λ e. inl (h.succeeded e).0.1) (λ e. ⊎_elim (λ k. inl k.0.1) (λ k. inr k) (h.failed e))

  result_laws : ResultLaws read gradients o l initial es
  result_laws =
      record {
        trials_at_most = wp_map es text Any (λ fs r. r.trials ≤ o.evals) (λ fs r h. h.trials) any;
        trials_made =
            wp_map es text (End read gradients o l (λ a. Unit {0}) tt (λ a h. tt) (λ lo hi p q. tt) initial es) (Made read gradients o l initial es) (λ fs r h. h.0)
            (trials_made read gradients o l (λ a. Unit {0}) tt (λ a h. tt) (λ lo hi p q. tt) initial es tt);
        success_meets = wp_map es text Any _ (λ fs r h e. ((h.succeeded e).1, (h.succeeded e).2)) any;
        failure_below = wp_map es text Any _ (λ fs r h e. ⊎_elim (λ k. inl (heard_finite fs r.at.x r.at.trial.value k.0.1.heard k.1, k.2)) (λ k. inr k) (h.failed e)) any;
        together = wp_map es text Any _ (λ fs r h. ⊎_elim (λ k. inl k.together) (λ k. inr k) (tried_or_start fs r h)) any;
        gradient_f64s = λ i. wp_map es text Any _ (λ fs r h. ⊎_elim (λ k. k.gradient) (λ k. subst (λ (t : Evaluation). F64s t.g) (sym k) i) (tried_or_start fs r h)) any;
      }

  -- ---- steps above zero

  module _ (initial_positive : T (lt plus_zero initial)) (stepmax_positive : T (lt plus_zero o.stepmax)) where
    stepmax_plus : Plus o.stepmax
    stepmax_plus = positive_plus o.stepmax stepmax_positive

    doubled : (a : Float) → Plus a → Plus (min_of (two ⊗ a) o.stepmax)
    doubled a p = min_plus (two ⊗ a) o.stepmax (twice_plus a p) stepmax_plus

    first_plus : Plus (min_of initial o.stepmax)
    first_plus = min_plus initial o.stepmax (positive_plus initial initial_positive) stepmax_plus

    abbrev Stepped : List Exchange → WolfeResult → Type 0
    Stepped fs r = Result read gradients o l Plus tt doubled interpolate_plus fs r

    stepped : wp es text Stepped
    stepped = results read gradients o l Plus tt doubled interpolate_plus initial es first_plus

    at_start_lem : Plus begin.trial.step
    unfolding start_of
    at_start_lem = tt

    step_plus : (fs : List Exchange) (r : WolfeResult) → Stepped fs r → Plus r.at.trial.step
    step_plus fs r h =
        by r.success (λ e. (h.succeeded e).0.0) (λ e. ⊎_elim (λ k. k.0.0) (λ k. subst (λ (t : Evaluation). Plus t.trial.step) (sym k) at_start_lem) (h.failed e))

    abbrev Lower : List Exchange → Evaluation → Type 0
    Lower fs t = EvaluationTold fs t × T (le t.trial.value l.f)

    -- a trial that meets Armijo is not above f0, so finite, so told
    meets : Descending o l → (fs : List Exchange) (t : Evaluation) → Plus t.trial.step → Heard t.x fs t.trial.value → T (armijo_of o l t.trial) → Lower fs t
    unfolding armijo_of
    meets d fs t p (inl h) i =
        (h, armijo t.trial.value l.f o.c1 t.trial.step l.slope d.finite d.f64 d.c1 (le→not_above plus_zero t.trial.step (plus_le t.trial.step p)) d.slope i)
    meets d fs t p (inr e) i =
        absurd (not_infinite t.trial.value l.f e d.finite
        (armijo t.trial.value l.f o.c1 t.trial.step l.slope d.finite d.f64 d.c1 (le→not_above plus_zero t.trial.step (plus_le t.trial.step p)) d.slope i))

    succeeds : Descending o l → (fs : List Exchange) (r : WolfeResult) → Stepped fs r → r.success ≡ true → Lower fs r.at
    succeeds d fs r h e = let k = h.succeeded e in meets d fs r.at k.0.0 k.0.1.heard k.1

    le_self : Finite l.f → T (le l.f l.f)
    le_self i = not_lt→le l.f l.f (finite_number l.f i) (finite_number l.f i) (not_above_self l.f)

    starts : Descending o l → Told es l.x l.f → (fs : List Exchange) → Grows es fs → Lower fs begin
    unfolding start_of
    starts d t fs g = ((d.finite, d.f64, g l.x l.f t), le_self d.finite)

    ends : Descending o l → Told es l.x l.f → (fs : List Exchange) (r : WolfeResult) → Grows es fs → Stepped fs r → Lower fs r.at
    ends d t fs r g h =
        by r.success (succeeds d fs r h)
        (λ e. ⊎_elim (λ k. (heard_finite fs r.at.x r.at.trial.value k.0.1.heard k.1, lt→le r.at.trial.value l.f k.2))
        (λ k. subst (Lower fs) (sym k) (starts d t fs g)) (h.failed e))

    step_laws : StepLaws read gradients o l initial es
    step_laws =
        record {
          step_not_negative = wp_map es text Stepped (λ fs r. T (le plus_zero r.at.trial.step)) (λ fs r h. plus_le r.at.trial.step (step_plus fs r h)) stepped;
          trials_not_negative =
              wp_map es text (End read gradients o l Plus tt doubled interpolate_plus initial es)
              (λ fs r. (m : Made read gradients o l initial es fs r) × ((t : Evaluation) → Memᴰ t m.made → T (le plus_zero t.trial.step)))
              (λ fs r h. (h.0, λ t m. plus_le t.trial.step (h.1 t m))) (trials_made read gradients o l Plus tt doubled interpolate_plus initial es first_plus);
          asked_not_negative = asked read gradients o l initial initial_positive stepmax_positive;
          success_not_above = λ d. wp_map es text Stepped (λ fs r. r.success ≡ true → Lower fs r.at) (succeeds d) stepped;
          result_not_above = λ d t. wp_map es text (λ fs r. Grows es fs × Stepped fs r) (λ fs r. Lower fs r.at) (λ fs r h. ends d t fs r h.0 h.1) (wp_grows es text Stepped stepped);
        }

-- ---- the first question

begins_bracket : {Position : Type 0} (read : Float → Float) (gradients : Bool) (o : WolfeOptions) (l : Line) (k : ℕ) (a : Float) (f : WolfeResult → Ask (Ending Position))
    → (k ≡ 0 → ⊥) → Begins (bracket read gradients o l k a none none >>= f)
unfolding bracket ◌>>=◌
begins_bracket read gradients o l zero a f h = absurd (h refl)
begins_bracket read gradients o l (suc k) a f h = tt

pub search_laws : SearchLaws
search_laws =
    record {
      evaluations = evaluations;
      results = result_laws;
      steps = step_laws;
      begins = λ read gradients o l initial f h. begins_bracket read gradients o l o.evals (min_of initial o.stepmax) f h;
    }
