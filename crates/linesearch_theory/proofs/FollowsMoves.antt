-- The moves and decisions of the record are those of the text: `zoom_does`, `bracket_does`, `decided_does`. Assumes nothing.
use mathlib.Core.Path.{◌≡◌, refl, sym, ap, ◌∙◌}
use Prim.Native.Nat.{ℕ, suc, ◌-◌, ◌≤◌}
use mathlib.Core.Bool.{Bool, true, false, not, ◌||◌, cond}
use mathlib.Core.Option.{Option, some}
use native.Mathlib.Omega.{arith}
use native.Mathlib.Numerals.{add-one}
use borrow.Author.Tests.{leb-true, leb-false}
use lib.Dec.{leb}
use lib.Ieee.{Float, lt, le}
use Rattle.float.specs.Binary64.{◌⊖◌, ◌⊗◌, plus_zero}
use Rattle.float.specs.Values.{finite_of, min_of}
use Rattle.protocol.specs.declared.WolfeOptions.{WolfeOptions}
use Rattle.protocol.specs.Ask.{Ask, finish}
use Rattle.linesearch_trials.specs.declared.Trial.{Trial}
use Rattle.linesearch_trials.specs.declared.Evaluation.{Evaluation}
use Rattle.linesearch_trials.specs.declared.Line.{Line}
use Rattle.linesearch_trials.specs.declared.Fixed.{Fixed}
use Rattle.linesearch_moves.specs.declared.Search.{Search}
use Rattle.linesearch_trials.specs.Cubic.{interpolate_of}
use Rattle.linesearch_trials.specs.Trials.{two, start_of, armijo_of, curvature_of, narrow_of}
use Rattle.linesearch.specs.Step.{failed, with_best, with_ends, at_start, preceding_of, risen_of, lower_of, keep_of, failure_of, success_of, eval_of, zoom_of, bracket_of, bracketed_of, zoomed_of, decided_of}
use Rattle.linesearch_theory.specs.Algorithm.{WolfeResult, lower, keep, start, best_or_start, failure, success, zoom, bracket}
use Rattle.linesearch_theory.specs.Follows.{lowered, kept_best, previous_trial, lined, after_zoom, after_bracket, after_by, after, to_do}

choose : {A B : Type 0} (f : A → B) (b : Bool) (m k : B) (p q : A) → m ≡ f p → k ≡ f q → cond b m k ≡ f (cond b p q)
choose f true m k p q i j = i
choose f false m k p q i j = j

module _ (read : Float → Float) (fixed : Fixed) (l : Line) where
  abbrev gr : Bool
  gr = fixed.gradients

  abbrev o : WolfeOptions
  o = fixed.options

  abbrev L : Line
  L = lined read fixed l

  abbrev left : Search → ℕ
  left s = fixed.options.evals - s.trials

  abbrev best : Search → Option Evaluation
  best s = kept_best fixed.n s.kept s.best

  abbrev does : Search → Ask WolfeResult
  does s = to_do read fixed l s

  -- trials made are within the allowance
  abbrev Within : Search → Type 0
  Within s = s.trials ≤ fixed.options.evals

  -- the text's count of trials is the record's
  counted : (s : Search) → Within s → o.evals - left s ≡ s.trials
  counted s h = omega arith

  -- ---- moves

  failure_does : (s : Search) → Within s → failure read gr o L (left s) (best s) ≡ does (failure_of l s)
  unfolding failure_of start_of
  failure_does s h = ap (λ (c : ℕ). finish (record { success = false; at = best_or_start read gr o L (best s); trials = c })) (counted s h) ∙ go s.kept
    where
      below : (c : Bool) → finish (record { success = false; at = cond c (lowered fixed.n s.best) (start read gr o L); trials = s.trials })
          ≡ does (cond c (with_best s failed s.kept s.best) (with_best s failed s.kept (at_start l)))
      below true = refl
      below false = refl

      go : (b : Bool) → finish (record { success = false; at = best_or_start read gr o L (kept_best fixed.n b s.best); trials = s.trials })
          ≡ does (cond (not b) (with_best s failed s.kept (at_start l)) (cond (lt s.best.trial.value l.f) (with_best s failed s.kept s.best) (with_best s failed s.kept (at_start l))))
      go false = refl
      go true = below (lt s.best.trial.value l.f)

  success_does : (s : Search) (t : Evaluation) → Within s → success read gr o L (left s) (lowered fixed.n t) ≡ does (success_of s t)
  unfolding success_of
  success_does s t h = ap (λ (c : ℕ). finish (record { success = true; at = lowered fixed.n t; trials = c })) (counted s h)

  module _ (s : Search) (h : Within s) where
    none_left : leb o.evals s.trials ≡ true → left s ≡ 0
    none_left e = omega (arith, leb-true o.evals s.trials e)

    one_left : leb o.evals s.trials ≡ false → left s ≡ suc (o.evals - suc s.trials)
    one_left e = omega (arith, leb-false o.evals s.trials e)

    zoom_does : (lo hi : Trial) → zoom read gr o L (left s) lo hi (best s) ≡ does (zoom_of fixed l s lo hi)
    unfolding zoom_of eval_of zoom
    zoom_does lo hi = go (leb o.evals s.trials) refl
      where
        go : (b : Bool) → leb o.evals s.trials ≡ b → zoom read gr o L (left s) lo hi (best s)
            ≡ does (cond b (failure_of l (with_ends s true s.previous lo hi))
            (cond (narrow_of lo hi) (failure_of l (with_ends s true s.previous lo hi)) (eval_of (with_ends s true s.previous lo hi) (interpolate_of lo hi))))
        go true e =
            ap (λ (k : ℕ). zoom read gr o L k lo hi (best s)) (none_left e)
            ∙ ap (λ (k : ℕ). failure read gr o L k (best s)) (sym (none_left e))
            ∙ failure_does (with_ends s true s.previous lo hi) h
        go false e =
            ap (λ (k : ℕ). zoom read gr o L k lo hi (best s)) (one_left e)
            ∙ choose does (narrow_of lo hi) _ _ _ _ (ap (λ (k : ℕ). failure read gr o L k (best s)) (sym (one_left e)) ∙ failure_does (with_ends s true s.previous lo hi) h)
            (rw (add-one s.trials))

    pub bracket_does : (b : Bool) (lo hi : Trial) (a : Float) → bracket read gr o L (left s) a (previous_trial b lo) (best s) ≡ does (bracket_of fixed l (with_ends s false b lo hi) a)
    unfolding bracket_of eval_of bracket
    bracket_does b lo hi a = go (leb o.evals s.trials) refl
      where
        next : (b : Bool) → bracket read gr o L (suc (o.evals - suc s.trials)) a (previous_trial b lo) (best s) ≡ does (eval_of (with_ends s false b lo hi) a)
        next true = rw (add-one s.trials)
        next false = rw (add-one s.trials)

        go : (c : Bool) → leb o.evals s.trials ≡ c → bracket read gr o L (left s) a (previous_trial b lo) (best s)
            ≡ does (cond c (failure_of l (with_ends s false b lo hi)) (eval_of (with_ends s false b lo hi) a))
        go true e =
            ap (λ (k : ℕ). bracket read gr o L k a (previous_trial b lo) (best s)) (none_left e)
            ∙ ap (λ (k : ℕ). failure read gr o L k (best s)) (sym (none_left e))
            ∙ failure_does (with_ends s false b lo hi) h
        go false e = ap (λ (k : ℕ). bracket read gr o L k a (previous_trial b lo) (best s)) (one_left e) ∙ next b

  -- ---- the best so far

  abbrev gives_way : Search → Evaluation → Bool
  gives_way s t = cond (not (finite_of t.trial.value)) false (lower_of s t)

  abbrev kept_now : Search → Evaluation → Search
  kept_now s t = with_best s s.phase (cond (gives_way s t) true s.kept) (cond (gives_way s t) t s.best)

  keep_is : (s : Search) (t : Evaluation) → keep_of s t ≡ kept_now s t
  unfolding keep_of
  keep_is s t = go (finite_of t.trial.value) (lower_of s t)
    where
      go : (f c : Bool) → cond (not f) s (cond c (with_best s s.phase true t) s)
          ≡ with_best s s.phase (cond (cond (not f) false c) true s.kept) (cond (cond (not f) false c) t s.best)
      go false c = refl
      go true true = refl
      go true false = refl

  keep_best : (s : Search) (t : Evaluation) → keep read gr o L (lowered fixed.n t) (best s) ≡ best (kept_now s t)
  unfolding lower_of
  keep_best s t = go (finite_of t.trial.value) s.kept
    where
      least : (c : Bool) → cond c (some (lowered fixed.n t)) (some (lowered fixed.n s.best)) ≡ kept_best fixed.n (cond c true true) (cond c t s.best)
      least true = refl
      least false = refl

      go : (f k : Bool)
          → cond f (cond (lower read gr o L (lowered fixed.n t) (kept_best fixed.n k s.best)) (some (lowered fixed.n t)) (kept_best fixed.n k s.best)) (kept_best fixed.n k s.best)
          ≡ kept_best fixed.n (cond (cond (not f) false (cond (not k) true (lt t.trial.value s.best.trial.value))) true k)
          (cond (cond (not f) false (cond (not k) true (lt t.trial.value s.best.trial.value))) t s.best)
      go false k = refl
      go true false = refl
      go true true = least (lt t.trial.value s.best.trial.value)

  -- ---- the decisions

  -- m is what s has to do: a record, so that both are seen in its type
  record Does (m : Ask WolfeResult) (s : Search) : Type 0 where
    met : m ≡ does s

  choice : (b : Bool) {m k : Ask WolfeResult} {p q : Search} → Does m p → Does k q → Does (cond b m k) (cond b p q)
  choice true i j = i
  choice false i j = j

  -- the text's two tests in one are the code's two in turn
  either : (a b : Bool) {m k : Ask WolfeResult} {p q : Search} → Does m p → Does k q → Does (cond (a || b) m k) (cond a p (cond b p q))
  either true b i j = i
  either false true i j = i
  either false false i j = j

  zooms : (s : Search) → Within s → (lo hi : Trial) → Does (zoom read gr o L (left s) lo hi (best s)) (zoom_of fixed l s lo hi)
  zooms s h lo hi = record { met = zoom_does s h lo hi }

  succeeds : (s : Search) (t : Evaluation) → Within s → Does (success read gr o L (left s) (lowered fixed.n t)) (success_of s t)
  succeeds s t h = record { met = success_does s t h }

  zoomed_does : (s : Search) (t : Evaluation) → Within s
      → Does (after_zoom read fixed l (left s) s.lo s.hi (best s) (lowered fixed.n t)) (zoomed_of fixed l (kept_now (with_ends s true s.previous s.lo s.hi) t) t)
  unfolding zoomed_of armijo_of curvature_of lower_of
  zoomed_does s t h =
      let q = kept_now (with_ends s true s.previous s.lo s.hi) t in
      let u = t.trial in
      rw (keep_best s t)
      (either (not (armijo_of o l u)) (le s.lo.value u.value) (zooms q h s.lo u)
      (choice (curvature_of o l u) (succeeds q t h)
      (choice (not (finite_of u.slope)) (zooms q h s.lo u)
      (choice (le plus_zero (u.slope ⊗ (s.hi.step ⊖ s.lo.step))) (zooms q h u s.lo) (zooms q h u s.hi)))))

  bracketed_does : (s : Search) (t : Evaluation) → Within s
      → Does (after_bracket read fixed l (left s) s.step s.previous s.lo (best s) (lowered fixed.n t)) (bracketed_of fixed l (kept_now (with_ends s false s.previous s.lo s.hi) t) t)
  unfolding bracketed_of preceding_of risen_of start_of armijo_of curvature_of lower_of
  bracketed_does s t h =
      let q = kept_now (with_ends s false s.previous s.lo s.hi) t in
      let u = t.trial in
      let p = preceding_of l s in
      rw (keep_best s t)
      (either (not (armijo_of o l u)) (risen_of s u) (zooms q h p u)
      (choice (curvature_of o l u) (succeeds q t h)
      (either (not (finite_of u.slope)) (le plus_zero u.slope) (zooms q h u p)
      (choice (le o.stepmax s.step) (record { met = failure_does q h }) (record { met = bracket_does q h true u s.hi (min_of (two ⊗ s.step) o.stepmax) })))))

  -- a trial is made: the record decides as the text does
  pub decided_does : (s : Search) (t : Evaluation) → Within s → after read fixed l s (lowered fixed.n t) ≡ does (decided_of fixed l s t)
  unfolding decided_of
  decided_does s t h = rw (keep_is s t) (go s.zooming)
    where
      go : (z : Bool) → after_by read fixed l z (left s) s.step s.previous s.lo s.hi (best s) (lowered fixed.n t)
          ≡ does (cond z (zoomed_of fixed l (kept_now (with_ends s z s.previous s.lo s.hi) t) t) (bracketed_of fixed l (kept_now (with_ends s z s.previous s.lo s.hi) t) t))
      go true = (zoomed_does s t h).met
      go false = (bracketed_does s t h).met
