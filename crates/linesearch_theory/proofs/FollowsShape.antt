-- Whatever is told, the phase is known, trials stay within the allowance, and what every array made anew has, all arrays of the record keep: sizes and zeros. Assumes nothing.
use mathlib.Core.Path.{◌≡◌, refl}
use Prim.Native.Nat.{ℕ, ◌≤◌, ◌<◌, zero-le}
use mathlib.Core.Bool.{Bool, true, false, not, cond}
use mathlib.Core.List.{List}
use native.Mathlib.Omega.{arith}
use borrow.Author.Tests.{leb-false, lt-leb, ltb-true}
use lib.Dec.{leb, ltb, eqb}
use lib.ListN.{length, get_or-replicate}
use lib.Ieee.{Float, nan, lt, le}
use Rattle.float.specs.Binary64.{◌⊕◌, ◌⊖◌, ◌⊗◌, plus_zero}
use Rattle.float.specs.Values.{finite_of, min_of}
use Rattle.vector.specs.Loops.{at}
use Rattle.vector.specs.Points.{plus_scaled_of}
use Rattle.vector.proofs.First.{point_laws}
use Rattle.vector.specs.Ties.{ZeroFrom}
use Rattle.objective.specs.declared.Differences.{Differences}
use Rattle.objective.specs.Step as step
use Rattle.objective.specs.Follows as differences
use Rattle.objective.proofs.Follows.{follows as differences_follow}
use Rattle.linesearch_trials.specs.declared.Trial.{Trial}
use Rattle.linesearch_trials.specs.declared.Evaluation.{Evaluation}
use Rattle.linesearch_trials.specs.declared.Line.{Line}
use Rattle.linesearch_trials.specs.declared.Fixed.{Fixed}
use Rattle.linesearch_moves.specs.declared.Search.{Search}
use Rattle.linesearch_trials.specs.Cubic.{interpolate_of}
use Rattle.linesearch_trials.specs.Trials.{two, armijo_of, curvature_of, narrow_of}
use Rattle.linesearch.specs.Step.{asks_value, asks_gradient, asks_difference, found, failed, point_at_of, nans_of, evaluated_of, infeasible_of, with_best, with_ends, with_diff, with_value, preceding_of, risen_of, lower_of, keep_of, at_start, failure_of, success_of, eval_of, zoom_of, bracket_of, bracketed_of, zoomed_of, decided_of, graded_of, differing_of, eval_gradient_of, valued_of, zeros, no_trial, begun_of, probe_of, told_of, told_gradient_of}
use Rattle.linesearch_theory.specs.Follows.{LineHas, SearchShaped, SearchZeroPast}

-- what lasts, where P is of the best trial's arrays and D of the differences
record Lasting (fixed : Fixed) (P : List Float → Type 0) (D : Differences → Type 0) (s : Search) : Type 0 where
  least : asks_value ≤ s.phase
  most : s.phase ≤ failed
  trials : s.trials ≤ fixed.options.evals
  point : P s.best.x
  gradient : P s.best.g
  diff : D s.diff
  asked : s.phase ≡ asks_difference → s.diff.at < fixed.n

-- an array that is made anew has P, and so have those of the line; differences that are begun or told have D, and their gradient P
record Makes (fixed : Fixed) (l : Line) (P : List Float → Type 0) (D : Differences → Type 0) : Type 0 where
  line : LineHas P l
  zeros_of : P zeros
  point_of_lem : (a : Float) → P (point_at_of fixed l a)
  nans_of_lem : P (nans_of fixed.n)
  begun_of_lem : (x : List Float) → P x → D (step.begun_of x)
  told_of_lem : (e : Differences) (w : Float) → e.at < fixed.n → D e → D (step.told_of e w)
  gradient_of_lem : (e : Differences) → D e → P e.g

module _ (fixed : Fixed) (l : Line) (P : List Float → Type 0) (D : Differences → Type 0) (makes : Makes fixed l P D) where
  abbrev Last : Search → Type 0
  Last s = Lasting fixed P D s

  either : (b : Bool) (s t : Search) → Last s → Last t → Last (cond b s t)
  either true s t h k = h
  either false s t h k = k

  -- in a phase that asks for no difference, with another best trial
  best_lasts : (s : Search) (p : ℕ) (kept : Bool) (t : Evaluation) → asks_value ≤ p → p ≤ failed → (p ≡ asks_difference → s.diff.at < fixed.n) → P t.x → P t.g → Last s → Last (with_best s p kept t)
  best_lasts s p kept t i j a x g h = record { least = i; most = j; trials = h.trials; point = x; gradient = g; diff = h.diff; asked = a }

  ends_last : (s : Search) (z b : Bool) (lo hi : Trial) → Last s → Last (with_ends s z b lo hi)
  ends_last s z b lo hi h = record { least = h.least; most = h.most; trials = h.trials; point = h.point; gradient = h.gradient; diff = h.diff; asked = h.asked }

  ended : (s : Search) (p : ℕ) (t : Evaluation) → found ≤ p → p ≤ failed → P t.x → P t.g → Last s → Last (with_best s p s.kept t)
  ended s p t i j x g h = best_lasts s p s.kept t (omega arith) j (λ e. absurd (omega arith)) x g h

  failure_lasts : (s : Search) → Last s → Last (failure_of l s)
  unfolding failure_of
  failure_lasts s h =
      let start = ended s failed (at_start l) (omega arith) (omega arith) makes.line.point makes.line.gradient h in
      either (not s.kept) _ _ start (either (lt s.best.trial.value l.f) _ _ (ended s failed s.best (omega arith) (omega arith) h.point h.gradient h) start)

  eval_lasts : (s : Search) (a : Float) → leb fixed.options.evals s.trials ≡ false → Last s → Last (eval_of s a)
  unfolding eval_of
  eval_lasts s a e h =
      record {
        least = omega arith;
        most = omega arith;
        trials = omega (arith, leb-false fixed.options.evals s.trials e);
        point = h.point;
        gradient = h.gradient;
        diff = h.diff;
        asked = λ i. absurd (omega arith);
      }

  zoom_lasts : (s : Search) (lo hi : Trial) → Last s → Last (zoom_of fixed l s lo hi)
  unfolding zoom_of
  zoom_lasts s lo hi h = go (leb fixed.options.evals s.trials) refl
    where
      k : Last (with_ends s true s.previous lo hi)
      k = ends_last s true s.previous lo hi h

      go : (b : Bool) → leb fixed.options.evals s.trials ≡ b
          → Last (cond b (failure_of l (with_ends s true s.previous lo hi)) (cond (narrow_of lo hi) (failure_of l (with_ends s true s.previous lo hi)) (eval_of (with_ends s true s.previous lo hi) (interpolate_of lo hi))))
      go true e = failure_lasts (with_ends s true s.previous lo hi) k
      go false e = either (narrow_of lo hi) _ _ (failure_lasts (with_ends s true s.previous lo hi) k) (eval_lasts (with_ends s true s.previous lo hi) (interpolate_of lo hi) e k)

  bracket_lasts : (s : Search) (a : Float) → Last s → Last (bracket_of fixed l s a)
  unfolding bracket_of
  bracket_lasts s a h = go (leb fixed.options.evals s.trials) refl
    where
      go : (b : Bool) → leb fixed.options.evals s.trials ≡ b → Last (cond b (failure_of l s) (eval_of s a))
      go true e = failure_lasts s h
      go false e = eval_lasts s a e h

  keep_lasts : (s : Search) (t : Evaluation) → P t.x → P t.g → Last s → Last (keep_of s t)
  unfolding keep_of
  keep_lasts s t x g h = either (not (finite_of t.trial.value)) _ _ h (either (lower_of s t) _ _ (best_lasts s s.phase true t h.least h.most h.asked x g h) h)

  success_lasts : (s : Search) (t : Evaluation) → P t.x → P t.g → Last s → Last (success_of s t)
  unfolding success_of
  success_lasts s t x g h = ended s found t (omega arith) (omega arith) x g h

  -- ---- decisions

  bracketed_lasts : (s : Search) (t : Evaluation) → P t.x → P t.g → Last s → Last (bracketed_of fixed l s t)
  unfolding bracketed_of
  bracketed_lasts s t x g h =
      let o = fixed.options in
      let u = t.trial in
      let p = preceding_of l s in
      either (not (armijo_of o l u)) _ _ (zoom_lasts s p u h)
      (either (risen_of s u) _ _ (zoom_lasts s p u h)
      (either (curvature_of o l u) _ _ (success_lasts s t x g h)
      (either (not (finite_of u.slope)) _ _ (zoom_lasts s u p h)
      (either (le plus_zero u.slope) _ _ (zoom_lasts s u p h)
      (either (le o.stepmax s.step) _ _ (failure_lasts s h)
      (bracket_lasts (with_ends s s.zooming true u s.hi) (min_of (two ⊗ s.step) o.stepmax) (ends_last s s.zooming true u s.hi h)))))))

  zoomed_lasts : (s : Search) (t : Evaluation) → P t.x → P t.g → Last s → Last (zoomed_of fixed l s t)
  unfolding zoomed_of
  zoomed_lasts s t x g h =
      let o = fixed.options in
      let u = t.trial in
      either (not (armijo_of o l u)) _ _ (zoom_lasts s s.lo u h)
      (either (le s.lo.value u.value) _ _ (zoom_lasts s s.lo u h)
      (either (curvature_of o l u) _ _ (success_lasts s t x g h)
      (either (not (finite_of u.slope)) _ _ (zoom_lasts s s.lo u h)
      (either (le plus_zero (u.slope ⊗ (s.hi.step ⊖ s.lo.step))) _ _ (zoom_lasts s u s.lo h) (zoom_lasts s u s.hi h)))))

  decided_lasts : (s : Search) (t : Evaluation) → P t.x → P t.g → Last s → Last (decided_of fixed l s t)
  unfolding decided_of
  decided_lasts s t x g h =
      let k = keep_lasts s t x g h in
      either s.zooming _ _ (zoomed_lasts (keep_of s t) t x g k) (bracketed_lasts (keep_of s t) t x g k)

  -- ---- answers

  graded_lasts : (s : Search) (g : List Float) → P g → Last s → Last (graded_of fixed l s g)
  unfolding graded_of evaluated_of
  graded_lasts s g p h = decided_lasts s (evaluated_of fixed l s.step s.value g) (makes.point_of_lem s.step) p h

  diff_lasts : (s : Search) (p : ℕ) (e : Differences) → asks_value ≤ p → p ≤ failed → (p ≡ asks_difference → e.at < fixed.n) → D e → Last s → Last (with_diff s p e)
  diff_lasts s p e i j a d h = record { least = i; most = j; trials = h.trials; point = h.point; gradient = h.gradient; diff = d; asked = a }

  differing_lasts : (s : Search) (e : Differences) → D e → Last s → Last (differing_of fixed l s e)
  unfolding differing_of
  differing_lasts s e d h = go (ltb e.at fixed.n) refl
    where
      go : (b : Bool) → ltb e.at fixed.n ≡ b → Last (cond b (with_diff s asks_difference e) (graded_of fixed l s e.g))
      go true i = diff_lasts s asks_difference e (omega arith) (omega arith) (λ j. ltb-true e.at fixed.n i) d h
      go false i = graded_lasts s e.g (makes.gradient_of_lem e d) h

  value_lasts : (s : Search) (v : Float) → Last s → Last (with_value s v)
  value_lasts s v h = record { least = h.least; most = h.most; trials = h.trials; point = h.point; gradient = h.gradient; diff = h.diff; asked = h.asked }

  gradient_lasts : (s : Search) → Last s → Last (eval_gradient_of fixed l s)
  unfolding eval_gradient_of
  gradient_lasts s h =
      let x = point_at_of fixed l s.step in
      either fixed.gradients _ _ (diff_lasts s asks_gradient s.diff (omega arith) (omega arith) (λ e. absurd (omega arith)) h.diff h)
      (differing_lasts s (step.begun_of x) (makes.begun_of_lem x (makes.point_of_lem s.step)) h)

  valued_lasts : (s : Search) (v : Float) → Last s → Last (valued_of fixed l s v)
  unfolding valued_of infeasible_of
  valued_lasts s v h =
      let k = value_lasts s v h in
      either (finite_of v) _ _ (gradient_lasts (with_value s v) k) (decided_lasts (with_value s v) (infeasible_of fixed l s.step v) (makes.point_of_lem s.step) makes.nans_of_lem k)

  -- ---- the whole

  begun_lasts : (initial : Float) → Last (begun_of fixed l initial)
  unfolding begun_of
  begun_lasts initial =
      bracket_lasts no_trial (min_of initial fixed.options.stepmax)
      (record {
        least = omega arith;
        most = omega arith;
        trials = zero-le;
        point = makes.zeros_of;
        gradient = makes.zeros_of;
        diff = makes.begun_of_lem zeros makes.zeros_of;
        asked = λ e. absurd (omega arith);
      })

  told_lasts : (s : Search) (v w : Float) → Last s → Last (told_of fixed l s v w)
  unfolding told_of
  told_lasts s v w h = either (eqb s.phase asks_value) _ _ (valued_lasts s v h) (either (not (eqb s.phase asks_difference)) _ _ h (go (ltb s.diff.at fixed.n) refl))
    where
      go : (b : Bool) → ltb s.diff.at fixed.n ≡ b → Last (cond b (differing_of fixed l s (step.told_of s.diff w)) s)
      go true i = differing_lasts s (step.told_of s.diff w) (makes.told_of_lem s.diff w (ltb-true s.diff.at fixed.n i) h.diff) h
      go false i = h

  told_gradient_lasts : (s : Search) (g : List Float) → P g → Last s → Last (told_gradient_of fixed l s g)
  unfolding told_gradient_of
  told_gradient_lasts s g p h = either (eqb s.phase asks_gradient) _ _ (graded_lasts s g p h) h

module _ (fixed : Fixed) (l : Line) where
  pub begun_asks : (initial : Float) → 0 < fixed.options.evals → (begun_of fixed l initial).phase ≡ asks_value
  unfolding begun_of bracket_of eval_of
  begun_asks initial h = rw (lt-leb _ _ h)

  -- ---- sizes

  abbrev Long : List Float → Type 0
  Long x = length x ≡ 16

  abbrev Zero : List Float → Type 0
  Zero x = ZeroFrom fixed.n x

  sizes : fixed.n ≤ 16 → LineHas Long l → Makes fixed l Long (differences.DifferencesSized fixed.n)
  unfolding point_at_of nans_of plus_scaled_of
  sizes small h =
      record {
        line = h;
        zeros_of = refl;
        point_of_lem = λ a. point_laws.width (λ i. at l.x i ⊕ a ⊗ at l.d i) fixed.n small;
        nans_of_lem = point_laws.width (λ i. nan) fixed.n small;
        begun_of_lem = λ x e. (differences_follow (λ v. v)).begun_sized fixed.n x small e;
        told_of_lem = λ e w i z. (differences_follow (λ v. v)).told_sized fixed.n e w z i;
        gradient_of_lem = λ e z. z.gradient16;
      }

  shaped : fixed.n ≤ 16 → (s : Search) → Lasting fixed Long (differences.DifferencesSized fixed.n) s → SearchShaped fixed s
  shaped small s h =
      record { small = small; least = h.least; most = h.most; trials = h.trials; point16 = h.point; gradient16 = h.gradient; diff = h.diff; asked = h.asked }

  lasting : (s : Search) → SearchShaped fixed s → Lasting fixed Long (differences.DifferencesSized fixed.n) s
  lasting s h = record { least = h.least; most = h.most; trials = h.trials; point = h.point16; gradient = h.gradient16; diff = h.diff; asked = h.asked }

  pub begun_shaped : (initial : Float) → fixed.n ≤ 16 → LineHas Long l → SearchShaped fixed (begun_of fixed l initial)
  begun_shaped initial small h = shaped small (begun_of fixed l initial) (begun_lasts fixed l Long (differences.DifferencesSized fixed.n) (sizes small h) initial)

  pub told_shaped : (s : Search) (v w : Float) → LineHas Long l → SearchShaped fixed s → SearchShaped fixed (told_of fixed l s v w)
  told_shaped s v w h z = shaped z.small (told_of fixed l s v w) (told_lasts fixed l Long (differences.DifferencesSized fixed.n) (sizes z.small h) s v w (lasting s z))

  pub told_gradient_shaped : (s : Search) (g : List Float) → length g ≡ 16 → LineHas Long l → SearchShaped fixed s → SearchShaped fixed (told_gradient_of fixed l s g)
  told_gradient_shaped s g e h z =
      shaped z.small (told_gradient_of fixed l s g) (told_gradient_lasts fixed l Long (differences.DifferencesSized fixed.n) (sizes z.small h) s g e (lasting s z))

  -- ---- zeros

  zeros_made : LineHas Zero l → Makes fixed l Zero (differences.DifferencesZeroPast fixed.n)
  unfolding point_at_of nans_of plus_scaled_of
  zeros_made h =
      record {
        line = h;
        zeros_of = λ k i j. get_or-replicate 16 k plus_zero nan j;
        point_of_lem = λ a. point_laws.past (λ i. at l.x i ⊕ a ⊗ at l.d i) fixed.n;
        nans_of_lem = point_laws.past (λ i. nan) fixed.n;
        begun_of_lem = λ x e. (differences_follow (λ v. v)).begun_zeros fixed.n x e;
        told_of_lem = λ e w i z. (differences_follow (λ v. v)).told_zeros fixed.n e w i z;
        gradient_of_lem = λ e z. z.gradient;
      }

  zero_past : (s : Search) → Lasting fixed Zero (differences.DifferencesZeroPast fixed.n) s → SearchZeroPast fixed.n s
  zero_past s h = record { point = h.point; gradient = h.gradient; diff = h.diff }

  lasting_zeros : (s : Search) → SearchShaped fixed s → SearchZeroPast fixed.n s → Lasting fixed Zero (differences.DifferencesZeroPast fixed.n) s
  lasting_zeros s h z = record { least = h.least; most = h.most; trials = h.trials; point = z.point; gradient = z.gradient; diff = z.diff; asked = h.asked }

  pub begun_zeros : (initial : Float) → LineHas Zero l → SearchZeroPast fixed.n (begun_of fixed l initial)
  begun_zeros initial h = zero_past (begun_of fixed l initial) (begun_lasts fixed l Zero (differences.DifferencesZeroPast fixed.n) (zeros_made h) initial)

  pub told_zeros : (s : Search) (v w : Float) → LineHas Zero l → SearchShaped fixed s → SearchZeroPast fixed.n s → SearchZeroPast fixed.n (told_of fixed l s v w)
  told_zeros s v w h i z = zero_past (told_of fixed l s v w) (told_lasts fixed l Zero (differences.DifferencesZeroPast fixed.n) (zeros_made h) s v w (lasting_zeros s i z))

  pub told_gradient_zeros : (s : Search) (g : List Float) → Zero g → LineHas Zero l → SearchShaped fixed s → SearchZeroPast fixed.n s → SearchZeroPast fixed.n (told_gradient_of fixed l s g)
  told_gradient_zeros s g e h i z =
      zero_past (told_gradient_of fixed l s g) (told_gradient_lasts fixed l Zero (differences.DifferencesZeroPast fixed.n) (zeros_made h) s g e (lasting_zeros s i z))

  pub probe_zeros : (s : Search) → SearchShaped fixed s → SearchZeroPast fixed.n s → Zero (probe_of fixed l s)
  unfolding probe_of point_at_of plus_scaled_of
  probe_zeros s h z = any (not (eqb s.phase asks_difference)) _ _ (point_laws.past (λ i. at l.x i ⊕ s.step ⊗ at l.d i) fixed.n) (go (ltb s.diff.at fixed.n) refl)
    where
      any : (b : Bool) (x y : List Float) → Zero x → Zero y → Zero (cond b x y)
      any true x y i j = i
      any false x y i j = j

      go : (b : Bool) → ltb s.diff.at fixed.n ≡ b → Zero (cond b (step.probe_of s.diff) s.diff.x)
      go true i = (differences_follow (λ v. v)).probe_zeros fixed.n s.diff (ltb-true s.diff.at fixed.n i) z.diff
      go false i = z.diff.point
