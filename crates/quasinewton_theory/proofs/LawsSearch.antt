-- A fit's search, begun at the head of a round: of the tests of `strong_wolfe` only 6, 7 and 12 for x can refuse it (`searched_case`), and what it gives is told and not above f
-- (`found`). Assumes nothing.
use Prim.Native.Nat.{ℕ}
use mathlib.Core.Path.{◌≡◌, refl, sym, ap, subst}
use mathlib.Core.Logic.{◌⊎◌, inl, inr}
use mathlib.Core.Bool.{Bool, true, false, not, ◌&&◌, cond, true≢false}
use mathlib.Core.List.{List}
use lib.Dec.{T, eqb, eqb→eq, eqb_refl, not_T}
use lib.ListN.{length}
use lib.Ieee.{Float, lt, le}
use lib.Ieee.Bits.{is_true}
use borrow.Author.Tests.{not-false}
use Rattle.float.specs.Binary64.{plus_zero}
use Rattle.float.specs.Values.{finite_of, positive_of}
use Rattle.float.proofs.Order.{lt→le, lt_trans, le→not_above}
use Rattle.vector.specs.Lists.{dot, all_finite}
use Rattle.protocol.specs.declared.Refusal.{Refusal}
use Rattle.protocol.specs.declared.WolfeOptions.{WolfeOptions}
use Rattle.protocol.specs.Protocol.{read_of, refusal, no_refusal}
use Rattle.protocol.specs.Calls.{SearchRefusal}
use Rattle.protocol.specs.Dialogue.{Exchange, F64s}
use Rattle.protocol.specs.Ask.{Ask, finish, query, ◌>>=◌, wp, Grows}
use Rattle.protocol.specs.Rounds.{Ending, fails}
use Rattle.protocol.proofs.Texts.{bind_assoc, wp_map, wp_grows}
use Rattle.protocol.proofs.Replies.{true_T, and_left, and_right}
use Rattle.quasinewton_model_theory.specs.Algorithm.{one}
use Rattle.linesearch_trials.specs.declared.Evaluation.{Evaluation}
use Rattle.linesearch_trials.specs.declared.Line.{Line}
use Rattle.linesearch_theory.specs.Algorithm.{WolfeResult, refuses, gives, search, wolfe_refusal, line_from, strong_wolfe}
use Rattle.linesearch_theory.specs.Laws.{EvaluationTold, Descending}
use Rattle.linesearch_theory.proofs.Laws.{search_laws}
use Rattle.quasinewton_theory.specs.Algorithm.{GradientPosition, initial_step, concluded, searched}
use Rattle.quasinewton_theory.specs.Laws.{GradientAtHead}
use Rattle.quasinewton_theory.proofs.FirstStep.{first_step_positive}
use Rattle.quasinewton_theory.proofs.SearchLong.{search_long}

-- ---- tests

pub both_true : (a b : Bool) → a ≡ true → b ≡ true → a && b ≡ true
both_true true b i j = j
both_true false b i j = absurd (true≢false (sym i))

positive_above : (x : Float) → positive_of x ≡ true → T (lt plus_zero x)
unfolding positive_of
positive_above x e = go (lt plus_zero x) (finite_of x) e
  where
    go : (a b : Bool) → cond a b false ≡ true → T a
    go true b e = tt
    go false b e = absurd (true≢false (sym e))

-- what holds of two parts of all results holds of both
pub wp_both : {A : Type 0} (es : List Exchange) (m : Ask A) (P Q : List Exchange → A → Type 0) → wp es m P → wp es m Q → wp es m (λ fs a. P fs a × Q fs a)
wp_both es (finish a) P Q h k = (h, k)
wp_both es (query j x c) P Q h k = λ n w l i. wp_both _ (c w) P Q (h n w l i) (k n w l i)

-- ---- a direction that is searched along

pub record Searchable (p : GradientPosition) (d : List Float) : Type 0 where
  pub long : length d ≡ length p.x
  pub finite : all_finite d ≡ true
  pub f64s : F64s d
  pub slope : le plus_zero (dot p.g d) ≡ false

module _ (es : List Exchange) (p : GradientPosition) (d : List Float) (a : GradientAtHead es p) (s : Searchable p d) where
  abbrev o : WolfeOptions
  o = p.options.wolfe

  abbrev line : Line
  line = line_from p.x d p.f p.g

  abbrev step : Float
  step = initial_step p.first d

  abbrev pub text : Ask WolfeResult
  text = search read_of p.options.gradients o line step

  -- ---- what refuses it

  -- no test refuses, or one of the three
  abbrev Tested : Refusal → Type 0
  Tested w = ((w ≡ no_refusal) × (o.evals ≡ 0 → ⊥) × (positive_of o.stepmax ≡ true)) ⊎ SearchRefusal w.number w.detail

  -- a test that may refuse, and one that never does
  may : (b : Bool) (k e : ℕ) (w : Refusal) → SearchRefusal k e → (b ≡ false → Tested w) → Tested (cond b (refusal k e) w)
  may true k e w h t = inr h
  may false k e w h t = t refl

  never : (b : Bool) (v w : Refusal) → b ≡ false → Tested w → Tested (cond b v w)
  never true v w e t = absurd (true≢false e)
  never false v w e t = t

  same : (m n : ℕ) → m ≡ n → not (eqb m n) ≡ false
  same m n e = ap not (is_true (eqb m n) (subst (λ (k : ℕ). T (eqb m k)) e (eqb_refl m)))

  not_zero : eqb (length p.x) 0 ≡ false
  not_zero = go (eqb (length p.x) 0) refl
    where
      go : (b : Bool) → eqb (length p.x) 0 ≡ b → b ≡ false
      go true i = absurd (a.admitted.unknowns (eqb→eq (length p.x) 0 (true_T (eqb (length p.x) 0) i)))
      go false i = refl

  c1_positive : lt plus_zero o.c1 ≡ true
  c1_positive = and_left (lt plus_zero o.c1) (lt o.c1 o.c2) (and_left (lt plus_zero o.c1 && lt o.c1 o.c2) (lt o.c2 one) a.admitted.wolfe)

  c1_less : lt o.c1 o.c2 ≡ true
  c1_less = and_right (lt plus_zero o.c1) (lt o.c1 o.c2) (and_left (lt plus_zero o.c1 && lt o.c1 o.c2) (lt o.c2 one) a.admitted.wolfe)

  c2_less : lt o.c2 one ≡ true
  c2_less = and_right (lt plus_zero o.c1 && lt o.c1 o.c2) (lt o.c2 one) a.admitted.wolfe

  c1_below_one : lt o.c1 one ≡ true
  c1_below_one = is_true (lt o.c1 one) (lt_trans o.c1 o.c2 one (true_T (lt o.c1 o.c2) c1_less) (true_T (lt o.c2 one) c2_less))

  step_positive : positive_of step ≡ true
  step_positive = first_step_positive p.first d s.f64s s.finite

  evals_some : eqb o.evals 0 ≡ false → o.evals ≡ 0 → ⊥
  evals_some e i = subst T (subst (λ (k : ℕ). eqb k 0 ≡ false) i e) tt

  tested : Tested (wolfe_refusal o p.x d p.f p.g step)
  unfolding wolfe_refusal
  tested =
      never (not (lt plus_zero o.c1 && lt o.c1 one)) _ _ (ap not (both_true (lt plus_zero o.c1) (lt o.c1 one) c1_positive c1_below_one))
      (never (not (lt o.c1 o.c2 && lt o.c2 one)) _ _ (ap not (both_true (lt o.c1 o.c2) (lt o.c2 one) c1_less c2_less))
      (may (eqb o.evals 0) 6 0 _ (inl (refl, refl))
      (λ e6. may (not (positive_of o.stepmax)) 7 0 _ (inr (inl (refl, refl)))
      (λ e7. never (eqb (length p.x) 0) _ _ not_zero
      (never (not (eqb (length d) (length p.x))) _ _ (same (length d) (length p.x) s.long)
      (never (not (eqb (length p.g) (length p.x))) _ _ (same (length p.g) (length p.x) a.gradient_long)
      (may (not (all_finite p.x)) 12 1 _ (inr (inr (refl, refl)))
      (λ e12. never (not (all_finite d)) _ _ (ap not s.finite)
      (never (not (all_finite p.g)) _ _ (ap not a.gradient_finite)
      (never (not (finite_of p.f)) _ _ (ap not (is_true (finite_of p.f) a.value_told_lem.0))
      (never (not (positive_of step)) _ _ (ap not step_positive)
      (never (le plus_zero (dot p.g d)) _ _ s.slope (inl (refl, evals_some e6, not-false (positive_of o.stepmax) e7))))))))))))))

  abbrev ending : WolfeResult → Ask (Ending GradientPosition)
  ending r = finish (concluded p (gives r))

  -- `searched`, refused or not
  abbrev by : Refusal → Ask (Ending GradientPosition)
  by w = cond (eqb w.number 0) (text >>= λ r. finish (gives r)) (finish (refuses w)) >>= λ r. finish (concluded p r)

  by_none : by no_refusal ≡ text >>= ending
  unfolding ◌>>=◌
  by_none = bind_assoc text (λ r. finish (gives r)) (λ r. finish (concluded p r))

  by_refusal_lem : (P : Ask (Ending GradientPosition) → Type 0) (k e : ℕ) → SearchRefusal k e → P (finish (fails k e)) → P (by (refusal k e))
  unfolding ◌>>=◌
  by_refusal_lem P k e (inl i) h = rw (i.0, i.1) (rw (i.0, i.1) at h)
  by_refusal_lem P k e (inr (inl i)) h = rw (i.0, i.1) (rw (i.0, i.1) at h)
  by_refusal_lem P k e (inr (inr i)) h = rw (i.0, i.1) (rw (i.0, i.1) at h)

  by_tested : (P : Ask (Ending GradientPosition) → Type 0) (w : Refusal) → Tested w → ((k e : ℕ) → SearchRefusal k e → P (finish (fails k e)))
      → ((o.evals ≡ 0 → ⊥) → positive_of o.stepmax ≡ true → P (text >>= ending)) → P (by w)
  by_tested P w (inl t) h k = subst (λ (z : Refusal). P (by z)) (sym t.0) (subst P (sym by_none) (k t.1 t.2))
  by_tested P w (inr t) h k = by_refusal_lem P w.number w.detail t (h w.number w.detail t)

  pub searched_case : (P : Ask (Ending GradientPosition) → Type 0) → ((k e : ℕ) → SearchRefusal k e → P (finish (fails k e)))
      → ((o.evals ≡ 0 → ⊥) → positive_of o.stepmax ≡ true → P (text >>= ending)) → P (searched p d)
  unfolding strong_wolfe
  searched_case P h k = by_tested P (wolfe_refusal o p.x d p.f p.g step) tested h k

  -- ---- what it gives

  -- a result after the exchanges fs
  pub record Found (fs : List Exchange) (t : Evaluation) : Type 0 where
    pub grows : Grows es fs
    pub told : EvaluationTold fs t
    pub below : T (le t.trial.value p.f)
    pub f64s : F64s t.g
    pub x_long : length t.x ≡ length p.x
    pub g_long : length t.g ≡ length p.x

  descending : Descending o line
  descending =
      record {
        finite = a.value_told_lem.0;
        f64 = a.value_told_lem.1;
        c1 = le→not_above plus_zero o.c1 (lt→le plus_zero o.c1 (true_T (lt plus_zero o.c1) c1_positive));
        slope = not_T (lt plus_zero (dot p.g d)) (λ h. subst T s.slope (lt→le plus_zero (dot p.g d) h));
      }

  pub found : positive_of o.stepmax ≡ true → wp es text (λ fs r. Found fs r.at)
  found e =
      let R = search_laws.results read_of p.options.gradients o line step es in
      let S = search_laws.steps read_of p.options.gradients o line step es (positive_above step step_positive) (positive_above o.stepmax e) in
      let lower = S.result_not_above descending a.value_told_lem.2 in
      let long = search_long read_of p.options.gradients o line (length p.x) refl s.long a.gradient_long step es in
      wp_map es text _ (λ fs r. Found fs r.at)
      (λ fs r h. record { grows = h.0; told = h.1.0.0; below = h.1.0.1; f64s = h.1.1.0; x_long = h.1.1.1.0; g_long = h.1.1.1.1 })
      (wp_grows es text _ (wp_both es text _ _ lower (wp_both es text _ _ (R.gradient_f64s a.gradient_f64s) long)))
