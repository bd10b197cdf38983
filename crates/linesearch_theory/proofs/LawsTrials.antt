-- The trials of a search, in their order: each asks for its value and then for its gradient, and the first of the least finite ones is the best (`trials_made`). Assumes nothing.
use Prim.Native.Nat.{ℕ, zero, suc, ◌+◌}
use native.Mathlib.Omega.{arith}
use mathlib.Core.Path.{◌≡◌, refl, sym, ◌∙◌, ap, subst}
use mathlib.Core.Logic.{◌⊎◌, inl, inr, ⊎_elim}
use mathlib.Core.Option.{Option, none, some}
use mathlib.Core.List.Memᴰ
use mathlib.Core.List.{List, [], ◌∷◌, ◌++◌, Memᴰ}
use mathlib.Core.Bool.{Bool, true, false, cond, true≢false, false≢true}
use lib.Dec.{T}
use lib.ListN.{length, length-append, get_or, set}
use lib.Ieee.{Float, nan, lt, le}
use Rattle.float.specs.Binary64.{NotAbove, ◌⊗◌, plus_zero}
use Rattle.float.specs.Values.{Finite, finite_of, min_of}
use Rattle.float.proofs.Order.{lt_le_trans, le_lt_trans, lt→le, not_lt→le, by_test}
use Rattle.float.proofs.Signs.{finite_number}
use Rattle.vector.specs.Loops.{at}
use Rattle.protocol.specs.declared.Kind.TheVariants.{Value, Gradient}
use Rattle.protocol.specs.declared.WolfeOptions.{WolfeOptions}
use Rattle.protocol.specs.Protocol.{read_of}
use Rattle.protocol.specs.Dialogue.{Exchange}
use Rattle.protocol.specs.Ask.{Ask, finish, ask_value, ◌>>=◌, heard_at, wp}
use Rattle.protocol.proofs.Texts.{wp_bind, wp_map}
use Rattle.protocol.proofs.Replies.{true_T, not_above_self}
use Rattle.objective.specs.Algorithm.{forward_of, backward_of, slope_at, differences_from, eval_gradient}
use Rattle.linesearch_trials.specs.declared.Trial.{Trial}
use Rattle.linesearch_trials.specs.declared.Evaluation.{Evaluation}
use Rattle.linesearch_trials.specs.declared.Line.{Line}
use Rattle.linesearch_trials.specs.Cubic.{interpolate_of}
use Rattle.linesearch_trials.specs.Trials.{two}
use Rattle.linesearch_theory.specs.Algorithm.{WolfeResult, eval, keep, start, best_or_start, search}
use Rattle.linesearch_theory.specs.Laws.{Together, OfGradient, Trials, FirstLeast, Made}
use Rattle.linesearch_theory.proofs.LawsInduction.{Invariant, search_holds, given_cases}
use Rattle.linesearch_theory.proofs.LawsTold.{pt, made, valued}

append_assoc : {A : Type 0} (u v w : List A) → (u ++ v) ++ w ≡ u ++ (v ++ w)
append_assoc [] v w = refl
append_assoc (x ∷ u) v w = ap (λ l. x ∷ l) (append_assoc u v w)

append_nil : {A : Type 0} (u : List A) → u ≡ u ++ []
append_nil [] = refl
append_nil (x ∷ u) = ap (λ l. x ∷ l) (append_nil u)

-- ---- a gradient's exchanges

-- fs is es with exchanges about the gradient at x
abbrev Rest : Bool → List Float → List Exchange → List Exchange → Type 0
Rest gradients x es fs = (rest : List Exchange) × (fs ≡ es ++ rest) × ((e : Exchange) → Memᴰ e rest → OfGradient gradients x e)

module _ (read : Float → Float) (x : List Float) where
  differences_rest : (k i : ℕ) (grad : List Float) (es : List Exchange) → wp es (differences_from read x k i grad) (λ fs g. Rest false x es fs)
  unfolding differences_from ◌>>=◌
  differences_rest zero i grad es = ([], append_nil es, λ e m. absurd (Memᴰ.not-nil m))
  differences_rest (suc k) i grad es =
      λ n w l f m u j p.
      let one = heard_at n Value (set x i (forward_of (at x i))) w in
      let two = heard_at m Value (set x i (backward_of (at x i))) u in
      let gs = (es ++ (one ∷ [])) ++ (two ∷ []) in
      let grad' = grad ++ (slope_at (at x i) (read (get_or w 0 nan)) (read (get_or u 0 nan)) ∷ []) in
      wp_map gs (differences_from read x k (suc i) grad') (λ fs g. Rest false x gs fs) (λ fs g. Rest false x es fs)
      (λ fs g r. (
        one ∷ two ∷ r.0,
        r.1 ∙ append_assoc (es ++ (one ∷ [])) (two ∷ []) r.0 ∙ append_assoc es (one ∷ []) (two ∷ r.0),
        λ e h.
            ⊎_elim (λ q. subst (OfGradient false x) (sym q) (refl, (i, inl refl)))
            (λ q. ⊎_elim (λ t. subst (OfGradient false x) (sym t) (refl, (i, inr refl))) (λ t. r.2 e t) (Memᴰ.cases_cons q)) (Memᴰ.cases_cons h),
      ))
      (differences_rest k (suc i) grad' gs)

  gradient_rest : (gradients : Bool) (es : List Exchange) → wp es (eval_gradient read gradients x) (λ fs g. Rest gradients x es fs)
  gradient_rest true es =
      λ n w l i. (heard_at n Gradient x w ∷ [], refl, λ e m. subst (OfGradient true x) (sym (Memᴰ.eq_of_singleton m)) (refl, refl))
  gradient_rest false es = differences_rest (length x) 0 [] es

-- ---- one trial

pub record One (gradients : Bool) (l : Line) (es fs : List Exchange) (t : Evaluation) : Type 0 where
  pub number : ℕ
  pub words : List Float
  pub rest : List Exchange
  pub value : read_of (get_or words 0 nan) ≡ t.trial.value
  pub together : Together l t
  pub gradient : (e : Exchange) → Memᴰ e rest → OfGradient gradients t.x e
  pub exchanges : es ++ (heard_at number Value t.x words ∷ rest) ≡ fs

-- one trial more
trials_more : (gradients : Bool) (l : Line) (es fs gs : List Exchange) (ts : List Evaluation) (t : Evaluation) → Trials gradients l es fs ts → One gradients l fs gs t
    → Trials gradients l es gs (ts ++ (t ∷ []))
trials_more gradients l es fs gs [] t h k =
    (k.number, k.words, k.rest, k.value, k.together, k.gradient, ap (λ (z : List Exchange). z ++ (heard_at k.number Value t.x k.words ∷ k.rest)) h ∙ k.exchanges)
trials_more gradients l es fs gs (u ∷ ts) t h k = (h.0, h.1, h.2, h.3, h.4, h.5, trials_more gradients l (es ++ (heard_at h.0 Value u.x h.1 ∷ h.2)) fs gs ts t h.6 k)

module _ (read : Float → Float) (gradients : Bool) (o : WolfeOptions) (l : Line) where
  -- its step is a
  abbrev OneAt : Float → List Exchange → List Exchange → Evaluation → Type 0
  OneAt a es fs t = One gradients l es fs t × (t.trial.step ≡ a)

  eval_one : (a : Float) (es : List Exchange) → wp es (eval read gradients o l a) (OneAt a es)
  eval_one a es = wp_bind es (ask_value read_of x) (λ v. valued read gradients o l a v (finite_of v)) (OneAt a es) (λ n w k i. go n w (finite_of (read_of (get_or w 0 nan))) refl)
    where
      x : List Float
      x = pt read gradients o l a

      go : (n : ℕ) (w : List Float) (b : Bool) → finite_of (read_of (get_or w 0 nan)) ≡ b → wp (es ++ (heard_at n Value x w ∷ [])) (valued read gradients o l a (read_of (get_or w 0 nan)) b) (OneAt a es)
      go n w true i =
          let fs = es ++ (heard_at n Value x w ∷ []) in
          let v = read_of (get_or w 0 nan) in
          wp_bind fs (eval_gradient read gradients x) (λ g. finish (made read gradients o l a v g)) (OneAt a es)
          (wp_map fs (eval_gradient read gradients x) (λ gs g. Rest gradients x fs gs) (λ gs g. OneAt a es gs (made read gradients o l a v g))
          (λ gs g r. (
            record {
              number = n;
              words = w;
              rest = r.0;
              value = refl;
              together = record { point = refl; slope = λ f. refl };
              gradient = r.2;
              exchanges = sym (append_assoc es (heard_at n Value x w ∷ []) r.0) ∙ sym r.1;
            },
            refl,
          ))
          (gradient_rest read x gradients fs))
      go n w false i = (
        record {
          number = n;
          words = w;
          rest = [];
          value = refl;
          together = record { point = refl; slope = λ f. absurd (subst T i f) };
          gradient = λ e m. absurd (Memᴰ.not-nil m);
          exchanges = refl;
        },
        refl,
      )

-- ---- the first of the least

abbrev value_of : Evaluation → Float
value_of t = t.trial.value

-- the best of ts: none where none is finite
abbrev BestOf : List Evaluation → Option Evaluation → Type 0
BestOf ts none = (t : Evaluation) → Memᴰ t ts → Finite (value_of t) → ⊥
BestOf ts (some b) = FirstLeast ts b

-- not above any that is finite
least_le : (ts : List Evaluation) (b : Evaluation) → FirstLeast ts b → (t : Evaluation) → Memᴰ t ts → Finite (value_of t) → T (le (value_of b) (value_of t))
least_le ts b h t m f =
    ⊎_elim (λ i. lt→le (value_of b) (value_of t) (h.above t i f))
    (λ i. ⊎_elim (λ e. subst (λ (z : Evaluation). T (le (value_of b) (value_of z))) (sym e) (le_self (value_of b) h.finite)) (λ j. h.not_below t j f) (Memᴰ.cases_cons i))
    (Memᴰ.append_cases h.before (subst (Memᴰ t) h.split m))
  where
    le_self : (v : Float) → Finite v → T (le v v)
    le_self v f = not_lt→le v v (finite_number v f) (finite_number v f) (not_above_self v)

module _ (ts : List Evaluation) (t : Evaluation) where
  abbrev more : List Evaluation
  more = ts ++ (t ∷ [])

  -- one that is not below the best comes after it
  after_more : (b : Evaluation) → FirstLeast ts b → (Finite (value_of t) → T (le (value_of b) (value_of t))) → FirstLeast more b
  after_more b h k =
      record {
        before = h.before;
        after = h.after ++ (t ∷ []);
        split = ap (λ (z : List Evaluation). z ++ (t ∷ [])) h.split ∙ append_assoc h.before (b ∷ h.after) (t ∷ []);
        finite = h.finite;
        above = h.above;
        not_below = λ u m f.
            ⊎_elim (λ i. h.not_below u i f)
            (λ i. let e = Memᴰ.eq_of_singleton i in subst (λ (z : Evaluation). T (le (value_of b) (value_of z))) (sym e) (k (subst (λ (z : Evaluation). Finite (value_of z)) e f)))
            (Memᴰ.append_cases h.after m);
      }

  -- one that is not finite changes nothing
  skips : (best : Option Evaluation) → (Finite (value_of t) → ⊥) → BestOf ts best → BestOf more best
  skips none n h =
      λ u m f.
      ⊎_elim (λ i. h u i f) (λ i. n (subst (λ (z : Evaluation). Finite (value_of z)) (Memᴰ.eq_of_singleton i) f)) (Memᴰ.append_cases ts m)
  skips (some b) n h = after_more b h (λ f. absurd (n f))

  -- one that is below all before it
  replaces : Finite (value_of t) → ((u : Evaluation) → Memᴰ u ts → Finite (value_of u) → T (lt (value_of t) (value_of u))) → FirstLeast more t
  replaces f h = record { before = ts; after = []; split = refl; finite = f; above = h; not_below = λ u m i. absurd (Memᴰ.not-nil m) }

module _ (read : Float → Float) (gradients : Bool) (o : WolfeOptions) (l : Line) (ts : List Evaluation) (t : Evaluation) where
  keeps_none : (b : Bool) → finite_of (value_of t) ≡ b → BestOf ts none → BestOf (ts ++ (t ∷ [])) (cond b (some t) none)
  keeps_none true e h = replaces ts t (true_T (finite_of (value_of t)) e) (λ u m f. absurd (h u m f))
  keeps_none false e h = skips ts t none (λ f. subst T e f) h

  keeps_some : (s : Evaluation) (b c : Bool) → finite_of (value_of t) ≡ b → lt (value_of t) (value_of s) ≡ c → FirstLeast ts s → BestOf (ts ++ (t ∷ [])) (cond b (cond c (some t) (some s)) (some s))
  keeps_some s true true e i h =
      replaces ts t (true_T (finite_of (value_of t)) e)
      (λ u m f. lt_le_trans (value_of t) (value_of s) (value_of u) (true_T (lt (value_of t) (value_of s)) i) (least_le ts s h u m f))
  keeps_some s true false e i h =
      after_more ts t s h (λ f. not_lt→le (value_of t) (value_of s) (finite_number (value_of t) f) (finite_number (value_of s) h.finite) (rw i tt))
  keeps_some s false c e i h = skips ts t (some s) (λ f. subst T e f) h

  keeps : (best : Option Evaluation) → BestOf ts best → BestOf (ts ++ (t ∷ [])) (keep read gradients o l t best)
  keeps none h = keeps_none (finite_of (value_of t)) refl h
  keeps (some s) h = keeps_some s (finite_of (value_of t)) (lt (value_of t) (value_of s)) refl refl h

-- ---- the search

-- `Step` holds of the steps tried: each is made from such ones
module _ (read : Float → Float) (gradients : Bool) (o : WolfeOptions) (l : Line) (Step : Float → Type 0) (at_zero : Step plus_zero)
    (doubled : (a : Float) → Step a → Step (min_of (two ⊗ a) o.stepmax)) (between : (lo hi : Trial) → Step lo.step → Step hi.step → Step (interpolate_of lo hi))
    (initial : Float) (es : List Exchange) where
  abbrev Steps : List Evaluation → Type 0
  Steps ts = (t : Evaluation) → Memᴰ t ts → Step t.trial.step

  abbrev pub End : List Exchange → WolfeResult → Type 0
  End fs r = (m : Made read gradients o l initial es fs r) × Steps m.made

  -- the exchanges so far, and the trials so far
  abbrev State : Type 0
  State = List Exchange × List Evaluation

  abbrev Then : ℕ → State → Ask WolfeResult → Type 0
  Then k c m = Trials gradients l es c.0 c.1 → length c.1 + k ≡ o.evals → Steps c.1 → wp c.0 m End

  -- t is the last trial
  abbrev Last : State → Evaluation → Type 0
  Last c t = Step t.trial.step × ((us : List Evaluation) × (c.1 ≡ us ++ (t ∷ [])))

  steps_more : (ts : List Evaluation) (t : Evaluation) → Steps ts → Step t.trial.step → Steps (ts ++ (t ∷ []))
  steps_more ts t h p u m = ⊎_elim (λ i. h u i) (λ i. subst (λ (z : Evaluation). Step z.trial.step) (sym (Memᴰ.eq_of_singleton i)) p) (Memᴰ.append_cases ts m)

  tries : (k : ℕ) (c : State) (a : Float) (best : Option Evaluation) (f : Evaluation → Ask WolfeResult) → Step a → BestOf c.1 best
      → ((d : State) (t : Evaluation) → Last d t → BestOf d.1 (keep read gradients o l t best) → Then k d (f t)) → Then (suc k) c (eval read gradients o l a >>= f)
  tries k c a best f s b h asked n p =
      let m = eval read gradients o l a in
      wp_bind c.0 m f End
      (wp_map c.0 m (OneAt read gradients o l a c.0) (λ fs t. wp fs (f t) End)
      (λ fs t q.
      let step : Step t.trial.step = subst Step (sym q.1) s in
      h (fs, c.1 ++ (t ∷ [])) t (step, (c.1, refl)) (keeps read gradients o l c.1 t best b) (trials_more gradients l es c.0 fs c.1 t asked q.0)
      (omega (arith, length-append c.1 (t ∷ []))) (steps_more c.1 t p step))
      (eval_one read gradients o l a c.0))

  none_below : (ts : List Evaluation) (b : Evaluation) → FirstLeast ts b → lt (value_of b) l.f ≡ false → (t : Evaluation) → Memᴰ t ts → Finite (value_of t) → NotAbove l.f (value_of t)
  none_below ts b h e t m f =
      by_test (lt (value_of t) l.f) (λ i. absurd (subst T e (le_lt_trans (value_of b) (value_of t) l.f (least_le ts b h t m f) i))) (λ i. i)

  -- what a failure gives, of the trials ts
  abbrev Given : List Evaluation → Evaluation → Type 0
  Given ts at =
      (FirstLeast ts at × T (lt (value_of at) l.f)) ⊎ ((at ≡ start read gradients o l) × ((t : Evaluation) → Memᴰ t ts → Finite (value_of t) → NotAbove l.f (value_of t)))

  given : (ts : List Evaluation) (best : Option Evaluation) → BestOf ts best → Given ts (best_or_start read gradients o l best)
  given ts none b = inr (refl, λ t m f. absurd (b t m f))
  given ts (some s) b = given_cases read gradients o l (Given ts) s (λ i. inl (b, true_T (lt (value_of s) l.f) i)) (λ i. inr (refl, none_below ts s b i))

  invariant : Invariant read gradients o l
  invariant = record {
    State = State;
    Then = Then;
    Step = Step;
    Fine = Last;
    Best = λ c b. BestOf c.1 b;
    at_zero = at_zero;
    doubled = doubled;
    between = between;
    fine_step = λ c t h. h.0;
    tries = tries;
    fails = λ k c best b asked n p. (
      record { made = c.1; asked = asked; count = omega arith; success_last = λ e. absurd (false≢true e); failure_best = λ e. given c.1 best b },
      p,
    );
    succeeds = λ k c t h i j asked n p. (record { made = c.1; asked = asked; count = omega arith; success_last = λ e. h.1; failure_best = λ e. absurd (true≢false e) }, p);
  }

  pub trials_made : Step (min_of initial o.stepmax) → wp es (search read gradients o l initial) End
  unfolding invariant
  trials_made s =
      search_holds read gradients o l invariant (es, []) initial s (λ t m f. absurd (Memᴰ.not-nil m)) refl (omega arith) (λ t m. absurd (Memᴰ.not-nil m))
