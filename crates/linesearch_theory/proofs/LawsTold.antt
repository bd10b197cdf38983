-- Values and gradients asked for, and one trial: its value is told for its point, or +infinity, and all in it is of f64s (`evaluations`, `eval_told`). Assumes nothing.
use Prim.Native.Nat.{ℕ, zero, suc}
use mathlib.Core.Path.{◌≡◌, refl, sym, ◌∙◌, ap, subst}
use mathlib.Core.Logic.{◌⊎◌, inl, inr, ⊎_elim}
use mathlib.Core.List.Memᴰ
use mathlib.Core.List.{List, [], ◌∷◌, ◌++◌, map}
use mathlib.Core.Bool.{Bool, true, false, cond}
use lib.Dec.{T}
use lib.ListN.{length, get_or}
use lib.Ieee.{Float, nan, inf, fin, fits}
use Rattle.float.specs.Binary64.{F64}
use Rattle.float.specs.Values.{Finite, finite_of}
use Rattle.float.proofs.Closed.{closed}
use Rattle.vector.specs.Loops.{upto, at}
use Rattle.vector.specs.Lists.{dot, first}
use Rattle.protocol.specs.declared.Kind.TheVariants.{Value}
use Rattle.protocol.specs.declared.WolfeOptions.{WolfeOptions}
use Rattle.protocol.specs.Protocol.{read_of}
use Rattle.protocol.specs.Dialogue.{Exchange, F64s}
use Rattle.protocol.specs.Ask.{Ask, finish, ask_value, ◌>>=◌, heard_at, wp, Grows}
use Rattle.protocol.proofs.Texts.{wp_bind, wp_map, wp_grows}
use Rattle.protocol.proofs.Readings.{only, read_own}
use Rattle.objective.specs.Algorithm.{slope_at, differences_from, eval_gradient}
use Rattle.linesearch_trials.specs.declared.Evaluation.{Evaluation}
use Rattle.linesearch_trials.specs.declared.Line.{Line}
use Rattle.linesearch_theory.specs.Algorithm.{point_at, evaluated, eval}
use Rattle.linesearch_theory.specs.Laws.{ValueTold, Heard, EvaluationLaws, Together}

-- ---- f64s

f64s_append : (v w : List Float) → F64s v → F64s w → F64s (v ++ w)
f64s_append [] w h k = k
f64s_append (x ∷ v) w h k = (h.0, f64s_append v w h.1 k)

at_f64 : (w : List Float) (i : ℕ) → F64s w → F64 (at w i)
at_f64 [] i h = unfold fits in tt
at_f64 (v ∷ w) zero h = h.0
at_f64 (v ∷ w) (suc i) h = at_f64 w i h.1

first_f64s : (n : ℕ) (w : List Float) → F64s w → F64s (first n w)
unfolding first
first_f64s zero w h = tt
first_f64s (suc n) w h = f64s_append (upto (at w) n) (at w n ∷ []) (first_f64s n w h) (at_f64 w n h, tt)

nans_f64s : (x : List Float) → F64s (map (λ y. nan) x)
nans_f64s [] = tt
nans_f64s (y ∷ x) = (unfold fits in tt, nans_f64s x)

-- ---- a value, and a gradient

pub read_cases : (v : Float) → Finite (read_of v) ⊎ (read_of v ≡ inf false)
unfolding read_of finite_of
read_cases nan = inr refl
read_cases (inf s) = inr refl
read_cases (fin s m e) = inl tt

value_heard : (x : List Float) (es : List Exchange) → wp es (ask_value read_of x) (Heard x)
value_heard x es n w l i =
    let v = get_or w 0 nan in
    ⊎_elim
    (λ f.
    let same : read_of v ≡ v = read_own v f in
    inl (f, subst F64 (sym same) (at_f64 w 0 i), (heard_at n Value x w, Memᴰ.append_right es (Memᴰ.head refl), refl, refl, only w l ∙ ap (λ (z : Float). z ∷ []) (sym same))))
    (λ e. inr e) (read_cases v)

module _ (read : Float → Float) where
  differences_f64s : (x : List Float) (k i : ℕ) (grad : List Float) (es : List Exchange) → F64s grad → wp es (differences_from read x k i grad) (λ fs g. F64s g)
  unfolding differences_from slope_at ◌>>=◌
  differences_f64s x zero i grad es h = h
  differences_f64s x (suc k) i grad es h =
      λ n w l f m u j p.
      let slope = slope_at (at x i) (read (get_or w 0 nan)) (read (get_or u 0 nan)) in
      differences_f64s x k (suc i) (grad ++ (slope ∷ [])) _ (f64s_append grad (slope ∷ []) h (closed.quotient _ _, tt))

  gradient_f64s : (gradients : Bool) (x : List Float) (es : List Exchange) → wp es (eval_gradient read gradients x) (λ fs g. F64s g)
  gradient_f64s true x es = λ n w l i. first_f64s (length x) w i
  gradient_f64s false x es = differences_f64s x (length x) 0 [] es tt

pub evaluations : EvaluationLaws
evaluations = record { value_heard = value_heard; gradient_f64s = gradient_f64s }

-- what was told stays told
pub told_grows : (es fs : List Exchange) (x : List Float) (v : Float) → Grows es fs → ValueTold es x v → ValueTold fs x v
told_grows es fs x v g h = (h.0, h.1, g x v h.2)

pub heard_grows : (es fs : List Exchange) (x : List Float) (v : Float) → Grows es fs → Heard x es v → Heard x fs v
heard_grows es fs x v g h = ⊎_elim (λ k. inl (told_grows es fs x v g k)) (λ e. inr e) h

-- what was heard and is finite was told
pub heard_finite : (es : List Exchange) (x : List Float) (v : Float) → Heard x es v → Finite v → ValueTold es x v
unfolding finite_of
heard_finite es x v (inl h) f = h
heard_finite es x v (inr e) f = absurd (subst Finite e f)

-- ---- one trial

-- the evaluation of a trial, after the exchanges es
pub record Tried (l : Line) (es : List Exchange) (t : Evaluation) : Type 0 where
  pub heard : Heard t.x es t.trial.value
  pub together : Together l t
  pub gradient : F64s t.g

module _ (read : Float → Float) (gradients : Bool) (o : WolfeOptions) (l : Line) where
  pub tried_grows : (es fs : List Exchange) (t : Evaluation) → Grows es fs → Tried l es t → Tried l fs t
  tried_grows es fs t g h = record { heard = heard_grows es fs t.x t.trial.value g h.heard; together = h.together; gradient = h.gradient }

  abbrev pub AtA : Float → List Exchange → Evaluation → Type 0
  AtA a es t = (t.trial.step ≡ a) × Tried l es t

  abbrev pub pt : Float → List Float
  pt a = point_at read gradients o l a

  abbrev pub made : Float → Float → List Float → Evaluation
  made a v g = evaluated read gradients o l a v g (dot g l.d)

  -- what follows the value
  abbrev pub valued : Float → Float → Bool → Ask Evaluation
  valued a v b = cond b (eval_gradient read gradients (pt a) >>= λ g. finish (made a v g)) (finish (evaluated read gradients o l a v (map (λ y. nan) (pt a)) nan))

  with_value_lem : (a v : Float) (b : Bool) (es : List Exchange) → finite_of v ≡ b → Heard (pt a) es v → wp es (valued a v b) (AtA a)
  with_value_lem a v true es i h =
      let m = eval_gradient read gradients (pt a) in
      wp_bind es m (λ g. finish (made a v g)) (AtA a)
      (wp_map es m (λ fs g. Grows es fs × F64s g) (λ fs g. AtA a fs (made a v g))
      (λ fs g k. (refl, record { heard = heard_grows es fs (pt a) v k.0 h; together = record { point = refl; slope = λ f. refl }; gradient = k.1 }))
      (wp_grows es m (λ fs g. F64s g) (gradient_f64s read gradients (pt a) es)))
  with_value_lem a v false es i h = (refl, record { heard = h; together = record { point = refl; slope = λ f. absurd (subst T i f) }; gradient = nans_f64s (pt a) })

  pub eval_told : (a : Float) (es : List Exchange) → wp es (eval read gradients o l a) (λ fs t. Grows es fs × AtA a fs t)
  eval_told a es =
      wp_grows es (eval read gradients o l a) (AtA a)
      (wp_bind es (ask_value read_of (pt a)) (λ v. valued a v (finite_of v)) (AtA a)
      (wp_map es (ask_value read_of (pt a)) (Heard (pt a)) (λ fs v. wp fs (valued a v (finite_of v)) (AtA a)) (λ fs v h. with_value_lem a v (finite_of v) fs refl h) (value_heard (pt a) es)))
