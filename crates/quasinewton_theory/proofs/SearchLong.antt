-- A gradient has as many coordinates as its point (`gradient_long`), and so have point and gradient of what a search gives (`search_long`). Assumes nothing.
use Prim.Native.Nat.{ℕ, zero, suc, ◌+◌}
use native.Mathlib.Omega.{arith}
use mathlib.Core.Path.{◌≡◌, ◌∙◌}
use mathlib.Core.Option.{Option, none, some}
use mathlib.Core.Bool.{Bool, true, false, cond}
use mathlib.Core.List.{List, [], ◌∷◌, ◌++◌, map}
use lib.ListN.{length, length-append, length-map, get_or}
use lib.Ieee.{Float, nan, lt}
use Rattle.float.specs.Values.{finite_of}
use Rattle.vector.specs.Loops.{at}
use Rattle.vector.specs.Lists.{dot, plus_scaled, first}
use Rattle.vector.proofs.Loops.{length_upto}
use Rattle.vector.proofs.First.{zip_long}
use Rattle.protocol.specs.declared.WolfeOptions.{WolfeOptions}
use Rattle.protocol.specs.Protocol.{read_of}
use Rattle.protocol.specs.Dialogue.{Exchange}
use Rattle.protocol.specs.Ask.{Ask, finish, ◌>>=◌, wp}
use Rattle.protocol.proofs.Texts.{wp_bind, wp_map}
use Rattle.objective.specs.Algorithm.{slope_at, differences_from, eval_gradient}
use Rattle.linesearch_trials.specs.declared.Evaluation.{Evaluation}
use Rattle.linesearch_trials.specs.declared.Line.{Line}
use Rattle.linesearch_theory.specs.Algorithm.{WolfeResult, point_at, evaluated, eval, lower, keep, best_or_start, start, search}
use Rattle.linesearch_theory.proofs.LawsInduction.{Invariant, search_holds}

-- ---- a gradient

differences_long : (read : Float → Float) (x : List Float) (k i : ℕ) (grad : List Float) (es : List Exchange) → wp es (differences_from read x k i grad) (λ fs g. length g ≡ length grad + k)
unfolding differences_from ◌>>=◌
differences_long read x zero i grad es = omega arith
differences_long read x (suc k) i grad es =
    λ n w l f m u j p.
    let slope = slope_at (at x i) (read (get_or w 0 nan)) (read (get_or u 0 nan)) in
    wp_map _ (differences_from read x k (suc i) (grad ++ (slope ∷ []))) (λ fs g. length g ≡ length (grad ++ (slope ∷ [])) + k) (λ fs g. length g ≡ length grad + suc k)
    (λ fs g e. omega (arith, length-append grad (slope ∷ []))) (differences_long read x k (suc i) (grad ++ (slope ∷ [])) _)

pub gradient_long : (read : Float → Float) (gradients : Bool) (x : List Float) (es : List Exchange) → wp es (eval_gradient read gradients x) (λ fs g. length g ≡ length x)
unfolding first
gradient_long read true x es = λ n w l i. length_upto (at w) (length x)
gradient_long read false x es =
    wp_map es (differences_from read x (length x) 0 []) (λ fs g. length g ≡ 0 + length x) (λ fs g. length g ≡ length x) (λ fs g e. omega arith) (differences_long read x (length x) 0 [] es)

-- ---- a search along a line of n coordinates

module _ (read : Float → Float) (gradients : Bool) (o : WolfeOptions) (l : Line) (n : ℕ) (x_long : length l.x ≡ n) (d_long : length l.d ≡ n) (g_long : length l.g ≡ n) where
  abbrev pub Long : Evaluation → Type 0
  Long t = (length t.x ≡ n) × (length t.g ≡ n)

  point_long : (a : Float) → length (point_at read gradients o l a) ≡ n
  unfolding plus_scaled
  point_long a = zip_long n _ l.x l.d x_long d_long

  -- what follows the value
  abbrev valued : Float → Float → Bool → Ask Evaluation
  valued a v b =
      let y = point_at read gradients o l a in
      cond b (eval_gradient read gradients y >>= λ g. finish (evaluated read gradients o l a v g (dot g l.d))) (finish (evaluated read gradients o l a v (map (λ z. nan) y) nan))

  valued_long : (a v : Float) (b : Bool) (es : List Exchange) → wp es (valued a v b) (λ fs t. Long t)
  valued_long a v true es =
      let y = point_at read gradients o l a in
      let m = eval_gradient read gradients y in
      wp_bind es m (λ g. finish (evaluated read gradients o l a v g (dot g l.d))) (λ fs t. Long t)
      (wp_map es m (λ fs g. length g ≡ length y) (λ fs g. Long (evaluated read gradients o l a v g (dot g l.d))) (λ fs g e. (point_long a, e ∙ point_long a)) (gradient_long read gradients y es))
  valued_long a v false es = (point_long a, length-map (point_at read gradients o l a) (λ z. nan) ∙ point_long a)

  eval_long : (a : Float) (es : List Exchange) → wp es (eval read gradients o l a) (λ fs t. Long t)
  unfolding ◌>>=◌
  eval_long a es = λ k w i f. let v = read_of (get_or w 0 nan) in valued_long a v (finite_of v) _

  abbrev Best : Option Evaluation → Type 0
  Best none = Unit {0}
  Best (some b) = Long b

  keeps : (t : Evaluation) (best : Option Evaluation) → Long t → Best best → Best (keep read gradients o l t best)
  keeps t best h k = go (finite_of t.trial.value) (lower read gradients o l t best)
    where
      go : (b c : Bool) → Best (cond b (cond c (some t) best) best)
      go true true = h
      go true false = k
      go false c = k

  best_long : (best : Option Evaluation) → Best best → Long (best_or_start read gradients o l best)
  best_long none h = (x_long, g_long)
  best_long (some b) h = go (lt b.trial.value l.f)
    where
      go : (c : Bool) → Long (cond c b (start read gradients o l))
      go true = h
      go false = (x_long, g_long)

  abbrev Then : List Exchange → Ask WolfeResult → Type 0
  Then es m = wp es m (λ fs r. Long r.at)

  tries : (es : List Exchange) (a : Float) (best : Option Evaluation) (f : Evaluation → Ask WolfeResult) → Best best
      → ((fs : List Exchange) (t : Evaluation) → Long t → Best (keep read gradients o l t best) → Then fs (f t)) → Then es (eval read gradients o l a >>= f)
  tries es a best f b h =
      let m = eval read gradients o l a in
      wp_bind es m f (λ fs r. Long r.at) (wp_map es m (λ fs t. Long t) (λ fs t. Then fs (f t)) (λ fs t i. h fs t i (keeps t best i b)) (eval_long a es))

  invariant : Invariant read gradients o l
  invariant =
      record {
        State = List Exchange;
        Then = λ k es m. Then es m;
        Step = λ a. Unit {0};
        Fine = λ es t. Long t;
        Best = λ es best. Best best;
        at_zero = tt;
        doubled = λ a h. tt;
        between = λ lo hi p q. tt;
        fine_step = λ es t h. tt;
        tries = λ k es a best f s b h. tries es a best f b h;
        fails = λ k es best b. best_long best b;
        succeeds = λ k es t h i j. h;
      }

  pub search_long : (initial : Float) (es : List Exchange) → wp es (search read gradients o l initial) (λ fs r. Long r.at)
  unfolding invariant
  search_long initial es = search_holds read gradients o l invariant es initial tt tt
