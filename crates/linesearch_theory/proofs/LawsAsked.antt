-- Each question of a search is about the point of a step that is not below zero and no NaN (`asked`). Assumes nothing.
use Prim.Native.Nat.{ℕ, zero, suc}
use mathlib.Core.Path.{refl}
use mathlib.Core.Logic.{inl, inr}
use mathlib.Core.List.{List, [], ◌∷◌, ◌++◌, map}
use mathlib.Core.Bool.{Bool, true, false, cond}
use lib.Dec.{T}
use lib.ListN.{length, get_or}
use lib.Ieee.{Float, nan, lt}
use Rattle.float.specs.Binary64.{◌⊗◌, plus_zero}
use Rattle.float.specs.Values.{finite_of}
use Rattle.vector.specs.Loops.{at}
use Rattle.vector.specs.Lists.{dot, plus_scaled}
use Rattle.protocol.specs.declared.Kind.{Kind}
use Rattle.protocol.specs.declared.WolfeOptions.{WolfeOptions}
use Rattle.protocol.specs.Protocol.{read_of}
use Rattle.protocol.specs.Ask.{Ask, finish, query, ◌>>=◌}
use Rattle.objective.specs.Algorithm.{slope_at, differences_from, eval_gradient}
use Rattle.linesearch_trials.specs.declared.Evaluation.{Evaluation}
use Rattle.linesearch_trials.specs.declared.Line.{Line}
use Rattle.linesearch_trials.specs.Trials.{two}
use Rattle.linesearch_theory.specs.Algorithm.{WolfeResult, evaluated, eval, search}
use Rattle.linesearch_theory.specs.Laws.{Puts, AtStep}
use Rattle.linesearch_theory.proofs.Steps.{Plus, plus_le, positive_plus, min_plus, twice_plus, interpolate_plus}
use Rattle.linesearch_theory.proofs.LawsInduction.{Invariant, search_holds}

-- a text that makes something of what m gives, and then f
puts_then : {A B C : Type 0} (P : Kind → List Float → Type 0) (m : Ask A) (g : A → B) (f : B → Ask C) → Puts P m → ((x : A) → Puts P (f (g x))) → Puts P ((m >>= λ x. finish (g x)) >>= f)
unfolding ◌>>=◌
puts_then P (finish x) g f h k = k x
puts_then P (query j y c) g f h k = (h.0, λ w. puts_then P (c w) g f (h.1 w) k)

module _ (read : Float → Float) (l : Line) (a : Float) (p : Plus a) where
  abbrev y : List Float
  y = plus_scaled l.x a l.d

  differences_puts : (k i : ℕ) (grad : List Float) → Puts (AtStep false l) (differences_from read y k i grad)
  unfolding differences_from ◌>>=◌
  differences_puts zero i grad = tt
  differences_puts (suc k) i grad = (
    (a, plus_le a p, inr (refl, (i, inl refl))),
    λ w. (
      (a, plus_le a p, inr (refl, (i, inr refl))),
      λ u. differences_puts k (suc i) (grad ++ (slope_at (at y i) (read (get_or w 0 nan)) (read (get_or u 0 nan)) ∷ [])),
    ),
  )

  gradient_puts : (gradients : Bool) → Puts (AtStep gradients l) (eval_gradient read gradients y)
  gradient_puts true = ((a, plus_le a p, inl refl), λ w. tt)
  gradient_puts false = differences_puts (length y) 0 []

module _ (read : Float → Float) (gradients : Bool) (o : WolfeOptions) (l : Line) where
  abbrev P : Kind → List Float → Type 0
  P k x = AtStep gradients l k x

  eval_puts : (a : Float) (f : Evaluation → Ask WolfeResult) → Plus a → ((v s : Float) (g : List Float) → Puts P (f (evaluated read gradients o l a v g s))) → Puts P (eval read gradients o l a >>= f)
  unfolding ◌>>=◌
  eval_puts a f p h = ((a, plus_le a p, inl refl), λ w. go (read_of (get_or w 0 nan)) (finite_of (read_of (get_or w 0 nan))))
    where
      x : List Float
      x = plus_scaled l.x a l.d

      go : (v : Float) (b : Bool)
          → Puts P (cond b (eval_gradient read gradients x >>= λ g. finish (evaluated read gradients o l a v g (dot g l.d))) (finish (evaluated read gradients o l a v (map (λ z. nan) x) nan)) >>= f)
      go v true = puts_then P (eval_gradient read gradients x) (λ g. evaluated read gradients o l a v g (dot g l.d)) f (gradient_puts read l a p gradients) (λ g. h v (dot g l.d) g)
      go v false = h v nan (map (λ z. nan) x)

  invariant : Plus o.stepmax → Invariant read gradients o l
  invariant m = record {
    State = Unit {0};
    Then = λ k c m. Puts P m;
    Step = Plus;
    Fine = λ c t. Plus t.trial.step;
    Best = λ c b. Unit {0};
    at_zero = tt;
    doubled = λ a p. min_plus (two ⊗ a) o.stepmax (twice_plus a p) m;
    between = interpolate_plus;
    fine_step = λ c t h. h;
    tries = λ k c a best f p b h. eval_puts a f p (λ v s g. h tt (evaluated read gradients o l a v g s) p tt);
    fails = λ k c best b. tt;
    succeeds = λ k c t h i j. tt;
  }

  pub asked : (initial : Float) → T (lt plus_zero initial) → T (lt plus_zero o.stepmax) → Puts P (search read gradients o l initial)
  unfolding invariant
  asked initial i j =
      let m = positive_plus o.stepmax j in
      search_holds read gradients o l (invariant m) tt initial (min_plus initial o.stepmax (positive_plus initial i) m) tt
