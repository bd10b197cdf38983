-- Each answer takes the record where it takes the text, in each phase with a question open: `valuing`, `grading`, `differing`. Assumes nothing.
use mathlib.Core.Path.{◌≡◌, refl, sym, ap, ap₂, ◌∙◌, fun_ext}
use Prim.Native.Nat.{ℕ, zero, suc, ◌≤◌, ◌<◌, zero-le}
use mathlib.Core.Bool.{Bool, true, false, cond}
use mathlib.Core.List.{List, [], ◌∷◌, ◌++◌, map, map-append}
use native.Mathlib.Omega.{arith}
use borrow.Author.Tests.{ltb-false, lt-ltb}
use lib.Dec.{ltb}
use lib.ListN.{length, get_or}
use lib.Ieee.{Float, nan}
use Rattle.float.specs.Values.{finite_of}
use Rattle.vector.specs.Loops.{upto, point, at}
use Rattle.vector.specs.Points.{from_slice_of}
use Rattle.vector.specs.Lists.{first, dot}
use Rattle.vector.proofs.First.{upto_same, point_laws, ties}
use Rattle.protocol.specs.declared.Kind.TheVariants.{Value, Gradient}
use Rattle.protocol.specs.Protocol.{read_of}
use Rattle.protocol.specs.Ask.{Ask, finish, query, ◌>>=◌}
use Rattle.protocol.proofs.Texts.{bind_assoc}
use Rattle.objective.specs.declared.Differences.{Differences}
use Rattle.objective.specs.Algorithm as algorithm
use Rattle.objective.specs.Step as step
use Rattle.objective.specs.Follows as differences
use Rattle.objective.proofs.Follows.{follows as differences_follow, told_within}
use Rattle.linesearch_trials.specs.declared.Evaluation.{Evaluation}
use Rattle.linesearch_trials.specs.declared.Line.{Line}
use Rattle.linesearch_trials.specs.declared.Fixed.{Fixed}
use Rattle.linesearch_moves.specs.declared.Search.{Search}
use Rattle.linesearch.specs.Step.{asks_value, asks_gradient, asks_difference, point_at_of, nans_of, evaluated_of, infeasible_of, with_diff, with_value, decided_of, graded_of, differing_of, eval_gradient_of, valued_of, probe_of, told_of, told_gradient_of}
use Rattle.linesearch_theory.specs.Algorithm.{WolfeResult, point_at, evaluated}
use Rattle.linesearch_theory.specs.Follows.{lowered, kind_of, lined, after, to_do, answered}
use Rattle.linesearch_theory.proofs.FollowsMoves.{decided_does}

-- n NaN are read as the NaN of each coordinate
nans_mapped : (g : ℕ → Float) (n : ℕ) → upto (λ i. nan) n ≡ map (λ y. nan) (upto g n)
nans_mapped g zero = refl
nans_mapped g (suc n) = ap (λ (x : List Float). x ++ (nan ∷ [])) (nans_mapped g n) ∙ sym (map-append (λ y. nan) (upto g n) (g n ∷ []))

nans_first : (n : ℕ) (x : List Float) → first n (nans_of n) ≡ map (λ y. nan) (first n x)
unfolding nans_of first
nans_first n x = upto_same (at (point (λ i. nan) n)) (λ i. nan) n (point_laws.inside (λ i. nan) n) ∙ nans_mapped (at x) n

module _ (read : Float → Float) (fixed : Fixed) (l : Line) where
  abbrev n : ℕ
  n = fixed.n

  abbrev L : Line
  L = lined read fixed l

  abbrev does : Search → Ask WolfeResult
  does s = to_do read fixed l s

  -- the text's point at a step
  abbrev along : Float → List Float
  along a = point_at read fixed.gradients fixed.options L a

  -- the trial in hand at the step a with the value v and the gradient g
  abbrev trial : Float → Float → List Float → Evaluation
  trial a v g = evaluated read fixed.gradients fixed.options L a v g (dot g L.d)

  abbrev Within : Search → Type 0
  Within s = s.trials ≤ fixed.options.evals

  point_is : (a : Float) → along a ≡ first n (point_at_of fixed l a)
  unfolding point_at_of
  point_is a = sym (ties.plus_scaled_lem l.x a l.d n)

  evaluated_is : (a v : Float) (g : List Float) → lowered n (evaluated_of fixed l a v g) ≡ trial a v (first n g)
  unfolding evaluated_of
  evaluated_is a v g = rw (← point_is a, ties.dot_of_lem g l.d n)

  infeasible_is : (a v : Float) → lowered n (infeasible_of fixed l a v) ≡ evaluated read fixed.gradients fixed.options L a v (map (λ y. nan) (along a)) nan
  unfolding infeasible_of
  infeasible_is a v =
      rw (point_is a) (ap (λ (g : List Float). record { trial = record { step = a; value = v; slope = nan }; x = first n (point_at_of fixed l a); g = g }) (nans_first n (point_at_of fixed l a)))

  graded_does : (s : Search) (g : List Float) → Within s → after read fixed l s (trial s.step s.value (first n g)) ≡ does (graded_of fixed l s g)
  unfolding graded_of
  graded_does s g h = ap (after read fixed l s) (sym (evaluated_is s.step s.value g)) ∙ decided_does read fixed l s (evaluated_of fixed l s.step s.value g) h

  -- the differences go on, or are done
  differing_does : (s : Search) (e : Differences) → Within s → e.at ≤ n
      → differences.to_do read n e >>= (λ g. after read fixed l s (trial s.step s.value g)) ≡ does (differing_of fixed l s e)
  unfolding differing_of ◌>>=◌
  differing_does s e h i = go (ltb e.at n) refl
    where
      go : (b : Bool) → ltb e.at n ≡ b
          → differences.to_do read n e >>= (λ g. after read fixed l s (trial s.step s.value g)) ≡ does (cond b (with_diff s asks_difference e) (graded_of fixed l s e.g))
      go true j = refl
      go false j =
          let done : e.at ≡ n = omega (arith, ltb-false e.at n j) in
          ap (λ (m : Ask (List Float)). m >>= (λ g. after read fixed l s (trial s.step s.value g))) ((differences_follow read).ends n e done) ∙ graded_does s e.g h

  -- the value is finite: its gradient is next
  gradient_does : (s : Search) → Within s
      → (algorithm.eval_gradient read fixed.gradients (along s.step) >>= λ g. finish (trial s.step s.value g)) >>= after read fixed l s ≡ does (eval_gradient_of fixed l s)
  unfolding eval_gradient_of step.begun_of ◌>>=◌
  gradient_does s h = go fixed.gradients
    where
      long : length (along s.step) ≡ n
      long = rw (point_is s.step) (point_laws.listed n (point_at_of fixed l s.step))

      go : (b : Bool)
          → (cond b (query Gradient (along s.step) (λ w. finish (first (length (along s.step)) w))) (algorithm.differences read (along s.step)) >>= λ g. finish (trial s.step s.value g)) >>= after read fixed l s
          ≡ does (cond b (with_diff s asks_gradient s.diff) (differing_of fixed l s (step.begun_of (point_at_of fixed l s.step))))
      go true = rw long
      go false =
          bind_assoc (algorithm.differences read (along s.step)) (λ g. finish (trial s.step s.value g)) (after read fixed l s)
          ∙ ap (λ (x : List Float). algorithm.differences read x >>= (λ g. after read fixed l s (trial s.step s.value g))) (point_is s.step)
          ∙ ap (λ (m : Ask (List Float)). m >>= (λ g. after read fixed l s (trial s.step s.value g))) ((differences_follow read).begins n (point_at_of fixed l s.step))
          ∙ differing_does s (step.begun_of (point_at_of fixed l s.step)) h zero-le

  -- the trial's value is told
  valued_does : (s : Search) (v : Float) → Within s
      → cond (finite_of v) (algorithm.eval_gradient read fixed.gradients (along s.step) >>= λ g. finish (trial s.step v g))
      (finish (evaluated read fixed.gradients fixed.options L s.step v (map (λ y. nan) (along s.step)) nan)) >>= after read fixed l s
      ≡ does (valued_of fixed l s v)
  unfolding valued_of ◌>>=◌
  valued_does s v h = go (finite_of v)
    where
      go : (b : Bool)
          → cond b (algorithm.eval_gradient read fixed.gradients (along s.step) >>= λ g. finish (trial s.step v g))
          (finish (evaluated read fixed.gradients fixed.options L s.step v (map (λ y. nan) (along s.step)) nan)) >>= after read fixed l s
          ≡ does (cond b (eval_gradient_of fixed l (with_value s v)) (decided_of fixed l (with_value s v) (infeasible_of fixed l s.step v)))
      go true = gradient_does (with_value s v) h
      go false = ap (after read fixed l s) (sym (infeasible_is s.step v)) ∙ decided_does read fixed l (with_value s v) (infeasible_of fixed l s.step v) h

  -- ---- the open question, by its phase

  -- the text goes on as the record does
  abbrev Follows : Search → Type 0
  Follows s = does s ≡ query (kind_of s) (first n (probe_of fixed l s)) (λ w. does (answered read fixed l s w))

  -- in the phase p
  abbrev phased : Search → ℕ → Search
  phased s p = with_diff s p s.diff

  pub valuing : (s : Search) (p : ℕ) → p ≡ asks_value → Within s → Follows (phased s p)
  unfolding probe_of told_of ◌>>=◌
  valuing s p e h = rw e (ap₂ (query Value) (point_is s.step) (fun_ext (λ w. valued_does (phased s asks_value) (read_of (get_or w 0 nan)) h)))

  pub grading : (s : Search) (p : ℕ) → p ≡ asks_gradient → Within s → Follows (phased s p)
  unfolding probe_of told_gradient_of
  grading s p e h =
      rw e (ap₂ (query Gradient) (point_is s.step)
      (fun_ext (λ w. ap (λ (g : List Float). after read fixed l s (trial s.step s.value g)) (sym (ties.from_slice w n)) ∙ graded_does (phased s asks_gradient) (from_slice_of w n) h)))

  pub differing : (s : Search) (p : ℕ) → p ≡ asks_difference → Within s → differences.DifferencesSized n s.diff → s.diff.at < n → Follows (phased s p)
  unfolding probe_of told_of ◌>>=◌
  differing s p e h z i =
      rw (e, lt-ltb _ _ i)
      (ap (λ (m : Ask (List Float)). m >>= (λ g. after read fixed l s (trial s.step s.value g))) ((differences_follow read).follows n s.diff z i)
      ∙ ap (query Value (first n (step.probe_of s.diff)))
      (fun_ext (λ w. differing_does (phased s asks_difference) (step.told_of s.diff (read (get_or w 0 nan))) h (told_within n s.diff (read (get_or w 0 nan)) i))))
