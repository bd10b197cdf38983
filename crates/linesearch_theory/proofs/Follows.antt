-- The record of the search follows the Algorithm, for every answer, with gradients and without: `search_follows`. Assumes nothing.
use mathlib.Core.Path.{◌≡◌, refl, sym, ap, ◌∙◌}
use Prim.Native.Nat.{ℕ, ◌≤◌, zero-le}
use mathlib.Core.Bool.{Bool, true, false}
use mathlib.Core.Option.{none}
use native.Mathlib.Nat.{sub-zero}
use native.Mathlib.Omega.{arith}
use borrow.Author.Tests.{eqb-true, eqb-false}
use lib.Dec.{eqb}
use lib.Ieee.{Float}
use Rattle.float.specs.Values.{min_of}
use Rattle.vector.specs.Lists.{first}
use Rattle.protocol.specs.Ask.{finish, query}
use Rattle.linesearch_trials.specs.declared.Line.{Line}
use Rattle.linesearch_trials.specs.declared.Fixed.{Fixed}
use Rattle.linesearch_moves.specs.declared.Search.{Search}
use Rattle.linesearch.specs.Step.{asks_value, asks_gradient, asks_difference, found, failed, with_diff, no_trial, begun_of, probe_of}
use Rattle.linesearch_theory.specs.Algorithm.{bracket, search}
use Rattle.linesearch_theory.specs.Follows.{lowered_line, kind_of, SearchShaped, to_do, outcome, answered, SearchFollows}
use Rattle.linesearch_theory.proofs.FollowsMoves.{bracket_does}
use Rattle.linesearch_theory.proofs.FollowsAnswers.{valuing, grading, differing}
use Rattle.linesearch_theory.proofs.FollowsShape.{begun_asks, begun_shaped, told_shaped, told_gradient_shaped, begun_zeros, told_zeros, told_gradient_zeros, probe_zeros}

-- an open question that is for no trial's value and no gradient is for a difference
third : (p : ℕ) → asks_value ≤ p → p ≤ asks_difference → (p ≡ asks_value → ⊥) → (p ≡ asks_gradient → ⊥) → p ≡ asks_difference
third p a b d e = omega arith

module _ (read : Float → Float) (fixed : Fixed) (l : Line) where
  begins : (initial : Float) → search read fixed.gradients fixed.options (lowered_line fixed.n l) initial ≡ to_do read fixed l (begun_of fixed l initial)
  unfolding begun_of
  begins initial =
      let a = min_of initial fixed.options.stepmax in
      ap (λ (k : ℕ). bracket read fixed.gradients fixed.options (lowered_line fixed.n l) k a none none) (sym (sub-zero fixed.options.evals))
      ∙ bracket_does read fixed l no_trial zero-le false no_trial.lo no_trial.hi a

  next : (s : Search) → SearchShaped fixed s → s.phase ≤ asks_difference
      → to_do read fixed l s ≡ query (kind_of s) (first fixed.n (probe_of fixed l s)) (λ w. to_do read fixed l (answered read fixed l s w))
  next s z i = go (eqb s.phase asks_value) refl (eqb s.phase asks_gradient) refl
    where
      go : (b : Bool) → eqb s.phase asks_value ≡ b → (c : Bool) → eqb s.phase asks_gradient ≡ c
          → to_do read fixed l s ≡ query (kind_of s) (first fixed.n (probe_of fixed l s)) (λ w. to_do read fixed l (answered read fixed l s w))
      go true e c f = valuing read fixed l s s.phase (eqb-true s.phase asks_value e) z.trials
      go false e true f = grading read fixed l s s.phase (eqb-true s.phase asks_gradient f) z.trials
      go false e false f =
          let last = third s.phase z.least i (eqb-false s.phase asks_value e) (eqb-false s.phase asks_gradient f) in
          differing read fixed l s s.phase last z.trials z.diff (z.asked last)

  ends_found : (s : Search) → s.phase ≡ found → to_do read fixed l s ≡ finish (outcome read fixed l true s)
  ends_found s e = go s.phase e
    where
      go : (p : ℕ) → p ≡ found → to_do read fixed l (with_diff s p s.diff) ≡ finish (outcome read fixed l true s)
      go p h = rw h

  ends_failed : (s : Search) → s.phase ≡ failed → to_do read fixed l s ≡ finish (outcome read fixed l false s)
  ends_failed s e = go s.phase e
    where
      go : (p : ℕ) → p ≡ failed → to_do read fixed l (with_diff s p s.diff) ≡ finish (outcome read fixed l false s)
      go p h = rw h

  pub search_follows : SearchFollows read fixed l
  search_follows =
      record {
        begins = begins;
        begun_asks = begun_asks fixed l;
        follows = next;
        ends_found = ends_found;
        ends_failed = ends_failed;
        begun_shaped = begun_shaped fixed l;
        told_shaped = told_shaped fixed l;
        told_gradient_shaped = told_gradient_shaped fixed l;
        begun_zeros = begun_zeros fixed l;
        told_zeros = told_zeros fixed l;
        told_gradient_zeros = told_gradient_zeros fixed l;
        probe_zeros = probe_zeros fixed l;
      }
