-- Each answer takes the record where it takes the text, in each phase with a question open: `follows`. Assumes nothing.
use Prim.Native.Nat.{ℕ, ◌≤◌, ◌<◌, zero-le}
use mathlib.Core.Path.{◌≡◌, refl, sym, ap, ◌∙◌, fun_ext}
use mathlib.Core.Bool.{Bool, true, false, not, cond}
use mathlib.Core.List.{List}
use native.Mathlib.Omega.{arith}
use borrow.Author.Tests.{ltb-false, lt-ltb, eqb-true, eqb-false, leb-true}
use lib.Dec.{leb, ltb, eqb}
use lib.ListN.{length, get_or}
use lib.Ieee.{Float, nan}
use Rattle.float.specs.Values.{finite_of}
use Rattle.vector.specs.Points.{from_slice_of, all_finite_of}
use Rattle.vector.specs.Lists.{first}
use Rattle.vector.proofs.First.{point_laws, ties}
use Rattle.protocol.specs.declared.Kind.TheVariants.{Value, Gradient}
use Rattle.protocol.specs.Protocol.{read_of}
use Rattle.protocol.specs.Ask.{Ask, finish, query, ◌>>=◌}
use Rattle.protocol.specs.Rounds.{Ending, at_head, fails}
use Rattle.objective.specs.declared.Differences.{Differences}
use Rattle.objective.specs.Algorithm as algorithm
use Rattle.objective.specs.Step as objective
use Rattle.objective.specs.Follows as differences
use Rattle.objective.proofs.Follows.{follows as differences_follow, told_within}
use Rattle.quasinewton_model.specs.declared.Model.{Model}
use Rattle.linesearch_moves.specs.declared.Search.{Search}
use Rattle.linesearch.specs.Step as linesearch
use Rattle.linesearch.specs.Step.{asks_gradient, asks_difference}
use Rattle.linesearch_theory.specs.Algorithm.{WolfeResult, gives}
use Rattle.linesearch_theory.specs.Follows as searches
use Rattle.linesearch_theory.proofs.Follows.{search_follows}
use Rattle.quasinewton_record.specs.declared.Fixed.{Fixed}
use Rattle.quasinewton_record.specs.declared.Descent.{Descent}
use Rattle.quasinewton.specs.Step as step
use Rattle.quasinewton.specs.Step.{first_value, first_gradient, first_differences, searching, in_phase, refused_by, with_line, with_search, with_diff, valued_at, search_fixed, graded_of, differing_of, valued_of, probe_of, asks_of, told_of, told_gradient_of}
use Rattle.quasinewton_theory.specs.Algorithm.{GradientPosition, concluded}
use Rattle.quasinewton_theory.specs.Follows.{position_of, graded, valued, to_do, kind_of, heard_of, DescentShaped}

module _ (fixed : Fixed) (m : Model) where
  abbrev n : ℕ
  n = fixed.n

  abbrev at : Descent → GradientPosition
  at q = position_of fixed q m

  abbrev does : Descent → Ask (Ending GradientPosition)
  does q = to_do fixed q m

  graded_does : (q : Descent) (g : List Float) → finish (graded (at q) (first n g)) ≡ does (graded_of fixed q g)
  unfolding graded_of
  graded_does q g = rw (← ties.all_finite_lem g n) (go (all_finite_of g n))
    where
      w : Descent
      w = with_line q step.at_head (record { x = q.line.x; g = g; d = q.line.d; f = q.line.f; slope = q.line.slope })

      go : (b : Bool) → finish (cond (not b) (fails 19 0) (at_head (at w))) ≡ does (cond (not b) (refused_by w (record { number = 19; detail = 0 })) w)
      go true = refl
      go false = refl

  -- the differences go on, or are done
  differing_does : (q : Descent) (e : Differences) → e.at ≤ n → differences.to_do read_of n e >>= (λ g. finish (graded (at q) g)) ≡ does (differing_of fixed q e)
  unfolding differing_of ◌>>=◌
  differing_does q e i = go (ltb e.at n) refl
    where
      go : (b : Bool) → ltb e.at n ≡ b → differences.to_do read_of n e >>= (λ g. finish (graded (at q) g)) ≡ does (cond b (with_diff q first_differences e) (graded_of fixed q e.g))
      go true j = refl
      go false j =
          let done : e.at ≡ n = omega (arith, ltb-false e.at n j) in
          ap (λ (t : Ask (List Float)). t >>= (λ g. finish (graded (at q) g))) ((differences_follow read_of).ends n e done) ∙ graded_does q e.g

  valued_does : (q : Descent) (v : Float) → valued (at q) v ≡ does (valued_of fixed q v)
  unfolding valued_of objective.begun_of ◌>>=◌
  valued_does q v = go (finite_of v) fixed.options.gradients
    where
      w : Descent
      w = with_line q first_gradient (valued_at q q.line.x v)

      x : List Float
      x = first n q.line.x

      go : (b c : Bool)
          → cond (not b) (finish (fails 18 0)) (cond c (query Gradient x (λ u. finish (first (length x) u))) (algorithm.differences read_of x) >>= λ g. finish (graded (at w) g))
          ≡ does (cond (not b) (refused_by w (record { number = 18; detail = 0 })) (cond c w (differing_of fixed w (objective.begun_of q.line.x))))
      go false c = refl
      go true true = rw (point_laws.listed n q.line.x)
      go true false =
          ap (λ (t : Ask (List Float)). t >>= (λ g. finish (graded (at w) g))) ((differences_follow read_of).begins n q.line.x)
          ∙ differing_does w (objective.begun_of q.line.x) zero-le

  -- ---- the open question, by its phase

  -- the text goes on as the record does
  abbrev Follows : Descent → Type 0
  Follows q = does q ≡ query (kind_of fixed q) (first n (probe_of fixed q)) (λ w. does (heard_of fixed q w))

  valuing : (q : Descent) (p : ℕ) → p ≡ first_value → Follows (in_phase q p)
  unfolding probe_of told_of ◌>>=◌
  valuing q p e = rw e (ap (query Value (first n q.line.x)) (fun_ext (λ w. valued_does (in_phase q first_value) (read_of (get_or w 0 nan)))))

  grading : (q : Descent) (p : ℕ) → p ≡ first_gradient → Follows (in_phase q p)
  unfolding probe_of told_gradient_of
  grading q p e =
      rw e (ap (query Gradient (first n q.line.x))
      (fun_ext (λ w. ap (λ (g : List Float). finish (graded (at q) g)) (sym (ties.from_slice w n)) ∙ graded_does (in_phase q first_gradient) (from_slice_of w n))))

  differing : (q : Descent) (p : ℕ) → p ≡ first_differences → differences.DifferencesSized n q.diff → q.diff.at < n → Follows (in_phase q p)
  unfolding probe_of told_of ◌>>=◌
  differing q p e z i =
      rw (e, lt-ltb _ _ i)
      (ap (λ (t : Ask (List Float)). t >>= (λ g. finish (graded (at q) g))) ((differences_follow read_of).follows n q.diff z i)
      ∙ ap (query Value (first n (objective.probe_of q.diff)))
      (fun_ext (λ w. differing_does (in_phase q first_differences) (objective.told_of q.diff (read_of (get_or w 0 nan))) (told_within n q.diff (read_of (get_or w 0 nan)) i))))

  -- the search's own question, and its answer carried in
  pub in_search : (q : Descent) (p : ℕ) → p ≡ searching → searches.SearchShaped (search_fixed fixed) q.search → q.search.phase ≤ asks_difference → Follows (in_phase q p)
  unfolding probe_of told_of told_gradient_of ◌>>=◌
  in_search q p e z i =
      rw e
      (ap (λ (t : Ask WolfeResult). t >>= rest) ((search_follows read_of (search_fixed fixed) q.line).follows q.search z i)
      ∙ ap (query (searches.kind_of q.search) (first n (linesearch.probe_of (search_fixed fixed) q.line q.search))) (fun_ext (λ w. go (eqb q.search.phase asks_gradient) w)))
    where
      rest : WolfeResult → Ask (Ending GradientPosition)
      rest r = finish (concluded (at q) (gives r))

      now : Descent
      now = in_phase q searching

      graded_by : List Float → Search
      graded_by w = linesearch.told_gradient_of (search_fixed fixed) q.line q.search (from_slice_of w n)

      valued_by : List Float → Search
      valued_by w = linesearch.told_of (search_fixed fixed) q.line q.search (read_of (get_or w 0 nan)) (read_of (get_or w 0 nan))

      go : (b : Bool) (w : List Float)
          → searches.to_do read_of (search_fixed fixed) q.line (cond b (graded_by w) (valued_by w)) >>= rest ≡ does (cond b (with_search now (graded_by w)) (with_search now (valued_by w)))
      go true w = refl
      go false w = refl

  third : (p : ℕ) → first_value ≤ p → p ≤ first_differences → (p ≡ first_value → ⊥) → (p ≡ first_gradient → ⊥) → p ≡ first_differences
  third p a b d e = omega arith

  -- a question of the opening
  pub in_opening : (q : Descent) → DescentShaped fixed q → q.phase ≤ first_differences → Follows q
  in_opening q z i = go (eqb q.phase first_value) refl (eqb q.phase first_gradient) refl
    where
      go : (b : Bool) → eqb q.phase first_value ≡ b → (c : Bool) → eqb q.phase first_gradient ≡ c → Follows q
      go true e c f = valuing q q.phase (eqb-true q.phase first_value e)
      go false e true f = grading q q.phase (eqb-true q.phase first_gradient f)
      go false e false f =
          let last = third q.phase z.least i (eqb-false q.phase first_value e) (eqb-false q.phase first_gradient f) in
          differing q q.phase last z.parts.diff (z.asked last)

  pub follows : (q : Descent) → DescentShaped fixed q → asks_of q ≡ true → Follows q
  unfolding asks_of
  follows q z h = go (eqb q.phase searching) refl
    where
      by : (b : Bool) → eqb q.phase searching ≡ b → cond b (leb q.search.phase asks_difference) (leb q.phase first_differences) ≡ true
      by b e = sym (ap (λ (c : Bool). cond c (leb q.search.phase asks_difference) (leb q.phase first_differences)) e) ∙ h

      go : (b : Bool) → eqb q.phase searching ≡ b → Follows q
      go true e = in_search q q.phase (eqb-true q.phase searching e) z.parts.search (leb-true _ _ (by true e))
      go false e = in_opening q z (leb-true _ _ (by false e))
