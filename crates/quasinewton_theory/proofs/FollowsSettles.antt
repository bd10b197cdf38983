-- The record starts with the opening to do (`starts`), goes on through the head of a round as the text does (`settles`), and has ended where it does not ask (`ended`); texts go on as
-- protocol has it (`settles_as_fits`). Assumes nothing.
use Prim.Native.Nat.{ℕ, ◌≤◌, ◌<◌}
use mathlib.Core.Path.{◌≡◌, refl, sym, ap, ◌∙◌}
use mathlib.Core.Bool.{Bool, true, false, cond}
use mathlib.Core.Logic.{inr}
use mathlib.Core.List.{List}
use native.Mathlib.Omega.{arith}
use borrow.Author.Tests.{eqb-true, eqb-false, ne_eqb, leb-true, leb-false}
use lib.Dec.{leb, eqb}
use lib.Ieee.{Float}
use Rattle.vector.specs.Lists.{first}
use Rattle.vector.proofs.First.{point_laws}
use Rattle.protocol.specs.declared.SimplexOptions.{SimplexOptions}
use Rattle.protocol.specs.Protocol.{read_of}
use Rattle.protocol.specs.Ask.{Ask, finish, query, ◌>>=◌}
use Rattle.protocol.specs.Rounds.{Ending, at_head, stops, fails, Verdict, go_on, stop, restart, Rounds, FitLimits, reached}
use Rattle.protocol.specs.Rounds as rounds
use Rattle.protocol.specs.Fits.{map_text, map_verdict, fits}
use Rattle.quasinewton_model.specs.declared.Model.{Model}
use Rattle.quasinewton_model.specs.Step.{new_model_of}
use Rattle.quasinewton_model_theory.specs.Ties as hessian
use Rattle.quasinewton_model_theory.proofs.Ties.{hessian_ties}
use Rattle.linesearch_moves.specs.declared.Search.{Search}
use Rattle.linesearch.specs.Step.{asks_difference, found, failed}
use Rattle.linesearch_theory.specs.Algorithm.{WolfeResult, gives}
use Rattle.linesearch_theory.specs.Follows as searches
use Rattle.linesearch_theory.proofs.Follows.{search_follows}
use Rattle.quasinewton_record.specs.declared.Fixed.{Fixed}
use Rattle.quasinewton_record.specs.declared.Descent.{Descent}
use Rattle.quasinewton.specs.Step as step
use Rattle.quasinewton.specs.Step.{first_value, first_gradient, first_differences, searching, by_refusal, in_phase, search_fixed, Moved, moved, missed_of, succeeded_of, settled_of, asks_of, start_of}
use Rattle.quasinewton_theory.specs.Algorithm.{GradientPosition, concluded, tests, opened, quasi_newton}
use Rattle.quasinewton_theory.specs.Follows.{position_of, reason_of, ending_of, to_do, allowed, headed, settled, GradientSettlesAsFits, GradientAllows, DescentShaped, DescentStands}
use Rattle.quasinewton_theory.proofs.FollowsRound.{head_does}
use Rattle.quasinewton_theory.proofs.FollowsEnds.{missed_settles, succeeded_settles}
use Rattle.quasinewton_theory.proofs.FollowsAnswers.{in_search, in_opening}

-- ---- texts go on as protocol has it

module _ (A : Rounds SimplexOptions) (l : FitLimits) (v : ℕ) (p : GradientPosition) where
  allowed_as : (over full : Bool) → rounds.allowed (fits A quasi_newton) over full (inr p) ≡ map_text inr (allowed over full p)
  unfolding ◌>>=◌
  allowed_as true full = refl
  allowed_as false true = refl
  allowed_as false false = refl

  headed_as : (y : Verdict GradientPosition) → rounds.headed (fits A quasi_newton) l v (map_verdict inr y) (inr p) ≡ map_text inr (headed l v y p)
  unfolding ◌>>=◌
  headed_as go_on = allowed_as (reached p.iterations l.iter) (reached v l.fevals)
  headed_as (stop y) = refl
  headed_as (restart m) = refl

pub settles_as_fits : GradientSettlesAsFits
unfolding ◌>>=◌
settles_as_fits A l v (query k x c) = refl
settles_as_fits A l v (finish (at_head p)) = headed_as A l v p (tests p)
settles_as_fits A l v (finish (stops y p)) = refl
settles_as_fits A l v (finish (fails k d)) = refl

module _ (fixed : Fixed) where
  abbrev n : ℕ
  n = fixed.n

  -- ---- the start

  pub starts : (limited : Bool) (x : List Float) → n ≤ 16 → to_do fixed (start_of x) (new_model_of limited fixed.options.memory n) ≡ opened limited fixed.options (first n x)
  unfolding start_of ◌>>=◌
  starts limited x small = rw ((hessian_ties n small).new_of limited fixed.options.memory, point_laws.listed n x)

  -- ---- a fit that has ended

  between : (p : ℕ) → first_differences < p → (p ≡ first_value → ⊥) × (p ≡ first_gradient → ⊥) × (p ≡ first_differences → ⊥)
  between p h = (λ e. omega arith, λ e. omega arith, λ e. omega arith)

  ended_does : (q : Descent) (m : Model) → first_differences < q.phase → eqb q.phase searching ≡ false → eqb q.phase step.at_head ≡ false → to_do fixed q m ≡ finish (ending_of fixed q m)
  ended_does q m h e f =
      let b = between q.phase h in
      rw (ne_eqb q.phase first_value b.0, ne_eqb q.phase first_gradient b.1, ne_eqb q.phase first_differences b.2, e, f)

  pub ended : (q : Descent) (m : Model) → DescentShaped fixed q → DescentStands q → asks_of q ≡ false → to_do fixed q m ≡ finish (ending_of fixed q m)
  unfolding asks_of
  ended q m z s h = go (eqb q.phase searching) refl
    where
      by : (b : Bool) → eqb q.phase searching ≡ b → cond b (leb q.search.phase asks_difference) (leb q.phase first_differences) ≡ false
      by b e = sym (ap (λ (c : Bool). cond c (leb q.search.phase asks_difference) (leb q.phase first_differences)) e) ∙ h

      go : (b : Bool) → eqb q.phase searching ≡ b → to_do fixed q m ≡ finish (ending_of fixed q m)
      go true e =
          let i : q.search.phase ≤ asks_difference = s.asking (eqb-true q.phase searching e) in
          absurd (omega (arith, i, leb-false q.search.phase asks_difference (by true e)))
      go false e = ended_does q m (leb-false _ _ (by false e)) e (ne_eqb q.phase step.at_head (λ f. omega (arith, s.most)))

  -- ---- from a place to the next
  module _ (m : Model) (k : FitLimits) (v : ℕ) (allows : GradientAllows fixed k v) (sized : hessian.ModelSized m) where
    -- what the record and the model have to do
    abbrev goes : Moved → Ask (Ending GradientPosition)
    goes w = to_do fixed w.descent w.model

    from_head : (q : Descent) (p : ℕ) → p ≡ step.at_head → n ≤ 16 → settled k v (to_do fixed (in_phase q p) m) ≡ goes (settled_of fixed (in_phase q p) m v)
    unfolding settled_of
    from_head q p e small = rw e (head_does fixed m small sized (in_phase q step.at_head) k v allows)

    from_search : (q : Descent) (p : ℕ) → p ≡ searching → n ≤ 16 → searches.SearchShaped (search_fixed fixed) q.search → settled k v (to_do fixed (in_phase q p) m) ≡ goes (settled_of fixed (in_phase q p) m v)
    unfolding settled_of ◌>>=◌
    from_search q p e small z = rw e (go (eqb s.phase found) refl (eqb s.phase failed) refl)
      where
        s : Search
        s = q.search

        now : Descent
        now = in_phase q searching

        rest : WolfeResult → Ask (Ending GradientPosition)
        rest r = finish (concluded (position_of fixed q m) (gives r))

        still : s.phase ≤ asks_difference → settled k v (searches.to_do read_of (search_fixed fixed) q.line s >>= rest) ≡ to_do fixed now m
        still i = ap (settled k v) (in_search fixed m q searching refl z i) ∙ sym (in_search fixed m q searching refl z i)

        go : (b : Bool) → eqb s.phase found ≡ b → (c : Bool) → eqb s.phase failed ≡ c
            → settled k v (searches.to_do read_of (search_fixed fixed) q.line s >>= rest)
            ≡ goes (cond b (succeeded_of fixed now m s.best v) (cond c (moved (missed_of now s.best) m) (moved now m)))
        go true i c j =
            ap (λ (t : Ask WolfeResult). settled k v (t >>= rest)) ((search_follows read_of (search_fixed fixed) q.line).ends_found s (eqb-true _ _ i))
            ∙ (succeeded_settles fixed small k v allows now m s.best sized).settles
        go false i true j =
            ap (λ (t : Ask WolfeResult). settled k v (t >>= rest)) ((search_follows read_of (search_fixed fixed) q.line).ends_failed s (eqb-true _ _ j))
            ∙ (missed_settles fixed small k v allows now m s.best).settles
        go false i false j = still (omega (arith, z.most, eqb-false s.phase found i, eqb-false s.phase failed j))

    -- an ending that is not at a head stays
    ending_stays : (q : Descent) → settled k v (finish (ending_of fixed q m)) ≡ finish (ending_of fixed q m)
    ending_stays q = go (eqb q.phase by_refusal)
      where
        by : Bool → Ask (Ending GradientPosition)
        by b = finish (cond b (fails q.number q.detail) (stops (reason_of q.phase) (position_of fixed q m)))

        go : (b : Bool) → settled k v (by b) ≡ by b
        go true = refl
        go false = refl

    elsewhere : (q : Descent) → DescentShaped fixed q → eqb q.phase step.at_head ≡ false → eqb q.phase searching ≡ false → settled k v (to_do fixed q m) ≡ to_do fixed q m
    elsewhere q z e f = go (leb q.phase first_differences) refl
      where
        go : (b : Bool) → leb q.phase first_differences ≡ b → settled k v (to_do fixed q m) ≡ to_do fixed q m
        go true h =
            let i = leb-true q.phase first_differences h in
            ap (settled k v) (in_opening fixed m q z i) ∙ sym (in_opening fixed m q z i)
        go false h =
            let i = ended_does q m (leb-false q.phase first_differences h) f e in
            ap (settled k v) i ∙ ending_stays q ∙ sym i

    stays : (q : Descent) → eqb q.phase step.at_head ≡ false → eqb q.phase searching ≡ false → settled_of fixed q m v ≡ moved q m
    unfolding settled_of
    stays q e f = rw (e, f)

    pub settles : (q : Descent) → DescentShaped fixed q → settled k v (to_do fixed q m) ≡ goes (settled_of fixed q m v)
    settles q z = go (eqb q.phase step.at_head) refl (eqb q.phase searching) refl
      where
        go : (b : Bool) → eqb q.phase step.at_head ≡ b → (c : Bool) → eqb q.phase searching ≡ c → settled k v (to_do fixed q m) ≡ goes (settled_of fixed q m v)
        go true e c f = from_head q q.phase (eqb-true _ _ e) z.small
        go false e true f = from_search q q.phase (eqb-true _ _ f) z.small z.parts.search
        go false e false f = elsewhere q z e f ∙ ap goes (sym (stays q e f))
