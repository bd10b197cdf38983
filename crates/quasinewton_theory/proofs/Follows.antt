-- The record of a gradient fit follows the Algorithm, whatever is told, and its sizes and zeros last: `gradient_follows`. Assumes nothing.
use Prim.Native.Nat.{ℕ, ◌≤◌, zero-le}
use mathlib.Core.Path.{◌≡◌, refl}
use mathlib.Core.Bool.{Bool, true, false, not, cond}
use mathlib.Core.List.{List}
use native.Mathlib.Omega.{arith}
use borrow.Author.Tests.{ltb-true}
use lib.Dec.{ltb, eqb}
use lib.ListN.{get_or, length-replicate, get_or-replicate}
use lib.Ieee.{Float, nan}
use Rattle.float.specs.Binary64.{plus_zero}
use Rattle.vector.specs.Points.{from_slice_of, negation_of, all_finite_of, difference_of}
use Rattle.vector.proofs.First.{point_laws}
use Rattle.vector.specs.Ties.{ZeroFrom}
use Rattle.protocol.specs.Protocol.{read_of}
use Rattle.objective.specs.declared.Differences.{Differences}
use Rattle.objective.specs.Step as objective
use Rattle.objective.specs.Follows as differences
use Rattle.objective.proofs.Follows.{follows as differences_follow}
use Rattle.quasinewton_model.specs.declared.Model.{Model}
use Rattle.quasinewton_model.specs.Step.{update_of}
use Rattle.quasinewton_model_theory.specs.Ties as hessian
use Rattle.quasinewton_model_theory.proofs.Ties.{hessian_ties}
use Rattle.linesearch_trials.specs.declared.Evaluation.{Evaluation}
use Rattle.linesearch_trials.specs.declared.Line.{Line}
use Rattle.linesearch_moves.specs.declared.Search.{Search}
use Rattle.linesearch.specs.Step as linesearch
use Rattle.linesearch_theory.specs.Follows as searches
use Rattle.linesearch_theory.proofs.Follows.{search_follows}
use Rattle.quasinewton_record.specs.declared.Fixed.{Fixed}
use Rattle.quasinewton_record.specs.declared.Descent.{Descent}
use Rattle.quasinewton.specs.Step as step
use Rattle.quasinewton.specs.Step.{first_differences, searching, search_fixed, zeros, stores_of, small_decrease_of, small_step_of, Moved, stored_of, succeeded_of, settled_of, probe_of, told_of, told_gradient_of, start_of}
use Rattle.quasinewton_theory.specs.Follows.{wants_gradient, heard_of, Sixteen, DescentShaped, DescentZeroPast, GradientFollows}
use Rattle.quasinewton_theory.proofs.FollowsEnds.{stored_sized}
use Rattle.quasinewton_theory.proofs.FollowsAnswers.{follows}
use Rattle.quasinewton_theory.proofs.FollowsSettles.{starts, ended, settles}
use Rattle.quasinewton_theory.proofs.FollowsShape.{Lasting, Makes, told_lasts, told_gradient_lasts, settled_lasts}
use Rattle.quasinewton_theory.proofs.FollowsStands.{start_stands, settled_stands}

zeros16 : Sixteen zeros
zeros16 = length-replicate 16 plus_zero

zeros_zero : (n : ℕ) → ZeroFrom n zeros
zeros_zero n k i j = get_or-replicate 16 k plus_zero nan j

start_zeros : (n : ℕ) (x : List Float) → ZeroFrom n x → DescentZeroPast n (start_of x)
unfolding start_of
start_zeros n x h =
    let none = zeros_zero n in
    let diff = (differences_follow read_of).begun_zeros n zeros none in
    record { point = h; gradient = none; direction = none; search = record { point = none; gradient = none; diff = diff }; diff = diff }

module _ (fixed : Fixed) (small : fixed.n ≤ 16) where
  abbrev n : ℕ
  n = fixed.n

  -- ---- sizes

  abbrev Sized : Search → Type 0
  Sized = searches.SearchShaped (search_fixed fixed)

  searching_on : (l : Line) → searches.SearchFollows read_of (search_fixed fixed) l
  searching_on l = search_follows read_of (search_fixed fixed) l

  line16 : (l : Line) → Sixteen l.x → Sixteen l.g → searches.LineHas Sixteen l
  line16 l x g = record { point = x; gradient = g }

  sizes : Makes fixed Sixteen Sized (differences.DifferencesSized n)
  unfolding negation_of
  sizes =
      record {
        direction_of_lem = λ m g. (hessian_ties n small).direction_wide m g;
        negation_of_lem = λ g. point_laws.width _ n small;
        best_point = λ s h. h.point16;
        best_gradient = λ s h. h.gradient16;
        search_begun = λ l a x g. (searching_on l).begun_shaped a small (line16 l x g);
        search_told = λ l s v x g h. (searching_on l).told_shaped s v v (line16 l x g) h;
        search_graded = λ l s g i x y h. (searching_on l).told_gradient_shaped s g i (line16 l x y) h;
        diff_begun = λ x h. (differences_follow read_of).begun_sized n x small h;
        diff_told = λ e v i h. (differences_follow read_of).told_sized n e v h i;
        diff_gradient = λ e h. h.gradient16;
      }

  -- ---- sizes and zeros at once

  abbrev Array : List Float → Type 0
  Array x = Sixteen x × ZeroFrom n x

  abbrev Seeks : Search → Type 0
  Seeks s = Sized s × searches.SearchZeroPast n s

  abbrev Differs : Differences → Type 0
  Differs e = differences.DifferencesSized n e × differences.DifferencesZeroPast n e

  line_zeros : (l : Line) → Array l.x → Array l.g → searches.LineHas (ZeroFrom n) l
  line_zeros l x g = record { point = x.1; gradient = g.1 }

  sizes_and_zeros : Makes fixed Array Seeks Differs
  unfolding negation_of
  sizes_and_zeros =
      record {
        direction_of_lem = λ m g. ((hessian_ties n small).direction_wide m g, (hessian_ties n small).direction_zeros m g);
        negation_of_lem = λ g. (point_laws.width _ n small, λ k i j. point_laws.past _ n k i j);
        best_point = λ s h. (h.0.point16, h.1.point);
        best_gradient = λ s h. (h.0.gradient16, h.1.gradient);
        search_begun = λ l a x g. (sizes.search_begun l a x.0 g.0, (searching_on l).begun_zeros a (line_zeros l x g));
        search_told = λ l s v x g h. (sizes.search_told l s v x.0 g.0 h.0, (searching_on l).told_zeros s v v (line_zeros l x g) h.0 h.1);
        search_graded = λ l s g i x y h. (sizes.search_graded l s g i.0 x.0 y.0 h.0, (searching_on l).told_gradient_zeros s g i.1 (line_zeros l x y) h.0 h.1);
        diff_begun = λ x h. (sizes.diff_begun x h.0, (differences_follow read_of).begun_zeros n x h.1);
        diff_told = λ e v i h. (sizes.diff_told e v i h.0, (differences_follow read_of).told_zeros n e v i h.1);
        diff_gradient = λ e h. (h.0.gradient16, h.1.gradient);
      }

  lasting : (q : Descent) → DescentShaped fixed q → Lasting fixed Sixteen Sized (differences.DifferencesSized n) q
  lasting q z = record { least = z.least; most = z.most; rounds = z.rounds; asked = z.asked; parts = z.parts }

  shaped : (q : Descent) → 1 ≤ n → Lasting fixed Sixteen Sized (differences.DifferencesSized n) q → DescentShaped fixed q
  shaped q some h = record { positive = some; small = small; least = h.least; most = h.most; rounds = h.rounds; asked = h.asked; parts = h.parts }

  lasting_zeros : (q : Descent) → DescentShaped fixed q → DescentZeroPast n q → Lasting fixed Array Seeks Differs q
  lasting_zeros q z h =
      record {
        least = z.least;
        most = z.most;
        rounds = z.rounds;
        asked = z.asked;
        parts =
            record {
              point = (z.parts.point, h.point);
              gradient = (z.parts.gradient, h.gradient);
              direction = (z.parts.direction, h.direction);
              search = (z.parts.search, h.search);
              diff = (z.parts.diff, h.diff);
            };
      }

  zeros_last : (q : Descent) → Lasting fixed Array Seeks Differs q → DescentZeroPast n q
  zeros_last q h = record { point = h.parts.point.1; gradient = h.parts.gradient.1; direction = h.parts.direction.1; search = h.parts.search.1; diff = h.parts.diff.1 }

  -- ---- the start

  start_shaped : (x : List Float) → 1 ≤ n → Sixteen x → DescentShaped fixed (start_of x)
  unfolding start_of objective.begun_of
  start_shaped x some h =
      record {
        positive = some;
        small = small;
        least = omega arith;
        most = omega arith;
        rounds = zero-le;
        asked = λ e. omega (arith, e);
        parts =
            record {
              point = h;
              gradient = zeros16;
              direction = zeros16;
              search =
                  record {
                    small = small;
                    least = omega arith;
                    most = omega arith;
                    trials = zero-le;
                    point16 = zeros16;
                    gradient16 = zeros16;
                    diff = (differences_follow read_of).begun_sized n zeros small zeros16;
                    asked = λ e. omega (arith, e);
                  };
              diff = (differences_follow read_of).begun_sized n zeros small zeros16;
            };
      }

  -- ---- answers

  told_shaped : (q : Descent) (v : Float) → DescentShaped fixed q → DescentShaped fixed (told_of fixed q v)
  told_shaped q v z = shaped (told_of fixed q v) z.positive (told_lasts fixed _ _ _ sizes q v (lasting q z))

  told_gradient_shaped : (q : Descent) (g : List Float) → Sixteen g → DescentShaped fixed q → DescentShaped fixed (told_gradient_of fixed q g)
  told_gradient_shaped q g h z = shaped (told_gradient_of fixed q g) z.positive (told_gradient_lasts fixed _ _ _ sizes q g h (lasting q z))

  told_zeros : (q : Descent) (v : Float) → DescentShaped fixed q → DescentZeroPast n q → DescentZeroPast n (told_of fixed q v)
  told_zeros q v z h = zeros_last (told_of fixed q v) (told_lasts fixed _ _ _ sizes_and_zeros q v (lasting_zeros q z h))

  told_gradient_zeros : (q : Descent) (g : List Float) → Sixteen g → ZeroFrom n g → DescentShaped fixed q → DescentZeroPast n q → DescentZeroPast n (told_gradient_of fixed q g)
  told_gradient_zeros q g l k z h = zeros_last (told_gradient_of fixed q g) (told_gradient_lasts fixed _ _ _ sizes_and_zeros q g (l, k) (lasting_zeros q z h))

  -- n words make a point of sixteen
  words16 : (w : List Float) → Sixteen (from_slice_of w n)
  unfolding from_slice_of
  words16 w = point_laws.width _ n small

  words_zero : (w : List Float) → ZeroFrom n (from_slice_of w n)
  unfolding from_slice_of
  words_zero w k i j = point_laws.past _ n k i j

  heard_shaped : (q : Descent) (w : List Float) → DescentShaped fixed q → DescentShaped fixed (heard_of fixed q w)
  heard_shaped q w z = go (wants_gradient fixed q)
    where
      go : (b : Bool) → DescentShaped fixed (cond b (told_gradient_of fixed q (from_slice_of w n)) (told_of fixed q (read_of (get_or w 0 nan))))
      go true = told_gradient_shaped q (from_slice_of w n) (words16 w) z
      go false = told_shaped q (read_of (get_or w 0 nan)) z

  heard_zeros : (q : Descent) (w : List Float) → DescentShaped fixed q → DescentZeroPast n q → DescentZeroPast n (heard_of fixed q w)
  heard_zeros q w z h = go (wants_gradient fixed q)
    where
      go : (b : Bool) → DescentZeroPast n (cond b (told_gradient_of fixed q (from_slice_of w n)) (told_of fixed q (read_of (get_or w 0 nan))))
      go true = told_gradient_zeros q (from_slice_of w n) (words16 w) (words_zero w) z h
      go false = told_zeros q (read_of (get_or w 0 nan)) z h

  -- ---- the model

  module _ (Q : Model → Type 0) where
    record Models (w : Moved) : Type 0 where
      models : Q w.model

    both : (b : Bool) {u w : Moved} → Models u → Models w → Models (cond b u w)
    both true h k = h
    both false h k = k

    succeeded_models : (q : Descent) (m : Model) (t : Evaluation) (v : ℕ) → Q m → Q (stored_of fixed q m t) → Models (succeeded_of fixed q m t v)
    unfolding succeeded_of
    succeeded_models q m t v h k =
        let o = fixed.options in
        both (not (all_finite_of t.g n)) (record { models = h })
        (both (small_decrease_of o.ftol q.line.f t.trial.value) (record { models = k }) (both (small_step_of o.xtol q.line.x t.x n) (record { models = k }) (record { models = k })))

    settled_models : (q : Descent) (m : Model) (v : ℕ) → Q m → Q (stored_of fixed q m q.search.best) → Models (settled_of fixed q m v)
    unfolding settled_of
    settled_models q m v h k =
        both (eqb q.phase step.at_head) (record { models = h })
        (both (not (eqb q.phase searching)) (record { models = h })
        (both (eqb q.search.phase linesearch.found) (succeeded_models q m q.search.best v h k)
        (both (eqb q.search.phase linesearch.failed) (record { models = h }) (record { models = h }))))

  stored_zeros : (q : Descent) (m : Model) (t : Evaluation) → hessian.ModelSized m → hessian.ModelZeroPast n m → hessian.ModelZeroPast n (stored_of fixed q m t)
  unfolding stored_of difference_of
  stored_zeros q m t z h = go (stores_of s y n)
    where
      s : List Float
      s = difference_of t.x q.line.x n

      y : List Float
      y = difference_of t.g q.line.g n

      go : (b : Bool) → hessian.ModelZeroPast n (cond b (update_of m s y n) m)
      go true = (hessian_ties n small).update_zeros m s y z (λ k i j. point_laws.past _ n k i j) (λ k i j. point_laws.past _ n k i j) h
      go false = h

  -- ---- on through a head

  settled_shaped : (q : Descent) (m : Model) (v : ℕ) → DescentShaped fixed q → hessian.ModelSized m → DescentShaped fixed (settled_of fixed q m v).descent × hessian.ModelSized (settled_of fixed q m v).model
  settled_shaped q m v z sized = (
    shaped (settled_of fixed q m v).descent z.positive (settled_lasts fixed _ _ _ sizes q m v (lasting q z)),
    (settled_models hessian.ModelSized q m v sized (stored_sized fixed small q m q.search.best sized)).models,
  )

  settled_zeros : (q : Descent) (m : Model) (v : ℕ) → DescentShaped fixed q → hessian.ModelSized m → DescentZeroPast n q → hessian.ModelZeroPast n m
      → DescentZeroPast n (settled_of fixed q m v).descent × hessian.ModelZeroPast n (settled_of fixed q m v).model
  settled_zeros q m v z sized h k = (
    zeros_last (settled_of fixed q m v).descent (settled_lasts fixed _ _ _ sizes_and_zeros q m v (lasting_zeros q z h)),
    (settled_models (hessian.ModelZeroPast n) q m v k (stored_zeros q m q.search.best sized k)).models,
  )

  -- ---- the open question

  pick : (b : Bool) (x y : List Float) → ZeroFrom n x → ZeroFrom n y → ZeroFrom n (cond b x y)
  pick true x y h k = h
  pick false x y h k = k

  probe_zeros : (q : Descent) → DescentShaped fixed q → DescentZeroPast n q → ZeroFrom n (probe_of fixed q)
  unfolding probe_of
  probe_zeros q z h =
      pick (eqb q.phase searching) _ _ ((searching_on q.line).probe_zeros q.search z.parts.search h.search)
      (pick (not (eqb q.phase first_differences)) _ _ h.point (go (ltb q.diff.at n) refl))
    where
      go : (b : Bool) → ltb q.diff.at n ≡ b → ZeroFrom n (cond b (objective.probe_of q.diff) q.diff.x)
      go true e = (differences_follow read_of).probe_zeros n q.diff (ltb-true q.diff.at n e) h.diff
      go false e = h.diff.point

pub gradient_follows : (fixed : Fixed) → GradientFollows fixed
gradient_follows fixed =
    record {
      starts = starts fixed;
      follows = λ q m z h. follows fixed m q z h;
      settles = λ q m l v allows z sized. settles fixed m l v allows sized q z;
      ends = ended fixed;
      start_shaped = λ x some small h. start_shaped fixed small x some h;
      start_stands = start_stands;
      told_shaped = λ q v z. told_shaped fixed z.small q v z;
      told_gradient_shaped = λ q g h z. told_gradient_shaped fixed z.small q g h z;
      heard_shaped = λ q w z. heard_shaped fixed z.small q w z;
      settled_shaped = λ q m v z sized. settled_shaped fixed z.small q m v z sized;
      settled_stands = settled_stands fixed;
      start_zeros = start_zeros fixed.n;
      told_zeros = λ q v z h. told_zeros fixed z.small q v z h;
      told_gradient_zeros = λ q g l k z h. told_gradient_zeros fixed z.small q g l k z h;
      heard_zeros = λ q w z h. heard_zeros fixed z.small q w z h;
      settled_zeros = λ q m v z sized h k. settled_zeros fixed z.small q m v z sized h k;
      probe_zeros = λ q z h. probe_zeros fixed z.small q z h;
    }
