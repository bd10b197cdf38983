-- Whatever is told, the phase is known and rounds stay within the allowance, and what every array made anew has, all arrays of the record keep: `told_lasts`, `told_gradient_lasts` and
-- `settled_lasts`. Assumes nothing.
use Prim.Native.Nat.{ℕ, ◌+◌, ◌≤◌, ◌<◌}
use mathlib.Core.Path.{◌≡◌, refl}
use mathlib.Core.Bool.{Bool, true, false, not, cond}
use mathlib.Core.List.{List}
use native.Mathlib.Omega.{arith}
use borrow.Author.Tests.{leb-false, ltb-true}
use lib.Dec.{leb, ltb, eqb}
use lib.Ieee.{Float, neg, lt, le}
use Rattle.float.specs.Binary64.{plus_zero}
use Rattle.float.specs.Values.{finite_of}
use Rattle.vector.specs.Points.{dot_of, negation_of, inf_norm_of, all_finite_of}
use Rattle.protocol.specs.declared.Refusal.{Refusal}
use Rattle.objective.specs.declared.Differences.{Differences}
use Rattle.objective.specs.Step as objective
use Rattle.quasinewton_model.specs.declared.Model.{Model}
use Rattle.quasinewton_model.specs.Step.{direction_of}
use Rattle.linesearch_trials.specs.declared.Evaluation.{Evaluation}
use Rattle.linesearch_trials.specs.declared.Line.{Line}
use Rattle.linesearch_moves.specs.declared.Search.{Search}
use Rattle.linesearch_trials.specs.Start.{line_from_of, options_refusal_of, counts_refusal_of, line_refusal_of}
use Rattle.linesearch.specs.Step as linesearch
use Rattle.quasinewton_record.specs.declared.Fixed.{Fixed}
use Rattle.quasinewton_record.specs.declared.Descent.{Descent}
use Rattle.quasinewton.specs.Step as step
use Rattle.quasinewton.specs.Step.{first_value, first_gradient, first_differences, searching, by_gradient, by_function, by_step, by_iterations, by_fevals, by_search, by_gradient_failed, by_refusal, small_decrease_of, small_step_of, initial_step_of, not_descending_of, in_phase, refused_by, with_line, with_search, with_diff, valued_at, search_fixed, sought_of, searched_of, steepest_of, directed_of, headed_of, lower_of, missed_of, stepped_of, Moved, stored_of, succeeded_of, settled_of, graded_of, differing_of, valued_of, told_of, told_gradient_of}
use Rattle.quasinewton_theory.specs.Follows.{EveryPart}

-- what lasts, where P is of the line's arrays, S of the search and D of the differences
pub record Lasting (fixed : Fixed) (P : List Float → Type 0) (S : Search → Type 0) (D : Differences → Type 0) (q : Descent) : Type 0 where
  pub least : first_value ≤ q.phase
  pub most : q.phase ≤ step.at_head
  pub rounds : q.rounds ≤ fixed.iter
  pub asked : q.phase ≡ first_differences → q.diff.at < fixed.n
  pub parts : EveryPart P S D q

-- an array that is made anew has P; a search that is begun or told has S, and its best trial P; differences that are begun or told have D, and their gradient P
pub record Makes (fixed : Fixed) (P : List Float → Type 0) (S : Search → Type 0) (D : Differences → Type 0) : Type 0 where
  pub direction_of_lem : (m : Model) (g : List Float) → P (direction_of m g fixed.n)
  pub negation_of_lem : (g : List Float) → P (negation_of g fixed.n)
  pub best_point : (s : Search) → S s → P s.best.x
  pub best_gradient : (s : Search) → S s → P s.best.g
  pub search_begun : (l : Line) (a : Float) → P l.x → P l.g → S (linesearch.begun_of (search_fixed fixed) l a)
  pub search_told : (l : Line) (s : Search) (v : Float) → P l.x → P l.g → S s → S (linesearch.told_of (search_fixed fixed) l s v v)
  pub search_graded : (l : Line) (s : Search) (g : List Float) → P g → P l.x → P l.g → S s → S (linesearch.told_gradient_of (search_fixed fixed) l s g)
  pub diff_begun : (x : List Float) → P x → D (objective.begun_of x)
  pub diff_told : (e : Differences) (v : Float) → e.at < fixed.n → D e → D (objective.told_of e v)
  pub diff_gradient : (e : Differences) → D e → P e.g

module _ (fixed : Fixed) (P : List Float → Type 0) (S : Search → Type 0) (D : Differences → Type 0) (makes : Makes fixed P S D) where
  abbrev n : ℕ
  n = fixed.n

  abbrev Last : Descent → Type 0
  Last q = Lasting fixed P S D q

  both : (b : Bool) {u w : Descent} → Last u → Last w → Last (cond b u w)
  both true h k = h
  both false h k = k

  -- with the parts of q
  keeps : (q : Descent) (p k d : ℕ) (b : Bool) (r : ℕ) → first_value ≤ p → p ≤ step.at_head → r ≤ fixed.iter → (p ≡ first_differences → q.diff.at < n) → EveryPart P S D q
      → Last (record { phase = p; number = k; detail = d; first = b; rounds = r; line = q.line; search = q.search; diff = q.diff })
  keeps q p k d b r i j l a h =
      record { least = i; most = j; rounds = l; asked = a; parts = record { point = h.point; gradient = h.gradient; direction = h.direction; search = h.search; diff = h.diff } }

  -- in another phase, with the line l
  lined : (q : Descent) (p : ℕ) (l : Line) → first_value ≤ p → p ≤ step.at_head → (p ≡ first_differences → q.diff.at < n) → P l.x → P l.g → P l.d → Last q → Last (with_line q p l)
  lined q p l i j a x g d h =
      record { least = i; most = j; rounds = h.rounds; asked = a; parts = record { point = x; gradient = g; direction = d; search = h.parts.search; diff = h.parts.diff } }

  -- in a phase of a fit that has ended or stands at a head
  past : (q : Descent) (p : ℕ) → searching < p → p ≤ step.at_head → Last q → Last (in_phase q p)
  past q p i j h = keeps q p q.number q.detail q.first q.rounds (omega (arith, i)) j h.rounds (λ e. omega (arith, i, e)) h.parts

  refused : (q : Descent) (why : Refusal) → Last q → Last (refused_by q why)
  refused q why h = keeps q by_refusal why.number why.detail q.first q.rounds (omega arith) (omega arith) h.rounds (λ e. omega (arith, e)) h.parts

  -- ---- the opening

  graded_lasts : (q : Descent) (g : List Float) → P g → Last q → Last (graded_of fixed q g)
  unfolding graded_of
  graded_lasts q g i h =
      let l : Line = record { x = q.line.x; g = g; d = q.line.d; f = q.line.f; slope = q.line.slope } in
      let w = lined q step.at_head l (omega arith) (omega arith) (λ e. omega (arith, e)) h.parts.point i h.parts.direction h in
      both (not (all_finite_of g n)) (refused (with_line q step.at_head l) (record { number = 19; detail = 0 }) w) w

  differing_lasts : (q : Descent) (e : Differences) → D e → Last q → Last (differing_of fixed q e)
  unfolding differing_of
  differing_lasts q e i h = go (ltb e.at n) refl
    where
      go : (b : Bool) → ltb e.at n ≡ b → Last (cond b (with_diff q first_differences e) (graded_of fixed q e.g))
      go true j =
          let k = h.parts in
          record {
            least = omega arith;
            most = omega arith;
            rounds = h.rounds;
            asked = λ f. ltb-true e.at n j;
            parts = record { point = k.point; gradient = k.gradient; direction = k.direction; search = k.search; diff = i };
          }
      go false j = graded_lasts q e.g (makes.diff_gradient e i) h

  valued_lasts : (q : Descent) (v : Float) → Last q → Last (valued_of fixed q v)
  unfolding valued_of
  valued_lasts q v h =
      let l = valued_at q q.line.x v in
      let w = lined q first_gradient l (omega arith) (omega arith) (λ e. omega (arith, e)) h.parts.point h.parts.gradient h.parts.direction h in
      both (not (finite_of v)) (refused (with_line q first_gradient l) (record { number = 18; detail = 0 }) w)
      (both fixed.options.gradients w (differing_lasts (with_line q first_gradient l) (objective.begun_of q.line.x) (makes.diff_begun q.line.x h.parts.point) w))

  -- ---- answers

  searched_on : (q : Descent) (s : Search) → S s → Last q → Last (with_search q s)
  searched_on q s i h =
      let k = h.parts in
      record { least = h.least; most = h.most; rounds = h.rounds; asked = h.asked; parts = record { point = k.point; gradient = k.gradient; direction = k.direction; search = i; diff = k.diff } }

  pub told_lasts : (q : Descent) (v : Float) → Last q → Last (told_of fixed q v)
  unfolding told_of
  told_lasts q v h =
      let s = makes.search_told q.line q.search v h.parts.point h.parts.gradient h.parts.search in
      both (eqb q.phase searching) (searched_on q (linesearch.told_of (search_fixed fixed) q.line q.search v v) s h)
      (both (eqb q.phase first_value) (valued_lasts q v h) (both (not (eqb q.phase first_differences)) h (go (ltb q.diff.at n) refl)))
    where
      go : (b : Bool) → ltb q.diff.at n ≡ b → Last (cond b (differing_of fixed q (objective.told_of q.diff v)) q)
      go true i = differing_lasts q (objective.told_of q.diff v) (makes.diff_told q.diff v (ltb-true q.diff.at n i) h.parts.diff) h
      go false i = h

  pub told_gradient_lasts : (q : Descent) (g : List Float) → P g → Last q → Last (told_gradient_of fixed q g)
  unfolding told_gradient_of
  told_gradient_lasts q g i h =
      let s = makes.search_graded q.line q.search g i h.parts.point h.parts.gradient h.parts.search in
      both (eqb q.phase searching) (searched_on q (linesearch.told_gradient_of (search_fixed fixed) q.line q.search g) s h)
      (both (eqb q.phase first_gradient) (graded_lasts q g i h) h)

  -- ---- a round

  sought_lasts : (q : Descent) (d : List Float) (a : Float) → P d → Last q → Last (sought_of fixed q (line_from_of q.line.x d q.line.f q.line.g n) a)
  unfolding sought_of line_from_of
  sought_lasts q d a i h =
      let l = line_from_of q.line.x d q.line.f q.line.g n in
      record {
        least = omega arith;
        most = omega arith;
        rounds = h.rounds;
        asked = λ e. omega (arith, e);
        parts = record { point = h.parts.point; gradient = h.parts.gradient; direction = i; search = makes.search_begun l a h.parts.point h.parts.gradient; diff = h.parts.diff };
      }

  searched_lasts : (q : Descent) (d : List Float) → P d → Last q → Last (searched_of fixed q d)
  unfolding searched_of
  searched_lasts q d i h =
      let a = initial_step_of q.first d n in
      let options = options_refusal_of fixed.options.wolfe in
      let counts = counts_refusal_of n n n in
      let lent = line_refusal_of n (line_from_of q.line.x d q.line.f q.line.g n) a in
      both (not (eqb options.number 0)) (refused q options h)
      (both (not (eqb counts.number 0)) (refused q counts h) (both (not (eqb lent.number 0)) (refused q lent h) (sought_lasts q d a i h)))

  steepest_lasts : (q : Descent) → Last q → Last (steepest_of fixed q)
  unfolding steepest_of
  steepest_lasts q h =
      both (not_descending_of (neg (dot_of q.line.g q.line.g n))) (past q by_search (omega arith) (omega arith) h)
      (searched_lasts q (negation_of q.line.g n) (makes.negation_of_lem q.line.g) h)

  directed_lasts : (q : Descent) (d : List Float) → P d → Last q → Last (directed_of fixed q d)
  unfolding directed_of
  directed_lasts q d i h =
      both (not_descending_of (dot_of q.line.g d n)) (steepest_lasts q h) (both (not (all_finite_of d n)) (steepest_lasts q h) (searched_lasts q d i h))

  headed_lasts : (q : Descent) (m : Model) (v : ℕ) → Last q → Last (headed_of fixed q m v)
  unfolding headed_of
  headed_lasts q m v h = both (le (inf_norm_of q.line.g n) fixed.options.gradtol) (past q by_gradient (omega arith) (omega arith) h) (go (leb fixed.iter q.rounds) refl)
    where
      d : List Float
      d = direction_of m q.line.g n

      go : (b : Bool) → leb fixed.iter q.rounds ≡ b → Last (cond b (in_phase q by_iterations) (cond (leb fixed.fevals v) (in_phase q by_fevals) (directed_of fixed (step.iterated q) d)))
      go true e = past q by_iterations (omega arith) (omega arith) h
      go false e =
          let within : q.rounds + 1 ≤ fixed.iter = omega (arith, leb-false fixed.iter q.rounds e) in
          let counted : Last (step.iterated q) = keeps q q.phase q.number q.detail q.first (q.rounds + 1) h.least h.most within h.asked h.parts in
          both (leb fixed.fevals v) (past q by_fevals (omega arith) (omega arith) h) (directed_lasts (step.iterated q) d (makes.direction_of_lem m q.line.g) counted)

  -- ---- after a search

  lower_lasts : (q : Descent) (why : ℕ) (t : Evaluation) → searching < why → why ≤ step.at_head → P t.x → Last q → Last (lower_of q why t)
  unfolding lower_of
  lower_lasts q why t i j x h =
      let l = valued_at q t.x t.trial.value in
      both (lt t.trial.value q.line.f) (lined q why l (omega (arith, i)) j (λ e. omega (arith, i, e)) x h.parts.gradient h.parts.direction h) (past q why i j h)

  missed_lasts : (q : Descent) (t : Evaluation) → P t.x → Last q → Last (missed_of q t)
  unfolding missed_of
  missed_lasts q t x h = both (lt plus_zero t.trial.step) (lower_lasts q by_search t (omega arith) (omega arith) x h) (past q by_search (omega arith) (omega arith) h)

  stepped_lasts : (q : Descent) (t : Evaluation) → P t.x → P t.g → Last q → Last (stepped_of q t)
  unfolding stepped_of
  stepped_lasts q t x g h =
      let l : Line = record { x = t.x; g = t.g; d = q.line.d; f = t.trial.value; slope = q.line.slope } in
      let w = lined q step.at_head l (omega arith) (omega arith) (λ e. omega (arith, e)) x g h.parts.direction h in
      keeps (with_line q step.at_head l) step.at_head q.number q.detail false q.rounds (omega arith) (omega arith) h.rounds w.asked w.parts

  record LastMoved (w : Moved) : Type 0 where
    lasts : Last w.descent

  both_moved : (b : Bool) {u w : Moved} → LastMoved u → LastMoved w → LastMoved (cond b u w)
  both_moved true h k = h
  both_moved false h k = k

  succeeded_lasts : (q : Descent) (m : Model) (t : Evaluation) (v : ℕ) → P t.x → P t.g → Last q → LastMoved (succeeded_of fixed q m t v)
  unfolding succeeded_of
  succeeded_lasts q m t v x g h =
      let o = fixed.options in
      let w = stepped_lasts q t x g h in
      both_moved (not (all_finite_of t.g n)) (record { lasts = lower_lasts q by_gradient_failed t (omega arith) (omega arith) x h })
      (both_moved (small_decrease_of o.ftol q.line.f t.trial.value) (record { lasts = past (stepped_of q t) by_function (omega arith) (omega arith) w })
      (both_moved (small_step_of o.xtol q.line.x t.x n) (record { lasts = past (stepped_of q t) by_step (omega arith) (omega arith) w })
      (record { lasts = headed_lasts (stepped_of q t) (stored_of fixed q m t) v w })))

  settled_moved : (q : Descent) (m : Model) (v : ℕ) → Last q → LastMoved (settled_of fixed q m v)
  unfolding settled_of
  settled_moved q m v h =
      let t = q.search.best in
      let x = makes.best_point q.search h.parts.search in
      let g = makes.best_gradient q.search h.parts.search in
      both_moved (eqb q.phase step.at_head) (record { lasts = headed_lasts q m v h })
      (both_moved (not (eqb q.phase searching)) (record { lasts = h })
      (both_moved (eqb q.search.phase linesearch.found) (succeeded_lasts q m t v x g h)
      (both_moved (eqb q.search.phase linesearch.failed) (record { lasts = missed_lasts q t x h }) (record { lasts = h }))))

  pub settled_lasts : (q : Descent) (m : Model) (v : ℕ) → Last q → Last (settled_of fixed q m v).descent
  settled_lasts q m v h = (settled_moved q m v h).lasts
