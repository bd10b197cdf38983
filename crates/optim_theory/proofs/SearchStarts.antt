-- The start of the job `search` meets 2, then the tests of `strong_wolfe` in its order, and where none refuses, its record is tied to the text: `starts`. Assumes nothing.
use Prim.Native.Nat.{ℕ, ◌+◌, ◌*◌, ◌≤◌, ◌<◌}
use native.Mathlib.Nat.{le_refl, add-zero}
use native.Mathlib.Omega.{arith}
use mathlib.Core.Path.{◌≡◌, refl, sym, ◌∙◌, ap, ap₂, subst}
use mathlib.Core.Bool.{Bool, true, false, not, ◌&&◌, ◌||◌, cond, true≢false}
use mathlib.Core.List.{List}
use borrow.Author.Tests.{ltb-false, eqb-true, eqb-false, not-false}
use lib.Dec.{eqb, ltb}
use lib.ListN.{length}
use lib.Ieee.{Float, lt, le}
use Rattle.float.specs.Binary64.{plus_zero}
use Rattle.float.specs.Values.{finite_of, positive_of}
use Rattle.vector.specs.Loops.{at}
use Rattle.vector.specs.Lists.{first, dot, all_finite}
use Rattle.vector.specs.Points.{from_slice_of, dot_of, all_finite_of}
use Rattle.vector.proofs.First.{point_laws, ties}
use Rattle.vector.proofs.Stores.{first_whole}
use Rattle.vector.specs.Ties.{ZeroFrom}
use Rattle.protocol.specs.declared.Kind.{Kind}
use Rattle.protocol.specs.declared.Kind.TheVariants.{Value, Gradient}
use Rattle.protocol.specs.declared.Refusal.{Refusal}
use Rattle.protocol.specs.declared.WolfeOptions.{WolfeOptions}
use Rattle.protocol.specs.Protocol.{Reply, refused, refusal}
use Rattle.protocol.specs.Dialogue.{NotRefused}
use Rattle.protocol.specs.Ask.{Ask, finish, ◌>>=◌}
use Rattle.protocol.specs.Bounds.{Costs, of_both}
use Rattle.protocol.proofs.Bounds.{costs_bind}
use Rattle.linesearch_trials.specs.declared.Line.{Line}
use Rattle.linesearch_trials.specs.declared.Fixed.{Fixed}
use Rattle.linesearch_trials.specs.Trials.{one}
use Rattle.linesearch_trials.specs.Start.{line_from_of, options_refusal_of, counts_refusal_of, line_refusal_of}
use Rattle.linesearch_theory.specs.Algorithm.{WolfeResult, search, wolfe_refusal, Searched, refuses, line_from, strong_wolfe}
use Rattle.linesearch_theory.specs.Counts.{per_trial}
use Rattle.linesearch_theory.specs.Follows.{lowered_line, LineHas}
use Rattle.linesearch_theory.proofs.Follows.{search_follows}
use Rattle.linesearch_theory.proofs.Counts.{counts}
use Rattle.optim_record.specs.declared.Record.{Record}
use Rattle.optim_record.specs.Record.{most_evals, wolfe_options_of, blank_of}
use Rattle.optim_reply.specs.Standing.{refused_of, standing_of}
use Rattle.optim_reply.proofs.Says.{stands_keeps}
use Rattle.optim_first_record.specs.Starts.{search_past_limits_of, search_refusal_of, begun_search_of, search_record_of}
use Rattle.optim_start.specs.Start.{search_of}
use Rattle.optim_theory.specs.Follows.{as_told}
use Rattle.optim_theory.specs.Jobs.{shown}
use Rattle.optim_theory.specs.Search.{SearchStart, search_text, search_ending, search_past_limits, search_code}
use Rattle.optim_theory.proofs.SearchRelated.{finished, rest_of, Sound, Within, Relates, stands}
use Rattle.optim_theory.proofs.EngineStarts.{decide}

-- the reply that the text shows, and a record that is tied to it unless it is a refusal
abbrev pub Begun : Reply × Record → Ask Searched → Type 0
Begun y m = (y.0 ≡ shown search_ending 0 m) × (NotRefused y.0 → Relates y.1 (record { values = 0; gradients = 0; rest = m }))

-- ---- the tests of a start, one after another

-- a refusal that is met, or what comes after it: as the code has it, and as the text does
abbrev or_refuse : Refusal → Ask Searched → Ask Searched
or_refuse why m = cond (eqb why.number 0) m (finish (refuses why))

-- one test
link : (b c : Bool) (k e : ℕ) (why why' : Refusal) (y : Reply × Record) (m : Ask Searched) → b ≡ c → eqb k 0 ≡ false
    → (c ≡ false → Begun (decide why y) (or_refuse why' m)) → Begun (decide (cond b (refusal k e) why) y) (or_refuse (cond c (refusal k e) why') m)
link b c k e why why' y m i z h = subst (λ (a : Bool). Begun (decide (cond a (refusal k e) why) y) (or_refuse (cond c (refusal k e) why') m)) (sym i) (go c h)
  where
    go : (a : Bool) → (a ≡ false → Begun (decide why y) (or_refuse why' m)) → Begun (decide (cond a (refusal k e) why) y) (or_refuse (cond a (refusal k e) why') m)
    go true g = rw z (refl, λ n. absurd n)
    go false g = g refl

-- the text's one test of two
pair : (a b : Bool) (k e : ℕ) (why why' : Refusal) (y : Reply × Record) (m : Ask Searched) → eqb k 0 ≡ false
    → Begun (decide why y) (or_refuse why' m)
    → Begun (decide (cond (not a) (refusal k e) (cond (not b) (refusal k e) why)) y) (or_refuse (cond (not (a && b)) (refusal k e) why') m)
pair true true k e why why' y m z h = h
pair true false k e why why' y m z h = rw z (refl, λ n. absurd n)
pair false b k e why why' y m z h = rw z (refl, λ n. absurd n)

-- ---- the lists are the arrays' coordinates

whole : (x : List Float) (n : ℕ) → length x ≡ n → first n (from_slice_of x n) ≡ x
whole x n e = ties.from_slice x n ∙ ap (λ (k : ℕ). first k x) (sym e) ∙ first_whole x

finite_as : (x : List Float) (n : ℕ) → length x ≡ n → all_finite_of (from_slice_of x n) n ≡ all_finite x
finite_as x n e = ties.all_finite_lem (from_slice_of x n) n ∙ ap all_finite (whole x n e)

slope_as : (g d : List Float) (n : ℕ) → length g ≡ n → length d ≡ n → dot_of (from_slice_of g n) (from_slice_of d n) n ≡ dot g d
slope_as g d n i j = ties.dot_of_lem (from_slice_of g n) (from_slice_of d n) n ∙ ap₂ dot (whole g n i) (whole d n j)

module _ (s : SearchStart) where
  abbrev n : ℕ
  n = length s.x

  abbrev o : WolfeOptions
  o = s.options

  abbrev line : Line
  line = line_from_of (from_slice_of s.x n) (from_slice_of s.d n) s.f (from_slice_of s.g n) n

  abbrev fixed : Fixed
  fixed = record { n = n; gradients = s.gradients; options = o }

  abbrev made : Record
  made = search_record_of line n s.step o s.gradients

  -- the search itself, after the tests
  abbrev body : Ask Searched
  body = search as_told s.gradients o (line_from s.x s.d s.f s.g) s.step >>= finished

  body_costs : (κ : Kind) → Costs κ (o.evals * per_trial κ s.gradients n) body (λ q. Unit {0})
  body_costs κ =
      subst (λ (k : ℕ). Costs κ k body (λ q. Unit {0})) (add-zero (o.evals * per_trial κ s.gradients n))
      (costs_bind κ (o.evals * per_trial κ s.gradients n) 0 (search as_told s.gradients o (line_from s.x s.d s.f s.g) s.step) finished
      (λ r. length r.at.x ≤ n) (λ q. Unit {0})
      (counts.search_costs κ as_told s.gradients o (line_from s.x s.d s.f s.g) s.step n (le_refl n)) (λ r h. tt))

  -- a text that a test refuses asks nothing
  pub text_costs : (κ : Kind) → Costs κ (o.evals * per_trial κ s.gradients n) (search_text s) (λ q. Unit {0})
  unfolding strong_wolfe
  text_costs κ = go (eqb (wolfe_refusal o s.x s.d s.f s.g s.step).number 0)
    where
      go : (b : Bool) → Costs κ (o.evals * per_trial κ s.gradients n) (cond b body (finish (refuses (wolfe_refusal o s.x s.d s.f s.g s.step)))) (λ q. Unit {0})
      go true = body_costs κ
      go false = tt

  module _ (small : n ≤ 16) (evals : o.evals ≤ most_evals) (positive : 0 < n) (along : length s.d ≡ n) (sloped : length s.g ≡ n) where
    made_sound : Sound made
    unfolding search_record_of wolfe_options_of begun_search_of line_from_of from_slice_of
    made_sound =
        let lengths : LineHas (λ x. length x ≡ 16) line = record { point = point_laws.width (at s.x) n small; gradient = point_laws.width (at s.g) n small } in
        let zeros : LineHas (ZeroFrom n) line = record { point = λ k. point_laws.past (at s.x) n k; gradient = λ k. point_laws.past (at s.g) n k } in
        record {
          job = refl;
          phase = refl;
          positive = positive;
          evals = evals;
          numbers = refl;
          shape = (search_follows as_told fixed line).begun_shaped s.step small lengths;
          line16 = lengths;
          line_zeros = zeros;
          along_zeros = λ k. point_laws.past (at s.d) n k;
          zeros = (search_follows as_told fixed line).begun_zeros s.step zeros;
        }

    lowered : lowered_line n line ≡ line_from s.x s.d s.f s.g
    unfolding line_from_of
    lowered = rw (whole s.x n refl, whole s.d n along, whole s.g n sloped, slope_as s.g s.d n sloped along)

    made_rest : rest_of made ≡ body
    unfolding search_record_of wolfe_options_of begun_search_of
    made_rest =
        ap (λ (m : Ask WolfeResult). m >>= finished)
        (sym ((search_follows as_told fixed line).begins s.step) ∙ ap (λ (l : Line). search as_told s.gradients o l s.step) lowered)

    made_within : (κ : Kind) → Within κ made
    unfolding search_record_of wolfe_options_of begun_search_of
    made_within κ =
        record {
          left = o.evals * per_trial κ s.gradients n;
          costs = subst (λ (m : Ask Searched). Costs κ (o.evals * per_trial κ s.gradients n) m (λ q. Unit {0})) (sym made_rest) (body_costs κ);
          within = none κ (o.evals * per_trial κ s.gradients n);
        }
      where
        none : (κ : Kind) (k : ℕ) → of_both κ 0 0 + k ≤ k
        none Value k = omega arith
        none Gradient k = omega arith

    begins : Begun (standing_of made) body
    unfolding search_record_of wolfe_options_of begun_search_of
    begins = (
      stands made made_sound ∙ ap (shown search_ending 0) made_rest,
      λ i. subst (λ (r : Record). Relates r (record { values = 0; gradients = 0; rest = body })) (sym (stands_keeps made))
          (record { sound = made_sound; within = made_within; is = ap (λ (m : Ask Searched). record { values = 0; gradients = 0; rest = m }) made_rest }),
    )

  -- ---- the tests of the code are those of `strong_wolfe`

  -- those of refusal 2
  past_as : search_past_limits_of n (length s.d) (length s.g) o ≡ search_past_limits s
  unfolding search_past_limits_of
  past_as = go (ltb 16 n) (ltb 16 (length s.d)) (ltb 16 (length s.g)) (ltb most_evals o.evals)
    where
      go : (a b c e : Bool) → cond a true (cond b true (cond c true e)) ≡ a || (b || (c || e))
      go true b c e = refl
      go false true c e = refl
      go false false true e = refl
      go false false false e = refl

  limits : search_past_limits s ≡ false → (n ≤ 16) × (o.evals ≤ most_evals)
  limits e = go (ltb 16 n) (ltb 16 (length s.d)) (ltb 16 (length s.g)) (ltb most_evals o.evals) refl refl e
    where
      go : (a b c d : Bool) → ltb 16 n ≡ a → ltb most_evals o.evals ≡ d → a || (b || (c || d)) ≡ false → (n ≤ 16) × (o.evals ≤ most_evals)
      go false false false false i j z = (ltb-false 16 n i, ltb-false most_evals o.evals j)
      go true b c d i j z = absurd (true≢false z)
      go false true c d i j z = absurd (true≢false z)
      go false false true d i j z = absurd (true≢false z)
      go false false false true i j z = absurd (true≢false z)

  -- the options' tests, then the counts', then the line's
  in_turn : (why why' : Refusal) (y : Reply × Record) → decide (cond (not (eqb why.number 0)) why why') y ≡ decide why (decide why' y)
  in_turn why why' y = go (eqb why.number 0) refl
    where
      go : (b : Bool) → eqb why.number 0 ≡ b → decide (cond (not b) why why') y ≡ cond (not b) (refused_of blank_of why.number why.detail) (decide why' y)
      go true e = refl
      go false e = rw e

  -- met one after another
  abbrev decided : Reply × Record
  decided = decide (options_refusal_of o) (decide (counts_refusal_of n (length s.d) (length s.g)) (decide (line_refusal_of n line s.step) (standing_of made)))

  tests : search_past_limits s ≡ false → Begun decided (search_text s)
  unfolding options_refusal_of counts_refusal_of line_refusal_of line_from_of strong_wolfe wolfe_refusal
  tests past =
      pair (lt plus_zero o.c1) (lt o.c1 one) 5 1 _ _ _ body refl
      (pair (lt o.c1 o.c2) (lt o.c2 one) 5 2 _ _ _ body refl
      (link (eqb o.evals 0) (eqb o.evals 0) 6 0 _ _ _ body refl refl (λ six.
      link (not (positive_of o.stepmax)) (not (positive_of o.stepmax)) 7 0 _ _ _ body refl refl (λ seven.
      link (eqb n 0) (eqb n 0) 9 0 _ _ _ body refl refl (λ nine.
      link (not (eqb (length s.d) n)) (not (eqb (length s.d) n)) 10 0 _ _ _ body refl refl (λ ten.
      link (not (eqb (length s.g) n)) (not (eqb (length s.g) n)) 11 0 _ _ _ body refl refl (λ eleven.
      let j = eqb-true (length s.d) n (not-false _ ten) in
      let k = eqb-true (length s.g) n (not-false _ eleven) in
      link _ (not (all_finite s.x)) 12 1 _ _ _ body (ap not (finite_as s.x n refl)) refl (λ a.
      link _ (not (all_finite s.d)) 12 2 _ _ _ body (ap not (finite_as s.d n j)) refl (λ b.
      link _ (not (all_finite s.g)) 12 3 _ _ _ body (ap not (finite_as s.g n k)) refl (λ c.
      link (not (finite_of s.f)) (not (finite_of s.f)) 12 4 _ _ _ body refl refl (λ d.
      link (not (positive_of s.step)) (not (positive_of s.step)) 13 0 _ _ _ body refl refl (λ e.
      link _ (le plus_zero (dot s.g s.d)) 14 0 _ _ _ body (ap (le plus_zero) (slope_as s.g s.d n k j)) refl (λ f.
      begins (limits past).0 (limits past).1 (above n (eqb-false n 0 nine)) j k)))))))))))))
    where
      above : (k : ℕ) → (k ≡ 0 → ⊥) → 0 < k
      above k d = omega arith

  pub starts : search_past_limits s ≡ false → Begun (search_code s) (search_text s)
  unfolding search_of search_refusal_of
  starts past =
      rw (past_as, past, in_turn (options_refusal_of o) (counts_refusal_of n (length s.d) (length s.g)) (decide (line_refusal_of n line s.step) (standing_of made)))
      (tests past)

  pub starts_past : search_past_limits s ≡ true → (search_code s).0 ≡ refused 2 0
  unfolding search_of search_refusal_of
  starts_past past = rw (past_as, past)
