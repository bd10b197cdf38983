-- What ties a record of the job `search` to its text (`text_of`, `Sound`, `Within`): such a record is in range (`valid`), shows what the text shows (`stands`), and after an accepted answer
-- has the rest of the text to do (`moves`). Assumes nothing.
use Prim.Native.Nat.{ℕ, ◌+◌, ◌*◌, ◌≤◌, ◌<◌}
use native.Mathlib.Nat.{add-zero, le_trans, mul-le-mul_left, mul-le-mul_right}
use native.Mathlib.Omega.{arith}
use mathlib.Core.Path.{◌≡◌, refl, sym, ◌∙◌, ap, subst}
use mathlib.Core.Bool.{Bool, true, false, cond}
use mathlib.Core.List.{List}
use borrow.Author.Tests.{le-ltb, lt-ltb, ne_eqb, eq-eqb, eqb-true, eqb-false, ltb-true, ltb-false}
use lib.Dec.{ltb, eqb}
use lib.ListN.{length, get_or}
use lib.Ieee.{Float, nan}
use Rattle.vector.specs.Loops.{at}
use Rattle.vector.specs.Lists.{first}
use Rattle.vector.specs.Points.{from_slice_of}
use Rattle.vector.proofs.First.{point_laws}
use Rattle.vector.specs.Ties.{ZeroFrom}
use Rattle.protocol.specs.declared.Kind.{Kind}
use Rattle.protocol.specs.declared.Kind.TheVariants.{Value, Gradient}
use Rattle.protocol.specs.Protocol.{read_of, simplex_mark, search_mark}
use Rattle.protocol.specs.Dialogue.{of_kind}
use Rattle.protocol.specs.Ask.{Ask, finish, query, ◌>>=◌}
use Rattle.protocol.specs.Bounds.{Costs, of_both}
use Rattle.linesearch_moves.specs.declared.Search as search
use Rattle.linesearch_trials.specs.declared.Fixed.{Fixed}
use Rattle.linesearch.specs.Step.{asks_gradient, asks_difference, found, failed, probe_of, told_of, told_gradient_of}
use Rattle.linesearch_theory.specs.Algorithm.{WolfeResult, Searched, gives}
use Rattle.linesearch_theory.specs.Counts.{per_trial}
use Rattle.linesearch_theory.specs.Follows.{kind_of, LineHas, SearchShaped, SearchZeroPast, to_do, outcome, answered}
use Rattle.linesearch_theory.proofs.Follows.{search_follows}
use Rattle.quasinewton.specs.Step.{searching, with_search}
use Rattle.optim_record.specs.declared.Record.{Record}
use Rattle.optim_record.specs.Record.{most_evals, search_fixed_of, valid_of}
use Rattle.optim_record.proofs.Refusal1.{search_valid}
use Rattle.optim_reply.specs.Standing.{over_of, gradient_due_of, search_result_of, standing_search_of, standing_of}
use Rattle.optim.specs.Answer.{valued_of, sloped_of, stepped_of, graded_of}
use Rattle.optim_theory.specs.Follows.{as_told}
use Rattle.optim_theory.specs.Jobs.{Text, shown}
use Rattle.optim_theory.specs.Search.{search_ending}

-- ---- the text that a record stands for

abbrev pub finished : WolfeResult → Ask Searched
finished r = finish (gives r)

abbrev pub rest_of : Record → Ask Searched
rest_of r = to_do as_told (search_fixed_of r) r.descent.line r.descent.search >>= finished

abbrev pub text_of : Record → Text Searched
text_of r = record { values = r.counts.fevals; gradients = r.counts.gevals; rest = rest_of r }

-- what holds of the record itself
pub record Sound (r : Record) : Type 0 where
  pub job : r.job ≡ search_mark
  pub phase : r.descent.phase ≡ searching
  pub positive : 0 < r.n
  pub evals : r.gradient.wolfe.evals ≤ most_evals
  pub numbers : r.accepted ≡ r.counts.fevals + r.counts.gevals
  pub shape : SearchShaped (search_fixed_of r) r.descent.search
  pub line16 : LineHas (λ x. length x ≡ 16) r.descent.line
  pub line_zeros : LineHas (ZeroFrom r.n) r.descent.line
  pub along_zeros : ZeroFrom r.n r.descent.line.d
  pub zeros : SearchZeroPast r.n r.descent.search

-- the questions of the kind are within the bound, those that the text has still to put too
abbrev pub bound_of : Kind → Record → ℕ
bound_of κ r = r.gradient.wolfe.evals * per_trial κ r.gradient.gradients r.n

pub record Within (κ : Kind) (r : Record) : Type 0 where
  pub left : ℕ
  pub costs : Costs κ left (rest_of r) (λ q. Unit {0})
  pub within : of_both κ r.counts.fevals r.counts.gevals + left ≤ bound_of κ r

pub record Relates (r : Record) (t : Text Searched) : Type 0 where
  pub sound : Sound r
  pub within : (κ : Kind) → Within κ r
  pub is : text_of r ≡ t

-- ---- it is in range

-- a trial of sixteen coordinates asks for 33 values at most, and one gradient
per_low : (κ : Kind) (gradients : Bool) (n : ℕ) → n ≤ 16 → per_trial κ gradients n ≤ 33
per_low Value true n h = omega arith
per_low Value false n h = omega arith
per_low Gradient true n h = omega arith
per_low Gradient false n h = omega arith

bound_low : (κ : Kind) (gradients : Bool) (e n : ℕ) → e ≤ most_evals → n ≤ 16 → e * per_trial κ gradients n ≤ 33000
bound_low κ gradients e n h j = le_trans (mul-le-mul_right (per_trial κ gradients n) h) (mul-le-mul_left 1000 (per_low κ gradients n j))

module _ (r : Record) (S : Sound r) where
  abbrev s : search.Search
  s = r.descent.search

  abbrev fixed : Fixed
  fixed = search_fixed_of r

  count_low : (κ : Kind) → Within κ r → of_both κ r.counts.fevals r.counts.gevals ≤ 33000
  count_low κ h = omega (arith, h.within, bound_low κ r.gradient.gradients r.gradient.wolfe.evals r.n S.evals S.shape.small)

  pub valid : ((κ : Kind) → Within κ r) → valid_of r ≡ true
  valid h =
      let v : r.counts.fevals ≤ 33000 = count_low Value (h Value) in
      let g : r.counts.gevals ≤ 33000 = count_low Gradient (h Gradient) in
      search_valid r S.job
      (record { few = S.shape.small; accepted = omega (arith, S.numbers); fevals = omega arith; gevals = omega arith })
      (record {
        some_n = S.positive;
        phase = S.phase;
        search = record { phase_low = S.shape.least; phase_high = S.shape.most; evals = S.evals; trials = S.shape.trials; at = S.shape.diff.within };
      })

  -- ---- it shows what the text shows

  -- the question that the text puts next
  pub asks : s.phase ≤ asks_difference
      → rest_of r ≡ query (kind_of s) (first r.n (probe_of fixed r.descent.line s)) (λ w. to_do as_told fixed r.descent.line (answered as_told fixed r.descent.line s w) >>= finished)
  unfolding ◌>>=◌
  asks h = ap (λ (m : Ask WolfeResult). m >>= finished) ((search_follows as_told fixed r.descent.line).follows s S.shape h)

  -- the end, in success or not
  pub ended_by : asks_difference < s.phase → rest_of r ≡ finish (gives (outcome as_told fixed r.descent.line (eqb s.phase found) s))
  unfolding ◌>>=◌
  ended_by h = go (eqb s.phase found) refl
    where
      last : (p : ℕ) → asks_difference < p → p ≤ failed → (p ≡ found → ⊥) → p ≡ failed
      last p l m d = omega arith

      go : (b : Bool) → eqb s.phase found ≡ b → rest_of r ≡ finish (gives (outcome as_told fixed r.descent.line b s))
      go true e = ap (λ (m : Ask WolfeResult). m >>= finished) ((search_follows as_told fixed r.descent.line).ends_found s (eqb-true s.phase found e))
      go false e =
          ap (λ (m : Ask WolfeResult). m >>= finished)
          ((search_follows as_told fixed r.descent.line).ends_failed s (last s.phase h S.shape.most (eqb-false s.phase found e)))

  as_search : standing_of r ≡ standing_search_of r
  unfolding standing_of
  as_search = rw (ne_eqb r.job simplex_mark (λ e. omega (arith, S.job)), eq-eqb r.job search_mark S.job)

  pub over_as : (b : Bool) → ltb asks_difference s.phase ≡ b → over_of r ≡ b
  unfolding over_of
  over_as b e = rw (ne_eqb r.job simplex_mark (λ e. omega (arith, S.job)), eq-eqb r.job search_mark S.job, e)

  pub due_as : gradient_due_of r ≡ eqb s.phase asks_gradient
  unfolding gradient_due_of
  due_as = rw (eq-eqb r.job search_mark S.job)

  shows_question : s.phase ≤ asks_difference → (standing_search_of r).0 ≡ shown search_ending r.accepted (rest_of r)
  unfolding standing_search_of
  shows_question h = go (eqb s.phase asks_gradient) refl
    where
      go : (b : Bool) → eqb s.phase asks_gradient ≡ b → (standing_search_of r).0 ≡ shown search_ending r.accepted (rest_of r)
      go true e = rw (asks h, le-ltb asks_difference s.phase h, e)
      go false e = rw (asks h, le-ltb asks_difference s.phase h, e)

  shows_end : asks_difference < s.phase → (standing_search_of r).0 ≡ shown search_ending r.accepted (rest_of r)
  unfolding standing_search_of search_result_of
  shows_end h = rw (ended_by h, lt-ltb asks_difference s.phase h)

  pub stands : (standing_of r).0 ≡ shown search_ending (r.counts.fevals + r.counts.gevals) (rest_of r)
  stands = ap (λ a. a.0) as_search ∙ go (ltb asks_difference s.phase) refl ∙ ap (λ (k : ℕ). shown search_ending k (rest_of r)) S.numbers
    where
      go : (b : Bool) → ltb asks_difference s.phase ≡ b → (standing_search_of r).0 ≡ shown search_ending r.accepted (rest_of r)
      go true e = shows_end (ltb-true asks_difference s.phase e)
      go false e = shows_question (ltb-false asks_difference s.phase e)

-- ---- an answer that is accepted

-- the record after the words w of an answer to the open question
abbrev pub next : Record → List Float → Record
next r w = cond (gradient_due_of r) (graded_of r (from_slice_of w r.n)) (stepped_of r (get_or w 0 nan))

module _ (r : Record) (S : Sound r) (stands_open : r.descent.search.phase ≤ asks_difference) (w : List Float) where
  stepped : (v : Float) → stepped_of r v ≡ valued_of r r.diff r.simplex (with_search r.descent (told_of (fixed r S) r.descent.line (s r S) (read_of v) v)) r.model
  unfolding stepped_of
  stepped v = rw (ne_eqb r.job simplex_mark (λ e. omega (arith, S.job)), eq-eqb r.job search_mark S.job)

  stepped_sound : (v : Float) → Sound (stepped_of r v)
  stepped_sound v =
      rw (stepped v)
      (record {
        job = S.job;
        phase = S.phase;
        positive = S.positive;
        evals = S.evals;
        numbers = omega (arith, S.numbers);
        shape = (search_follows as_told (fixed r S) r.descent.line).told_shaped (s r S) (read_of v) v S.line16 S.shape;
        line16 = S.line16;
        line_zeros = S.line_zeros;
        along_zeros = S.along_zeros;
        zeros = (search_follows as_told (fixed r S) r.descent.line).told_zeros (s r S) (read_of v) v S.line_zeros S.shape S.zeros;
      })

  graded : graded_of r (from_slice_of w r.n) ≡ sloped_of r (with_search r.descent (told_gradient_of (fixed r S) r.descent.line (s r S) (from_slice_of w r.n))) r.model
  unfolding graded_of
  graded = rw (eq-eqb r.job search_mark S.job)

  graded_sound : Sound (graded_of r (from_slice_of w r.n))
  unfolding from_slice_of
  graded_sound =
      rw graded
      (record {
        job = S.job;
        phase = S.phase;
        positive = S.positive;
        evals = S.evals;
        numbers = omega (arith, S.numbers);
        shape = (search_follows as_told (fixed r S) r.descent.line).told_gradient_shaped (s r S) _ (point_laws.width (at w) r.n S.shape.small) S.line16 S.shape;
        line16 = S.line16;
        line_zeros = S.line_zeros;
        along_zeros = S.along_zeros;
        zeros = (search_follows as_told (fixed r S) r.descent.line).told_gradient_zeros (s r S) _ (λ k. point_laws.past (at w) r.n k) S.line_zeros S.shape S.zeros;
      })

  -- it has the rest of the text to do, with one answer more
  abbrev counting : ℕ → ℕ → Ask Searched → Text Searched
  counting v g m = record { values = v; gradients = g; rest = m }

  abbrev rest_by : Bool → Ask Searched
  rest_by b =
      to_do as_told (fixed r S) r.descent.line
      (cond b (told_gradient_of (fixed r S) r.descent.line (s r S) (from_slice_of w r.n)) (told_of (fixed r S) r.descent.line (s r S) (read_of (get_or w 0 nan)) (get_or w 0 nan)))
      >>= finished

  abbrev after_by_lem : Bool → Text Searched
  after_by_lem b = counting (r.counts.fevals + of_kind Value (cond b Gradient Value)) (r.counts.gevals + of_kind Gradient (cond b Gradient Value)) (rest_by b)

  abbrev pub after : Text Searched
  after = after_by_lem (eqb (s r S).phase asks_gradient)

  pub record Moved (q : Record) : Type 0 where
    pub sound : Sound q
    pub text : text_of q ≡ after
    pub accepted : q.accepted ≡ r.accepted + 1
    pub bound : (κ : Kind) → bound_of κ q ≡ bound_of κ r

  pub moves : Moved (next r w)
  moves = go (eqb (s r S).phase asks_gradient) refl
    where
      by_value : eqb (s r S).phase asks_gradient ≡ false → Moved (stepped_of r (get_or w 0 nan))
      by_value e =
          let v = get_or w 0 nan in
          record {
            sound = stepped_sound v;
            text = ap text_of (stepped v) ∙ ap (λ (g : ℕ). counting (r.counts.fevals + 1) g (rest_by false)) (sym (add-zero r.counts.gevals)) ∙ ap after_by_lem (sym e);
            accepted = rw (stepped v);
            bound = λ κ. rw (stepped v);
          }

      by_gradient_lem : eqb (s r S).phase asks_gradient ≡ true → Moved (graded_of r (from_slice_of w r.n))
      by_gradient_lem e =
          record {
            sound = graded_sound;
            text = ap text_of graded ∙ ap (λ (v : ℕ). counting v (r.counts.gevals + 1) (rest_by true)) (sym (add-zero r.counts.fevals)) ∙ ap after_by_lem (sym e);
            accepted = rw graded;
            bound = λ κ. rw graded;
          }

      go : (b : Bool) → eqb (s r S).phase asks_gradient ≡ b → Moved (next r w)
      go true e = rw (due_as r S, e) (by_gradient_lem e)
      go false e = rw (due_as r S, e) (by_value e)

  -- and keeps to the bound
  counted : (κ k : Kind) (v g : ℕ) → of_both κ (v + of_kind Value k) (g + of_kind Gradient k) ≡ of_both κ v g + of_kind κ k
  counted Value k v g = refl
  counted Gradient k v g = refl

  pub moves_within : (κ : Kind) → Within κ r → Within κ (next r w)
  moves_within κ h = go (subst (λ (m : Ask Searched). Costs κ h.left m (λ q. Unit {0})) (asks r S stands_open) h.costs)
    where
      go : (d : ℕ) × (of_kind κ (kind_of (s r S)) + d ≤ h.left)
          × ((z : List Float) → Costs κ d (to_do as_told (fixed r S) r.descent.line (answered as_told (fixed r S) r.descent.line (s r S) z) >>= finished) (λ q. Unit {0}))
          → Within κ (next r w)
      go c =
          record {
            left = c.0;
            costs = subst (λ (t : Text Searched). Costs κ c.0 t.rest (λ q. Unit {0})) (sym moves.text) (c.2 w);
            within = omega (
              arith,
              ap (λ (t : Text Searched). of_both κ t.values t.gradients) moves.text,
              counted κ (kind_of (s r S)) r.counts.fevals r.counts.gevals,
              moves.bound κ,
              c.1,
              h.within,
            );
          }
