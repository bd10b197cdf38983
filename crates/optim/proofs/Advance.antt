-- The record after an answer that is accepted, part by part, and the reply by the refusal that an answer meets. Assumes nothing.
use Prim.Native.Nat.{ℕ, ◌+◌}
use mathlib.Core.Path.{◌≡◌, refl, sym, ap, ◌∙◌}
use mathlib.Core.Bool.{Bool, true, false, not, cond, true≢false}
use mathlib.Core.List.{List}
use native.Mathlib.Omega.{arith}
use lib.Dec.{eqb}
use lib.ListN.{length, get_or}
use lib.Ieee.{Float, nan}
use borrow.Author.Tests.{eqb-true, eq-eqb, ne_eqb}
use Rattle.vector.specs.Points.{from_slice_of}
use Rattle.objective.specs.declared.Differences.{Differences}
use Rattle.objective.specs.Step.{told_of}
use Rattle.quasinewton_model.specs.declared.Model.{Model}
use Rattle.quasinewton_record.specs.declared.Descent.{Descent}
use Rattle.quasinewton_record.specs.declared.Fixed.{Fixed}
use Rattle.quasinewton.specs.Step.{asks_of, stores_pair_of, updated_of, model_after_of, onward_of}
use Rattle.quasinewton.proofs.Parts.{settled_parts}
use Rattle.neldermead.specs.declared.Simplex.{Simplex}
use Rattle.protocol.specs.Protocol.{Reply, simplex_mark, search_mark}
use Rattle.optim_record.specs.declared.Counts.{Counts}
use Rattle.optim_record.specs.declared.Record.{Record}
use Rattle.optim_record.specs.Record.{gradient_fixed_of, gradient_job_of, valid_of, Other, Ranges, Open, Stands}
use Rattle.optim_reply.specs.Standing.{refused_of, over_of, gradient_due_of, standing_of}
use Rattle.optim_rules.specs.Rules.{repeats_of, suits_of, meets_of, accepts_of}
use Rattle.optim_rules.specs.Moves.{counted_of, simplex_told_of, search_told_of, descent_told_of, Worded}
use Rattle.optim_rules.proofs.Ranges.{ranges, open_of, stands, one_word, n_words}
use Rattle.optim.specs.Answer.{stepped_of, graded_of, taken_of, taken_gradient_of, heard_of, answer_of}
use Rattle.optim.specs.Parts.{replied_of}
use Rattle.optim.proofs.Asking.{asking_model, asking_rests}
use Rattle.optim.proofs.Ranges.{stepped_stands, graded_stands}

-- ---- the record

-- the record after an answer that is accepted
abbrev pub advanced_of : Record → List Float → Record
advanced_of r words = cond (gradient_due_of r) (graded_of r (from_slice_of words r.n)) (stepped_of r (get_or words 0 nan))

-- a record with other parts
abbrev pub with_parts : Record → Differences → Simplex → Descent → Model → Record
with_parts r d s q m =
    record {
      accepted = r.accepted;
      job = r.job;
      n = r.n;
      counts = r.counts;
      limits = r.limits;
      options = r.options;
      gradient = r.gradient;
      diff = d;
      simplex = s;
      descent = q;
      model = m;
    }

-- a record with these counts, and the number last accepted
abbrev pub with_last : Record → ℕ → Counts → Record
with_last r k c =
    record {
      accepted = k;
      job = r.job;
      n = r.n;
      counts = c;
      limits = r.limits;
      options = r.options;
      gradient = r.gradient;
      diff = r.diff;
      simplex = r.simplex;
      descent = r.descent;
      model = r.model;
    }

-- a record with one answer more
abbrev pub with_counts : Record → Counts → Record
with_counts r c = with_last r (r.accepted + 1) c

-- the model of a gradient fit, and its descent
abbrev pub model_of : Record → List Float → Model
model_of r words = model_after_of (gradient_fixed_of r) (descent_told_of r words) r.model

abbrev pub descent_of : Record → List Float → Descent
descent_of r words = onward_of (gradient_fixed_of r) (descent_told_of r words) (model_of r words) (counted_of r).fevals

-- the parts after an answer, by the job
abbrev pub moved_of : Record → List Float → Record
moved_of r words =
    cond (eqb r.job simplex_mark) (with_parts r r.diff (simplex_told_of r words) r.descent r.model)
    (cond (eqb r.job search_mark) (with_parts r r.diff r.simplex (search_told_of r words) r.model)
    (cond (gradient_job_of r.job) (with_parts r r.diff r.simplex (descent_of r words) (model_of r words))
    (with_parts r (told_of r.diff (get_or words 0 nan)) r.simplex r.descent r.model)))

-- the model and the descent, by what the calls gave
module _ (r : Record) (words : List Float) (f : Fixed) (t : Descent) (i : f ≡ gradient_fixed_of r) (j : t ≡ descent_told_of r words) where
  pub model_stored : (b : Bool) (m : Model) → b ≡ stores_pair_of f t → b ≡ true → m ≡ updated_of f t r.model → m ≡ model_of r words
  unfolding model_after_of
  model_stored b m e d u = u ∙ rw (← i, ← j, ← e, d)

  pub model_left : (b : Bool) → b ≡ stores_pair_of f t → b ≡ false → r.model ≡ model_of r words
  unfolding model_after_of
  model_left b e d = rw (← i, ← j, ← e, d)

  pub descent_on : (m : Model) (c : Counts) (q : Descent) → m ≡ model_of r words → c ≡ counted_of r → q ≡ onward_of f t m c.fevals → q ≡ descent_of r words
  descent_on m c q k l e = e ∙ rw (i, j, k, l)

-- `moved_of` by the branch that was taken
module _ (r : Record) (words : List Float) where
  pub simplex_moved : (s : Simplex) → r.job ≡ simplex_mark → s ≡ simplex_told_of r words → with_parts r r.diff s r.descent r.model ≡ moved_of r words
  simplex_moved s e f = rw (eq-eqb _ _ e, f)

  pub search_moved : (t : Descent) → r.job ≡ search_mark → t ≡ search_told_of r words → with_parts r r.diff r.simplex t r.model ≡ moved_of r words
  search_moved t e f = rw (ne_eqb r.job simplex_mark (λ d. omega (arith, d, e)), eq-eqb _ _ e, f)

  module _ (g : gradient_job_of r.job ≡ true) where
    no_simplex : eqb r.job simplex_mark ≡ false
    unfolding gradient_job_of
    no_simplex = ne_eqb _ _ (λ j. true≢false (sym g ∙ ap gradient_job_of j))

    no_search : eqb r.job search_mark ≡ false
    unfolding gradient_job_of
    no_search = ne_eqb _ _ (λ j. true≢false (sym g ∙ ap gradient_job_of j))

    pub descent_moved : (p : Record) (q : Descent) → p ≡ with_parts r r.diff r.simplex r.descent (model_of r words) → q ≡ descent_of r words → with_parts p p.diff p.simplex q p.model ≡ moved_of r words
    descent_moved p q k f = rw (no_simplex, no_search, g, k, f)

    pub asking_moved : (q : Descent) → q ≡ descent_told_of r words → asks_of q ≡ true → with_parts r r.diff r.simplex q r.model ≡ moved_of r words
    asking_moved q f a = rw (no_simplex, no_search, g, ← f, asking_model (gradient_fixed_of r) q a r.model, asking_rests (gradient_fixed_of r) q a r.model (counted_of r).fevals)

  pub differences_moved : Other r → (q : Differences) → q ≡ told_of r.diff (get_or words 0 nan) → with_parts r q r.simplex r.descent r.model ≡ moved_of r words
  differences_moved o q f = rw (ne_eqb _ _ o.simplex, ne_eqb _ _ o.search, o.gradient, f)

-- neither a simplex fit nor differences ask for a gradient
pub due_simplex : (r : Record) → r.job ≡ simplex_mark → gradient_due_of r ≡ false
unfolding gradient_due_of gradient_job_of
due_simplex r e = rw e

pub due_other : (r : Record) → eqb r.job search_mark ≡ false → gradient_job_of r.job ≡ false → gradient_due_of r ≡ false
unfolding gradient_due_of
due_other r e f = rw (e, f)

-- no part has another's number
pub moved_accepted : (r : Record) (words : List Float) → (moved_of r words).accepted ≡ r.accepted
moved_accepted r words = go (eqb r.job simplex_mark) (eqb r.job search_mark) (gradient_job_of r.job)
  where
    go : (b c d : Bool)
        → (cond b (with_parts r r.diff (simplex_told_of r words) r.descent r.model) (cond c (with_parts r r.diff r.simplex (search_told_of r words) r.model) (cond d (with_parts r r.diff r.simplex (descent_of r words) (model_of r words)) (with_parts r (told_of r.diff (get_or words 0 nan)) r.simplex r.descent r.model)))).accepted
        ≡ r.accepted
    go true c d = refl
    go false true d = refl
    go false false true = refl
    go false false false = refl

pub advance : (r : Record) (words : List Float) → with_counts (moved_of r words) (counted_of r) ≡ advanced_of r words
unfolding stepped_of graded_of counted_of simplex_told_of search_told_of descent_told_of
advance r words = at (eqb r.job simplex_mark) (eqb r.job search_mark) (gradient_job_of r.job) (gradient_due_of r) refl refl refl refl
  where
    at : (b c d e : Bool) → eqb r.job simplex_mark ≡ b → eqb r.job search_mark ≡ c → gradient_job_of r.job ≡ d → gradient_due_of r ≡ e
        → with_counts (moved_of r words) (counted_of r) ≡ advanced_of r words
    at true c d true p q s t = absurd (true≢false (sym t ∙ due_simplex r (eqb-true _ _ p)))
    at true c d false p q s t = rw (p, t)
    at false true d true p q s t = rw (p, q, t)
    at false true d false p q s t = rw (p, q, t)
    at false false true true p q s t = rw (p, q, s, t) (sym (rw (settled_parts _ _ _ _)))
    at false false true false p q s t = rw (p, q, s, t) (sym (rw (settled_parts _ _ _ _)))
    at false false false true p q s t = absurd (true≢false (sym t ∙ due_other r q s))
    at false false false false p q s t = rw (p, q, s, t)

pub advanced_stands : (r : Record) (words : List Float) → Ranges r → Open r → Stands (advanced_of r words)
advanced_stands r words h o = go (gradient_due_of r)
  where
    go : (b : Bool) → Stands (cond b (graded_of r (from_slice_of words r.n)) (stepped_of r (get_or words 0 nan)))
    go true = graded_stands r (from_slice_of words r.n) h
    go false = stepped_stands r (get_or words 0 nan) h o

-- ---- the refusal

-- `meets_of` and `accepts_of` by their tests: valid, a repeat, over, due, suited
abbrev code : Bool → Bool → Bool → Bool → Bool → ℕ
code v p o n s = cond (not v) 1 (cond p 0 (cond o 15 (cond (not n) 16 (cond (not s) 17 0))))

abbrev taken : Bool → Bool → Bool → Bool → Bool → Bool
taken v p o n s = cond (not (eqb (code v p o n s) 0)) false (not p)

means : (v p o n s : Bool) → taken v p o n s ≡ true → (v ≡ true) × (p ≡ false) × (o ≡ false) × (n ≡ true) × (s ≡ true)
means false p o n s e = absurd (true≢false (sym e))
means true true o n s e = absurd (true≢false (sym e))
means true false true n s e = absurd (true≢false (sym e))
means true false false false s e = absurd (true≢false (sym e))
means true false false true false e = absurd (true≢false (sym e))
means true false false true true e = (refl, refl, refl, refl, refl)

zero_valid : (v p o n s : Bool) → code v p o n s ≡ 0 → v ≡ true
zero_valid true p o n s e = refl
zero_valid false p o n s e = absurd (true≢false (sym (ap (λ (w : ℕ). eqb w 0) e)))

module _ (r : Record) (number kind : ℕ) (words : List Float) where
  abbrev why : ℕ
  why = meets_of r number kind (length words)

  -- what an accepted answer has passed
  pub passes : accepts_of r number why ≡ true
      → (valid_of r ≡ true) × (repeats_of r.accepted number ≡ false) × (over_of r ≡ false) × (eqb number (r.accepted + 1) ≡ true) × (suits_of r kind (length words) ≡ true)
  unfolding accepts_of meets_of
  passes e = means (valid_of r) (repeats_of r.accepted number) (over_of r) (eqb number (r.accepted + 1)) (suits_of r kind (length words)) e

  pub accepted_ranges : accepts_of r number why ≡ true → Ranges r
  accepted_ranges e = ranges r (passes e).0

  pub accepted_open : accepts_of r number why ≡ true → Open r
  accepted_open e = open_of r (accepted_ranges e) (passes e).2

  pub accepted_worded : accepts_of r number why ≡ true → Worded r words
  accepted_worded e = (λ d. n_words r kind words d (passes e).4, λ d. one_word r kind words d (passes e).4)

  -- the record that is kept: it moves where the answer is accepted
  abbrev pub kept_of : Record
  kept_of = cond (accepts_of r number why) (advanced_of r words) r

  pub kept_moved : (p : Record) (c : Counts) → accepts_of r number why ≡ true → p ≡ moved_of r words → c ≡ counted_of r → with_counts p c ≡ kept_of
  kept_moved p c e f g = rw (e, f, g) (advance r words)

  -- where the next number is taken before the parts are moved
  pub kept_counted : (p : Record) (c : Counts) → accepts_of r number why ≡ true → p ≡ moved_of r words → c ≡ counted_of r → with_last p (r.accepted + 1) c ≡ kept_of
  kept_counted p c e f g = ap (λ (k : ℕ). with_last p (k + 1) c) (sym (ap (λ (q : Record). q.accepted) f ∙ moved_accepted r words)) ∙ kept_moved p c e f g

  pub kept_left : accepts_of r number why ≡ false → r ≡ kept_of
  kept_left e = rw e

  -- no refusal but 1 is met by a record out of range
  none_valid : why ≡ 0 → valid_of r ≡ true
  unfolding meets_of
  none_valid z = zero_valid (valid_of r) (repeats_of r.accepted number) (over_of r) (eqb number (r.accepted + 1)) (suits_of r kind (length words)) z

  pub kept_stands : why ≡ 0 → Stands kept_of
  kept_stands z = go (accepts_of r number why) refl
    where
      go : (b : Bool) → accepts_of r number why ≡ b → Stands (cond b (advanced_of r words) r)
      go true e = advanced_stands r words (accepted_ranges e) (accepted_open e)
      go false e = stands r (ranges r (none_valid z))

  abbrev goes : Reply × Record
  goes = cond (gradient_due_of r) (taken_gradient_of r (from_slice_of words r.n)) (taken_of r (get_or words 0 nan))

  goes_on : standing_of (advanced_of r words) ≡ goes
  unfolding taken_of taken_gradient_of
  goes_on = go (gradient_due_of r)
    where
      go : (b : Bool) → standing_of (cond b (graded_of r (from_slice_of words r.n)) (stepped_of r (get_or words 0 nan)))
          ≡ cond b (taken_gradient_of r (from_slice_of words r.n)) (taken_of r (get_or words 0 nan))
      go true = refl
      go false = refl

  -- the reply is what the answer's definition says
  pub replies : replied_of kept_of why ≡ answer_of r number kind words
  unfolding accepts_of meets_of replied_of answer_of heard_of
  replies = go (valid_of r) (repeats_of r.accepted number) (over_of r) (eqb number (r.accepted + 1)) (suits_of r kind (length words))
    where
      said : ℕ → Record → Reply × Record
      said w q = cond (not (eqb w 0)) (refused_of q w 0) (standing_of q)

      go : (v p o n s : Bool) → said (code v p o n s) (cond (taken v p o n s) (advanced_of r words) r)
          ≡ cond v (cond p (standing_of r) (cond o (refused_of r 15 0) (cond (not n) (refused_of r 16 0) (cond (not s) (refused_of r 17 0) goes)))) (refused_of r 1 0)
      go false p o n s = refl
      go true true o n s = refl
      go true false true n s = refl
      go true false false false s = refl
      go true false false true false = refl
      go true false false true true = goes_on
