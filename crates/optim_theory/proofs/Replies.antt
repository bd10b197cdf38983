-- The first demand, of answers: every record, forged ones too, gets a reply in scope, and is handed back where it is refused or repeated (`answers`). Assumes nothing.
use Prim.Native.Nat.{ℕ, ◌+◌, ◌<◌}
use mathlib.Core.Path.{◌≡◌, refl, sym, ◌∙◌, ap, subst}
use mathlib.Core.Bool.{Bool, true, false, not, ◌&&◌, ◌||◌, cond}
use mathlib.Core.Logic.{◌⊎◌, inl, inr, ⊎_elim}
use mathlib.Core.List.{List, [], ◌∷◌}
use native.Mathlib.Omega.{arith}
use lib.Dec.{T, eqb, ltb, leb}
use borrow.Author.Tests.{eqb-true, ne_eqb}
use lib.ListN.{length, get_or}
use lib.Ieee.{Float, nan}
use Rattle.float.proofs.Tests.{either}
use Rattle.vector.specs.Points.{from_slice_of}
use Rattle.protocol.specs.Protocol.{Question, Outcome, Reply, ask, ended, refused, read_of, simplex_mark, bfgs_mark, lbfgs_mark, search_mark}
use Rattle.protocol.proofs.Replies.{ask≢refused, ended≢refused}
use Rattle.objective.specs.Step.{told_of}
use Rattle.neldermead.specs.Step.{not_finite, told_of as simplex_told}
use Rattle.quasinewton_record.specs.declared.Fixed as quasinewton_fixed
use Rattle.quasinewton.specs.Step as quasinewton
use Rattle.quasinewton.specs.Step.{by_refusal, Moved}
use Rattle.optim_record.specs.declared.Record.{Record}
use Rattle.linesearch.specs.Step as linesearch
use Rattle.linesearch.specs.Step.{asks_gradient, asks_difference}
use Rattle.optim_record.specs.Record.{last_asking, fixed_of, search_fixed_of, gradient_fixed_of, gradient_job_of, known_refusal_of, valid_ending_of, blank_of, valid_part_of, valid_of}
use Rattle.optim_record.specs.Refusal1.{OneOf, EndingMark}
use Rattle.optim_record.proofs.Refusal1Parts.{known, ending_part}
use Rattle.optim_record.proofs.Refusal1.{in_range}
use Rattle.optim_reply.specs.Standing.{refused_of, over_of, gradient_due_of, standing_simplex_of, standing_search_of, descent_ends_of, standing_descent_of, standing_differences_of, standing_of}
use Rattle.optim_reply.proofs.Says.{stands_keeps}
use Rattle.optim_rules.specs.Rules.{repeats_of, suits_of}
use Rattle.optim.specs.Answer.{valued_of, sloped_of, stepped_of, graded_of, taken_of, taken_gradient_of, heard_of, answer_of}
use Rattle.optim_theory.proofs.Refusals.{Named, searched_named, settled_named, told_named, told_gradient_named}
use Rattle.optim_theory.specs.Replies.{Among, turns_away, ends_job, refuses_answer, Answers}

-- the marks of gradient fits
pub gradient_marks : (k : ℕ) → gradient_job_of k ≡ true → (k ≡ bfgs_mark) ⊎ (k ≡ lbfgs_mark)
unfolding gradient_job_of
gradient_marks k = go (eqb k bfgs_mark) refl
  where
    go : (b : Bool) → eqb k bfgs_mark ≡ b → cond b true (eqb k lbfgs_mark) ≡ true → (k ≡ bfgs_mark) ⊎ (k ≡ lbfgs_mark)
    go true e h = inl (eqb-true k bfgs_mark e)
    go false e h = inr (eqb-true k lbfgs_mark h)

pub no_simplex : (k : ℕ) → gradient_job_of k ≡ true → eqb k simplex_mark ≡ false
no_simplex k g = ⊎_elim (λ e. ne_eqb k simplex_mark (λ i. omega (arith, e, i))) (λ e. ne_eqb k simplex_mark (λ i. omega (arith, e, i))) (gradient_marks k g)

pub no_search : (k : ℕ) → gradient_job_of k ≡ true → eqb k search_mark ≡ false
no_search k g = ⊎_elim (λ e. ne_eqb k search_mark (λ i. omega (arith, e, i))) (λ e. ne_eqb k search_mark (λ i. omega (arith, e, i))) (gradient_marks k g)

-- replies of different forms are not equal
refused_number : {k d j c : ℕ} → refused k d ≡ refused j c → j ≡ k
refused_number {k} {d} {j} {c} e = sym (ap number e)
  where
    number : Reply → ℕ
    number (ask q) = 0
    number (ended o) = 0
    number (refused i h) = i

-- a test that is true leaves its first arm
taken_arm : (b : Bool) (x y : Reply × Record) → b ≡ true → cond b x y ≡ x
taken_arm true x y e = refl
taken_arm false x y e = absurd (subst T (sym e) tt)

-- a reply in scope, with the record r where the answer is turned away
pub record Fine (r : Record) (a : Reply × Record) : Type 0 where
  pub scope : Among refuses_answer a.0
  pub keeps : (k d : ℕ) → a.0 ≡ refused k d → T (turns_away k) → a.1 ≡ r

-- no refusal
asked : (r q : Record) (u : Question) → Fine r (ask u, q)
asked r q u = record { scope = tt; keeps = λ k d e. absurd (ask≢refused e) }

done : (r q : Record) (o : Outcome) → Fine r (ended o, q)
done r q o = record { scope = tt; keeps = λ k d e. absurd (ended≢refused e) }

-- a refusal that ends a fit
ending : (r q : Record) (k d : ℕ) → ends_job k d ≡ true → turns_away k ≡ false → Fine r (refused k d, q)
ending r q k d e n =
    record { scope = subst T (sym (ap (λ (b : Bool). (turns_away k && eqb d 0) || b) e)) (or_true (turns_away k && eqb d 0)); keeps = λ j c i t. absurd (subst T (ap turns_away (refused_number i) ∙ n) t) }
  where
    or_true : (b : Bool) → T (b || true)
    or_true true = tt
    or_true false = tt

-- a refusal that a record can hold is none that turns an answer away
known_ends : (k d : ℕ) → known_refusal_of k d ≡ true → turns_away k ≡ false
known_ends k d e = go ((known k d).0 e)
  where
    at : (j : ℕ) → turns_away j ≡ false → k ≡ j → turns_away k ≡ false
    at j h i = ap turns_away i ∙ h

    go : EndingMark k d → turns_away k ≡ false
    go (inl h) = at 5 refl h.0
    go (inr (inl h)) = at 12 refl h.0
    go (inr (inr h)) = others h.1
      where
        others : OneOf k (6 ∷ 7 ∷ 9 ∷ 10 ∷ 11 ∷ 13 ∷ 14 ∷ 18 ∷ 19 ∷ []) → turns_away k ≡ false
        others (inl i) = at 6 refl i
        others (inr (inl i)) = at 7 refl i
        others (inr (inr (inl i))) = at 9 refl i
        others (inr (inr (inr (inl i)))) = at 10 refl i
        others (inr (inr (inr (inr (inl i))))) = at 11 refl i
        others (inr (inr (inr (inr (inr (inl i)))))) = at 13 refl i
        others (inr (inr (inr (inr (inr (inr (inl i))))))) = at 14 refl i
        others (inr (inr (inr (inr (inr (inr (inr (inl i)))))))) = at 18 refl i
        others (inr (inr (inr (inr (inr (inr (inr (inr (inl i))))))))) = at 19 refl i
        others (inr (inr (inr (inr (inr (inr (inr (inr (inr x))))))))) = elim x [ ]

known_fine : (r q : Record) (k d : ℕ) → known_refusal_of k d ≡ true → Fine r (refused k d, q)
known_fine r q k d e = ending r q k d (first (known_refusal_of k d) _ e) (known_ends k d e)
  where
    first : (a b : Bool) → a ≡ true → a || b ≡ true
    first a b h = ap (λ (c : Bool). c || b) h

-- a record of a gradient fit holds none but those
abbrev Holds : Record → Type 0
Holds q = gradient_job_of q.job ≡ true → Named q.descent

descent_stands : (r q : Record) → Named q.descent → Fine r (standing_descent_of q)
unfolding standing_descent_of valid_ending_of
descent_stands r q h =
    either (Fine r) (quasinewton.asks_of q.descent) _ _ (either (Fine r) (quasinewton.gradient_due_of q.descent) _ _ (asked r q _) (asked r q _)) (go (eqb q.descent.phase by_refusal) h.ending)
  where
    go : (b : Bool) → cond b (known_refusal_of q.descent.number q.descent.detail) true ≡ true
        → Fine r (cond b (refused_of q q.descent.number q.descent.detail) (descent_ends_of q))
    go true e = known_fine r q q.descent.number q.descent.detail e
    go false e = done r q _

-- what stands is in scope, and turns nothing away
stands : (r q : Record) → Holds q → Fine r (standing_of q)
unfolding standing_of standing_simplex_of standing_search_of standing_differences_of known_refusal_of
stands r q h =
    either (Fine r) (eqb q.job simplex_mark) _ _
    (either (Fine r) (leb q.simplex.phase last_asking) _ _ (asked r q _)
    (either (Fine r) (eqb q.simplex.phase not_finite) _ _ (ending r q 20 0 refl refl) (done r q _)))
    (either (Fine r) (eqb q.job search_mark) _ _
    (either (Fine r) (ltb asks_difference q.descent.search.phase) _ _ (done r q _)
    (either (Fine r) (eqb q.descent.search.phase asks_gradient) _ _ (asked r q _) (asked r q _)))
    (gradients (gradient_job_of q.job) refl))
  where
    gradients : (b : Bool) → gradient_job_of q.job ≡ b → Fine r (cond b (standing_descent_of q) (standing_differences_of q))
    gradients true e = descent_stands r q (h e)
    gradients false e = either (Fine r) (eqb q.diff.at q.n) _ _ (done r q _) (asked r q _)

refuses : (r : Record) (k : ℕ) → T (turns_away k) → Fine r (refused_of r k 0)
refuses r k t = record { scope = go (turns_away k) t; keeps = λ j d e h. refl }
  where
    go : (b : Bool) → T b → T ((b && true) || ends_job k 0)
    go true h = tt
    go false h = absurd h

-- a record in range does, and has an unknown
valid_holds : (r : Record) → valid_of r ≡ true → Holds r
valid_holds r e g = record { ending = (ending_part r.descent).1 ((in_range r e).marks.ending (gradient_marks r.job g)) }

valid_some : (r : Record) → valid_of r ≡ true → gradient_job_of r.job ≡ true → 0 < r.n
valid_some r e g = (in_range r e).unknowns.some (λ k. ⊎_elim (λ i. omega (arith, i, k)) (λ i. omega (arith, i, k)) (gradient_marks r.job g))

-- it lasts
stepped_holds : (r : Record) (v : Float) → valid_of r ≡ true → Holds r → Holds (stepped_of r v)
unfolding stepped_of
stepped_holds r v e h = go (eqb r.job simplex_mark) refl (eqb r.job search_mark) refl (gradient_job_of r.job) refl
  where
    fixed : quasinewton_fixed.Fixed
    fixed = gradient_fixed_of r

    q : Moved
    q = quasinewton.settled_of fixed (quasinewton.told_of fixed r.descent (read_of v)) r.model (r.counts.fevals + 1)

    go : (a : Bool) → eqb r.job simplex_mark ≡ a → (b : Bool) → eqb r.job search_mark ≡ b → (c : Bool) → gradient_job_of r.job ≡ c
        → Holds (cond a (valued_of r r.diff (simplex_told (fixed_of r) r.simplex (read_of v) (r.counts.fevals + 1)) r.descent r.model)
        (cond b (valued_of r r.diff r.simplex (quasinewton.with_search r.descent (linesearch.told_of (search_fixed_of r) r.descent.line r.descent.search (read_of v) v)) r.model)
        (cond c (valued_of r r.diff r.simplex q.descent q.model) (valued_of r (told_of r.diff v) r.simplex r.descent r.model))))
    go true i b j c k = h
    go false i true j c k = λ e. searched_named r.descent _ (h e)
    go false i false j true k = λ i. settled_named fixed (valid_some r e k) _ r.model (r.counts.fevals + 1) (told_named fixed (valid_some r e k) r.descent (read_of v) (h k))
    go false i false j false k = h

graded_holds : (r : Record) (g : List Float) → valid_of r ≡ true → Holds r → gradient_due_of r ≡ true → Holds (graded_of r g)
unfolding graded_of gradient_due_of
graded_holds r g u h due = go (eqb r.job search_mark) refl due
  where
    fixed : quasinewton_fixed.Fixed
    fixed = gradient_fixed_of r

    q : Moved
    q = quasinewton.settled_of fixed (quasinewton.told_gradient_of fixed r.descent g) r.model r.counts.fevals

    go : (a : Bool) → eqb r.job search_mark ≡ a
        → cond a (eqb r.descent.search.phase asks_gradient) (cond (gradient_job_of r.job) (quasinewton.gradient_due_of r.descent) false) ≡ true
        → Holds (cond a (sloped_of r (quasinewton.with_search r.descent (linesearch.told_gradient_of (search_fixed_of r) r.descent.line r.descent.search g)) r.model) (sloped_of r q.descent q.model))
    go true i z = λ e. searched_named r.descent _ (h e)
    go false i z = λ e. settled_named fixed (valid_some r u e) _ r.model r.counts.fevals (told_gradient_named fixed (valid_some r u e) r.descent g (h e))

fine : (r : Record) (number kind : ℕ) (words : List Float) → Fine r (answer_of r number kind words)
unfolding answer_of heard_of taken_of taken_gradient_of
fine r number kind words = go (valid_of r) refl
  where
    heard : valid_of r ≡ true → (b : Bool) → gradient_due_of r ≡ b → Fine r (cond b (taken_gradient_of r (from_slice_of words r.n)) (taken_of r (get_or words 0 nan)))
    heard h true e = stands r (graded_of r (from_slice_of words r.n)) (graded_holds r (from_slice_of words r.n) h (valid_holds r h) e)
    heard h false e = stands r (stepped_of r (get_or words 0 nan)) (stepped_holds r (get_or words 0 nan) h (valid_holds r h))

    go : (b : Bool) → valid_of r ≡ b → Fine r (cond b (heard_of r number kind words) (refused_of r 1 0))
    go true v =
        let h = valid_holds r v in
        either (Fine r) (repeats_of r.accepted number) _ _ (stands r r h)
        (either (Fine r) (over_of r) _ _ (refuses r 15 tt)
        (either (Fine r) (not (eqb number (r.accepted + 1))) _ _ (refuses r 16 tt)
        (either (Fine r) (not (suits_of r kind (length words))) _ _ (refuses r 17 tt) (heard v (gradient_due_of r) refl))))
    go false v = refuses r 1 tt

repeated : (r : Record) (number kind : ℕ) (words : List Float) → valid_of r ≡ true → repeats_of r.accepted number ≡ true → answer_of r number kind words ≡ standing_of r
unfolding answer_of heard_of
repeated r number kind words v e =
    taken_arm (valid_of r) _ _ v ∙ taken_arm (repeats_of r.accepted number) _ _ e

out_of_range : (r : Record) (number kind : ℕ) (words : List Float) → valid_of r ≡ false → answer_of r number kind words ≡ (refused 1 0, r)
unfolding answer_of
out_of_range r number kind words e = rw e

blank_refused : valid_of blank_of ≡ false
unfolding valid_of valid_part_of blank_of gradient_job_of
blank_refused = refl

pub answers : Answers
answers = record {
  in_scope = λ r number kind words. (fine r number kind words).scope;
  refused_keeps = λ r number kind words. (fine r number kind words).keeps;
  repeat_keeps = λ r number kind words v e.
      let s = repeated r number kind words v e in
      (λ i. (s i).0, subst (λ (a : Reply × Record). a.1 ≡ r) (sym s) (stands_keeps r));
  out_of_range = out_of_range;
  blank = λ number kind words. out_of_range blank_of number kind words blank_refused;
}
