-- What a valid record's numbers keep to, and how many words an answer that suits has. Assumes nothing.
use Prim.Native.Nat.{ℕ, ◌≤◌, ◌<◌}
use mathlib.Core.Path.{◌≡◌, refl, sym, ◌∙◌, ap, subst}
use mathlib.Core.Bool.{Bool, true, false, not, cond, true≢false}
use mathlib.Core.Logic.{inl, inr}
use mathlib.Core.List.{List, [], ◌∷◌}
use native.Mathlib.Omega.{arith}
use lib.Dec.{T, eqb}
use lib.ListN.{length}
use lib.Ieee.{Float}
use borrow.Author.Tests.{eqb-true, eqb-false, ne_eqb}
use Rattle.quasinewton_model.specs.Step.{ModelInRange}
use Rattle.optim_record.specs.declared.Record.{Record}
use Rattle.optim_record.specs.Record.{gradient_job_of, valid_of, Other, Ranges, Open, Stands}
use Rattle.protocol.specs.Protocol.{simplex_mark, bfgs_mark, lbfgs_mark, search_mark, differences_mark}
use Rattle.optim_record.specs.Refusal1.{Descends, OneOf, InRange}
use Rattle.optim_record.proofs.Refusal1.{in_range}
use Rattle.optim_reply.specs.Standing.{over_of, gradient_due_of}
use Rattle.optim_rules.specs.Rules.{suits_of}

-- a chain of tests that is true has passed each
passed : (b x : Bool) → cond b false x ≡ true → (b ≡ false) × (x ≡ true)
passed true x e = absurd (subst T (sym e) tt)
passed false x e = (refl, e)

-- the model of a gradient fit holds no more pairs than its memory
model_ranges : (r : Record) → InRange r → gradient_job_of r.job ≡ true → ModelInRange r.model
unfolding gradient_job_of
model_ranges r h g = go (eqb r.job bfgs_mark) refl g
  where
    within : Descends r → ModelInRange r.model
    within j = record { most = λ l. h.options.held j; within = λ l. h.pairs j }

    go : (b : Bool) → eqb r.job bfgs_mark ≡ b → cond b true (eqb r.job lbfgs_mark) ≡ true → ModelInRange r.model
    go true e i = within (inl (eqb-true _ _ e))
    go false e i = within (inr (eqb-true _ _ i))

-- none of the other jobs in range is that of differences
other_job : (r : Record) → InRange r → Other r → r.job ≡ differences_mark
unfolding gradient_job_of
other_job r h o = go h.marks.job
  where
    go : OneOf r.job (simplex_mark ∷ bfgs_mark ∷ lbfgs_mark ∷ search_mark ∷ differences_mark ∷ []) → r.job ≡ differences_mark
    go (inl j) = absurd (o.simplex j)
    go (inr (inl j)) = absurd (true≢false (sym (ap gradient_job_of j) ∙ o.gradient))
    go (inr (inr (inl j))) = absurd (true≢false (sym (ap gradient_job_of j) ∙ o.gradient))
    go (inr (inr (inr (inl j)))) = absurd (o.search j)
    go (inr (inr (inr (inr (inl j))))) = j
    go (inr (inr (inr (inr (inr x))))) = elim x [ ]

pub ranges : (r : Record) → valid_of r ≡ true → Ranges r
ranges r e =
    let h = in_range r e in
    record {
      few = h.unknowns.most;
      numbers = h.counts.accepted;
      values = h.counts.fevals;
      gradients = h.counts.gevals;
      some = λ j. h.unknowns.some (λ k. omega arith);
      vertex = h.positions.vertex;
      model = model_ranges r h;
      coordinate = λ o. h.positions.coordinate (other_job r h o);
    }

-- the record of a job that has not ended has a coordinate to come
pub open_of : (r : Record) → Ranges r → over_of r ≡ false → Open r
unfolding over_of
open_of r h e = record { next = λ d. less r.diff.at r.n (h.coordinate d) (eqb-false _ _ (rw (ne_eqb _ _ d.simplex, ne_eqb _ _ d.search, d.gradient) at e)) }
  where
    less : (a n : ℕ) → a ≤ n → (a ≡ n → ⊥) → a < n
    less a n l d = omega arith

pub stands : (r : Record) → Ranges r → Stands r
stands r h = record { few = h.few; numbers = omega (arith, h.numbers); coordinate = h.coordinate }

-- an answer that suits has as many words as were asked for
pub one_word : (r : Record) (kind : ℕ) (words : List Float) → gradient_due_of r ≡ false → suits_of r kind (length words) ≡ true → length words ≡ 1
unfolding suits_of
one_word r kind words g e = eqb-true (length words) 1 (passed (not (eqb kind 86)) (eqb (length words) 1) (rw g at e)).1

pub n_words : (r : Record) (kind : ℕ) (words : List Float) → gradient_due_of r ≡ true → suits_of r kind (length words) ≡ true → length words ≡ r.n
unfolding suits_of
n_words r kind words g e = eqb-true (length words) r.n (passed (not (eqb kind 71)) (eqb (length words) r.n) (rw g at e)).1
