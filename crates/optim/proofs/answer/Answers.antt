-- `optim::answer` meets its contract: the record that is kept, where its branches meet, and what is said of it. Assumes nothing.
use borrow.Author.Tests.{eqb-true, ne_eqb}
use Prim.Native.Nat.{ℕ}
use mathlib.Core.Path.{◌≡◌, refl, sym, ap, subst, ◌∙◌}
use mathlib.Core.Bool.{Bool, true, false}
use mathlib.Core.List.{List}
use native.Mathlib.Omega.{arith}
use lib.Dec.{eqb}
use lib.ListN.{length}
use lib.Ieee.{Float}
use Rattle.std.specs.Prelude.{Ok, Err}
use Rattle.quasinewton_model.specs.declared.Model.{Model}
use Rattle.quasinewton_model.specs.Step.{FewPairs}
use Rattle.quasinewton.proofs.Range.{after_few}
use Rattle.optim_record.specs.declared.Record.{Record}
use Rattle.optim_record.specs.Record.{gradient_fixed_of, gradient_job_of, Other, Ranges, Open, Stands}
use Rattle.optim_reply.proofs.Says.{says, says_also}
use Rattle.optim_rules.specs.Rules.{meets_of, accepts_of, accepted_of}
use Rattle.optim_rules.specs.Moves.{Worded}
use Rattle.protocol.specs.declared.Refusal.{Refusal}
use Rattle.protocol.specs.Protocol.{refusal, reply_of}
use Rattle.optim_reply.specs.Spoken.{reply_with}
use Rattle.optim.specs.Answer.{answer_of}
use Rattle.optim.specs.Parts.{replied_of}
use Rattle.optim_reply.specs.Standing.{refused_of, standing_of}
use Rattle.optim.proofs.Advance.{with_parts, model_of, moved_of, model_stored, model_left, descent_on, simplex_moved, search_moved, asking_moved, descent_moved, differences_moved, due_simplex, due_other, accepted_ranges, accepted_open, accepted_worded, kept_of, kept_counted, kept_left, kept_stands, replies}
use Rattle.optim.proofs.answer.Goals as goal
use Rattle.optim.proofs.answer.Goals.{Joined-accepted, In_default, then-accepted, else-accepted, in-1, in-4, in_default+then-asks, in_default+else-asks, in_default-2, then-stores, else-stores}

-- an answer that meets no refusal, by the call that decides whether it is accepted
decides : (r : Record) (number kind : ℕ) (words : List Float) (b v : Bool) → Ok b ≡ accepted_of r number kind (length words) → b ≡ v
    → (meets_of r number kind (length words) ≡ 0) × (accepts_of r number (meets_of r number kind (length words)) ≡ v)
unfolding accepted_of
decides r number kind words b v e t = go (eqb (meets_of r number kind (length words)) 0) refl
  where
    why : ℕ
    why = meets_of r number kind (length words)

    go : (d : Bool) → eqb why 0 ≡ d → (why ≡ 0) × (accepts_of r number why ≡ v)
    go true z = let h = (rw z at e) in let k : b ≡ accepts_of r number why = cc in (eqb-true _ _ z, sym k ∙ t)
    go false z = let h = (rw z at e) in cc

-- an answer that meets a refusal leaves the record as it is
met : (r : Record) (number kind : ℕ) (words : List Float) (w : Refusal) → Err w ≡ accepted_of r number kind (length words) → refused_of r w.number w.detail ≡ answer_of r number kind words
unfolding accepted_of accepts_of replied_of
met r number kind words w e = go (eqb why 0) refl
  where
    why : ℕ
    why = meets_of r number kind (length words)

    go : (d : Bool) → eqb why 0 ≡ d → refused_of r w.number w.detail ≡ answer_of r number kind words
    go true z = let h = (rw z at e) in cc
    go false z =
        let h = (rw z at e) in
        let k : w ≡ refusal why 0 = cc in
        let left : refused_of r why 0 ≡ replied_of (kept_of r number kind words) why = rw z in
        rw k (left ∙ replies r number kind words)

-- what stands is said where no refusal is met
said_of : (r : Record) (why : ℕ) → why ≡ 0 → standing_of r ≡ replied_of r why
unfolding replied_of
said_of r why z = rw z

module _ (r : Record) (number kind : ℕ) (words : List Float) (b : Bool) (e : Ok b ≡ accepted_of r number kind (length words)) (t : b ≡ true) where
  took : accepts_of r number (meets_of r number kind (length words)) ≡ true
  took = (decides r number kind words b true e t).1

  -- what is known of the record of an answer that is accepted
  in_range : Ranges r
  in_range = accepted_ranges r number kind words took

  is_open : Open r
  is_open = accepted_open r number kind words took

  worded : Worded r words
  worded = accepted_worded r number kind words took

-- an answer of none of the other jobs is one of differences
differs : (c : In_default) → gradient_job_of c.args.r.job ≡ false → Other c.args.r
differs c none = let other = c.in_default in record { simplex = λ e. grind arith; search = λ e. grind arith; gradient = none }

-- the record that is kept, where the branches meet
kept_is : (c : Joined-accepted) → c.if-accepted.q ≡ kept_of c.args.r c.args.number c.args.kind c.args.words.now
kept_is c =
    let r = c.args.r in
    let words = c.args.words.now in
    elim c.if-accepted.branch [
      | then-accepted v ↦
          let parts_are : v.match-q.q ≡ moved_of r words = elim v.match-q.branch [
            | in-1 w ↦ w.q-is ∙ simplex_moved r words _ w.in-1.is w.simplex_told-next.ensures
            | in-4 w ↦ w.q-is ∙ search_moved r words _ w.in-4.is w.search_told-next.ensures
            | in_default+then-asks w ↦ w.q-is ∙ asking_moved r words (sym w.gradient_job.ensures ∙ w.if-gradient_job.true) _ w.descent_told-told.ensures (sym w.asks.ensures ∙ w.if-asks.true)
            | in_default+else-asks w ↦
                let model : w.if-stores.q ≡ with_parts r r.diff r.simplex r.descent (model_of r words) = elim w.if-stores.branch [
                  | then-stores u ↦ u.q-is ∙ ap (λ (m : Model). with_parts r r.diff r.simplex r.descent m) (model_stored r words _ _ w.gradient_fixed-fixed.ensures w.descent_told-told.ensures _ _ w.stores.ensures u.if-stores.true u.updated-q.ensures)
                  | else-stores u ↦ u.q-is ∙ ap (λ (m : Model). with_parts r r.diff r.simplex r.descent m) (model_left r words _ _ w.gradient_fixed-fixed.ensures w.descent_told-told.ensures _ w.stores.ensures u.if-stores.false)
                ] in
                w.q-is ∙ descent_moved r words (sym w.gradient_job.ensures ∙ w.if-gradient_job.true) w.if-stores.q _ model
                (descent_on r words _ _ w.gradient_fixed-fixed.ensures w.descent_told-told.ensures w.if-stores.q.model _ _ (ap (λ (p : Record). p.model) model) v.counted-counts.ensures w.settled-next.ensures)
            | in_default-2 w ↦
                let other = w.in_default in
                let o : Other r = record { simplex = λ e. grind arith; search = λ e. grind arith; gradient = sym w.gradient_job.ensures ∙ w.if-gradient_job.false } in
                w.q-is ∙ differences_moved r words o _ w.told-next.ensures
          ] in
          v.q-is ∙ kept_counted r c.args.number c.args.kind words v.match-q.q _ (took c.args.r c.args.number c.args.kind c.args.words.now _ c.in-Ok.ensures v.if-accepted.true) parts_are v.counted-counts.ensures
      | else-accepted v ↦ v.q-is ∙ kept_left r c.args.number c.args.kind words (decides r c.args.number c.args.kind words _ false c.in-Ok.ensures v.if-accepted.false).1
    ]

pub counted-counts-requires : goal.counted-counts-requires
counted-counts-requires c = in_range c.args.r c.args.number c.args.kind c.args.words.now _ c.in-Ok.ensures c.if-accepted.true

pub simplex_told-next-requires : goal.simplex_told-next-requires
simplex_told-next-requires c =
    let w = worded c.args.r c.args.number c.args.kind c.args.words.now _ c.in-Ok.ensures c.if-accepted.true in
    record { ranges = in_range c.args.r c.args.number c.args.kind c.args.words.now _ c.in-Ok.ensures c.if-accepted.true; job_value = c.in-1.is; words_nonzero = omega (arith, w.1 (due_simplex c.args.r c.in-1.is)) }

pub search_told-next-requires : goal.search_told-next-requires
search_told-next-requires c = record { n_bound = (in_range c.args.r c.args.number c.args.kind c.args.words.now _ c.in-Ok.ensures c.if-accepted.true).few; worded = worded c.args.r c.args.number c.args.kind c.args.words.now _ c.in-Ok.ensures c.if-accepted.true }

pub descent_told-told-requires : goal.descent_told-told-requires
descent_told-told-requires c = record { n_bound = (in_range c.args.r c.args.number c.args.kind c.args.words.now _ c.in-Ok.ensures c.if-accepted.true).few; worded = worded c.args.r c.args.number c.args.kind c.args.words.now _ c.in-Ok.ensures c.if-accepted.true }

pub stores-requires : goal.stores-requires
stores-requires c = rw c.gradient_fixed-fixed.ensures (in_range c.args.r c.args.number c.args.kind c.args.words.now _ c.in-Ok.ensures c.if-accepted.true).few

pub updated-q-requires : goal.updated-q-requires
updated-q-requires c =
    let h = in_range c.args.r c.args.number c.args.kind c.args.words.now _ c.in-Ok.ensures c.if-accepted.true in
    record { n_bound = rw c.gradient_fixed-fixed.ensures h.few; model_in_range = h.model (sym c.gradient_job.ensures ∙ c.if-gradient_job.true) }

pub settled-next-requires : goal.settled-next-requires
settled-next-requires c =
    let r = c.args.r in
    let words = c.args.words.now in
    let model_is : c.if-stores.q ≡ with_parts r r.diff r.simplex r.descent (model_of r words) = elim c.if-stores.branch [
      | then-stores u ↦ u.q-is ∙ ap (λ (m : Model). with_parts r r.diff r.simplex r.descent m) (model_stored r words _ _ c.gradient_fixed-fixed.ensures c.descent_told-told.ensures _ _ c.stores.ensures u.if-stores.true u.updated-q.ensures)
      | else-stores u ↦ u.q-is ∙ ap (λ (m : Model). with_parts r r.diff r.simplex r.descent m) (model_left r words _ _ c.gradient_fixed-fixed.ensures c.descent_told-told.ensures _ c.stores.ensures u.if-stores.false)
    ] in
    let h = in_range c.args.r c.args.number c.args.kind c.args.words.now _ c.in-Ok.ensures c.if-accepted.true in
    record { n_bound = rw c.gradient_fixed-fixed.ensures h.few; few_pairs = subst FewPairs (sym (ap (λ (p : Record). p.model) model_is)) (after_few (gradient_fixed_of c.args.r) _ _ (h.model (sym c.gradient_job.ensures ∙ c.if-gradient_job.true))) }

pub bounds-words-0 : goal.bounds-words-0
bounds-words-0 c =
    let o = differs (goal.at.bounds-words-0 c).In_default (sym c.gradient_job.ensures ∙ c.if-gradient_job.false) in
    let w = worded c.args.r c.args.number c.args.kind c.args.words.now _ c.in-Ok.ensures c.if-accepted.true in
    omega (arith, w.1 (due_other c.args.r (ne_eqb _ _ o.search) o.gradient))

pub told-next-requires : goal.told-next-requires
told-next-requires c =
    let h = in_range c.args.r c.args.number c.args.kind c.args.words.now _ c.in-Ok.ensures c.if-accepted.true in
    let o = is_open c.args.r c.args.number c.args.kind c.args.words.now _ c.in-Ok.ensures c.if-accepted.true in
    omega (arith, o.next (differs (goal.at.told-next-requires c).In_default (sym c.gradient_job.ensures ∙ c.if-gradient_job.false)), h.few)

pub overflow_add-last : goal.overflow_add-last
overflow_add-last c = omega (arith, (in_range c.args.r c.args.number c.args.kind c.args.words.now _ c.in-Ok.ensures c.if-accepted.true).numbers)

pub standing-requires : goal.standing-requires
standing-requires c =
    let a = c.args in
    subst Stands (sym (kept_is (goal.at.standing-requires c).Joined-accepted)) (kept_stands a.r a.number a.kind a.words.now (decides a.r a.number a.kind a.words.now _ _ c.in-Ok.ensures refl).0)

pub returns : goal.returns
returns c =
    let a = c.args in
    let none = (decides a.r a.number a.kind a.words.now _ _ c.in-Ok.ensures refl).0 in
    says_also _ _ _ (says _ _ _ c.answered-2.ensures c.standing.ensures) (rw (kept_is (goal.at.returns c).Joined-accepted) (said_of _ _ none) ∙ replies a.r a.number a.kind a.words.now)

pub returns-in-Err : goal.returns-in-Err
unfolding reply_with reply_of
returns-in-Err c =
    let why = c.in-Err.why in
    says_also _ (refused_of c.args.r why.number why.detail) _ (c.answered.ensures.0 ∙ rw c.refused.ensures, c.answered.ensures.1 ∙ c.refused.ensures)
    (met c.args.r c.args.number c.args.kind c.args.words.now why c.in-Err.ensures)
