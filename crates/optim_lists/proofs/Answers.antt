-- An answer to lists is the answer to the record that they are: `lists_answer`. Assumes nothing.
use Prim.Native.Nat.{ℕ, ◌+◌}
use mathlib.Core.Path.{◌≡◌, refl, sym, ap, ◌∙◌}
use mathlib.Core.Bool.{Bool, true, false, not, cond}
use mathlib.Core.List.{List}
use native.Mathlib.Omega.{arith}
use lib.Dec.{eqb}
use lib.ListN.{length}
use lib.Ieee.{Float}
use borrow.Author.Tests.{eqb-true, eq-eqb}
use Rattle.float.proofs.Tests.{either}
use Rattle.protocol.specs.Protocol.{Reply, refused}
use Rattle.optim_record.specs.declared.Record.{Record}
use Rattle.optim_reply.specs.Standing.{standing_of}
use Rattle.optim_reply.proofs.Says.{stands_keeps}
use Rattle.optim_rules.specs.Rules.{meets_of, accepts_of}
use Rattle.optim_rules.specs.Moves.{counted_of}
use Rattle.optim.specs.Answer.{answer_of}
use Rattle.optim.specs.Parts.{replied_of}
use Rattle.optim.proofs.Advance.{moved_of as parts_of, moved_accepted, kept_of, kept_moved, kept_left, replies}
use Rattle.optim_lists.specs.Layout as place
use Rattle.optim_lists.specs.Lists.{Lists, mark, record_of, lists_of, formed_of}
use Rattle.optim_lists.specs.Answered.{moved_of, answered_of, started_of}
use Rattle.optim_lists.specs.Laws.{ListsAnswer}
use Rattle.optim_lists.proofs.Laws.{record_back, formed}

-- ---- the record after an answer

replied_keeps : (r : Record) (why : ℕ) → (replied_of r why).1 ≡ r
unfolding replied_of
replied_keeps r why = either (λ a. a.1 ≡ r) (not (eqb why 0)) (refused why 0, r) (standing_of r) refl (stands_keeps r)

module _ (r : Record) (number kind : ℕ) (words : List Float) where
  abbrev A : Reply × Record
  A = answer_of r number kind words

  abbrev why : ℕ
  why = meets_of r number kind (length words)

  pub kept_next : A.1 ≡ kept_of r number kind words
  kept_next = ap (λ (a : Reply × Record). a.1) (sym (replies r number kind words)) ∙ replied_keeps (kept_of r number kind words) why

  -- where the count of accepted answers has not moved, nothing has
  unmoved : A.1.accepted ≡ r.accepted → A.1 ≡ r
  unmoved h = kept_next ∙ go (accepts_of r number why) refl
    where
      go : (b : Bool) → accepts_of r number why ≡ b → kept_of r number kind words ≡ r
      go false e = sym (kept_left r number kind words e)
      go true e =
          let more : (kept_of r number kind words).accepted ≡ (parts_of r words).accepted + 1 = ap (λ (k : Record). k.accepted) (sym (kept_moved r number kind words (parts_of r words) (counted_of r) e refl refl)) in
          absurd (omega (arith, more, moved_accepted r words, ap (λ (k : Record). k.accepted) (sym kept_next) ∙ h))

-- ---- of lists

pub accepted_read : (l : Lists) → (record_of l).accepted ≡ mark l.marks place.accepted
unfolding record_of
accepted_read l = refl

module _ (l : Lists) (number kind : ℕ) (words : List Float) where
  abbrev B : Reply × Record
  B = answer_of (record_of l) number kind words

  pub unknown_flag : formed_of l ≡ false → answered_of l number kind words ≡ (refused 1 0, l)
  unfolding answered_of
  unknown_flag e = rw e

  pub known_flags : formed_of l ≡ true → answered_of l number kind words ≡ (B.0, moved_of l B.1)
  unfolding answered_of
  known_flags e = rw e

  pub answer_replies : formed_of l ≡ true → (answered_of l number kind words).0 ≡ B.0
  answer_replies e = ap (λ (a : Reply × Lists). a.0) (known_flags e)

  -- what is as it was, and what moves
  module _ (P : Lists → Type 0) (stays : B.1 ≡ record_of l → P l) (moves : P (lists_of B.1)) where
    by_move : P (moved_of l B.1)
    by_move = go (eqb B.1.accepted (mark l.marks place.accepted)) refl
      where
        go : (b : Bool) → eqb B.1.accepted (mark l.marks place.accepted) ≡ b → P (cond b l (lists_of B.1))
        go true e = stays (unmoved (record_of l) number kind words (eqb-true _ _ e ∙ sym (accepted_read l)))
        go false e = moves

  pub answer_leaves : formed_of l ≡ true → record_of (answered_of l number kind words).1 ≡ B.1
  answer_leaves e = ap (λ (a : Reply × Lists). record_of a.1) (known_flags e) ∙ by_move (λ k. record_of k ≡ B.1) (λ h. sym h) (record_back B.1)

  stays_formed : formed_of l ≡ true → formed_of (answered_of l number kind words).1 ≡ true
  stays_formed e = ap (λ (a : Reply × Lists). formed_of a.1) (known_flags e) ∙ by_move (λ k. formed_of k ≡ true) (λ h. e) (formed B.1)

  -- where the record stays, the lists do
  pub kept : formed_of l ≡ true → B.1 ≡ record_of l → (answered_of l number kind words).1 ≡ l
  kept e h = ap (λ (a : Reply × Lists). a.1) (known_flags e) ∙ ap (λ (b : Bool). cond b l (lists_of B.1)) (eq-eqb _ _ (ap (λ (k : Record). k.accepted) h ∙ accepted_read l))

one_form : (r : Record) (number kind : ℕ) (words : List Float) → answered_of (lists_of r) number kind words ≡ started_of (answer_of r number kind words)
one_form r number kind words =
    known_flags (lists_of r) number kind words (formed r)
    ∙ ap (λ (k : Lists). ((answer_of (record_of (lists_of r)) number kind words).0, k))
    (by_move (lists_of r) number kind words (λ k. k ≡ lists_of (answer_of (record_of (lists_of r)) number kind words).1) (λ h. ap lists_of (sym (h ∙ record_back r))) refl)
    ∙ ap (λ (q : Record). started_of (answer_of q number kind words)) (record_back r)

pub lists_answer : ListsAnswer
lists_answer = record { answer_replies = answer_replies; answer_leaves = answer_leaves; stays_formed = stays_formed; one_form = one_form }
