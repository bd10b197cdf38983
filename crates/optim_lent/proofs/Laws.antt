-- What an answer leaves, by what the calls on the way to it gave. Assumes nothing.
use Prim.Native.Nat.{ℕ, ◌<◌, zero-le}
use mathlib.Core.Path.{◌≡◌, refl, sym, ap, ◌∙◌, subst}
use mathlib.Core.Bool.{Bool, true, false, true≢false}
use mathlib.Core.List.{List}
use lib.Dec.{leb}
use native.Mathlib.Omega.{arith}
use lib.ListN.{length, take, drop}
use lib.Ieee.{Float}
use borrow.Author.Tests.{eq-eqb, ne_eqb}
use Rattle.std.specs.Bool.{MatchBool}
use Rattle.std.specs.List.{AllWithin, HoldsAt}
use Rattle.std.proofs.lemmas.List.{take_all, length-drop}
use Rattle.std.proofs.lemmas.List.Recursion.{and_from_places, and_fails_at}
use Rattle.protocol.specs.declared.Refusal.{Refusal}
use Rattle.protocol.specs.declared.Said.TheVariants.{Refused}
use Rattle.protocol.specs.Protocol.{Reply, refusal, reply_of}
use Rattle.optim_record.specs.declared.Record.{Record}
use Rattle.optim_record.specs.declared.Answered.{Answered}
use Rattle.optim_record.specs.Record.{outcome_of}
use Rattle.optim_reply.specs.Spoken.{spoken_by, spoken_in}
use Rattle.optim.specs.Answer.{answer_of}
use Rattle.optim_lists.specs.Layout as place
use Rattle.optim_lists.specs.Lists.{Lists, mark, record_of, lists_of, flags_only, formed_of}
use Rattle.optim_lists.specs.Answered.{moved_of, answered_of, point_with, slopes_with}
use Rattle.optim_lists.proofs.Answers.{unknown_flag, known_flags, answer_leaves}
use Rattle.optim_lent_start.proofs.Laws.{Leaves, next_is, leaves, n_read}

-- ---- flags

-- the flags are all that stands behind the counts
pub flags_part : (ms : List ℕ) → length ms ≡ place.mark_count → take 11 (drop place.flags ms) ≡ drop place.flags ms
flags_part ms h = take_all 11 (drop place.flags ms) (omega (arith, length-drop place.flags ms, h))

-- what `all` says of them
pub flags_checked : (b : Bool) (ms : List ℕ) → MatchBool b (AllWithin (λ k. leb k 1 ≡ true) ms 0 (length ms)) ((i : ℕ) × (i < length ms) × HoldsAt (λ k. leb k 1 ≡ false) ms i) → b ≡ flags_only ms
flags_checked true ms h = sym (and_from_places flags_only (λ k. leb k 1) refl (λ k ks. refl) ms 0 (λ i l. h i 0 zero-le l))
flags_checked false ms h = sym (and_fails_at flags_only (λ k. leb k 1) refl (λ k ks. refl) ms h.0 0 h.1 (h.2 0))

-- ---- an answer

module _ (l : Lists) (number kind : ℕ) (words : List Float) where
  -- a flag is an unknown mark
  unknown : (p q : List Float) (b : Bool) → b ≡ flags_only (drop place.flags l.marks) → b ≡ false → Leaves (Refused (refusal 1 0)) l p q p q (answered_of l number kind words)
  unfolding formed_of reply_of point_with slopes_with
  unknown p q true e t = absurd (true≢false t)
  unknown p q false e t = subst (Leaves (Refused (refusal 1 0)) l p q p q) (sym (unknown_flag l number kind words (sym e))) (record { outcome = refl; point = refl; slopes = refl })

  pub answer_unknown : (p q : List Float) (why : Refusal) → why ≡ refusal 1 0 → (b : Bool) → b ≡ flags_only (drop place.flags l.marks) → b ≡ false → Leaves (Refused why) l p q p q (answered_of l number kind words)
  answer_unknown p q why ew b e t = subst (λ (k : Refusal). Leaves (Refused k) l p q p q (answered_of l number kind words)) (sym ew) (unknown p q b e t)

  module _ (a : Answered) (r : Record) (p q : List Float) {p' q' : List Float} (b : Bool) (eb : b ≡ flags_only (drop place.flags l.marks)) (fine : b ≡ true) (er : r ≡ record_of l)
      (ea : outcome_of a ≡ answer_of r number kind words) (es : spoken_in a ≡ spoken_by (answer_of r number kind words))
      (ep : p' ≡ point_with (reply_of a.said 0 a.x a.g) a.x p) (eq : q' ≡ slopes_with (reply_of a.said 0 a.x a.g) a.g q) where
    abbrev A : Reply × Record
    A = answer_of (record_of l) number kind words

    known : formed_of l ≡ true
    unfolding formed_of
    known = sym eb ∙ fine

    outcome_is : outcome_of a ≡ A
    outcome_is = ea ∙ ap (λ (k : Record). answer_of k number kind words) er

    ends : (l' : Lists) → l' ≡ moved_of l a.next → Leaves a.said l' p q p' q' (answered_of l number kind words)
    ends l' h = subst (Leaves a.said l' p q p' q') whole (leaves a A p q outcome_is (es ∙ ap (λ (k : Record). spoken_by (answer_of k number kind words)) er) ep eq l' (sym (n_read a A p q outcome_is (es ∙ ap (λ (k : Record). spoken_by (answer_of k number kind words)) er) ep eq l') ∙ ap (λ (k : Record). k.n) (left ∙ sym next)) left)
      where
        next : a.next ≡ A.1
        next = next_is a A p q outcome_is (es ∙ ap (λ (k : Record). spoken_by (answer_of k number kind words)) er) ep eq

        moved : l' ≡ (answered_of l number kind words).1
        moved = h ∙ ap (moved_of l) next ∙ sym (ap (λ (o : Reply × Lists). o.1) (known_flags l number kind words known))

        left : record_of l' ≡ A.1
        left = ap record_of moved ∙ answer_leaves l number kind words known

        whole : (A.0, l') ≡ answered_of l number kind words
        whole = ap (λ (k : Lists). (A.0, k)) (h ∙ ap (moved_of l) next) ∙ sym (known_flags l number kind words known)

    -- the count of accepted answers has moved, or not
    pub answer_moved : (l' : Lists) → (a.next.accepted ≡ mark l.marks place.accepted → ⊥) → l' ≡ lists_of a.next → Leaves a.said l' p q p' q' (answered_of l number kind words)
    answer_moved l' d h = ends l' (h ∙ moves)
      where
        moves : lists_of a.next ≡ moved_of l a.next
        moves = rw (ne_eqb _ _ d)

    pub answer_left : a.next.accepted ≡ mark l.marks place.accepted → Leaves a.said l p q p' q' (answered_of l number kind words)
    answer_left e = ends l stays
      where
        stays : l ≡ moved_of l a.next
        stays = rw (eq-eqb _ _ e)
