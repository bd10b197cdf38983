-- What a call over lists leaves in them, and in `point` and `slopes`, by what it says and stores. Assumes nothing.
use Prim.Native.Nat.{ℕ}
use mathlib.Core.Path.{◌≡◌, refl, sym, ap, ap₂, ◌∙◌, subst}
use mathlib.Core.List.{List}
use lib.Ieee.{Float}
use Rattle.protocol.specs.declared.Said.{Said}
use Rattle.protocol.specs.declared.Said.TheVariants.{Ask, Fitted, Searched, Differenced, Refused}
use Rattle.protocol.specs.Protocol.{Reply, ask, ended, refused, reply_of}
use Rattle.optim_record.specs.declared.Record.{Record}
use Rattle.optim_record.specs.declared.Answered.{Answered}
use Rattle.optim_record.specs.Record.{outcome_of}
use Rattle.optim_reply.specs.declared.Spoken.{Spoken}
use Rattle.optim_reply.specs.Spoken.{spoken_of, spoken_from, spoken_by, spoken_in}
use Rattle.optim_lists.specs.Layout as place
use Rattle.optim_lists.specs.Lists.{Lists, mark, record_of, lists_of}
use Rattle.optim_lists.specs.Answered.{started_of, point_with, slopes_with, point_after, slopes_after}
use Rattle.optim_lists.proofs.Laws.{record_back}

-- ---- replies

-- how many coordinates count makes no difference to where a reply's point goes
point_any : (s : Said) (n : ℕ) (x g p : List Float) → point_with (reply_of s 0 x g) x p ≡ point_with (reply_of s n x g) x p
unfolding reply_of point_with
point_any (Ask k κ) n x g p = refl
point_any (Fitted s) n x g p = refl
point_any (Searched s) n x g p = refl
point_any Differenced n x g p = refl
point_any (Refused k) n x g p = refl

slopes_any : (s : Said) (n : ℕ) (x g p : List Float) → slopes_with (reply_of s 0 x g) g p ≡ slopes_with (reply_of s n x g) g p
unfolding reply_of slopes_with
slopes_any (Ask k κ) n x g p = refl
slopes_any (Fitted s) n x g p = refl
slopes_any (Searched s) n x g p = refl
slopes_any Differenced n x g p = refl
slopes_any (Refused k) n x g p = refl

-- the reply is the same of the lists that it was written to
reply_written : (s : Said) (n : ℕ) (x g p q : List Float) → reply_of s n (point_with (reply_of s 0 x g) x p) (slopes_with (reply_of s 0 x g) g q) ≡ reply_of s n x g
unfolding reply_of point_with slopes_with
reply_written (Ask k κ) n x g p q = refl
reply_written (Fitted s) n x g p q = refl
reply_written (Searched s) n x g p q = refl
reply_written Differenced n x g p q = refl
reply_written (Refused k) n x g p q = refl

-- what is said with a reply is what its record says, where the reply speaks of it
point_spoken : (y : Reply) (s : Spoken) (p : List Float) → point_with y (spoken_from s y).x p ≡ point_with y s.x p
unfolding point_with
point_spoken (ask q) s p = refl
point_spoken (ended o) s p = refl
point_spoken (refused k d) s p = refl

slopes_spoken : (y : Reply) (s : Spoken) (p : List Float) → slopes_with y (spoken_from s y).g p ≡ slopes_with y s.g p
unfolding slopes_with
slopes_spoken (ask q) s p = refl
slopes_spoken (ended o) s p = refl
slopes_spoken (refused k d) s p = refl

-- ---- a call that leaves the reply and the record of y in the lists l, with p and q written over

-- what the contract of a call over lists says
pub record Leaves (s : Said) (l : Lists) (p q p' q' : List Float) (y : Reply × Lists) : Type 0 where
  pub outcome : (reply_of s (mark l.marks place.n) p' q', l) ≡ y
  pub point : p' ≡ point_after y p
  pub slopes : q' ≡ slopes_after y q

module _ (a : Answered) (y : Reply × Record) (p q : List Float) {p' q' : List Float} (ea : outcome_of a ≡ y) (es : spoken_in a ≡ spoken_by y)
    (ep : p' ≡ point_with (reply_of a.said 0 a.x a.g) a.x p) (eq : q' ≡ slopes_with (reply_of a.said 0 a.x a.g) a.g q) where
  reply_is : reply_of a.said a.next.n a.x a.g ≡ y.0
  unfolding outcome_of
  reply_is = ap (λ (z : Reply × Record). z.0) ea

  pub next_is : a.next ≡ y.1
  unfolding outcome_of
  next_is = ap (λ (z : Reply × Record). z.1) ea

  point_is : p' ≡ point_with y.0 (spoken_of y.1).x p
  point_is =
      ep ∙ point_any a.said a.next.n a.x a.g p ∙ ap₂ (λ (z : Reply) (s : Spoken). point_with z s.x p) reply_is es ∙ point_spoken y.0 (spoken_of y.1) p

  slopes_is : q' ≡ slopes_with y.0 (spoken_of y.1).g q
  slopes_is =
      eq ∙ slopes_any a.said a.next.n a.x a.g q ∙ ap₂ (λ (z : Reply) (s : Spoken). slopes_with z s.g q) reply_is es ∙ slopes_spoken y.0 (spoken_of y.1) q

  -- the lists l are the record of y
  pub leaves : (l : Lists) → mark l.marks place.n ≡ a.next.n → record_of l ≡ y.1 → Leaves a.said l p q p' q' (y.0, l)
  leaves l n h =
      record {
        outcome = ap (λ (z : Reply). (z, l)) (ap₂ (λ (u v : List Float). reply_of a.said (mark l.marks place.n) u v) ep eq ∙ reply_written a.said (mark l.marks place.n) a.x a.g p q ∙ ap (λ (k : ℕ). reply_of a.said k a.x a.g) n ∙ reply_is);
        point = point_is ∙ ap (λ (r : Record). point_with y.0 (spoken_of r).x p) (sym h);
        slopes = slopes_is ∙ ap (λ (r : Record). slopes_with y.0 (spoken_of r).g q) (sym h);
      }

  pub n_read : (l : Lists) → (record_of l).n ≡ mark l.marks place.n
  unfolding record_of
  n_read l = refl

  -- a start
  pub started : (l : Lists) → l ≡ lists_of a.next → Leaves a.said l p q p' q' (started_of y)
  started l h = also (leaves l (sym (n_read l) ∙ ap (λ (r : Record). r.n) back) (back ∙ next_is))
    where
      back : record_of l ≡ a.next
      back = ap record_of h ∙ record_back a.next

      also : Leaves a.said l p q p' q' (y.0, l) → Leaves a.said l p q p' q' (started_of y)
      also = subst (λ (k : Lists). Leaves a.said l p q p' q' (y.0, k)) (h ∙ ap lists_of next_is)
