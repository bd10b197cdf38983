-- What is printed of what the engine says is the text of its reply. Assumes nothing.
use Prim.Native.Nat.{ℕ, ◌≤◌}
use mathlib.Core.Path.{◌≡◌, sym, ap, ◌∙◌, subst}
use mathlib.Core.List.{List, []}
use native.Mathlib.Omega.{arith}
use lib.ListN.{length}
use lib.Dec.{ltb}
use lib.Ieee.{Float}
use borrow.Author.Tests.{ltb-false}
use Rattle.float.proofs.Tests.{by}
use Rattle.vector.specs.Lists.{first}
use Rattle.protocol.specs.declared.Kind.{Kind}
use Rattle.protocol.specs.declared.Found.{Found}
use Rattle.protocol.specs.declared.Summary.{Summary}
use Rattle.protocol.specs.declared.Refusal.{Refusal}
use Rattle.protocol.specs.declared.Said.{Said}
use Rattle.protocol.specs.declared.Said.TheVariants.{Ask, Fitted, Searched, Differenced, Refused}
use Rattle.protocol.specs.Protocol.{Question, Result, reply_of}
use Rattle.lines_buffer.specs.Texts.{filled}
use Rattle.lines_print.specs.Print.{limited_of, question_of, result_of, ask_text, end_text, no_text}
use Rattle.fit_line.specs.Turns.{Few, reply_text}

limited_is : (n : ℕ) → n ≤ 16 → limited_of n ≡ n
unfolding limited_of
limited_is n h = by (ltb n 16) (λ p. rw p) (λ p. rw p (let l : 16 ≤ n = ltb-false n 16 p in omega arith))

-- a text that was put is put where it is another's equal
pub put_is : (before : List ℕ) {t u after : List ℕ} {n : ℕ} → t ≡ u → (n ≡ length t) × (after ≡ filled before t) → (n ≡ length u) × (after ≡ filled before u)
put_is before {t} {u} {after} {n} e h = subst (λ (v : List ℕ). (n ≡ length v) × (after ≡ filled before v)) e h

pub ask_shown : (w : Said) (n : ℕ) (x g : List Float) (number : ℕ) (kind : Kind) → w ≡ Ask number kind → Few (reply_of w n x g) n
    → ask_text (question_of number kind x n) ≡ reply_text (reply_of w n x g)
unfolding reply_text reply_of
ask_shown w n x g number kind e h =
    let few : n ≤ 16 = subst (λ (v : Said). Few (reply_of v n x g) n) e h in
    ap (λ (m : ℕ). let q : Question = record { number = number; kind = kind; point = first m x } in ask_text q) (limited_is n few)
    ∙ sym (ap (λ (v : Said). reply_text (reply_of v n x g)) e)

pub end_shown : (w : Said) (n : ℕ) (x g : List Float) (s : Summary) → w ≡ Fitted s → Few (reply_of w n x g) n → end_text (result_of s x n) ≡ reply_text (reply_of w n x g)
unfolding reply_text reply_of
end_shown w n x g s e h =
    let few : n ≤ 16 = subst (λ (v : Said). Few (reply_of v n x g) n) e h in
    ap
    (λ (m : ℕ).
    let r : Result =
    record { reason = s.reason; converged = s.converged; iterations = s.iterations; fevals = s.fevals; gevals = s.gevals; f = s.f; x = first m x }
    in end_text r)
    (limited_is n few)
    ∙ sym (ap (λ (v : Said). reply_text (reply_of v n x g)) e)

pub no_shown : (w : Said) (n : ℕ) (x g : List Float) (why : Refusal) → w ≡ Refused why → no_text why.number why.detail ≡ reply_text (reply_of w n x g)
unfolding reply_text reply_of
no_shown w n x g why e = sym (ap (λ (v : Said). reply_text (reply_of v n x g)) e)

pub search_shown : (w : Said) (n : ℕ) (x g : List Float) (f : Found) → w ≡ Searched f → [] ≡ reply_text (reply_of w n x g)
unfolding reply_text reply_of
search_shown w n x g f e = sym (ap (λ (v : Said). reply_text (reply_of v n x g)) e)

pub gradient_shown : (w : Said) (n : ℕ) (x g : List Float) → w ≡ Differenced → [] ≡ reply_text (reply_of w n x g)
unfolding reply_text reply_of
gradient_shown w n x g e = sym (ap (λ (v : Said). reply_text (reply_of v n x g)) e)
