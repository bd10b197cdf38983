-- A list of answers to a text puts no more questions of a kind than the text costs: `at_most`. Assumes nothing.
use Prim.Native.Nat.{ℕ, ◌+◌, ◌≤◌}
use native.Mathlib.Omega.{arith}
use mathlib.Core.Path.{◌≡◌, refl, sym, ap, subst}
use mathlib.Core.Bool.{Bool, true, false, not, ◌&&◌, cond, true≢false}
use mathlib.Core.List.{List, [], ◌∷◌, ◌++◌}
use borrow.Author.Tests.{eqb-true, ne_eqb}
use lib.Dec.{eqb}
use lib.Ieee.{Float}
use Rattle.float.proofs.Tests.{and_false}
use Rattle.protocol.specs.declared.Kind.{Kind}
use Rattle.protocol.specs.declared.Kind.TheVariants.{Value, Gradient}
use Rattle.protocol.specs.Protocol.{Question, Answer, Reply, refused}
use Rattle.protocol.specs.Dialogue.{of_kind, Exchange, question_in, accepted, Dialogue, called, give, give_all}
use Rattle.protocol.specs.Ask.{Ask, finish, query}
use Rattle.protocol.specs.Bounds.{Costs, questions_of}
use Rattle.protocol.proofs.Bounds.{questions_append}
use Rattle.optim_theory.specs.Jobs.{Text, last_of, shown, begun_by, accepted_by, answer_by, job_of, run_job}

-- ---- questions by their kinds

-- ---- a list

-- an end is no question, and takes no answer
pub record Closes {A : Type 0} (ending : A → Reply) : Type 0 where
  pub asks_none : (r : A) → question_in (ending r) ≡ []
  pub takes_none : (r : A) (a : Answer) → accepted (ending r) a ≡ false

module _ {A : Type 0} (ending : A → Reply) (closes : Closes ending) (κ : Kind) (bound : ℕ) (y : Reply × Text A) where
  -- after k questions of the kind, the open one among them, the text keeps to the bound
  abbrev Kept : ℕ → Ask A → Type 0
  Kept k (finish r) = k ≤ bound
  Kept k (query j x c) = (d : ℕ) × (k + d ≤ bound) × ((w : List Float) → Costs κ d (c w) (λ q. Unit {0}))

  record Keeps (d : Dialogue (Text A)) : Type 0 where
    standing : d.standing ≡ shown ending (last_of d.record_now) d.record_now.rest
    kept : Kept (questions_of κ d.questions) d.record_now.rest

  -- one answer more leaves b questions of the kind to put
  on : (k n b : ℕ) (qs : List Question) (m : Ask A) → questions_of κ qs ≡ k → Costs κ b m (λ q. Unit {0}) → k + b ≤ bound
      → Kept (questions_of κ (qs ++ question_in (shown ending n m))) m
  on k n b qs (finish r) e c h = omega (arith, questions_append κ qs (question_in (ending r)), ap (questions_of κ) (closes.asks_none r))
  on k n b qs (query j x f) e c h =
      (c.0, omega (arith, questions_append κ qs (question_in (shown ending n (query j x f))), c.1), c.2)

  one_more : (v g : ℕ) (k : Kind) → v + g + 1 ≡ v + of_kind Value k + (g + of_kind Gradient k)
  one_more v g Value = omega arith
  one_more v g Gradient = omega arith

  module _ (a : Answer) where
    -- an answer that is not accepted
    stays : (d : Dialogue (Text A)) (r : Reply) → Keeps d → Keeps (called (job_of y (answer_by ending)) d a false (r, d.record_now))
    stays d r h = record { standing = h.standing; kept = h.kept }

    -- by its number, its form, and whether it is a repeat
    open_on : (d : Dialogue (Text A)) (j : Kind) (x : List Float) (c : List Float → Ask A) → Kept (questions_of κ d.questions) (query j x c) → Keeps d
        → (r : Reply) (number form repeat : Bool)
        → (number ≡ true → repeat ≡ false)
        → Keeps (called (job_of y (answer_by ending)) d a (number && form)
        (cond repeat (r, d.record_now)
        (cond (not number) (refused 16 0, d.record_now) (cond (not form) (refused 17 0, d.record_now) (accepted_by ending d.record_now j (c a.words))))))
    open_on d j x c k h r true true true i = absurd (true≢false (i refl))
    open_on d j x c k h r true true false i =
        let t = d.record_now in
        record {
          standing = ap (λ (n : ℕ). shown ending n (c a.words)) (one_more t.values t.gradients j);
          kept = on _ (last_of t + 1) k.0 d.questions (c a.words) refl (k.2 a.words) k.1;
        }
    open_on d j x c k h r true false true i = stays d r h
    open_on d j x c k h r true false false i = stays d (refused 17 0) h
    open_on d j x c k h r false form true i = stays d r h
    open_on d j x c k h r false form false i = stays d (refused 16 0) h

    closed_on : (d : Dialogue (Text A)) → Keeps d → (r : Reply) (repeat : Bool) → Keeps (called (job_of y (answer_by ending)) d a false (cond repeat (r, d.record_now) (refused 15 0, d.record_now)))
    closed_on d h r true = stays d r h
    closed_on d h r false = stays d (refused 15 0) h

    -- the number of the open question is not that last accepted
    fresh : (n : ℕ) → eqb a.number (n + 1) ≡ true → (not (eqb n 0) && eqb a.number n) ≡ false
    fresh n e = rw (ne_eqb a.number n (λ i. omega (arith, eqb-true a.number (n + 1) e))) (and_false (not (eqb n 0)))

    -- what stands is what the text shows
    abbrev at_text : Text A → List Question → List Exchange → List Reply → Dialogue (Text A)
    at_text t qs es rs = record { standing = shown ending (last_of t) t.rest; record_now = t; questions = qs; exchanges = es; replies = rs }

    gives_on : (v g : ℕ) (m : Ask A) (qs : List Question) (es : List Exchange) (rs : List Reply) → Kept (questions_of κ qs) m
        → Keeps (give (job_of y (answer_by ending)) (at_text (record { values = v; gradients = g; rest = m }) qs es rs) a)
    gives_on v g (finish r) qs es rs h =
        let d = at_text (record { values = v; gradients = g; rest = finish r }) qs es rs in
        rw (closes.takes_none r a) (closed_on d (record { standing = refl; kept = h }) (ending r) (not (eqb (v + g) 0) && eqb a.number (v + g)))
    gives_on v g (query j x c) qs es rs h =
        let d = at_text (record { values = v; gradients = g; rest = query j x c }) qs es rs in
        open_on d j x c h (record { standing = refl; kept = h }) d.standing (eqb a.number (v + g + 1)) _ _ (fresh (v + g))

    gives : (d : Dialogue (Text A)) → Keeps d → Keeps (give (job_of y (answer_by ending)) d a)
    gives d h =
        let t = d.record_now in
        subst (λ (z : Reply). Keeps (give (job_of y (answer_by ending)) (record { standing = z; record_now = t; questions = d.questions; exchanges = d.exchanges; replies = d.replies }) a))
        (sym h.standing) (gives_on t.values t.gradients t.rest d.questions d.exchanges d.replies h.kept)

  gives_all : (d : Dialogue (Text A)) (l : List Answer) → Keeps d → Keeps (give_all (job_of y (answer_by ending)) d l)
  gives_all d [] h = h
  gives_all d (a ∷ l) h = gives_all (give (job_of y (answer_by ending)) d a) l (gives a d h)

  low : (k : ℕ) (m : Ask A) → Kept k m → k ≤ bound
  low k (finish r) h = h
  low k (query j x c) h = omega (arith, h.1)

-- a text that costs at most `bound` questions of the kind, begun and called any list of answers
pub at_most : {A : Type 0} (ending : A → Reply) → Closes ending → (κ : Kind) (bound : ℕ) (m : Ask A) → Costs κ bound m (λ q. Unit {0})
    → (l : List Answer) → questions_of κ (run_job (begun_by ending m) (answer_by ending) l).questions ≤ bound
at_most ending closes κ bound m c l =
    let y = begun_by ending m in
    let b : Dialogue (Text _) = record { standing = y.0; record_now = y.1; questions = question_in y.0; exchanges = []; replies = y.0 ∷ [] } in
    let d = give_all (job_of y (answer_by ending)) b l in
    low ending closes κ bound y (questions_of κ d.questions) d.record_now.rest
    (gives_all ending closes κ bound y b l (record { standing = refl; kept = on ending closes κ bound y 0 0 bound [] m refl c (omega arith) })).kept
