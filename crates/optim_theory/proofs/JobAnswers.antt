-- An answer to a record of a bare job gets the reply of its text, and the records that come back are tied again, where a job owes `JobTies`: `answers`. Assumes nothing.
use Prim.Native.Nat.{ℕ, ◌+◌}
use native.Mathlib.Omega.{arith}
use mathlib.Core.Path.{◌≡◌, refl, sym, ◌∙◌, ap, subst}
use mathlib.Core.Logic.{◌⊎◌, ⊎_elim}
use mathlib.Core.Bool.{Bool, true, false, not, ◌&&◌, cond}
use mathlib.Core.List.{List}
use lib.Dec.{eqb}
use lib.ListN.{length, get_or}
use lib.Ieee.{Float, nan}
use Rattle.float.proofs.Tests.{not_cond}
use Rattle.vector.specs.Points.{from_slice_of}
use Rattle.protocol.specs.declared.Kind.{Kind}
use Rattle.protocol.specs.declared.Kind.TheVariants.{Value, Gradient}
use Rattle.protocol.specs.Protocol.{letter, Answer, Reply, refused}
use Rattle.protocol.specs.Dialogue.{wanted, of_kind}
use Rattle.protocol.specs.Ask.{Ask, finish, query}
use Rattle.optim_record.specs.declared.Record.{Record}
use Rattle.optim_record.specs.Record.{valid_of}
use Rattle.optim_reply.specs.Standing.{over_of, gradient_due_of, standing_of}
use Rattle.optim_reply.proofs.Says.{stands_keeps}
use Rattle.optim_rules.specs.Rules.{repeats_of, suits_of}
use Rattle.optim.specs.Answer.{stepped_of, graded_of, taken_of, taken_gradient_of, heard_of, answer_of}
use Rattle.optim_theory.specs.Engine.{answer_code}
use Rattle.optim_theory.specs.Jobs.{Text, last_of, shown, accepted_by, fresh_by, answer_by}

-- the record after the words w of an answer to the open question
abbrev pub next : Record → List Float → Record
next r w = cond (gradient_due_of r) (graded_of r (from_slice_of w r.n)) (stepped_of r (get_or w 0 nan))

abbrev pub asks_gradient : Kind → Bool
asks_gradient Value = false
asks_gradient Gradient = true

-- a text with one answer more
abbrev pub onward : {A : Type 0} → Text A → Kind → Ask A → Text A
onward t k m = record { values = t.values + of_kind Value k; gradients = t.gradients + of_kind Gradient k; rest = m }

-- `Related r t`: the record r stands for the text t
module _ {A : Type 0} (ending : A → Reply) (Related : Record → Text A → Type 0) where
  -- a question stands open, and its answer leads on
  pub record Asking (r : Record) (t : Text A) : Type 0 where
    pub kind : Kind
    pub point : List Float
    pub then : List Float → Ask A
    pub rest : t.rest ≡ query kind point then
    pub stands_open : over_of r ≡ false
    pub due : gradient_due_of r ≡ asks_gradient kind
    pub long : length point ≡ r.n
    pub leads : (w : List Float) → Related (next r w) (onward t kind (then w))

  -- the job has ended
  pub record Over (r : Record) (t : Text A) : Type 0 where
    pub result : A
    pub rest : t.rest ≡ finish result
    pub over : over_of r ≡ true

  pub record JobTies : Type 0 where
    pub valid : (r : Record) (t : Text A) → Related r t → valid_of r ≡ true
    pub numbers : (r : Record) (t : Text A) → Related r t → r.accepted ≡ last_of t
    pub stands : (r : Record) (t : Text A) → Related r t → (standing_of r).0 ≡ shown ending (last_of t) t.rest
    pub state : (r : Record) (t : Text A) → Related r t → Asking r t ⊎ Over r t

  module _ (J : JobTies) (r : Record) (t : Text A) (a : Answer) (R : Related r t) where
    -- the same reply, records that are tied, and where the text stays, so does the record
    record Same (y : Reply × Record) (z : Reply × Text A) : Type 0 where
      replies : y.0 ≡ z.0
      relates : Related y.1 z.1
      stays : z.1 ≡ t → y.1 ≡ r

    both : (b c : Bool) (y y' : Reply × Record) (z z' : Reply × Text A) → b ≡ c → Same y z → Same y' z' → Same (cond b y y') (cond c z z')
    both true c y y' z z' e p q = subst (λ (d : Bool). Same y (cond d z z')) e p
    both false c y y' z z' e p q = subst (λ (d : Bool). Same y' (cond d z z')) e q

    -- nothing is accepted
    unmoved : (y : Reply) → Same (y, r) (y, t)
    unmoved y = record { replies = refl; relates = R; stays = λ e. refl }

    -- a repeat carries the number last accepted
    repeats_as : (k n m : ℕ) → k ≡ m → repeats_of k n ≡ not (eqb m 0) && eqb n m
    unfolding repeats_of
    repeats_as k n m e = rw e (go (eqb m 0))
      where
        go : (b : Bool) → cond b false (eqb n m) ≡ not b && eqb n m
        go true = refl
        go false = refl

    repeated : Same (standing_of r) (shown ending (last_of t) t.rest, t)
    repeated = record { replies = J.stands r t R; relates = subst (λ (q : Record). Related q t) (sym (stands_keeps r)) R; stays = λ e. stands_keeps r }

    -- not a repeat, as the code has it
    abbrev fresh : Reply × Record
    fresh =
        cond (over_of r) (refused 15 0, r)
        (cond (not (eqb a.number (r.accepted + 1))) (refused 16 0, r)
        (cond (not (suits_of r a.kind (length a.words))) (refused 17 0, r)
        (cond (gradient_due_of r) (taken_gradient_of r (from_slice_of a.words r.n)) (taken_of r (get_or a.words 0 nan)))))

    closed : Over r t → Same fresh (fresh_by ending t t.rest a)
    closed e = rw e.over (subst (λ (m : Ask A). Same (refused 15 0, r) (fresh_by ending t m a)) (sym e.rest) (unmoved (refused 15 0)))

    module _ (o : Asking r t) where
      -- the letter and the count of words
      suits_as : (k n : ℕ) → not (suits_of r k n) ≡ not (eqb k (letter o.kind) && eqb n (wanted o.kind o.point))
      unfolding suits_of
      suits_as k n = rw o.due (go o.kind)
        where
          go : (j : Kind) → not (cond (asks_gradient j) (cond (not (eqb k 71)) false (eqb n r.n)) (cond (not (eqb k 86)) false (eqb n 1)))
              ≡ not (eqb k (letter j) && eqb n (wanted j o.point))
          go Gradient = not_cond (eqb k 71) (eqb n r.n) ∙ ap (λ (c : ℕ). not (eqb k 71 && eqb n c)) (sym o.long)
          go Value = not_cond (eqb k 86) (eqb n 1)

      taken_as : (w : List Float) → cond (gradient_due_of r) (taken_gradient_of r (from_slice_of w r.n)) (taken_of r (get_or w 0 nan)) ≡ standing_of (next r w)
      unfolding taken_of taken_gradient_of
      taken_as w = go (gradient_due_of r)
        where
          go : (b : Bool) → cond b (taken_gradient_of r (from_slice_of w r.n)) (taken_of r (get_or w 0 nan)) ≡ standing_of (cond b (graded_of r (from_slice_of w r.n)) (stepped_of r (get_or w 0 nan)))
          go true = refl
          go false = refl

      one_more : (v g : ℕ) (k : Kind) → v + of_kind Value k + (g + of_kind Gradient k) ≡ v + g + 1
      one_more v g Value = omega arith
      one_more v g Gradient = omega arith

      -- an accepted answer raises the number last accepted
      taken : (w : List Float) → Same (standing_of (next r w)) (accepted_by ending t o.kind (o.then w))
      taken w =
          let q = next r w in
          let more = one_more t.values t.gradients o.kind in
          record {
            replies = J.stands q (onward t o.kind (o.then w)) (o.leads w) ∙ ap (λ (k : ℕ). shown ending k (o.then w)) more;
            relates = subst (λ (z : Record). Related z (onward t o.kind (o.then w))) (sym (stands_keeps q)) (o.leads w);
            stays = λ e. absurd (clash (last_of t) (sym (ap last_of e) ∙ more));
          }
        where
          clash : (k : ℕ) → k ≡ k + 1 → ⊥
          clash k e = omega arith

      due : Same fresh (fresh_by ending t t.rest a)
      due =
          rw (o.stands_open, taken_as a.words)
          (subst (λ (m : Ask A).
          Same
          (cond (not (eqb a.number (r.accepted + 1))) (refused 16 0, r)
          (cond (not (suits_of r a.kind (length a.words))) (refused 17 0, r) (standing_of (next r a.words))))
          (fresh_by ending t m a))
          (sym o.rest)
          (both (not (eqb a.number (r.accepted + 1))) _ _ _ _ _ (ap (λ (k : ℕ). not (eqb a.number (k + 1))) (J.numbers r t R)) (unmoved (refused 16 0))
          (both (not (suits_of r a.kind (length a.words))) _ _ _ _ _ (suits_as a.kind (length a.words)) (unmoved (refused 17 0)) (taken a.words))))

    answered_by : Same (answer_code r a) (answer_by ending t a)
    unfolding answer_of heard_of
    answered_by =
        rw (J.valid r t R)
        (both (repeats_of r.accepted a.number) _ _ _ _ _ (repeats_as r.accepted a.number (last_of t) (J.numbers r t R)) repeated (⊎_elim due closed (J.state r t R)))

    pub answers : ((answer_code r a).0 ≡ (answer_by ending t a).0) × Related (answer_code r a).1 (answer_by ending t a).1 × ((answer_by ending t a).1 ≡ t → (answer_code r a).1 ≡ r)
    answers = (answered_by.replies, answered_by.relates, answered_by.stays)
