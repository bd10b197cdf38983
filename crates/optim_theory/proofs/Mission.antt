-- The mission's 3 as it is spelled out for lists of calls, from `code_claim`: `spelled_out`. Assumes nothing.
use mathlib.Core.Path.{◌≡◌, refl, sym, ◌∙◌, ap, subst, subst₂}
use mathlib.Core.Logic.{⊎_elim}
use mathlib.Core.Bool.{Bool, true, false, cond}
use mathlib.Core.List.{List, [], ◌∷◌, ◌++◌, append_assoc, append-nil, Memᴰ}
use lib.Ieee.{Float}
use Rattle.float.specs.Binary64.{NotAbove}
use Rattle.protocol.specs.declared.Kind.TheVariants.{Value}
use Rattle.protocol.specs.Protocol.{Question, Answer, Result, fitted, Reply, ask, ended, refused, read_of, Fit}
use Rattle.protocol.specs.Dialogue.{accepted, Exchange, exchange, question_in, Dialogue, called, give_all, begin, run, Brings}
use Rattle.protocol.specs.Claim.{IsSimplex, RunsAgain, ByPointAlone, OpensWith, OfOne}
use Rattle.optim_record.specs.declared.Record.{Record}
use Rattle.optim_theory.specs.Engine.{start_code, answer_code, code}
use Rattle.optim_theory.specs.Mission as spelled
use Rattle.optim_theory.specs.Mission.{Call, calls_from, calls, Tells, put_by, questions, CallsEnd, OneObjective, Both, Mission}
use Rattle.optim_theory.proofs.Engine.{code_claim}

-- ---- the exchanges in a list of calls

abbrev heard_in : List Call → List Exchange
heard_in [] = []
heard_in (c ∷ cs) = cond (accepted c.stood c.answer) (exchange c.stood c.answer) [] ++ heard_in cs

abbrev replies_in : List Call → List Reply
replies_in [] = []
replies_in (c ∷ cs) = c.reply ∷ replies_in cs

-- what a list of answers comes to, by its calls
record Comes (d e : Dialogue Record) (cs : List Call) : Type 0 where
  heard : e.exchanges ≡ d.exchanges ++ heard_in cs
  put : e.questions ≡ d.questions ++ put_by cs
  said : e.replies ≡ d.replies ++ replies_in cs

-- one answer, accepted or not, and the rest of the list
module _ (d : Dialogue Record) (a : Answer) (l : List Answer) where
  abbrev n : Reply × Record
  n = answer_code d.record_now a

  abbrev then : Bool → Dialogue Record
  then b = called code d a b n

  abbrev rest : Bool → List Call
  rest b = calls_from (cond b n.0 d.standing) n.1 l

  abbrev Onward : Bool → Type 0
  Onward b = Comes (then b) (give_all code (then b) l) (calls_from (then b).standing (then b).record_now l)

  heard_by : (b : Bool) → Onward b → (give_all code (then b) l).exchanges ≡ d.exchanges ++ (cond b (exchange d.standing a) [] ++ heard_in (rest b))
  heard_by true h = h.heard ∙ append_assoc d.exchanges (exchange d.standing a) (heard_in (rest true))
  heard_by false h = h.heard

  put_by_lem : (b : Bool) → Onward b → (give_all code (then b) l).questions ≡ d.questions ++ (cond b (question_in n.0) [] ++ put_by (rest b))
  put_by_lem true h = h.put ∙ append_assoc d.questions (question_in n.0) (put_by (rest true))
  put_by_lem false h = h.put

  said_by : (b : Bool) → Onward b → (give_all code (then b) l).replies ≡ d.replies ++ (n.0 ∷ replies_in (rest b))
  said_by true h = h.said ∙ append_assoc d.replies (n.0 ∷ []) (replies_in (rest true))
  said_by false h = h.said ∙ append_assoc d.replies (n.0 ∷ []) (replies_in (rest false))

comes : (d : Dialogue Record) (l : List Answer) → Comes d (give_all code d l) (calls_from d.standing d.record_now l)
comes d [] = record { heard = sym (append-nil d.exchanges); put = sym (append-nil d.questions); said = sym (append-nil d.replies) }
comes d (a ∷ l) =
    let b = accepted d.standing a in
    let h = comes (called code d a b (answer_code d.record_now a)) l in
    record { heard = heard_by d a l b h; put = put_by_lem d a l b h; said = said_by d a l b h }

-- ---- who is in it

-- an exchange is an accepted answer to the question that stood
record From (c : Call) (e : Exchange) : Type 0 where
  stood : c.stood ≡ ask e.question
  accepts : accepted c.stood c.answer ≡ true
  words : c.answer.words ≡ e.words

abbrev Heard : Exchange → List Call → Type 0
Heard e cs = (c : Call) × Memᴰ c cs × From c e

one_heard : (c : Call) (b : Bool) → accepted c.stood c.answer ≡ b → (e : Exchange) → Memᴰ e (cond b (exchange c.stood c.answer) []) → From c e
one_heard c false i e m = absurd (mathlib.Core.List.Memᴰ.not-nil m)
one_heard c true i e m = go c.stood refl m
  where
    go : (y : Reply) → c.stood ≡ y → Memᴰ e (exchange y c.answer) → From c e
    go (ask q) j m =
        let k = mathlib.Core.List.Memᴰ.eq_of_singleton m in
        record { stood = j ∙ ap (λ (z : Exchange). ask z.question) (sym k); accepts = i; words = ap (λ (z : Exchange). z.words) (sym k) }
    go (ended o) j m = absurd (mathlib.Core.List.Memᴰ.not-nil m)
    go (refused k d) j m = absurd (mathlib.Core.List.Memᴰ.not-nil m)

heard_from : (cs : List Call) (e : Exchange) → Memᴰ e (heard_in cs) → Heard e cs
heard_from [] e m = absurd (mathlib.Core.List.Memᴰ.not-nil m)
heard_from (c ∷ cs) e m =
    let b = accepted c.stood c.answer in
    ⊎_elim (λ k. (c, mathlib.Core.List.Memᴰ.head refl, one_heard c b refl e k)) (λ k. let h = heard_from cs e k in (h.0, mathlib.Core.List.Memᴰ.tail h.1, h.2))
    (mathlib.Core.List.Memᴰ.append_cases (cond b (exchange c.stood c.answer) []) m)

abbrev exchange_of : Question → Call → Exchange
exchange_of q c = record { question = q; words = c.answer.words }

one_in : (c : Call) (q : Question) → c.stood ≡ ask q → accepted c.stood c.answer ≡ true
    → Memᴰ (exchange_of q c) (cond (accepted c.stood c.answer) (exchange c.stood c.answer) [])
one_in c q i j =
    subst (λ (b : Bool). Memᴰ (exchange_of q c) (cond b (exchange c.stood c.answer) [])) (sym j)
    (subst (λ (y : Reply). Memᴰ (exchange_of q c) (exchange y c.answer)) (sym i) (mathlib.Core.List.Memᴰ.head refl))

heard_in_lem : (cs : List Call) (c : Call) (q : Question) → Memᴰ c cs → c.stood ≡ ask q → accepted c.stood c.answer ≡ true → Memᴰ (exchange_of q c) (heard_in cs)
heard_in_lem [] c q m i j = absurd (mathlib.Core.List.Memᴰ.not-nil m)
heard_in_lem (d ∷ cs) c q m i j =
    ⊎_elim
    (λ k. mathlib.Core.List.Memᴰ.append_left (heard_in cs) (subst (λ (z : Call). Memᴰ (exchange_of q c) (cond (accepted z.stood z.answer) (exchange z.stood z.answer) [])) k (one_in c q i j)))
    (λ k. mathlib.Core.List.Memᴰ.append_right (cond (accepted d.stood d.answer) (exchange d.stood d.answer) []) (heard_in_lem cs c q k i j))
    (mathlib.Core.List.Memᴰ.cases_cons m)

replied_in : (cs : List Call) (c : Call) → Memᴰ c cs → Memᴰ c.reply (replies_in cs)
replied_in [] c m = absurd (mathlib.Core.List.Memᴰ.not-nil m)
replied_in (d ∷ cs) c m = ⊎_elim (λ k. mathlib.Core.List.Memᴰ.head (ap (λ (z : Call). z.reply) k)) (λ k. mathlib.Core.List.Memᴰ.tail (replied_in cs c k)) (mathlib.Core.List.Memᴰ.cases_cons m)

-- ---- the claim of the engine, of its calls

module _ (f : Fit) (l : List Answer) where
  heard_as : (run code f l).exchanges ≡ heard_in (calls f l)
  heard_as = (comes (begin code f) l).heard

  put_as : (run code f l).questions ≡ questions f l
  put_as = (comes (begin code f) l).put

  brought : (r : Result) → spelled.CallsBring (calls f l) r → Brings (run code f l) r
  brought r b =
      let m : Memᴰ b.0.reply (replies_in (calls f l)) = replied_in (calls f l) b.0 b.1 in
      let k : Memᴰ (ended (fitted r)) (replies_in (calls f l)) = subst (λ (y : Reply). Memᴰ y (replies_in (calls f l))) b.2 m in
      subst (λ (ys : List Reply). Memᴰ (ended (fitted r)) ys) (sym (comes (begin code f) l).said) (mathlib.Core.List.Memᴰ.append_right ((start_code f).0 ∷ []) k)

  module _ (r : Result) (E : CallsEnd f l r) where
    of_one : OfOne f (run code f l).exchanges r
    of_one = code_claim.one f l r E.started E.words (brought r E.brings)

    told : (c : Call) × Memᴰ c (calls f l) × Tells c Value r.x (r.f ∷ [])
    told =
        let t = of_one.told in
        let h = heard_from (calls f l) t.0 (subst (λ (es : List Exchange). Memᴰ t.0 es) heard_as t.1) in
        (h.0, h.1, record { question = t.0.question; stood = h.2.stood; accepts = h.2.accepts; kind = t.2; point = t.3; words = h.2.words ∙ t.4 })

    least : IsSimplex f.job → (c : Call) (x : List Float) (v : Float) → Memᴰ c (calls f l) → Tells c Value x (v ∷ []) → NotAbove r.f (read_of v)
    least i c x v m t =
        of_one.least i x v (
          exchange_of t.question c,
          subst (λ (es : List Exchange). Memᴰ (exchange_of t.question c) es) (sym heard_as) (heard_in_lem (calls f l) c t.question m t.stood t.accepts),
          t.kind,
          t.point,
          t.words,
        )

-- the accepted answers of both lists
by_point : (f g : Fit) (l m : List Answer) → OneObjective (calls f l ++ calls g m) → ByPointAlone ((run code f l).exchanges ++ (run code g m).exchanges)
by_point f g l m one d e i j k p =
    let u = from d i in
    let v = from e j in
    sym u.2.words ∙ one u.0 v.0 d.question.kind d.question.point _ _ u.1 v.1
    (record { question = d.question; stood = u.2.stood; accepts = u.2.accepts; kind = refl; point = refl; words = refl })
    (record { question = e.question; stood = v.2.stood; accepts = v.2.accepts; kind = sym k; point = sym p; words = refl })
    ∙ v.2.words
  where
    from : (z : Exchange) → Memᴰ z ((run code f l).exchanges ++ (run code g m).exchanges) → Heard z (calls f l ++ calls g m)
    from z h =
        ⊎_elim
        (λ k. let u = heard_from (calls f l) z (subst (λ (es : List Exchange). Memᴰ z es) (heard_as f l) k) in (u.0, mathlib.Core.List.Memᴰ.append_left (calls g m) u.1, u.2))
        (λ k. let u = heard_from (calls g m) z (subst (λ (es : List Exchange). Memᴰ z es) (heard_as g m) k) in (u.0, mathlib.Core.List.Memᴰ.append_right (calls f l) u.1, u.2))
        (mathlib.Core.List.Memᴰ.append_cases (run code f l).exchanges h)

both : (f g : Fit) (l m : List Answer) (r s : Result) → CallsEnd f l r → CallsEnd g m s → RunsAgain f g → OneObjective (calls f l ++ calls g m) → Both f g l m r s
both f g l m r s E F again one =
    let z = code_claim.two f g l m r s E.started F.started E.words F.words again (by_point f g l m one) (brought f l r E.brings) (brought g m s F.brings) in
    record { opens = subst₂ (λ (ps qs : List Question). OpensWith ps qs) (put_as g m) (put_as f l) z.opens; no_larger = z.no_larger; same = z.equal }

pub spelled_out : Mission
spelled_out = record { told = told; least = least; again = both }
