-- A bare job as a text that asks: what it shows, how it replies to an answer by 01's rules, and what a list of answers comes to. Definitions only.
use Rattle.std.specs.Prelude.{ℕ, ◌+◌, not, ◌&&◌, cond, List, [], ◌∷◌, eqb, length}
use Rattle.protocol.specs.declared.Kind.{Kind}
use Rattle.protocol.specs.declared.Kind.TheVariants.{Value, Gradient}
use Rattle.protocol.specs.Protocol.{letter, Answer, Reply, ask, refused, Engine}
use Rattle.protocol.specs.Dialogue.{wanted, of_kind, question_in, Dialogue, give_all}
use Rattle.protocol.specs.Ask.{Ask, finish, query}

-- a text after so many accepted V and G answers, with what it has still to do
pub record Text (A : Type 0) : Type 0 where
  pub values : ℕ
  pub gradients : ℕ
  pub rest : Ask A

-- the number last accepted
abbrev pub last_of : {A : Type 0} → Text A → ℕ
last_of t = t.values + t.gradients

-- `ending`: the reply that the end of the text is
module _ {A : Type 0} (ending : A → Reply) where
  -- after `last` accepted answers: "A question has a number (1, 2, 3, ..), a kind .. and a point of n coordinates"
  abbrev pub shown : ℕ → Ask A → Reply
  shown last (finish r) = ending r
  shown last (query kind x c) = ask (record { number = last + 1; kind = kind; point = x })

  abbrev pub begun_by : Ask A → Reply × Text A
  begun_by m = (shown 0 m, record { values = 0; gradients = 0; rest = m })

  -- an answer to a question of the kind k is accepted, and leads to m
  abbrev pub accepted_by : Text A → Kind → Ask A → Reply × Text A
  accepted_by t k m = (shown (last_of t + 1) m, record { values = t.values + of_kind Value k; gradients = t.gradients + of_kind Gradient k; rest = m })

  -- not a repeat: 15, 16, 17, or accepted
  abbrev pub fresh_by : Text A → Ask A → Answer → Reply × Text A
  fresh_by t (finish r) a = (refused 15 0, t)
  fresh_by t (query k x c) a =
      cond (not (eqb a.number (last_of t + 1))) (refused 16 0, t)
      (cond (not (eqb a.kind (letter k) && eqb (length a.words) (wanted k x))) (refused 17 0, t) (accepted_by t k (c a.words)))

  -- "An answer carrying the number last accepted is a repeat .. Before the first acceptance no number is a repeat."
  abbrev pub answer_by : Text A → Answer → Reply × Text A
  answer_by t a = cond (not (eqb (last_of t) 0) && eqb a.number (last_of t)) (shown (last_of t) t.rest, t) (fresh_by t t.rest a)

-- one job, of which y is the start: an engine of fits that starts it whatever fit is named, so that lists of answers are those of the mission's 3
abbrev pub job_of : {S : Type 0} → Reply × S → (S → Answer → Reply × S) → Engine
job_of {S} y answer = record { Record = S; start = λ f. y; answer = answer }

-- the job after every answer of a list, refused and repeated ones and those after the end too
abbrev pub run_job : {S : Type 0} → Reply × S → (S → Answer → Reply × S) → List Answer → Dialogue S
run_job y answer l = give_all (job_of y answer) (record { standing = y.0; record_now = y.1; questions = question_in y.0; exchanges = []; replies = y.0 ∷ [] }) l
