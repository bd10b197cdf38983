-- What a list of answers does: which answer is accepted, what the list has come to after each call (`run`), and what was told in it. The words of the mission's 3 that speak of one list.
-- Definitions only.
use Rattle.std.specs.Prelude.{◌≡◌, Bool, true, false, ◌&&◌, ℕ, ◌+◌, eqb, length, Float}
use mathlib.Core.List.{List, [], ◌∷◌, ◌++◌, Memᴰ}
use Rattle.float.specs.Binary64.{F64}
use Rattle.protocol.specs.declared.Kind.{Kind}
use Rattle.protocol.specs.declared.Kind.TheVariants.{Value, Gradient}
use Rattle.protocol.specs.Protocol.{letter, Question, Answer, Result, fitted, Reply, ask, ended, refused, Fit, Engine}

-- The words that are given are f64s, as every word of the code is: the logic's `Float` has values besides that no f64 has.
abbrev pub F64s : List Float → Type 0
F64s [] = Unit {0}
F64s (v ∷ vs) = F64 v × F64s vs

abbrev pub GivenF64s : List Answer → Type 0
GivenF64s [] = Unit {0}
GivenF64s (a ∷ l) = F64s a.words × GivenF64s l

-- "A V answer is one f64, a G answer n of them."
abbrev pub wanted : Kind → List Float → ℕ
wanted Value x = 1
wanted Gradient x = length x

-- An answer suits a question where it has its number, its letter and as many words as its kind wants (16 and 17).
abbrev pub suits : Question → Answer → Bool
suits q a = eqb a.number q.number && (eqb a.kind (letter q.kind) && eqb (length a.words) (wanted q.kind q.point))

-- It is accepted where a question stands open that it suits.
abbrev pub accepted : Reply → Answer → Bool
accepted (ask q) a = suits q a
accepted (ended o) a = false
accepted (refused k d) a = false

-- an accepted answer's words, with the question that they answer
pub record Exchange : Type 0 where
  pub question : Question
  pub words : List Float

abbrev pub exchange : Reply → Answer → List Exchange
exchange (ask q) a = record { question = q; words = a.words } ∷ []
exchange (ended o) a = []
exchange (refused k d) a = []

abbrev pub question_in : Reply → List Question
question_in (ask q) = q ∷ []
question_in (ended o) = []
question_in (refused k d) = []

-- What a list of answers has come to: the open question or the outcome that stands, the record that the last call returned, the questions put so far, the answers
-- accepted so far, each with its question, and every reply so far. "A fit's questions are those in the replies to the start and to accepted answers".
pub record Dialogue (Record : Type 0) : Type 0 where
  pub standing : Reply
  pub record_now : Record
  pub questions : List Question
  pub exchanges : List Exchange
  pub replies : List Reply

-- "each answer in it, refused, repeated or after the end too, is given with the record that the call before returned, which nobody writes in between"
module _ (E : Engine) where
  abbrev pub begin : Fit → Dialogue E.Record
  begin f = record { standing = (E.start f).0; record_now = (E.start f).1; questions = question_in (E.start f).0; exchanges = []; replies = (E.start f).0 ∷ [] }

  -- An accepted answer's reply stands from then on, and a question in it is one more question put.
  abbrev pub called : Dialogue E.Record → Answer → Bool → Reply × E.Record → Dialogue E.Record
  called d a true n = record { standing = n.0; record_now = n.1; questions = d.questions ++ question_in n.0; exchanges = d.exchanges ++ exchange d.standing a; replies = d.replies ++ (n.0 ∷ []) }
  called d a false n = record { standing = d.standing; record_now = n.1; questions = d.questions; exchanges = d.exchanges; replies = d.replies ++ (n.0 ∷ []) }

  abbrev pub give : Dialogue E.Record → Answer → Dialogue E.Record
  give d a = called d a (accepted d.standing a) (E.answer d.record_now a)

  abbrev pub give_all : Dialogue E.Record → List Answer → Dialogue E.Record
  give_all d [] = d
  give_all d (a ∷ l) = give_all (give d a) l

  -- a fit started, and every answer of a list given to it
  abbrev pub run : Fit → List Answer → Dialogue E.Record
  run f l = give_all (begin f) l

-- "A list begins with a fit's start that is not refused"
abbrev pub NotRefused : Reply → Type 0
NotRefused (ask q) = Unit {0}
NotRefused (ended o) = Unit {0}
NotRefused (refused k d) = ⊥

abbrev pub Started : Engine → Fit → Type 0
Started E f = NotRefused (E.start f).0

-- the list reaches the result r: it is the reply to the start or to some answer of the list
abbrev pub Brings : {Record : Type 0} → Dialogue Record → Result → Type 0
Brings d r = Memᴰ (ended (fitted r)) d.replies

-- "A value is told for a point by an accepted V answer to a question with that point."
abbrev pub Told : List Exchange → List Float → Float → Type 0
Told es x v = (e : Exchange) × Memᴰ e es × (e.question.kind ≡ Value) × (e.question.point ≡ x) × (e.words ≡ v ∷ [])

-- "fevals is the count of accepted V answers, gevals of accepted G answers"
abbrev pub of_kind : Kind → Kind → ℕ
of_kind Value Value = 1
of_kind Value Gradient = 0
of_kind Gradient Value = 0
of_kind Gradient Gradient = 1

abbrev pub answers_of : Kind → List Exchange → ℕ
answers_of k [] = 0
answers_of k (e ∷ es) = of_kind k e.question.kind + answers_of k es
