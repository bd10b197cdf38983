-- The mission's 3 once more, for a reader of the code: a start, a list of calls of `answer`, and what their replies say. It needs of protocol only the types of questions, answers, replies,
-- results and fits, which answer is accepted, and when a fit is run again. Proved from `CodeClaim`. Definitions and statements only.
use Rattle.std.specs.Prelude.{◌≡◌, true, cond, Float}
use mathlib.Core.List.{List, [], ◌∷◌, ◌++◌, Memᴰ}
use Rattle.float.specs.Binary64.{NotAbove}
use Rattle.protocol.specs.declared.Kind.{Kind}
use Rattle.protocol.specs.declared.Kind.TheVariants.{Value}
use Rattle.protocol.specs.Protocol.{Question, Answer, Result, fitted, Reply, ask, ended, read_of, Fit}
use Rattle.protocol.specs.Dialogue.{GivenF64s, accepted, question_in, NotRefused}
use Rattle.protocol.specs.Claim.{IsSimplex, RunsAgain, ForAllowance}
use Rattle.optim_record.specs.declared.Record.{Record}
use Rattle.optim.specs.Answer.{answer_of}
use Rattle.optim_theory.specs.Engine.{start_code}

-- ---- what is called

-- a call of `answer`: the question or the outcome that stood before it, what it was lent, and its reply
pub record Call : Type 0 where
  pub stood : Reply
  pub answer : Answer
  pub reply : Reply

-- each answer is given with the record that the call before returned; the reply to an accepted answer stands from then on
abbrev pub calls_from : Reply → Record → List Answer → List Call
calls_from y r [] = []
calls_from y r (a ∷ l) =
    let n = answer_of r a.number a.kind a.words in
    record { stood = y; answer = a; reply = n.0 } ∷ calls_from (cond (accepted y a) n.0 y) n.1 l

abbrev pub calls : Fit → List Answer → List Call
calls f l = calls_from (start_code f).0 (start_code f).1 l

-- ---- what the replies say

-- the answer is accepted, with the words w, to a question of the kind k at the point x
pub record Tells (c : Call) (k : Kind) (x w : List Float) : Type 0 where
  pub question : Question
  pub stood : c.stood ≡ ask question
  pub accepts : accepted c.stood c.answer ≡ true
  pub kind : question.kind ≡ k
  pub point : question.point ≡ x
  pub words : c.answer.words ≡ w

-- "A fit's questions are those in the replies to the start and to accepted answers"
abbrev pub put_by : List Call → List Question
put_by [] = []
put_by (c ∷ cs) = cond (accepted c.stood c.answer) (question_in c.reply) [] ++ put_by cs

abbrev pub questions : Fit → List Answer → List Question
questions f l = question_in (start_code f).0 ++ put_by (calls f l)

-- a call is replied with the result r
abbrev pub CallsBring : List Call → Result → Type 0
CallsBring cs r = (c : Call) × Memᴰ c cs × (c.reply ≡ ended (fitted r))

-- a start that is not refused, a list of answers of f64s, and the result that it brings
pub record CallsEnd (f : Fit) (l : List Answer) (r : Result) : Type 0 where
  pub started : NotRefused (start_code f).0
  pub words : GivenF64s l
  pub brings : CallsBring (calls f l) r

-- "accepted answers of one kind to one point .. carry equal words"
abbrev pub OneObjective : List Call → Type 0
OneObjective cs = (c d : Call) (k : Kind) (x w z : List Float) → Memᴰ c cs → Memᴰ d cs → Tells c k x w → Tells d k x z → w ≡ z

-- ---- the sentence

-- of two lists with the results r and s
pub record Both (f g : Fit) (l m : List Answer) (r s : Result) : Type 0 where
  -- the second opens with the first's questions
  pub opens : (rest : List Question) × (questions g m ≡ questions f l ++ rest)
  -- its f is not larger
  pub no_larger : NotAbove s.f r.f
  -- and it ends with the same result, unless the first stopped for an allowance
  pub same : (ForAllowance r.reason → ⊥) → r ≡ s

pub record Mission : Type 0 where
  -- the result's f was told for its x
  pub told : (f : Fit) (l : List Answer) (r : Result) → CallsEnd f l r → (c : Call) × Memᴰ c (calls f l) × Tells c Value r.x (r.f ∷ [])
  -- in a simplex fit no value told is less, each read as the fit reads it
  pub least : (f : Fit) (l : List Answer) (r : Result) → CallsEnd f l r → IsSimplex f.job
      → (c : Call) (x : List Float) (v : Float) → Memᴰ c (calls f l) → Tells c Value x (v ∷ []) → NotAbove r.f (read_of v)
  -- a fit run again with allowances not lowered, by an objective that answers by the point alone
  pub again : (f g : Fit) (l m : List Answer) (r s : Result) → CallsEnd f l r → CallsEnd g m s → RunsAgain f g → OneObjective (calls f l ++ calls g m) → Both f g l m r s
