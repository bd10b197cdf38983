-- The claim, the counts and the bounds from any dialogue that was reached, not only from a start: a record that was saved and read back is the record of such a dialogue, and
-- what comes after it is one list with what came before. Statements only.
use Rattle.std.specs.Prelude.{◌≡◌, List, ◌++◌, ℕ, ◌≤◌, length}
use Rattle.protocol.specs.declared.Kind.{Kind}
use Rattle.protocol.specs.declared.Kind.TheVariants.{Value, Gradient}
use Rattle.protocol.specs.Protocol.{Answer, Result, Job, Fit, Engine}
use Rattle.protocol.specs.Dialogue.{F64s, GivenF64s, Dialogue, give_all, run, Started, Brings, answers_of}
use Rattle.protocol.specs.Calls.{OfCall}
use Rattle.protocol.specs.Claim.{RunsAgain, ByPointAlone, OfOne, OfTwo}
use Rattle.protocol.specs.Rounds.{Rounds, Kept, engine}
use Rattle.protocol.specs.Bounds.{questions_of}

module _ (E : Engine) where
  -- the dialogue d is one of the fit f: started, not refused, and given some list of answers
  pub record Reached (f : Fit) (d : Dialogue E.Record) : Type 0 where
    pub answers : List Answer
    pub started : Started E f
    pub given : GivenF64s answers
    pub comes_to : run E f answers ≡ d

  -- `calls`, `one` and `two` of `Claim`, of dialogues that were reached
  pub record ClaimFrom : Type 0 where
    -- answers given to a dialogue that was reached reach another
    pub onward : (f : Fit) (d : Dialogue E.Record) (l : List Answer) → Reached f d → GivenF64s l → Reached f (give_all E d l)
    pub calls : (f : Fit) (d : Dialogue E.Record) (a : Answer) → Reached f d → F64s a.words → OfCall E d a
    pub one : (f : Fit) (d : Dialogue E.Record) (r : Result) → Reached f d → Brings d r → OfOne f d.exchanges r
    pub two : (f g : Fit) (d e : Dialogue E.Record) (r s : Result) → Reached f d → Reached g e
        → RunsAgain f g
        → ByPointAlone (d.exchanges ++ e.exchanges)
        → Brings d r
        → Brings e s
        → OfTwo d r e s

module _ (R : Rounds Job) where
  -- `Counted`, of dialogues that were reached
  pub record CountedFrom : Type 0 where
    pub last : (f : Fit) (d : Dialogue (Kept R.Position)) → Reached (engine R) f d → d.record_now.last ≡ length d.exchanges
    pub values : (f : Fit) (d : Dialogue (Kept R.Position)) → Reached (engine R) f d → d.record_now.values ≡ answers_of Value d.exchanges
    pub gradients : (f : Fit) (d : Dialogue (Kept R.Position)) → Reached (engine R) f d → d.record_now.gradients ≡ answers_of Gradient d.exchanges
    pub fevals : (f : Fit) (d : Dialogue (Kept R.Position)) (r : Result) → Reached (engine R) f d → Brings d r → r.fevals ≡ answers_of Value d.exchanges
    pub gevals : (f : Fit) (d : Dialogue (Kept R.Position)) (r : Result) → Reached (engine R) f d → Brings d r → r.gevals ≡ answers_of Gradient d.exchanges

  -- `QuestionsAtMost`, of dialogues that were reached
  abbrev pub QuestionsFrom : Kind → ℕ → Fit → Type 0
  QuestionsFrom κ bound f = (d : Dialogue (Kept R.Position)) → Reached (engine R) f d → questions_of κ d.questions ≤ bound
