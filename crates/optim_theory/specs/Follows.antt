-- The job `differences` puts the questions of its Algorithm and ends with its gradient, whatever is told: call by call, and along every list of answers; how many questions it puts, and
-- what holds of its records. Definitions and statements only.
use Rattle.std.specs.Prelude.{◌+◌, ◌*◌, ◌≤◌, ◌<◌, ◌≡◌, true, List, [], ◌∷◌, length, Float}
use Rattle.protocol.specs.Protocol.{Answer, differenced, Reply, ended, refused}
use Rattle.protocol.specs.Dialogue.{GivenF64s, Dialogue, NotRefused}
use Rattle.protocol.specs.Ask.{Ask, finish, query}
use Rattle.objective.specs.Algorithm.{differences}
use Rattle.objective.specs.Follows.{DifferencesSized, DifferencesZeroPast, to_do}
use Rattle.optim_record.specs.declared.Record.{Record}
use Rattle.optim_record.specs.Record.{Other, valid_of}
use Rattle.optim_reply.specs.Standing.{standing_of}
use Rattle.optim.specs.Answer.{stepped_of, taken_of}
use Rattle.optim_first_record.specs.Starts.{begun_record_of}
use Rattle.optim_start.specs.Start.{differences_of}
use Rattle.optim_theory.specs.Engine.{answer_code}
use Rattle.optim_theory.specs.Jobs.{Text, shown, begun_by, answer_by, run_job}

-- "Bare differences never do" read a value that is not finite as +infinity
abbrev pub as_told : Float → Float
as_told v = v

-- the text ends with its gradient
abbrev pub differences_ending : List Float → Reply
differences_ending g = ended (differenced g)

-- what a record has still to do
abbrev pub rest : Record → Ask (List Float)
rest r = to_do as_told r.n r.diff

-- the rest of a text after an answer
abbrev pub after : Ask (List Float) → List Float → Ask (List Float)
after (query kind x c) words = c words
after (finish g) words = finish g

pub record JobFollows : Type 0 where
  pub starts : (x : List Float) → length x ≤ 16 → (differences_of x).0 ≡ shown differences_ending 0 (differences as_told x)
  pub begins : (x : List Float) → rest (begun_record_of x) ≡ differences as_told x
  pub stands : (r : Record) → Other r → DifferencesSized r.n r.diff → (standing_of r).0 ≡ shown differences_ending r.accepted (rest r)
  -- an accepted answer leads to the rest of the text, whatever it tells
  pub takes : (r : Record) (v : Float) → Other r → DifferencesSized r.n r.diff → (r.diff.at ≡ r.n → ⊥) → rest (stepped_of r v) ≡ after (rest r) (v ∷ [])
  pub replies : (r : Record) (v : Float) → Other r → DifferencesSized r.n r.diff → (r.diff.at ≡ r.n → ⊥)
      → (taken_of r v).0 ≡ shown differences_ending (r.accepted + 1) (after (rest r) (v ∷ []))
  -- it lasts
  pub begun_other : (x : List Float) → Other (begun_record_of x)
  pub stepped_other : (r : Record) (v : Float) → Other r → Other (stepped_of r v)
  pub begun_sized : (x : List Float) → length x ≤ 16 → DifferencesSized (begun_record_of x).n (begun_record_of x).diff
  pub stepped_sized : (r : Record) (v : Float) → Other r → DifferencesSized r.n r.diff → (r.diff.at ≡ r.n → ⊥) → DifferencesSized (stepped_of r v).n (stepped_of r v).diff

-- ---- along every list

-- the text after every answer of a list
abbrev pub differences_text : List Float → List Answer → Dialogue (Text (List Float))
differences_text x l = run_job (begun_by differences_ending (differences as_told x)) (answer_by differences_ending) l

-- the code
abbrev pub differences_run : List Float → List Answer → Dialogue Record
differences_run x l = run_job (differences_of x) answer_code l

pub record DifferencesFollowsText : Type 0 where
  -- 2: "A lent list .. is above 16"
  pub past : (x : List Float) → 16 < length x → (differences_of x).0 ≡ refused 2 0
  pub starts : (x : List Float) → length x ≤ 16 → (differences_of x).0 ≡ shown differences_ending 0 (differences as_told x)
  -- along every list the code puts the text's questions, takes the same answers and gives its replies
  pub questions : (x : List Float) (l : List Answer) → NotRefused (differences_of x).0 → GivenF64s l → (differences_run x l).questions ≡ (differences_text x l).questions
  pub exchanges : (x : List Float) (l : List Answer) → NotRefused (differences_of x).0 → GivenF64s l → (differences_run x l).exchanges ≡ (differences_text x l).exchanges
  pub replies : (x : List Float) (l : List Answer) → NotRefused (differences_of x).0 → GivenF64s l → (differences_run x l).replies ≡ (differences_text x l).replies

-- no record made by the start of differences and answers ever meets refusal 1
abbrev pub DifferencesInRange : Type 0
DifferencesInRange = (x : List Float) (l : List Answer) → NotRefused (differences_of x).0 → valid_of (differences_run x l).record_now ≡ true

-- the coordinates past n are +0.0 in the point and the gradient
abbrev pub DifferencesZeros : Type 0
DifferencesZeros = (x : List Float) (l : List Answer) → NotRefused (differences_of x).0 → let r = (differences_run x l).record_now in DifferencesZeroPast r.n r.diff

-- "Differences ask, per coordinate in order, x+h then x-h": 2n questions at most, whatever is answered
abbrev pub DifferencesAtMost : Type 0
DifferencesAtMost = (x : List Float) (l : List Answer) → NotRefused (differences_of x).0 → GivenF64s l → length (differences_run x l).questions ≤ 2 * length x
