-- A bare job that is tied to its text follows it along every list of answers (`same`), and is tied to it at the end of each (`reached`). Assumes nothing.
use mathlib.Core.Path.{◌≡◌}
use mathlib.Core.Bool.{Bool, true, false}
use mathlib.Core.List.{List, [], ◌∷◌}
use Rattle.protocol.specs.Protocol.{Answer, Reply, Fit}
use Rattle.protocol.specs.Dialogue.{accepted, GivenF64s, Dialogue, called, give, give_all, NotRefused}
use Rattle.protocol.specs.Ask.{Ask}
use Rattle.protocol.specs.Follow.{Follows, Alike}
use Rattle.protocol.proofs.Follow.{alike}
use Rattle.optim_record.specs.declared.Record.{Record}
use Rattle.optim_theory.specs.Engine.{answer_code}
use Rattle.optim_theory.specs.Jobs.{Text, shown, begun_by, answer_by, job_of, run_job}
use Rattle.optim_theory.proofs.JobAnswers.{JobTies, answers}

-- y is the start of the job whose text is m
module _ {A : Type 0} (ending : A → Reply) (Related : Record → Text A → Type 0) (J : JobTies ending Related) (y : Reply × Record) (m : Ask A)
    (begun : (y.0 ≡ shown ending 0 m) × (NotRefused y.0 → Related y.1 (begun_by ending m).1)) (n : NotRefused y.0) where
  follows : Follows Record (Text A) (λ f. y) answer_code (λ f. begun_by ending m) (answer_by ending)
  follows =
      record {
        Related = Related;
        starts = λ f. begun;
        answers = λ r t a w h. let q = answers ending Related J r t a h in (q.0, q.1);
        stays = λ r t a w h. (answers ending Related J r t a h).2;
      }

  -- neither looks at the fit
  pub same : (any : Fit) (l : List Answer) → GivenF64s l → Alike Record (Text A) (λ f. y) answer_code (λ f. begun_by ending m) (answer_by ending) any l
  same any l w = alike Record (Text A) (λ f. y) answer_code (λ f. begun_by ending m) (answer_by ending) follows any l n w

  -- accepted or not, the record is the one that came back
  given_on : (d : Dialogue Record) (a : Answer) (t : Text A) (b : Bool) → Related (answer_code d.record_now a).1 t
      → Related (called (job_of y answer_code) d a b (answer_code d.record_now a)).record_now t
  given_on d a t true h = h
  given_on d a t false h = h

  along : (d : Dialogue Record) (t : Text A) (l : List Answer) → Related d.record_now t → (q : Text A) × Related (give_all (job_of y answer_code) d l).record_now q
  along d t [] h = (t, h)
  along d t (a ∷ l) h =
      along (give (job_of y answer_code) d a) (answer_by ending t a).1 l (given_on d a _ (accepted d.standing a) (answers ending Related J d.record_now t a h).1)

  pub reached : (l : List Answer) → (q : Text A) × Related (run_job y answer_code l).record_now q
  reached l = along _ _ l (begun.1 n)
