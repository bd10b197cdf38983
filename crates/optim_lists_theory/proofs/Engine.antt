-- The engine over lent lists comes to what the engine of records comes to, and so has the mission's 3 and the bounds: `lent_claim`, `lent_at_most`. Assumes nothing.
use Prim.Native.Nat.{ℕ, ◌≤◌}
use mathlib.Core.Path.{◌≡◌, refl, sym, ap, ◌∙◌, subst}
use mathlib.Core.Bool.{Bool, true, false}
use mathlib.Core.List.{List, [], ◌∷◌}
use lib.ListN.{length}
use Rattle.protocol.specs.Protocol.{Question, Answer, Reply, Fit}
use Rattle.protocol.specs.Dialogue.{accepted, Dialogue, called, give, give_all, begin, run}
use Rattle.protocol.specs.Bounds.{questions_of}
use Rattle.protocol.specs.Follow.{Follows}
use Rattle.protocol.proofs.Follow.{claim_follows}
use Rattle.optim_record.specs.declared.Record.{Record}
use Rattle.optim_record.specs.Record.{valid_of}
use Rattle.optim_theory.specs.Engine.{start_code, answer_code, code}
use Rattle.optim_theory.proofs.Engine.{code_claim, code_at_most}
use Rattle.optim_theory.proofs.EngineRecords as records
use Rattle.optim_lists.specs.Lists.{Lists, record_of, lists_of, formed_of}
use Rattle.optim_lists.specs.Answered.{started_of}
use Rattle.optim_lists_theory.specs.Engine.{start_lists, answer_lists, lent, in_lists, LentClaim, LentAtMost}
use Rattle.optim_lists.proofs.Laws as laws
use Rattle.optim_lists.proofs.Answers.{lists_answer}

-- an answer to the one form of a record
answered : (r : Record) (a : Answer) → answer_lists (lists_of r) a ≡ started_of (answer_code r a)
answered r a = lists_answer.one_form r a.number a.kind a.words

-- ---- list by list

call_in : (d : Dialogue Record) (a : Answer) (b : Bool) (n : Reply × Record) → called lent (in_lists d) a b (started_of n) ≡ in_lists (called code d a b n)
call_in d a true n = refl
call_in d a false n = refl

give_in : (d : Dialogue Record) (a : Answer) → give lent (in_lists d) a ≡ in_lists (give code d a)
give_in d a = ap (called lent (in_lists d) a (accepted d.standing a)) (answered d.record_now a) ∙ call_in d a (accepted d.standing a) (answer_code d.record_now a)

give_all_in : (d : Dialogue Record) (l : List Answer) → give_all lent (in_lists d) l ≡ in_lists (give_all code d l)
give_all_in d [] = refl
give_all_in d (a ∷ l) = ap (λ (e : Dialogue Lists). give_all lent e l) (give_in d a) ∙ give_all_in (give code d a) l

as_records : (f : Fit) (l : List Answer) → run lent f l ≡ in_lists (run code f l)
as_records f l = give_all_in (begin code f) l

-- ---- the mission's 3

lent_follows : Follows Lists Record start_lists answer_lists start_code answer_code
lent_follows =
    record {
      Related = λ l r. l ≡ lists_of r;
      starts = λ f. (refl, λ n. refl);
      answers = λ l r a w h. let e = ap (λ (k : Lists). answer_lists k a) h ∙ answered r a in (ap (λ (y : Reply × Lists). y.0) e, ap (λ (y : Reply × Lists). y.1) e);
      stays = λ l r a w h e. ap (λ (y : Reply × Lists). y.1) (ap (λ (k : Lists). answer_lists k a) h ∙ answered r a) ∙ ap lists_of e ∙ sym h;
    }

now_in : (f : Fit) (l : List Answer) → (run lent f l).record_now ≡ lists_of (run code f l).record_now
now_in f l = ap (λ (d : Dialogue Lists). d.record_now) (as_records f l)

pub lent_claim : LentClaim
lent_claim =
    record {
      as_records = as_records;
      claim = claim_follows Lists Record start_lists answer_lists start_code answer_code lent_follows code_claim;
      formed = λ f l. ap formed_of (now_in f l) ∙ laws.formed (run code f l).record_now;
      in_range = λ f l n. ap (λ (k : Lists). valid_of (record_of k)) (now_in f l) ∙ ap valid_of (laws.record_back (run code f l).record_now) ∙ records.in_range f l n;
    }

-- ---- how many questions

fewer : (f : Fit) (l : List Answer) (count : List Question → ℕ) (bound : ℕ) → count (run code f l).questions ≤ bound → count (run lent f l).questions ≤ bound
fewer f l count bound h = subst (λ (d : Dialogue Lists). count d.questions ≤ bound) (sym (as_records f l)) h

pub lent_at_most : LentAtMost
lent_at_most =
    record {
      by_fevals_lem = λ f o M j m n l w. fewer f l length _ (code_at_most.by_fevals_lem f o M j m n l w);
      by_iterations_lem = λ f o I j i n l w. fewer f l length _ (code_at_most.by_iterations_lem f o I j i n l w);
      with_gradients_lem = λ κ f o I j e i n l w. fewer f l (questions_of κ) _ (code_at_most.with_gradients_lem κ f o I j e i n l w);
      without_gradients_lem = λ f o I j e i n l w. fewer f l length _ (code_at_most.without_gradients_lem f o I j e i n l w);
    }
