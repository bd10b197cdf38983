-- The job `differences` follows its text along every list of answers (`differences_follow_text`), puts 2n questions at most (`differences_at_most`), and its records are in range
-- (`differences_in_range`), with zeros past n (`differences_zeros`). Assumes nothing.
use Prim.Native.Nat.{ℕ, ◌+◌, ◌*◌, ◌≤◌, ◌<◌}
use native.Mathlib.Nat.{add-zero}
use native.Mathlib.Omega.{arith}
use mathlib.Core.Path.{◌≡◌, refl, sym, ◌∙◌, ap, subst}
use mathlib.Core.Logic.{◌⊎◌, inl, inr}
use mathlib.Core.Bool.{Bool, true, false, cond}
use mathlib.Core.List.{List}
use borrow.Author.Tests.{ltb-true, ltb-false, lt-ltb, le-ltb, ne_eqb, eqb-true, eqb-false}
use lib.Dec.{eqb, ltb}
use lib.ListN.{length, get_or}
use lib.Ieee.{Float, nan}
use Rattle.vector.specs.Loops.{at}
use Rattle.vector.specs.Lists.{first}
use Rattle.vector.specs.Points.{from_slice_of}
use Rattle.vector.proofs.First.{point_laws}
use Rattle.protocol.specs.declared.Kind.{Kind}
use Rattle.protocol.specs.declared.Kind.TheVariants.{Value, Gradient}
use Rattle.protocol.specs.Protocol.{Question, Answer, refused, simplex_mark, search_mark, differences_mark}
use Rattle.protocol.specs.Dialogue.{GivenF64s, NotRefused}
use Rattle.protocol.specs.Ask.{Ask}
use Rattle.protocol.specs.Bounds.{of_both, questions_of}
use Rattle.protocol.proofs.Bounds.{all_questions}
use Rattle.protocol.specs.Follow.{Alike}
use Rattle.objective.specs.declared.Differences.{Differences}
use Rattle.objective.specs.Algorithm.{differences}
use Rattle.objective.specs.Step.{begun_of, probe_of, told_of}
use Rattle.objective.specs.Follows.{DifferencesSized, DifferencesZeroPast, to_do}
use Rattle.objective.proofs.Follows.{follows}
use Rattle.linesearch_theory.proofs.Counts.{counts as search_counts}
use Rattle.optim_record.specs.declared.Record.{Record}
use Rattle.optim_record.specs.Record.{most, valid_of, Other}
use Rattle.optim_record.proofs.Refusal1.{differences_valid}
use Rattle.optim_reply.specs.Standing.{over_of, gradient_due_of}
use Rattle.optim_reply.proofs.Says.{stands_keeps}
use Rattle.optim_first_record.specs.Starts.{begun_record_of}
use Rattle.optim.specs.Answer.{stepped_of}
use Rattle.optim_start.specs.Start.{differences_of}
use Rattle.optim_theory.specs.Engine.{answer_code}
use Rattle.optim_theory.specs.Examples.{sample}
use Rattle.optim_theory.specs.Jobs.{Text, last_of, shown, begun_by, answer_by}
use Rattle.optim_theory.specs.Follows.{as_told, differences_ending, rest, differences_run, DifferencesFollowsText, DifferencesInRange, DifferencesZeros, DifferencesAtMost}
use Rattle.optim_theory.proofs.Follows.{short, steps, begun_other, begun_sized, job_follows}
use Rattle.optim_theory.proofs.Jobs.{at_most}
use Rattle.optim_theory.proofs.JobAnswers as job
use Rattle.optim_theory.proofs.JobLists as lists

-- one value of the two at a coordinate is told
abbrev halves : Bool → ℕ
halves true = 1
halves false = 0

-- what holds of a record of differences
record Sound (r : Record) : Type 0 where
  job : r.job ≡ differences_mark
  other : Other r
  sized : DifferencesSized r.n r.diff
  count : r.accepted ≡ 2 * r.diff.at + halves r.diff.forward
  values : r.counts.fevals ≡ r.accepted
  gradients : r.counts.gevals ≡ 0
  zeros : DifferencesZeroPast r.n r.diff

valid : (r : Record) → Sound r → valid_of r ≡ true
valid r S =
    differences_valid r S.job (record { few = S.sized.small; accepted = few; fevals = rw S.values few; gevals = omega (arith, S.gradients) }) S.sized.within
  where
    one : (b : Bool) → halves b ≤ 1
    one true = omega arith
    one false = omega arith

    few : r.accepted ≤ most
    few = omega (arith, S.count, S.sized.within, S.sized.small, one r.diff.forward)

-- ---- an accepted answer

-- how many values were told
record Told (k : ℕ) (s : Differences) : Type 0 where
  is : 2 * s.at + halves s.forward ≡ k

either : (k : ℕ) (b : Bool) {u w : Differences} → Told (k + 1 + 1) u → Told (k + 0 + 1) w → Told (k + halves b + 1) (cond b u w)
either k true h i = h
either k false h i = i

told_one : (s : Differences) (v : Float) → Told (2 * s.at + halves s.forward + 1) (told_of s v)
unfolding told_of
told_one s v = either (2 * s.at) s.forward (record { is = omega arith }) (record { is = omega arith })

stepped_sound : (r : Record) (v : Float) → Sound r → r.diff.at < r.n → Sound (stepped_of r v)
stepped_sound r v S h =
    let o = S.other in
    subst Sound (sym (steps r v o))
    (record {
      job = S.job;
      other = record { simplex = o.simplex; search = o.search; gradient = o.gradient };
      sized = (follows as_told).told_sized r.n r.diff v S.sized h;
      count = omega (arith, S.count, (told_one r.diff v).is);
      values = omega (arith, S.values);
      gradients = S.gradients;
      zeros = (follows as_told).told_zeros r.n r.diff v h S.zeros;
    })

-- ---- the text that a record stands for

abbrev text_of : Record → Text (List Float)
text_of r = record { values = r.counts.fevals; gradients = r.counts.gevals; rest = rest r }

record Tied (r : Record) (t : Text (List Float)) : Type 0 where
  sound : Sound r
  is : text_of r ≡ t

over_as : (r : Record) → Sound r → over_of r ≡ eqb r.diff.at r.n
unfolding over_of
over_as r S = rw (ne_eqb r.job simplex_mark S.other.simplex, ne_eqb r.job search_mark S.other.search, S.other.gradient)

due_as : (r : Record) → Sound r → gradient_due_of r ≡ false
unfolding gradient_due_of
due_as r S = rw (ne_eqb r.job search_mark S.other.search, S.other.gradient)

module _ (r : Record) (S : Sound r) where
  -- the record after a value has the rest of the text to do
  leads : (v : Float) → r.diff.at < r.n
      → Tied (stepped_of r v) (record { values = r.counts.fevals + 1; gradients = r.counts.gevals + 0; rest = to_do as_told r.n (told_of r.diff v) })
  leads v h =
      record {
        sound = stepped_sound r v S h;
        is = ap text_of (steps r v S.other)
            ∙ ap (λ (g : ℕ). record { values = r.counts.fevals + 1; gradients = g; rest = to_do as_told r.n (told_of r.diff v) }) (sym (add-zero r.counts.gevals));
      }

  asking : eqb r.diff.at r.n ≡ false → job.Asking differences_ending Tied r (text_of r)
  asking e =
      let h = short r S.sized (eqb-false r.diff.at r.n e) in
      record {
        kind = Value;
        point = first r.n (probe_of r.diff);
        then = λ w. to_do as_told r.n (told_of r.diff (get_or w 0 nan));
        rest = (follows as_told).follows r.n r.diff S.sized h;
        stands_open = over_as r S ∙ e;
        due = due_as r S;
        long = point_laws.listed r.n _;
        leads = λ w. rw (due_as r S) (leads (get_or w 0 nan) h);
      }

  ended_by : eqb r.diff.at r.n ≡ true → job.Over differences_ending Tied r (text_of r)
  ended_by e = record { result = _; rest = (follows as_told).ends r.n r.diff (eqb-true _ _ e); over = over_as r S ∙ e }

  state : job.Asking differences_ending Tied r (text_of r) ⊎ job.Over differences_ending Tied r (text_of r)
  state = go (eqb r.diff.at r.n) refl
    where
      go : (b : Bool) → eqb r.diff.at r.n ≡ b → job.Asking differences_ending Tied r (text_of r) ⊎ job.Over differences_ending Tied r (text_of r)
      go true e = inr (ended_by e)
      go false e = inl (asking e)

  numbers : r.accepted ≡ r.counts.fevals + r.counts.gevals
  numbers = omega (arith, S.values, S.gradients)

ties : job.JobTies differences_ending Tied
ties =
    record {
      valid = λ r t T. valid r T.sound;
      numbers = λ r t T. numbers r T.sound ∙ ap last_of T.is;
      stands = λ r t T. job_follows.stands r T.sound.other T.sound.sized ∙ ap (λ (k : ℕ). shown differences_ending k (rest r)) (numbers r T.sound)
          ∙ ap (λ (z : Text (List Float)). shown differences_ending (last_of z) z.rest) T.is;
      state = λ r t T. subst (λ (z : Text (List Float)). job.Asking differences_ending Tied r z ⊎ job.Over differences_ending Tied r z) T.is (state r T.sound);
    }

-- ---- a start

begun_sound : (x : List Float) → length x ≤ 16 → Sound (begun_record_of x)
unfolding begun_record_of begun_of from_slice_of
begun_sound x h =
    record {
      job = refl;
      other = begun_other x;
      sized = begun_sized x h;
      count = refl;
      values = refl;
      gradients = refl;
      zeros = (follows as_told).begun_zeros (length x) (from_slice_of x (length x)) (λ k. point_laws.past (at x) (length x) k);
    }

begun_tied : (x : List Float) → length x ≤ 16 → Tied (begun_record_of x) (begun_by differences_ending (differences as_told x)).1
unfolding begun_record_of
begun_tied x h = record { sound = begun_sound x h; is = ap (λ (m : Ask (List Float)). record { values = 0; gradients = 0; rest = m }) (job_follows.begins x) }

past : (x : List Float) → 16 < length x → (differences_of x).0 ≡ refused 2 0
unfolding differences_of
past x h = rw (lt-ltb 16 (length x) h)

record_as : (x : List Float) → length x ≤ 16 → (differences_of x).1 ≡ begun_record_of x
unfolding differences_of
record_as x h = rw (le-ltb 16 (length x) h) (stands_keeps (begun_record_of x))

begun : (x : List Float) → NotRefused (differences_of x).0
    → ((differences_of x).0 ≡ shown differences_ending 0 (differences as_told x)) × (NotRefused (differences_of x).0 → Tied (differences_of x).1 (begun_by differences_ending (differences as_told x)).1)
begun x n = go (ltb 16 (length x)) refl
  where
    go : (b : Bool) → ltb 16 (length x) ≡ b
        → ((differences_of x).0 ≡ shown differences_ending 0 (differences as_told x)) × (NotRefused (differences_of x).0 → Tied (differences_of x).1 (begun_by differences_ending (differences as_told x)).1)
    go true e = absurd (subst NotRefused (past x (ltb-true 16 (length x) e)) n)
    go false e =
        let h = ltb-false 16 (length x) e in
        (job_follows.starts x h, λ m. subst (λ (r : Record). Tied r (begun_by differences_ending (differences as_told x)).1) (sym (record_as x h)) (begun_tied x h))

-- ---- along a list

module _ (x : List Float) (n : NotRefused (differences_of x).0) where
  -- of any fit, at which neither looks
  same : (l : List Answer) → GivenF64s l
      → Alike Record (Text (List Float)) (λ f. differences_of x) answer_code (λ f. begun_by differences_ending (differences as_told x)) (answer_by differences_ending) sample l
  same l w = lists.same differences_ending Tied ties (differences_of x) (differences as_told x) (begun x n) n sample l w

  reached : (l : List Answer) → (q : Text (List Float)) × Tied (differences_run x l).record_now q
  reached l = lists.reached differences_ending Tied ties (differences_of x) (differences as_told x) (begun x n) n l

pub differences_follow_text : DifferencesFollowsText
differences_follow_text =
    record {
      past = past;
      starts = job_follows.starts;
      questions = λ x l n w. (same x n l w).questions;
      exchanges = λ x l n w. (same x n l w).exchanges;
      replies = λ x l n w. (same x n l w).replies;
    }

pub differences_in_range : DifferencesInRange
differences_in_range x l n = valid _ (reached x n l).1.sound

pub differences_zeros : DifferencesZeros
differences_zeros x l n = (reached x n l).1.sound.zeros

-- ---- how many questions

by_kind : (κ : Kind) (x : List Float) (l : List Answer) → NotRefused (differences_of x).0 → GivenF64s l → questions_of κ (differences_run x l).questions ≤ of_both κ (2 * length x) 0
by_kind κ x l n w =
    subst (λ (qs : List Question). questions_of κ qs ≤ of_both κ (2 * length x) 0) (sym (same x n l w).questions)
    (at_most differences_ending (record { asks_none = λ g. refl; takes_none = λ g a. refl }) κ _ (differences as_told x) (search_counts.gradient_costs κ as_told false x (length x) (omega arith)) l)

pub differences_at_most : DifferencesAtMost
differences_at_most x l n w = omega (arith, all_questions (differences_run x l).questions, by_kind Value x l n w, by_kind Gradient x l n w)
