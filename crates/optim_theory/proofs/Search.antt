-- The job `search` is `strong_wolfe` along every list of answers (`follows_text`), within its bound on questions (`search_at_most`), with records in range (`search_in_range`) and zeros past n
-- (`search_zeros`). Assumes nothing.
use Prim.Native.Nat.{ℕ, ◌+◌, ◌*◌, ◌≤◌}
use native.Mathlib.Nat.{mul_comm}
use native.Mathlib.Omega.{arith}
use mathlib.Core.Path.{◌≡◌, refl, sym, ◌∙◌, subst}
use mathlib.Core.Bool.{Bool, true, false}
use mathlib.Core.List.{List, []}
use lib.Dec.{T}
use lib.ListN.{length}
use borrow.Author.Tests.{ne_eqb}
use Rattle.protocol.specs.declared.Kind.{Kind}
use Rattle.protocol.specs.declared.Kind.TheVariants.{Value, Gradient}
use Rattle.protocol.specs.Protocol.{Question, Answer, Fit}
use Rattle.protocol.specs.Dialogue.{question_in, accepted, GivenF64s, NotRefused}
use Rattle.protocol.specs.Bounds.{questions_of}
use Rattle.protocol.proofs.Bounds.{all_questions}
use Rattle.protocol.specs.Follow.{Alike}
use Rattle.std.specs.Prelude.{None}
use Rattle.protocol.specs.Example.{sample}
use Rattle.linesearch_theory.specs.Algorithm.{Searched, refuses, gives, strong_wolfe}
use Rattle.linesearch_theory.specs.Counts.{per_trial}
use Rattle.optim_record.specs.declared.Record.{Record}
use Rattle.optim_theory.specs.Engine.{answer_code}
use Rattle.optim_theory.specs.Jobs.{Text, begun_by, answer_by}
use Rattle.optim_theory.specs.Search.{SearchStart, search_text, refusal_of, search_ending, search_past_limits, search_code, code_run, SearchFollowsText, SearchInRange, SearchZeros, SearchAtMost}
use Rattle.optim_theory.proofs.Jobs.{Closes, at_most}
use Rattle.optim_theory.proofs.JobLists as lists
use Rattle.optim_theory.proofs.SearchRelated.{Relates, valid}
use Rattle.optim_theory.proofs.SearchAnswers.{ties}
use Rattle.optim_theory.proofs.SearchStarts.{Begun, starts, starts_past, text_costs}

-- a start that is not refused is within 2's limits
begun : (s : SearchStart) → NotRefused (search_code s).0 → Begun (search_code s) (search_text s)
begun s n = go (search_past_limits s) refl
  where
    go : (b : Bool) → search_past_limits s ≡ b → Begun (search_code s) (search_text s)
    go true e = absurd (subst NotRefused (starts_past s e) n)
    go false e = starts s e

-- ---- the code follows the text

module _ (s : SearchStart) (n : NotRefused (search_code s).0) where
  -- a fit, which none of the two looks at
  any : Fit
  any = sample None

  same : (l : List Answer) → GivenF64s l → Alike Record (Text Searched) (λ f. search_code s) answer_code (λ f. begun_by search_ending (search_text s)) (answer_by search_ending) any l
  same l w = lists.same search_ending Relates ties (search_code s) (search_text s) (begun s n) n any l w

pub follows_text : SearchFollowsText
unfolding strong_wolfe
follows_text =
    record {
      past = starts_past;
      refuses = λ s e d. (starts s e).0 ∙ rw (ne_eqb (refusal_of s).0 0 d);
      starts = λ s e. (starts s e).0;
      questions = λ s l n w. (same s n l w).questions;
      exchanges = λ s l n w. (same s n l w).exchanges;
      replies = λ s l n w. (same s n l w).replies;
    }

-- ---- the records along a list

reached : (s : SearchStart) (l : List Answer) → NotRefused (search_code s).0 → (q : Text Searched) × Relates (code_run s l).record_now q
reached s l n = lists.reached search_ending Relates ties (search_code s) (search_text s) (begun s n) n l

pub search_in_range : SearchInRange
search_in_range s l n = let t = reached s l n in valid _ t.1.sound t.1.within

pub search_zeros : SearchZeros
search_zeros s l n =
    let h = (reached s l n).1.sound in
    record { point = h.line_zeros.point; gradient = h.line_zeros.gradient; direction = h.along_zeros; search = h.zeros }

-- ---- how many questions

closes : Closes search_ending
closes = record { asks_none = none_asked; takes_none = none_taken }
  where
    none_asked : (r : Searched) → question_in (search_ending r) ≡ []
    none_asked (refuses why) = refl
    none_asked (gives r) = refl

    none_taken : (r : Searched) (a : Answer) → accepted (search_ending r) a ≡ false
    none_taken (refuses why) a = refl
    none_taken (gives r) a = refl

module _ (s : SearchStart) (l : List Answer) (n : NotRefused (search_code s).0) (w : GivenF64s l) where
  by_kind : (κ : Kind) → questions_of κ (code_run s l).questions ≤ s.options.evals * per_trial κ s.gradients (length s.x)
  by_kind κ =
      subst (λ (qs : List Question). questions_of κ qs ≤ s.options.evals * per_trial κ s.gradients (length s.x)) (sym (same s n l w).questions)
      (at_most search_ending closes κ _ (search_text s) (text_costs s κ) l)

  in_all : length (code_run s l).questions ≤ s.options.evals * per_trial Value s.gradients (length s.x) + s.options.evals * per_trial Gradient s.gradients (length s.x)
  in_all = omega (arith, all_questions (code_run s l).questions, by_kind Value, by_kind Gradient)

with_low : (k e n : ℕ) (b : Bool) → b ≡ true → k ≤ e * per_trial Value b n + e * per_trial Gradient b n → k ≤ 2 * e
with_low k e n true i h = omega arith
with_low k e n false i h = absurd (subst T (sym i) tt)

without_low : (k e n : ℕ) (b : Bool) → b ≡ false → k ≤ e * per_trial Value b n + e * per_trial Gradient b n → k ≤ (1 + 2 * n) * e
without_low k e n false i h = omega (arith, mul_comm e (1 + 2 * n))
without_low k e n true i h = absurd (subst T i tt)

pub search_at_most : SearchAtMost
search_at_most =
    record {
      of_kind_lem = λ κ s l n w. by_kind s l n w κ;
      with_gradients_lem = λ s l g n w. with_low _ s.options.evals (length s.x) s.gradients g (in_all s l n w);
      without = λ s l g n w. without_low _ s.options.evals (length s.x) s.gradients g (in_all s l n w);
    }
