-- The first demand over lists, of answers and of starts: `lists_answers`, `lists_starts`. Assumes nothing.
use Prim.Native.Nat.{ℕ}
use mathlib.Core.Path.{◌≡◌, refl, sym, ap, ◌∙◌, subst}
use mathlib.Core.Bool.{Bool, true, false}
use mathlib.Core.List.{List}
use lib.Dec.{T}
use lib.Ieee.{Float}
use Rattle.protocol.specs.Protocol.{Reply, refused}
use Rattle.optim_record.specs.declared.Record.{Record}
use Rattle.optim_record.specs.Record.{valid_of}
use Rattle.optim_reply.specs.Standing.{standing_of}
use Rattle.optim_rules.specs.Rules.{repeats_of}
use Rattle.optim_theory.specs.Replies.{Among, turns_away, refuses_answer, StartReplies}
use Rattle.optim_theory.proofs.Replies.{answers}
use Rattle.optim_theory.proofs.RepliesStarts.{starts}
use Rattle.optim_lists.specs.Layout as place
use Rattle.optim_lists.specs.Lists.{Lists, mark, record_of, lists_of, formed_of}
use Rattle.optim_lists.specs.Answered.{answered_of, started_of}
use Rattle.optim_lists.proofs.Answers.{accepted_read, unknown_flag, answer_replies, kept}
use Rattle.optim_lists_theory.specs.Answers.{ListsAnswers, StartedReplies, ListsStarts}

module _ (l : Lists) (number kind : ℕ) (words : List Float) where
  abbrev C : Reply × Lists
  C = answered_of l number kind words

  in_scope : Among refuses_answer C.0
  in_scope = go (formed_of l) refl
    where
      go : (b : Bool) → formed_of l ≡ b → Among refuses_answer C.0
      go true e = subst (Among refuses_answer) (sym (answer_replies l number kind words e)) (answers.in_scope (record_of l) number kind words)
      go false e = subst (λ (a : Reply × Lists). Among refuses_answer a.0) (sym (unknown_flag l number kind words e)) tt

  refused_keeps : (k d : ℕ) → C.0 ≡ refused k d → T (turns_away k) → C.1 ≡ l
  refused_keeps k d h t = go (formed_of l) refl
    where
      go : (b : Bool) → formed_of l ≡ b → C.1 ≡ l
      go true e = kept l number kind words e (answers.refused_keeps (record_of l) number kind words k d (sym (answer_replies l number kind words e) ∙ h) t)
      go false e = ap (λ (a : Reply × Lists). a.1) (unknown_flag l number kind words e)

  repeat_keeps : formed_of l ≡ true → valid_of (record_of l) ≡ true → repeats_of (mark l.marks place.accepted) number ≡ true → (C.0 ≡ (standing_of (record_of l)).0) × (C.1 ≡ l)
  repeat_keeps e v t =
      let h = answers.repeat_keeps (record_of l) number kind words v (ap (λ (k : ℕ). repeats_of k number) (accepted_read l) ∙ t) in
      (answer_replies l number kind words e ∙ h.0, kept l number kind words e h.1)

  out_of_range : formed_of l ≡ true → valid_of (record_of l) ≡ false → C ≡ (refused 1 0, l)
  out_of_range e v =
      let h = answers.out_of_range (record_of l) number kind words v in
      λ i. ((answer_replies l number kind words e ∙ ap (λ (a : Reply × Record). a.0) h) i, kept l number kind words e (ap (λ (a : Reply × Record). a.1) h) i)

pub lists_answers : ListsAnswers
lists_answers = record { in_scope = in_scope; refused_keeps = refused_keeps; repeat_keeps = repeat_keeps; unknown_flag = unknown_flag; out_of_range = out_of_range }

started : (these : ℕ → ℕ → Bool) (y : Reply × Record) → StartReplies these y → StartedReplies these (started_of y)
started these y s = record { in_scope = s.in_scope; no_record = λ k d e. ap lists_of (s.no_record k d e) }

pub lists_starts : ListsStarts
lists_starts =
    record {
      simplex = λ x o a. started _ _ (starts.simplex x o a);
      bfgs = λ x o a. started _ _ (starts.bfgs x o a);
      lbfgs = λ x o a. started _ _ (starts.lbfgs x o a);
      search = λ x d f0 g step o gradients. started _ _ (starts.search x d f0 g step o gradients);
      differences = λ x. started _ _ (starts.differences x);
    }
