-- The first demand over lists: "Whoever starts a fit or answers a question, with any options, record, number or length, gets a question, a result or a refusal numbered in 01; a refused or
-- repeated answer leaves the record bit for bit unchanged". So it is of all lists that are lent, forged ones too. Definitions and statements only.
use Rattle.std.specs.Prelude.{ℕ, ◌≡◌, Bool, true, false, List, T, Float}
use Rattle.protocol.specs.declared.SimplexOptions.{SimplexOptions}
use Rattle.protocol.specs.declared.GradientOptions.{GradientOptions}
use Rattle.protocol.specs.declared.WolfeOptions.{WolfeOptions}
use Rattle.protocol.specs.declared.Allowances.{Allowances}
use Rattle.protocol.specs.Protocol.{Reply, refused}
use Rattle.optim_record.specs.Record.{blank_of, valid_of}
use Rattle.optim_reply.specs.Standing.{standing_of}
use Rattle.optim_rules.specs.Rules.{repeats_of}
use Rattle.optim_start.specs.Start.{differences_of, simplex_of, search_of, bfgs_of, lbfgs_of}
use Rattle.optim_theory.specs.Replies.{Among, turns_away, refuses_answer, refuses_simplex, refuses_bfgs, refuses_lbfgs, refuses_search, refuses_differences}
use Rattle.optim_lists.specs.Layout as place
use Rattle.optim_lists.specs.Lists.{Lists, mark, record_of, lists_of, formed_of}
use Rattle.optim_lists.specs.Answered.{answered_of, started_of}

-- ---- `Answers` of optim_theory, of every list of marks and numbers, and every number, letter and list of words

pub record ListsAnswers : Type 0 where
  pub in_scope : (l : Lists) (number kind : ℕ) (words : List Float) → Among refuses_answer (answered_of l number kind words).0
  -- refused
  pub refused_keeps : (l : Lists) (number kind : ℕ) (words : List Float) (k d : ℕ) → (answered_of l number kind words).0 ≡ refused k d → T (turns_away k) → (answered_of l number kind words).1 ≡ l
  -- a repeat brings again what stands
  pub repeat_keeps : (l : Lists) (number kind : ℕ) (words : List Float) → formed_of l ≡ true → valid_of (record_of l) ≡ true → repeats_of (mark l.marks place.accepted) number ≡ true
      → ((answered_of l number kind words).0 ≡ (standing_of (record_of l)).0) × ((answered_of l number kind words).1 ≡ l)
  -- 1 before all else: a flag that is an unknown mark, then what `valid_of` finds
  pub unknown_flag : (l : Lists) (number kind : ℕ) (words : List Float) → formed_of l ≡ false → answered_of l number kind words ≡ (refused 1 0, l)
  pub out_of_range : (l : Lists) (number kind : ℕ) (words : List Float) → formed_of l ≡ true → valid_of (record_of l) ≡ false → answered_of l number kind words ≡ (refused 1 0, l)

-- ---- starts

-- the reply is of that scope, and a refused start leaves the blank record's lists
pub record StartedReplies (these : ℕ → ℕ → Bool) (y : Reply × Lists) : Type 0 where
  pub in_scope : Among these y.0
  pub no_record : (k d : ℕ) → y.0 ≡ refused k d → y.1 ≡ lists_of blank_of

pub record ListsStarts : Type 0 where
  pub simplex : (x : List Float) (o : SimplexOptions) (a : Allowances) → StartedReplies refuses_simplex (started_of (simplex_of x o a))
  pub bfgs : (x : List Float) (o : GradientOptions) (a : Allowances) → StartedReplies refuses_bfgs (started_of (bfgs_of x o a))
  pub lbfgs : (x : List Float) (o : GradientOptions) (a : Allowances) → StartedReplies refuses_lbfgs (started_of (lbfgs_of x o a))
  pub search : (x d : List Float) (f0 : Float) (g : List Float) (step : Float) (o : WolfeOptions) (gradients : Bool)
      → StartedReplies refuses_search (started_of (search_of x d f0 g step o gradients))
  pub differences : (x : List Float) → StartedReplies refuses_differences (started_of (differences_of x))
