-- The first demand: "Whoever starts a fit or answers a question, with any options, record, number or length, gets a question, a result or a refusal numbered in 01; a refused or
-- repeated answer leaves the record bit for bit unchanged". Definitions and statements only.
use Rattle.std.specs.Prelude.{ℕ, ◌≡◌, Bool, true, false, ◌&&◌, ◌||◌, List, T, eqb, Float}
use Rattle.protocol.specs.declared.SimplexOptions.{SimplexOptions}
use Rattle.protocol.specs.declared.GradientOptions.{GradientOptions}
use Rattle.protocol.specs.declared.Allowances.{Allowances}
use Rattle.protocol.specs.declared.WolfeOptions.{WolfeOptions}
use Rattle.protocol.specs.Protocol.{Reply, ask, ended, refused}
use Rattle.optim_record.specs.declared.Record.{Record}
use Rattle.optim_record.specs.Record.{known_refusal_of, blank_of, valid_of}
use Rattle.optim_reply.specs.Standing.{standing_of}
use Rattle.optim_rules.specs.Rules.{repeats_of}
use Rattle.optim.specs.Answer.{answer_of}
use Rattle.optim_start.specs.Start.{differences_of, simplex_of, search_of, bfgs_of, lbfgs_of}

-- a question, an outcome, or a refusal of those with its detail
abbrev pub Among : (ℕ → ℕ → Bool) → Reply → Type 0
Among these (ask q) = Unit {0}
Among these (ended o) = Unit {0}
Among these (refused k d) = T (these k d)

-- ---- answers

-- the refusals of an answer that is not accepted: 1, and 15 to 17
abbrev pub turns_away : ℕ → Bool
turns_away k = eqb k 1 || (eqb k 15 || (eqb k 16 || eqb k 17))

-- those that end a fit: 5 (1 and 2), 6, 7, 9, 10, 11, 12 (1 to 4), 13, 14, 18 and 19 of gradient fits, 20 of simplex fits. No fit that was started ends with 5, 9 to 11, 13, 14 or a
-- detail of 12 but 1 (optim_fits_theory); a forged record may.
abbrev pub ends_job : ℕ → ℕ → Bool
ends_job k d = known_refusal_of k d || (eqb k 20 && eqb d 0)

abbrev pub refuses_answer : ℕ → ℕ → Bool
refuses_answer k d = (turns_away k && eqb d 0) || ends_job k d

-- of every record, forged ones too, and every number, letter and list of words
pub record Answers : Type 0 where
  pub in_scope : (r : Record) (number kind : ℕ) (words : List Float) → Among refuses_answer (answer_of r number kind words).0
  -- refused
  pub refused_keeps : (r : Record) (number kind : ℕ) (words : List Float) (k d : ℕ) → (answer_of r number kind words).0 ≡ refused k d → T (turns_away k) → (answer_of r number kind words).1 ≡ r
  -- a repeat brings again what stands
  pub repeat_keeps : (r : Record) (number kind : ℕ) (words : List Float) → valid_of r ≡ true → repeats_of r.accepted number ≡ true
      → ((answer_of r number kind words).0 ≡ (standing_of r).0) × ((answer_of r number kind words).1 ≡ r)
  -- 1 before all else
  pub out_of_range : (r : Record) (number kind : ℕ) (words : List Float) → valid_of r ≡ false → answer_of r number kind words ≡ (refused 1 0, r)
  -- "A refused start hands back the blank record: all zeros, with the job mark 0, which is unknown, so that `answer` refuses it with 1"
  pub blank : (number kind : ℕ) (words : List Float) → answer_of blank_of number kind words ≡ (refused 1 0, blank_of)

-- ---- starts: each meets those of 2 to 14 that concern it, with their details

-- 2, 4 (1 and 2), 8, 9, 12 (1)
abbrev pub refuses_simplex : ℕ → ℕ → Bool
refuses_simplex k d = (eqb d 0 && (eqb k 2 || (eqb k 8 || eqb k 9))) || ((eqb k 4 && (eqb d 1 || eqb d 2)) || (eqb k 12 && eqb d 1))

-- 2, 4 (1 to 3), 5 (1), 9, 12 (1)
abbrev pub refuses_bfgs : ℕ → ℕ → Bool
refuses_bfgs k d = (eqb d 0 && (eqb k 2 || eqb k 9)) || ((eqb k 4 && (eqb d 1 || (eqb d 2 || eqb d 3))) || (eqb d 1 && (eqb k 5 || eqb k 12)))

-- and 3
abbrev pub refuses_lbfgs : ℕ → ℕ → Bool
refuses_lbfgs k d = refuses_bfgs k d || (eqb k 3 && eqb d 0)

-- 2, 5 (1 and 2), 6, 7, 9, 10, 11, 12 (1 to 4), 13, 14
abbrev pub refuses_search : ℕ → ℕ → Bool
refuses_search k d =
    (eqb d 0 && (eqb k 2 || (eqb k 6 || (eqb k 7 || (eqb k 9 || (eqb k 10 || (eqb k 11 || (eqb k 13 || eqb k 14))))))))
    || ((eqb k 5 && (eqb d 1 || eqb d 2)) || (eqb k 12 && (eqb d 1 || (eqb d 2 || (eqb d 3 || eqb d 4)))))

-- 2
abbrev pub refuses_differences : ℕ → ℕ → Bool
refuses_differences k d = eqb d 0 && eqb k 2

-- the reply is of that scope, and "A refused start yields no record": it hands back the blank one
pub record StartReplies (these : ℕ → ℕ → Bool) (y : Reply × Record) : Type 0 where
  pub in_scope : Among these y.0
  pub no_record : (k d : ℕ) → y.0 ≡ refused k d → y.1 ≡ blank_of

-- of every list and all options that are lent to a start
pub record Starts : Type 0 where
  pub simplex : (x : List Float) (o : SimplexOptions) (a : Allowances) → StartReplies refuses_simplex (simplex_of x o a)
  pub bfgs : (x : List Float) (o : GradientOptions) (a : Allowances) → StartReplies refuses_bfgs (bfgs_of x o a)
  pub lbfgs : (x : List Float) (o : GradientOptions) (a : Allowances) → StartReplies refuses_lbfgs (lbfgs_of x o a)
  pub search : (x d : List Float) (f0 : Float) (g : List Float) (step : Float) (o : WolfeOptions) (gradients : Bool) → StartReplies refuses_search (search_of x d f0 g step o gradients)
  pub differences : (x : List Float) → StartReplies refuses_differences (differences_of x)
