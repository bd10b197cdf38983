-- The record of a gradient fit, before it moves: its phases, the record with some fields set, the first one, and what it waits for. Definitions only.
use Rattle.std.specs.Prelude.{ℕ, Bool, true, false, cond, List, leb, eqb, replicate, Float}
use Rattle.float.specs.Binary64.{plus_zero}
use Rattle.protocol.specs.declared.Refusal.{Refusal}
use Rattle.objective.specs.declared.Differences.{Differences}
use Rattle.objective.specs.Step as objective
use Rattle.linesearch_trials.specs.declared.Line.{Line}
use Rattle.linesearch_moves.specs.declared.Search.{Search}
use Rattle.linesearch_trials.specs.declared.Fixed as linesearch_fixed
use Rattle.linesearch.specs.Step as linesearch
use Rattle.quasinewton_record.specs.declared.Fixed.{Fixed}
use Rattle.quasinewton_record.specs.declared.Descent.{Descent}

-- ---- what the open question is for, or how the fit ended

abbrev pub first_value : ℕ
first_value = 1

abbrev pub first_gradient : ℕ
first_gradient = 2

abbrev pub first_differences : ℕ
first_differences = 3

abbrev pub searching : ℕ
searching = 4

abbrev pub by_gradient : ℕ
by_gradient = 5

abbrev pub by_function : ℕ
by_function = 6

abbrev pub by_step : ℕ
by_step = 7

abbrev pub by_iterations : ℕ
by_iterations = 8

abbrev pub by_fevals : ℕ
by_fevals = 9

abbrev pub by_search : ℕ
by_search = 10

abbrev pub by_gradient_failed : ℕ
by_gradient_failed = 11

-- by a refusal, whose number and detail the record holds
abbrev pub by_refusal : ℕ
by_refusal = 12

-- no record that is handed back stands here
abbrev pub at_head : ℕ
at_head = 13

-- ---- the record with some fields set

module _ (q : Descent) where
  abbrev pub in_phase : ℕ → Descent
  in_phase p = record { phase = p; number = q.number; detail = q.detail; first = q.first; rounds = q.rounds; line = q.line; search = q.search; diff = q.diff }

  abbrev pub refused_by : Refusal → Descent
  refused_by w = record { phase = by_refusal; number = w.number; detail = w.detail; first = q.first; rounds = q.rounds; line = q.line; search = q.search; diff = q.diff }

  abbrev pub with_line : ℕ → Line → Descent
  with_line p l = record { phase = p; number = q.number; detail = q.detail; first = q.first; rounds = q.rounds; line = l; search = q.search; diff = q.diff }

  abbrev pub with_search : Search → Descent
  with_search s = record { phase = q.phase; number = q.number; detail = q.detail; first = q.first; rounds = q.rounds; line = q.line; search = s; diff = q.diff }

  abbrev pub with_diff : ℕ → Differences → Descent
  with_diff p e = record { phase = p; number = q.number; detail = q.detail; first = q.first; rounds = q.rounds; line = q.line; search = q.search; diff = e }

  -- at another point, with its value; gradient, direction and slope stay
  abbrev pub valued_at : List Float → Float → Line
  valued_at x f = record { x = x; g = q.line.g; d = q.line.d; f = f; slope = q.line.slope }

-- what the search's start fixes
abbrev pub search_fixed : Fixed → linesearch_fixed.Fixed
search_fixed fixed = record { n = fixed.n; gradients = fixed.options.gradients; options = fixed.options.wolfe }

-- ---- what it waits for

-- whether the record waits for an answer
unfoldable pub asks_of : Descent → Bool
asks_of q = cond (eqb q.phase searching) (leb q.search.phase linesearch.asks_difference) (leb q.phase first_differences)

-- whether it is for a gradient
unfoldable pub gradient_due_of : Descent → Bool
gradient_due_of q = cond (eqb q.phase searching) (eqb q.search.phase linesearch.asks_gradient) (eqb q.phase first_gradient)

-- ---- the first record

abbrev pub zeros : List Float
zeros = replicate 16 plus_zero

-- before any part is in use
unfoldable pub idle_of : Descent
idle_of =
    record {
      phase = 0;
      number = 0;
      detail = 0;
      first = false;
      rounds = 0;
      line = record { x = zeros; g = zeros; d = zeros; f = plus_zero; slope = plus_zero };
      search = linesearch.no_trial;
      diff = objective.begun_of zeros;
    }

-- the value at x is asked for
unfoldable pub start_of : List Float → Descent
start_of x =
    record {
      phase = first_value;
      number = 0;
      detail = 0;
      first = true;
      rounds = 0;
      line = record { x = x; g = zeros; d = zeros; f = plus_zero; slope = plus_zero };
      search = linesearch.no_trial;
      diff = objective.begun_of zeros;
    }
