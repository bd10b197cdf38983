-- The record of a search, and its moves to the next trial or the end. Definitions only.
use Rattle.std.specs.Prelude.{ℕ, ◌+◌, Bool, true, false, not, cond, List, leb, replicate, Float}
use Rattle.std.specs.Float.Ieee.{lt, le}
use Rattle.float.specs.Binary64.{plus_zero}
use Rattle.float.specs.Values.{finite_of}
use Rattle.objective.specs.declared.Differences.{Differences}
use Rattle.objective.specs.Step as objective
use Rattle.linesearch_trials.specs.declared.Trial.{Trial}
use Rattle.linesearch_trials.specs.declared.Evaluation.{Evaluation}
use Rattle.linesearch_trials.specs.declared.Line.{Line}
use Rattle.linesearch_trials.specs.declared.Fixed.{Fixed}
use Rattle.linesearch_trials.specs.Cubic.{interpolate_of}
use Rattle.linesearch_trials.specs.Evaluations.{trial_of}
use Rattle.linesearch_trials.specs.Trials.{start_of, narrow_of}
use Rattle.linesearch_moves.specs.declared.Search.{Search}

-- ---- what is asked for, or how the search ended

abbrev pub asks_value : ℕ
asks_value = 1

abbrev pub asks_gradient : ℕ
asks_gradient = 2

abbrev pub asks_difference : ℕ
asks_difference = 3

abbrev pub found : ℕ
found = 4

abbrev pub failed : ℕ
failed = 5

-- ---- the record with some fields set

module _ (s : Search) where
  -- in another phase, with the best trial b
  abbrev pub with_best : ℕ → Bool → Evaluation → Search
  with_best p kept b =
      record { phase = p; zooming = s.zooming; trials = s.trials; previous = s.previous; lo = s.lo; hi = s.hi; step = s.step; value = s.value; kept = kept; best = b; diff = s.diff }

  abbrev pub with_ends : Bool → Bool → Trial → Trial → Search
  with_ends zooming previous lo hi =
      record { phase = s.phase; zooming = zooming; trials = s.trials; previous = previous; lo = lo; hi = hi; step = s.step; value = s.value; kept = s.kept; best = s.best; diff = s.diff }

  -- in another phase, with the differences e
  abbrev pub with_diff : ℕ → Differences → Search
  with_diff p e =
      record { phase = p; zooming = s.zooming; trials = s.trials; previous = s.previous; lo = s.lo; hi = s.hi; step = s.step; value = s.value; kept = s.kept; best = s.best; diff = e }

  abbrev pub with_value : Float → Search
  with_value v =
      record { phase = s.phase; zooming = s.zooming; trials = s.trials; previous = s.previous; lo = s.lo; hi = s.hi; step = s.step; value = v; kept = s.kept; best = s.best; diff = s.diff }

-- ---- the first record

abbrev pub zeros : List Float
zeros = replicate 16 plus_zero

-- before the first trial
abbrev pub no_trial : Search
no_trial =
    let none = trial_of plus_zero plus_zero plus_zero in
    record {
      phase = asks_value;
      zooming = false;
      trials = 0;
      previous = false;
      lo = none;
      hi = none;
      step = plus_zero;
      value = plus_zero;
      kept = false;
      best = record { trial = none; x = zeros; g = zeros };
      diff = objective.begun_of zeros;
    }

-- ---- moves

-- the trial before the one in hand, or the start of the line
unfoldable pub preceding_of : Line → Search → Trial
preceding_of l s = cond s.previous s.lo (start_of l)

unfoldable pub risen_of : Search → Trial → Bool
risen_of s t = cond (not s.previous) false (le s.lo.value t.value)

unfoldable pub lower_of : Search → Evaluation → Bool
lower_of s t = cond (not s.kept) true (lt t.trial.value s.best.trial.value)

-- the best finite trial, first on ties
unfoldable pub keep_of : Search → Evaluation → Search
keep_of s t = cond (not (finite_of t.trial.value)) s (cond (lower_of s t) (with_best s s.phase true t) s)

-- the start of the line with its point and gradient
abbrev pub at_start : Line → Evaluation
at_start l = record { trial = start_of l; x = l.x; g = l.g }

-- 01: "the best finite trial below f0, first on ties, else step 0 and the start"
unfoldable pub failure_of : Line → Search → Search
failure_of l s =
    cond (not s.kept) (with_best s failed s.kept (at_start l))
    (cond (lt s.best.trial.value l.f) (with_best s failed s.kept s.best) (with_best s failed s.kept (at_start l)))

unfoldable pub success_of : Search → Evaluation → Search
success_of s t = with_best s found s.kept t

-- the next trial, at the step a
unfoldable pub eval_of : Search → Float → Search
eval_of s a =
    record { phase = asks_value; zooming = s.zooming; trials = s.trials + 1; previous = s.previous; lo = s.lo; hi = s.hi; step = a; value = s.value; kept = s.kept; best = s.best; diff = s.diff }

unfoldable pub zoom_of : Fixed → Line → Search → Trial → Trial → Search
zoom_of fixed l s lo hi =
    let q = with_ends s true s.previous lo hi in
    cond (leb fixed.options.evals s.trials) (failure_of l q)
    (cond (narrow_of lo hi) (failure_of l q)
    (eval_of q (interpolate_of lo hi)))

unfoldable pub bracket_of : Fixed → Line → Search → Float → Search
bracket_of fixed l s a = cond (leb fixed.options.evals s.trials) (failure_of l s) (eval_of s a)
