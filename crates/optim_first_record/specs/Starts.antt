-- The first records of starts, and the refusals that a start meets before its points are looked at. Definitions only.
use Rattle.std.specs.Prelude.{ℕ, ◌+◌, ◌*◌, Bool, true, false, not, cond, List, ltb, eqb, length, replicate, unwrap_or, Float}
use Rattle.std.specs.Float.Ieee.{lt}
use Rattle.float.specs.Binary64.{plus_zero}
use Rattle.float.specs.Values.{tolerance_of, positive_of}
use Rattle.vector.specs.Points.{from_slice_of}
use Rattle.protocol.specs.declared.Allowances.{Allowances}
use Rattle.protocol.specs.declared.SimplexOptions.{SimplexOptions}
use Rattle.protocol.specs.declared.WolfeOptions.{WolfeOptions}
use Rattle.protocol.specs.declared.GradientOptions.{GradientOptions}
use Rattle.protocol.specs.declared.Refusal.{Refusal}
use Rattle.protocol.specs.Protocol.{refusal, no_refusal, simplex_mark, bfgs_mark, lbfgs_mark, search_mark, differences_mark}
use Rattle.protocol.specs.PastLimits.{excess}
use Rattle.objective.specs.Step.{begun_of}
use Rattle.linesearch_trials.specs.declared.Line.{Line}
use Rattle.linesearch_trials.specs.Start.{options_refusal_of, counts_refusal_of}
use Rattle.linesearch_trials.specs.Trials.{one}
use Rattle.linesearch.specs.Step as linesearch
use Rattle.quasinewton_model.specs.Step.{blank_of as blank_model, new_model_of}
use Rattle.quasinewton_record.specs.declared.Descent.{Descent}
use Rattle.quasinewton.specs.Step.{searching, idle_of as idle_descent, start_of as quasinewton_start}
use Rattle.neldermead.specs.Step.{start_of}
use Rattle.optim_record.specs.declared.Limits.{Limits}
use Rattle.optim_record.specs.declared.Record.{Record}
use Rattle.optim_record.specs.Record.{idle_of, no_options, wolfe_options_of, no_gradient_options, most_restarts, most_evals, no_limit}

-- ---- differences

unfoldable pub begun_record_of : List Float → Record
begun_record_of x =
    record {
      accepted = 0;
      job = differences_mark;
      n = length x;
      counts = record { fevals = 0; gevals = 0 };
      limits = record { iter = 0; fevals = 0 };
      options = no_options;
      gradient = no_gradient_options;
      diff = begun_of (from_slice_of x (length x));
      simplex = idle_of;
      descent = idle_descent;
      model = blank_model;
    }

-- ---- simplex

-- 2: "A lent list .. is above 16, an allowance above 1,000,000, .. or restarts above 100."
unfoldable pub past_limits_of : ℕ → SimplexOptions → Allowances → Bool
past_limits_of count o a = cond (ltb 16 count) true (cond (excess a.iter) true (cond (excess a.fevals) true (ltb most_restarts o.restarts)))

-- which refusal a start of so many coordinates meets, before the point is looked at; 0 for none
unfoldable pub simplex_refusal_of : ℕ → SimplexOptions → Allowances → Refusal
unfolding past_limits_of
simplex_refusal_of count o a =
    cond (past_limits_of count o a) (refusal 2 0)
    (cond (not (tolerance_of o.xtol)) (refusal 4 1)
    (cond (not (tolerance_of o.ftol)) (refusal 4 2)
    (cond (not (positive_of o.step)) (refusal 8 0)
    (cond (eqb count 0) (refusal 9 0) no_refusal))))

-- "absent, each is 200·n·(1+restarts)"
unfoldable pub simplex_limits_of : ℕ → SimplexOptions → Allowances → Limits
simplex_limits_of n o a = let default = 200 * n * (1 + o.restarts) in record { iter = unwrap_or a.iter default; fevals = unwrap_or a.fevals default }

-- the first record of a fit of n coordinates at a point of sixteen
unfoldable pub simplex_record_of : List Float → ℕ → SimplexOptions → Allowances → Record
unfolding simplex_limits_of
simplex_record_of point n o a =
    record {
      accepted = 0;
      job = simplex_mark;
      n = n;
      counts = record { fevals = 0; gevals = 0 };
      limits = simplex_limits_of n o a;
      options = o;
      gradient = no_gradient_options;
      diff = begun_of (replicate 16 plus_zero);
      simplex = start_of point;
      descent = idle_descent;
      model = blank_model;
    }

-- ---- search

-- 2: "A lent list .. is above 16, .. max_evals above 1,000"
unfoldable pub search_past_limits_of : ℕ → ℕ → ℕ → WolfeOptions → Bool
search_past_limits_of n dcount gcount o = cond (ltb 16 n) true (cond (ltb 16 dcount) true (cond (ltb 16 gcount) true (ltb most_evals o.evals)))

-- 2, then 5, 6, 7, then 9, 10, 11: before the points are looked at
unfoldable pub search_refusal_of : ℕ → ℕ → ℕ → WolfeOptions → Refusal
unfolding search_past_limits_of
search_refusal_of n dcount gcount o =
    cond (search_past_limits_of n dcount gcount o) (refusal 2 0)
    (cond (not (eqb (options_refusal_of o).number 0)) (options_refusal_of o) (counts_refusal_of n dcount gcount))

-- a search along the line, from its first trial on
unfoldable pub begun_search_of : Line → ℕ → Float → WolfeOptions → Bool → Descent
begun_search_of l n step o gradients =
    record {
      phase = searching;
      number = 0;
      detail = 0;
      first = false;
      rounds = 0;
      line = l;
      search = linesearch.begun_of (record { n = n; gradients = gradients; options = o }) l step;
      diff = begun_of (replicate 16 plus_zero);
    }

unfoldable pub search_record_of : Line → ℕ → Float → WolfeOptions → Bool → Record
unfolding begun_search_of
search_record_of l n step o gradients =
    record {
      accepted = 0;
      job = search_mark;
      n = n;
      counts = record { fevals = 0; gevals = 0 };
      limits = record { iter = 0; fevals = 0 };
      options = no_options;
      gradient = wolfe_options_of o gradients;
      diff = begun_of (replicate 16 plus_zero);
      simplex = idle_of;
      descent = begun_search_of l n step o gradients;
      model = blank_model;
    }

-- ---- bfgs and, where `limited`, lbfgs

-- 2: "A lent list or memory is above 16, an allowance above 1,000,000, max_evals above 1,000"; bfgs ignores memory
unfoldable pub gradient_past_limits_of : ℕ → GradientOptions → Allowances → Bool → Bool
gradient_past_limits_of count o a limited =
    cond (ltb 16 count) true
    (cond (excess a.iter) true
    (cond (excess a.fevals) true
    (cond (ltb most_evals o.wolfe.evals) true
    (cond limited (ltb 16 o.memory) false))))

-- "0 < c1 < c2 < 1"
unfoldable pub ordered_of : WolfeOptions → Bool
ordered_of w = cond (not (lt plus_zero w.c1)) false (cond (not (lt w.c1 w.c2)) false (lt w.c2 one))

-- "An lbfgs memory is 0"
unfoldable pub no_memory_of : GradientOptions → Bool → Bool
no_memory_of o limited = cond limited (eqb o.memory 0) false

unfoldable pub gradient_refusal_of : ℕ → GradientOptions → Allowances → Bool → Refusal
unfolding gradient_past_limits_of
gradient_refusal_of count o a limited =
    cond (gradient_past_limits_of count o a limited) (refusal 2 0)
    (cond (no_memory_of o limited) (refusal 3 0)
    (cond (not (tolerance_of o.gradtol)) (refusal 4 1)
    (cond (not (tolerance_of o.ftol)) (refusal 4 2)
    (cond (not (tolerance_of o.xtol)) (refusal 4 3)
    (cond (not (ordered_of o.wolfe)) (refusal 5 1)
    (cond (eqb count 0) (refusal 9 0) no_refusal))))))

-- "max_iter (absent: 200·n), max_fevals (absent: none)"
unfoldable pub gradient_limits_of : ℕ → Allowances → Limits
gradient_limits_of n a = record { iter = unwrap_or a.iter (200 * n); fevals = unwrap_or a.fevals no_limit }

-- "A bfgs record stores memory 0, whatever was given."
unfoldable pub kept_options_of : GradientOptions → Bool → GradientOptions
kept_options_of o limited =
    cond limited o
    (record { gradtol = o.gradtol; ftol = o.ftol; xtol = o.xtol; wolfe = o.wolfe; memory = 0; gradients = o.gradients })

unfoldable pub gradient_mark_of : Bool → ℕ
gradient_mark_of limited = cond limited lbfgs_mark bfgs_mark

unfoldable pub gradient_record_of : List Float → ℕ → GradientOptions → Allowances → Bool → Record
unfolding gradient_limits_of kept_options_of
gradient_record_of point n o a limited =
    record {
      accepted = 0;
      job = gradient_mark_of limited;
      n = n;
      counts = record { fevals = 0; gevals = 0 };
      limits = gradient_limits_of n a;
      options = no_options;
      gradient = kept_options_of o limited;
      diff = begun_of (replicate 16 plus_zero);
      simplex = idle_of;
      descent = quasinewton_start point;
      model = new_model_of limited (kept_options_of o limited).memory n;
    }
