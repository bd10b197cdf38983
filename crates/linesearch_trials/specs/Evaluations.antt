-- Trials with their points and gradients, made from the line. Definitions only.
use Rattle.std.specs.Prelude.{ℕ, List, Float}
use Rattle.std.specs.Float.{nan}
use Rattle.vector.specs.Loops.{point}
use Rattle.vector.specs.Points.{dot_of, plus_scaled_of}
use Rattle.linesearch_trials.specs.declared.Trial.{Trial}
use Rattle.linesearch_trials.specs.declared.Evaluation.{Evaluation}
use Rattle.linesearch_trials.specs.declared.Line.{Line}
use Rattle.linesearch_trials.specs.declared.Fixed.{Fixed}

unfoldable pub point_at_of : Fixed → Line → Float → List Float
point_at_of fixed l a = plus_scaled_of l.x a l.d fixed.n

-- n of them
unfoldable pub nans_of : ℕ → List Float
nans_of = point (λ i. nan)

abbrev pub trial_of : Float → Float → Float → Trial
trial_of a v slope = record { step = a; value = v; slope = slope }

unfoldable pub evaluated_of : Fixed → Line → Float → Float → List Float → Evaluation
evaluated_of fixed l a v g = record { trial = trial_of a v (dot_of g l.d fixed.n); x = point_at_of fixed l a; g = g }

-- where the value is not finite the gradient is not asked for
unfoldable pub infeasible_of : Fixed → Line → Float → Float → Evaluation
infeasible_of fixed l a v = record { trial = trial_of a v nan; x = point_at_of fixed l a; g = nans_of fixed.n }
