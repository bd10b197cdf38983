-- What is read in more than one place: a trial from a place on, and differences of their marks, their number and their arrays. Definitions only.
use Rattle.std.specs.Prelude.{ℕ, ◌+◌, not, eqb, List, Float}
use Rattle.vector.specs.Loops.{at}
use Rattle.objective.specs.declared.Differences.{Differences}
use Rattle.linesearch_trials.specs.declared.Trial.{Trial}

abbrev pub trial_of : List Float → ℕ → Trial
trial_of ws i = record { step = at ws i; value = at ws (i + 1); slope = at ws (i + 2) }

abbrev pub told_of : ℕ → ℕ → Float → List Float → List Float → Differences
told_of i forward value x g = record { at = i; forward = not (eqb forward 0); value = value; x = x; g = g }
