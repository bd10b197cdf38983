-- What each function does to the record of the differences. Definitions only.
use Rattle.std.specs.Prelude.{◌+◌, true, false, cond, List, set, replicate, Float}
use Rattle.float.specs.Binary64.{plus_zero}
use Rattle.vector.specs.Loops.{at}
use Rattle.objective.specs.declared.Differences.{Differences}
use Rattle.objective.specs.Algorithm.{forward_of, backward_of, slope_at}

unfoldable pub begun_of : List Float → Differences
begun_of x = record { at = 0; forward = false; value = plus_zero; x = x; g = replicate 16 plus_zero }

unfoldable pub probe_of : Differences → List Float
probe_of s = cond s.forward (set s.x s.at (backward_of (at s.x s.at))) (set s.x s.at (forward_of (at s.x s.at)))

unfoldable pub told_of : Differences → Float → Differences
told_of s v =
    cond s.forward
    (record { at = s.at + 1; forward = false; value = plus_zero; x = s.x; g = set s.g s.at (slope_at (at s.x s.at) s.value v) })
    (record { at = s.at; forward = true; value = v; x = s.x; g = s.g })
