-- `vector::every` meets its contract: it has held at the first i places. Assumes nothing.
use mathlib.Core.Bool.{true}
use Rattle.std.proofs.Common.{◌≤◌}
use Rattle.vector.specs.Loops.{Holds}
use Rattle.vector.proofs.every.Given as goal

abbrev pub invariant-loop-i : goal.invariant-loop-i
invariant-loop-i g l = (l.i ≤ l.n) × Holds (goal.F-post g l.f) l.i true
