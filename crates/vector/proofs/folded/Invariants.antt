-- `vector::folded` meets its contract: after i turns it has made what the definition makes of i. Assumes nothing.
use Rattle.std.proofs.Common.{◌≤◌}
use Rattle.vector.specs.Loops.{Folds}
use Rattle.vector.proofs.folded.Given as goal

abbrev pub invariant-loop-i : goal.invariant-loop-i
invariant-loop-i g l = (l.i ≤ l.n) × Folds (goal.F-post g l.f) l.i l.fn.z l.s
