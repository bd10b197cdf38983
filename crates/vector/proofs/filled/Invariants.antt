-- `vector::filled` meets its contract: after i turns the point is made of the first i. Assumes nothing.
use Rattle.std.proofs.Common.{◌≡◌, ◌≤◌, length}
use Rattle.vector.specs.Loops.{Fills}
use Rattle.vector.proofs.filled.Given as goal

abbrev pub invariant-loop-i : goal.invariant-loop-i
invariant-loop-i g l = (l.i ≤ l.n) × (length l.r ≡ 16) × Fills (goal.F-post g l.f) l.i l.r
