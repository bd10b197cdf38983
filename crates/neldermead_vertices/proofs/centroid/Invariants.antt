-- `neldermead_vertices::centroid` meets its contract: after i turns the sum is what the definition makes of i. Assumes nothing.
use Rattle.std.proofs.Common.{◌≡◌, ◌≤◌}
use Rattle.neldermead_vertices.specs.Vertices.{summed_of}
use Rattle.neldermead_vertices.proofs.centroid.Given as goal

abbrev pub invariant-loop-i : goal.invariant-loop-i
invariant-loop-i l = (l.i ≤ l.n) × (l.sum ≡ summed_of l.v l.n l.i)
