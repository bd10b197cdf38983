-- `neldermead_vertices::sorted` meets its contract: the vertices from i on are in order; in a turn, what is left to do with place j free is what
-- was to do with place i. Assumes nothing.
use Prim.Native.Nat.{◌-◌, ◌≤◌}
use mathlib.Core.Path.{◌≡◌}
use lib.ListN.{length}
use Rattle.neldermead_vertices.specs.Vertices.{put_of}
use Rattle.neldermead_vertices.proofs.Insertion.{sorted_from}
use Rattle.neldermead_vertices.proofs.sorted.Given as goal

abbrev pub invariant-loop-j : goal.invariant-loop-j
invariant-loop-j l = (l.j ≤ l.n) × (length l.w ≡ 17) × (put_of l.u l.w l.j l.n ≡ put_of l.u l.initial.w l.i l.n)

abbrev pub decreases-loop-j : goal.decreases-loop-j
decreases-loop-j l = l.n - l.j

abbrev pub invariant-loop-i : goal.invariant-loop-i
invariant-loop-i l = (length l.w ≡ 17) × (l.w ≡ sorted_from l.initial.w l.n l.i)
