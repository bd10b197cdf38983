-- `neldermead_vertices::size` meets its contract. Assumes nothing.
use lib.Ieee.{of_bits}
use Prim.Native.Nat.{◌+◌}
use Rattle.std.proofs.Common.{rules}
use Rattle.float.specs.Values.{max_of}
use Rattle.vector.specs.Points.{inf_norm_of, difference_of}
use Rattle.neldermead_vertices.specs.Vertices.{vertex_at, size_of}
use Rattle.neldermead_vertices.proofs.size.Goals as goal

pub returns : goal.returns
unfolding size_of of_bits
returns c = c.folded.ensures (λ m i. max_of m (inf_norm_of (difference_of (vertex_at c.args.v.now (i + 1)).x (vertex_at c.args.v.now 0).x c.args.n) c.args.n)) (λ m i l r p. search rules)
