-- `vector::inf_norm` meets its contract. Assumes nothing.
use lib.Ieee.{of_bits}
use Rattle.std.proofs.Common.{rules}
use Rattle.float.specs.Values.{abs_of, max_of}
use Rattle.vector.specs.Loops.{at}
use Rattle.vector.specs.Points.{inf_norm_of}
use Rattle.vector.proofs.inf_norm.Goals as goal

pub returns : goal.returns
unfolding inf_norm_of of_bits
returns c = c.folded.ensures (λ m i. max_of m (abs_of (at c.args.a i))) (λ s i l v p. search rules)
