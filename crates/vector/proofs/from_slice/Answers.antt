-- `vector::from_slice` meets its contract. Assumes nothing.
use Rattle.std.proofs.Common.{rules}
use Rattle.vector.specs.Loops.{at}
use Rattle.vector.specs.Points.{from_slice_of}
use Rattle.vector.proofs.from_slice.Goals as goal

pub returns : goal.returns
unfolding from_slice_of
returns c = c.filled.ensures (at c.args.s.now) (λ i l v p. search rules)
