-- `vector::shrunk` meets its contract. Assumes nothing.
use Rattle.std.proofs.Common.{rules}
use Rattle.float.specs.Binary64.{◌⊕◌, ◌⊖◌, ◌⊗◌}
use Rattle.vector.specs.Loops.{at}
use Rattle.vector.specs.Points.{shrunk_of}
use Rattle.vector.proofs.shrunk.Goals as goal

pub returns : goal.returns
unfolding shrunk_of
returns c = c.filled.ensures (λ i. at c.args.b i ⊕ c.args.t ⊗ (at c.args.v i ⊖ at c.args.b i)) (λ i l v p. search rules)
