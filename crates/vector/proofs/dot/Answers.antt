-- `vector::dot` meets its contract. Assumes nothing.
use lib.Ieee.{neg, of_bits}
use Rattle.std.proofs.Common.{rules}
use Rattle.vector.specs.Loops.{at}
use Rattle.float.specs.Binary64.{◌⊕◌, ◌⊗◌}
use Rattle.vector.specs.Points.{dot_of}
use Rattle.vector.proofs.dot.Goals as goal

pub returns : goal.returns
unfolding dot_of neg of_bits
returns c = c.folded.ensures (λ s i. s ⊕ at c.args.a i ⊗ at c.args.b i) (λ s i l v p. search rules)
