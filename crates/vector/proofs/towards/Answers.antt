-- `vector::towards` meets its contract. Assumes nothing.
use Rattle.std.proofs.Common.{rules}
use Rattle.float.specs.Binary64.{◌⊕◌, ◌⊖◌, ◌⊗◌}
use Rattle.vector.specs.Loops.{at}
use Rattle.vector.specs.Points.{towards_of}
use Rattle.vector.proofs.towards.Goals as goal

pub returns : goal.returns
unfolding towards_of
returns c = c.filled.ensures (λ i. at c.args.c i ⊕ c.args.t ⊗ (at c.args.c i ⊖ at c.args.w i)) (λ i l v p. search rules)
