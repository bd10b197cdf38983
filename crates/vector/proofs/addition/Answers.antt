-- `vector::addition` meets its contract. Assumes nothing.
use Rattle.std.proofs.Common.{rules}
use Rattle.float.specs.Binary64.{◌⊕◌}
use Rattle.vector.specs.Loops.{at}
use Rattle.vector.specs.Points.{addition_of}
use Rattle.vector.proofs.addition.Goals as goal

pub returns : goal.returns
unfolding addition_of
returns c = c.filled.ensures (λ i. at c.args.a i ⊕ at c.args.b i) (λ i l v p. search rules)
