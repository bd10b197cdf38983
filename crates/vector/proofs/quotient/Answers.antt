-- `vector::quotient` meets its contract. Assumes nothing.
use Rattle.std.proofs.Common.{rules}
use Rattle.float.specs.Binary64.{◌⊘◌}
use Rattle.vector.specs.Loops.{at}
use Rattle.vector.specs.Points.{quotient_of}
use Rattle.vector.proofs.quotient.Goals as goal

pub returns : goal.returns
unfolding quotient_of
returns c = c.filled.ensures (λ i. at c.args.a i ⊘ c.args.t) (λ i l v p. search rules)
