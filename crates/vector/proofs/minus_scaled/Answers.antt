-- `vector::minus_scaled` meets its contract. Assumes nothing.
use Rattle.std.proofs.Common.{rules}
use Rattle.float.specs.Binary64.{◌⊖◌, ◌⊗◌}
use Rattle.vector.specs.Loops.{at}
use Rattle.vector.specs.Points.{minus_scaled_of}
use Rattle.vector.proofs.minus_scaled.Goals as goal

pub returns : goal.returns
unfolding minus_scaled_of
returns c = c.filled.ensures (λ i. at c.args.x i ⊖ c.args.t ⊗ at c.args.d i) (λ i l v p. search rules)
