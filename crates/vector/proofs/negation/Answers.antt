-- `vector::negation` meets its contract. Assumes nothing.
use lib.Ieee.{neg}
use Rattle.std.proofs.Common.{rules}
use Rattle.vector.specs.Loops.{at}
use Rattle.vector.specs.Points.{negation_of}
use Rattle.vector.proofs.negation.Goals as goal

pub returns : goal.returns
unfolding negation_of
returns c = c.filled.ensures (λ i. neg (at c.args.a i)) (λ i l v p. search rules)
