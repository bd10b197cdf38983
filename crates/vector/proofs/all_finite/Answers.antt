-- `vector::all_finite` meets its contract. Assumes nothing.
use Rattle.std.proofs.Common.{rules}
use Rattle.float.specs.Values.{finite_of}
use Rattle.vector.specs.Loops.{at}
use Rattle.vector.specs.Points.{all_finite_of}
use Rattle.vector.proofs.all_finite.Goals as goal

pub returns : goal.returns
unfolding all_finite_of
returns c = c.every.ensures (λ i. finite_of (at c.args.a i)) (λ i l b p. search rules)
