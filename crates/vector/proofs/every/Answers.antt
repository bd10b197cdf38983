-- `vector::every` meets its contract: it has held at the first i places. Assumes nothing.
use Rattle.vector.proofs.Loops.{holds_not}
use Rattle.vector.proofs.every.Goals as goal

pub returns-then-not-f : goal.returns-then-not-f
returns-then-not-f g c = holds_not c.loop-i-test.true (c.loop-i.invariant.1) c.f.ensures c.if-not-f.true
