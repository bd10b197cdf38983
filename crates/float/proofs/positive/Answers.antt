-- `float::positive` meets its contract: each return follows the calls and tests that led to it. Assumes nothing.
use Rattle.float.specs.Values.{positive_of}
use lib.Ieee.{of_bits}
use Rattle.float.proofs.positive.Goals as goal

pub returns-then-x : goal.returns-then-x
unfolding positive_of of_bits
returns-then-x c = rw (← c.is_finite.ensures, c.if-x.true)

pub returns-else-x : goal.returns-else-x
unfolding positive_of of_bits
returns-else-x c = rw c.if-x.false
