-- `objective::read` meets its contract: each return follows the calls and tests that led to it. Assumes nothing.
use lib.Ieee.{div, of_bits}
use Rattle.protocol.specs.Protocol.{read_of}
use Rattle.objective.proofs.read.Goals as goal

pub returns-then-is_finite : goal.returns-then-is_finite
unfolding div of_bits read_of
returns-then-is_finite c = rw (← c.is_finite.ensures, c.if-is_finite.true)

pub returns : goal.returns
unfolding div of_bits read_of
returns c = rw (← c.is_finite.ensures, c.if-is_finite.false)
