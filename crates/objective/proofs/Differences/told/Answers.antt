-- `objective::Differences::told` meets its contract: each return follows the calls and tests that led to it. Assumes nothing.
use Rattle.objective.specs.Step.{told_of}
use lib.Ieee.{of_bits}
use Rattle.objective.specs.Algorithm.{slope_at}
use Rattle.objective.proofs.Differences.told.Goals as goal

pub returns-then-self : goal.returns-then-self
unfolding told_of of_bits slope_at
returns-then-self c = rw (← c.forward.ensures, ← c.backward.ensures, c.if-self.true)

pub returns : goal.returns
unfolding told_of of_bits slope_at
returns c = rw c.if-self.false
