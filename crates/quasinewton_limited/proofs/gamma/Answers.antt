-- `quasinewton_limited::gamma` meets its contract: each return follows the calls and tests that led to it. Assumes nothing.
use Rattle.quasinewton_limited.specs.Step.{gamma_of}
use lib.Ieee.{of_bits}
use Rattle.quasinewton_limited.proofs.gamma.Goals as goal

pub returns-then-yy : goal.returns-then-yy
unfolding gamma_of of_bits
returns-then-yy c = rw c.if-yy.true

pub returns : goal.returns
unfolding gamma_of of_bits
returns c = rw c.if-yy.false
