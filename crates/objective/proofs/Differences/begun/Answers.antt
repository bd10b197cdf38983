-- `objective::Differences::begun` meets its contract: each return follows the calls and tests that led to it. Assumes nothing.
use mathlib.Core.Path.{refl}
use Rattle.objective.specs.Step.{begun_of}
use lib.Ieee.{of_bits}
use Rattle.objective.proofs.Differences.begun.Goals as goal

pub returns : goal.returns
unfolding begun_of of_bits
returns c = refl
