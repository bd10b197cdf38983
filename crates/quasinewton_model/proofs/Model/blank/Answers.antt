-- `quasinewton_model::Model::blank` meets its contract: each return follows the calls and tests that led to it. Assumes nothing.
use Rattle.quasinewton_model.specs.Step.{blank_of}
use lib.Ieee.{of_bits}
use Rattle.quasinewton_model.proofs.Model.blank.Goals as goal

pub returns : goal.returns
unfolding blank_of of_bits
returns c = rw (← c.no_pairs.ensures)
