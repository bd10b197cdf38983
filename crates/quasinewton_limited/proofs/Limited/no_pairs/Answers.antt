-- `quasinewton_limited::Limited::no_pairs` meets its contract: each return follows the calls and tests that led to it. Assumes nothing.
use mathlib.Core.Path.{refl}
use Rattle.quasinewton_limited.specs.Step.{no_pairs_of}
use lib.Ieee.{of_bits}
use Rattle.quasinewton_limited.proofs.Limited.no_pairs.Goals as goal

pub returns : goal.returns
unfolding no_pairs_of of_bits
returns c = refl
