-- `neldermead::Simplex::start` meets its contract. Assumes nothing.
use mathlib.Core.Path.{refl}
use Rattle.neldermead.specs.Step.{start_of}
use lib.Ieee.{of_bits, div}
use Rattle.neldermead.proofs.Simplex.start.Goals as goal

pub returns : goal.returns
unfolding start_of of_bits div
returns c = refl
