-- `float::difference_factor` meets its contract: the bits are those of the factor. Assumes nothing.
use mathlib.Core.Path.{refl}
use lib.Ieee.{of_bits, nan_bits}
use Rattle.float.proofs.difference_factor.Goals as goal

pub float_from_bits-result : goal.float_from_bits-result
unfolding of_bits nan_bits
float_from_bits-result c = tt

pub returns : goal.returns
unfolding of_bits nan_bits
returns c = refl
