-- `c_fit::defaults::fit_default_wolfe` meets its contract: each constant by its bits. Assumes nothing.
use mathlib.Core.Path.{refl}
use lib.Ieee.{of_bits}
use Rattle.c_fit.specs.Defaults.{default_wolfe}
use Rattle.c_fit.proofs.defaults.fit_default_wolfe.Goals as goal

pub returns : goal.returns
unfolding of_bits default_wolfe
returns c = refl
