-- `c_fit::defaults::fit_default_gradient` meets its contract: each constant by its bits. Assumes nothing.
use lib.Ieee.{of_bits}
use Rattle.c_fit.specs.Defaults.{default_gradient}
use Rattle.c_fit.proofs.defaults.fit_default_gradient.Goals as goal

pub returns : goal.returns
unfolding of_bits default_gradient
returns c = rw (← c.fit_default_wolfe-wolfe.ensures)
