-- `c_fit::defaults::fit_default_simplex` meets its contract: each constant by its bits. Assumes nothing.
use mathlib.Core.Path.{refl}
use lib.Ieee.{of_bits}
use Rattle.c_fit.specs.Defaults.{default_simplex}
use Rattle.c_fit.proofs.defaults.fit_default_simplex.Goals as goal

pub returns : goal.returns
unfolding of_bits default_simplex
returns c = refl
