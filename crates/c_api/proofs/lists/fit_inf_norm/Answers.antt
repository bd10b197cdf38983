-- `c_api::lists::fit_inf_norm` meets its contract: NaN for more than sixteen. Assumes nothing.
use borrow.Author.Tests.{lt-ltb}
use lib.Ieee.{div, of_bits}
use Rattle.c_api.specs.Lists.{list_inf_norm_of}
use Rattle.c_api.proofs.lists.fit_inf_norm.Goals as goal

pub returns-then-n-gt16 : goal.returns-then-n-gt16
unfolding div of_bits list_inf_norm_of
returns-then-n-gt16 c = rw (lt-ltb _ _ c.if-n-gt16.true)
