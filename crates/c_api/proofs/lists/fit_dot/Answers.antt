-- `c_api::lists::fit_dot` meets its contract: NaN where the counts don't suit. Assumes nothing.
use borrow.Author.Tests.{le-ltb, lt-ltb, ne_eqb}
use lib.Ieee.{div, of_bits}
use Rattle.c_api.specs.Lists.{list_dot_of}
use Rattle.c_api.proofs.lists.fit_dot.Goals as goal
use Rattle.c_api.proofs.lists.fit_dot.Goals.{then-n-gt16-via-then-n-gt16, then-n-gt16-via-else-n-gt16+then-b-n}

pub returns-then-n-gt16 : goal.returns-then-n-gt16
unfolding div of_bits list_dot_of
returns-then-n-gt16 c = elim c.then-n-gt16.branch [
  | then-n-gt16-via-then-n-gt16 w ↦ rw (lt-ltb _ _ w.if-n-gt16.true)
  | then-n-gt16-via-else-n-gt16+then-b-n w ↦ rw (le-ltb _ _ w.if-n-gt16.false, ne_eqb _ _ w.if-b-n.true)
]
