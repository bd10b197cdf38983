-- `float::max` meets its contract: each return follows the tests that led to it. Assumes nothing.
use Rattle.float.specs.Values.{max_of}
use Rattle.float.proofs.Bits.{nan_test}
use Rattle.float.proofs.max.Goals as goal

pub returns-then-a : goal.returns-then-a
unfolding max_of
returns-then-a c = rw (nan_test, c.if-a.true)

pub returns-then-less : goal.returns-then-less
unfolding max_of
returns-then-less c = rw (← c.less.ensures, nan_test, c.if-a.false, c.if-less.true)

pub returns-else-less : goal.returns-else-less
unfolding max_of
returns-else-less c = rw (← c.less.ensures, nan_test, c.if-a.false, c.if-less.false)
