-- `float::word_root` meets its contract: no turn of the loop comes below the root. Assumes nothing.
use Rattle.float.specs.Sqrt.{NotBelowRoot}
use Rattle.float.proofs.word_root.Given as goal

abbrev pub invariant-loop-r : goal.invariant-loop-r
invariant-loop-r l = NotBelowRoot l.w l.r

abbrev pub decreases-loop-r : goal.decreases-loop-r
decreases-loop-r l = l.r
