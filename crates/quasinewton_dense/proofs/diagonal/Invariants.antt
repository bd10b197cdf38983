-- `quasinewton_dense::diagonal` meets its contract: after i turns it has made what the definition makes of i. Assumes nothing.
use Rattle.std.proofs.Common.{◌≡◌, ◌≤◌}
use Rattle.quasinewton_dense.specs.Step.{diagonal_of}
use Rattle.quasinewton_dense.proofs.diagonal.Given as goal

abbrev pub invariant-loop-i : goal.invariant-loop-i
invariant-loop-i l = (l.i ≤ l.n) × (l.h ≡ diagonal_of l.c l.i)
