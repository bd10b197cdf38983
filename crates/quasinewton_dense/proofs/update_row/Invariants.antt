-- `quasinewton_dense::update_row` meets its contract: after j turns it has made what the definition makes of j. Assumes nothing.
use Rattle.std.proofs.Common.{◌≡◌, ◌≤◌}
use Rattle.quasinewton_dense.specs.Step.{update_row_of}
use Rattle.quasinewton_dense.proofs.update_row.Given as goal

abbrev pub invariant-loop-j : goal.invariant-loop-j
invariant-loop-j l = (l.j ≤ l.n) × (l.h ≡ update_row_of l.initial.h l.i l.s l.hy l.rho l.coef l.j)
