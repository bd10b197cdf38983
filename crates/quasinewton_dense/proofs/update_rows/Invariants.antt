-- `quasinewton_dense::update_rows` meets its contract: after i turns it has made what the definition makes of i. Assumes nothing.
use Rattle.std.proofs.Common.{◌≡◌, ◌≤◌}
use Rattle.quasinewton_dense.specs.Step.{update_rows_of}
use Rattle.quasinewton_dense.proofs.update_rows.Given as goal

abbrev pub invariant-loop-i : goal.invariant-loop-i
invariant-loop-i l = (l.i ≤ l.n) × (l.h ≡ update_rows_of l.initial.h l.s l.hy l.rho l.coef l.n l.i)
