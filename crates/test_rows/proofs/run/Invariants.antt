-- `test_rows::run` stands where the bytes that it read lead. Assumes nothing.
use Rattle.std.proofs.Common.{◌≡◌, length}
use Rattle.test_rows.proofs.Runs.{Went}
use Rattle.test_rows.proofs.run.Given as goal

abbrev pub invariant-loop : goal.invariant-loop
invariant-loop g l = (length l.buf ≡ 4096) × Went (goal.F-post g l.fed) (g.R.Read.remaining l.initial.input) (g.R.Read.remaining l.input) l.fn.begun l.state
