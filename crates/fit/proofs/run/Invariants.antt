-- `fit::run` has written what the bytes that it read bring, and stands where they lead. Assumes nothing.
use Rattle.std.proofs.Common.{◌≡◌, length}
use Rattle.fit.proofs.Runs.{Went}
use Rattle.fit.proofs.run.Given as goal

abbrev pub invariant-loop : goal.invariant-loop
invariant-loop g l = (length l.buf ≡ 65536)
    × Went (g.R.Read.remaining l.initial.input) (g.R.Read.remaining l.input) (g.W.Write.contents l.initial.output) (g.W.Write.contents l.output) l.place
