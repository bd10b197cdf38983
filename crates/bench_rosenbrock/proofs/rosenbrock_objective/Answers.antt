-- `bench_rosenbrock::rosenbrock_objective` is safe: n is at most 16. Assumes nothing.
use Rattle.std.proofs.Common.{sym, ◌∙◌}
use Rattle.bench_rosenbrock.proofs.Inside.{inside}
use Rattle.bench_rosenbrock.proofs.rosenbrock_objective.Goals as goal

pub begin-p-requires : goal.begin-p-requires
begin-p-requires c = inside (sym c.outside.ensures ∙ c.if-outside.false)
