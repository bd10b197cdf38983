-- `bench_rosenbrock::rosenbrock_objective` gives 0 where it evaluates nothing. Assumes nothing.
use Rattle.std.proofs.Common.{◌≡◌}
use Rattle.float.specs.Binary64.{plus_zero}
use Rattle.bench_rosenbrock.proofs.rosenbrock_objective.Given as goal

abbrev pub invariant-loop : goal.invariant-loop
invariant-loop l = l.count ≡ 0 → l.f ≡ plus_zero
