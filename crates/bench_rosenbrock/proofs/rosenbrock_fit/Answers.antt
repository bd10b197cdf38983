-- `bench_rosenbrock::rosenbrock_fit` meets its contract: the turns are what is counted. Assumes nothing.
use Rattle.std.proofs.Common.{◌≡◌, ℕ, ◌≤◌, false, sym, ◌∙◌, arith}
use Rattle.bench_rosenbrock.specs.Most.{outside_of, most_of}
use Rattle.bench_rosenbrock.proofs.Inside.{inside}
use Rattle.bench_rosenbrock.proofs.rosenbrock_fit.Goals as goal

most : (n t : ℕ) → outside_of n ≡ false → t ≤ 100000 → t ≤ most_of n
unfolding most_of
most n t within bound = rw within bound

pub started-a-requires : goal.started-a-requires
started-a-requires c = inside (sym c.outside.ensures ∙ c.if-outside.false)

pub invariant_of-p : goal.invariant_of-p
invariant_of-p c = record { within = inside (sym c.outside.ensures ∙ c.if-outside.false) }

pub returns-in_default : goal.returns-in_default
returns-in_default c = most _ _ (sym c.outside.ensures ∙ c.if-outside.false) (omega (arith, c.loop-turns-test.true))

pub returns : goal.returns
returns c = most _ _ (sym c.outside.ensures ∙ c.if-outside.false) (omega arith)
