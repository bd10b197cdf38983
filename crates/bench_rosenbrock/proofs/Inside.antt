-- An n that is not outside is at most 16. Assumes nothing.
use mathlib.Core.Path.{◌≡◌}
use mathlib.Core.Bool.{Bool, true, false, cond, true≢false}
use Prim.Native.Nat.{ℕ, ◌≤◌}
use lib.Dec.{eqb, ltb}
use borrow.Author.Tests.{ltb-false}
use Rattle.bench_rosenbrock.specs.Most.{outside_of}

neither : (b d : Bool) → cond b true d ≡ false → d ≡ false
neither true d h = absurd (true≢false h)
neither false d h = h

pub inside : {n : ℕ} → outside_of n ≡ false → n ≤ 16
unfolding outside_of
inside {n} h = ltb-false 16 n (neither (eqb n 0) (ltb 16 n) h)
