-- `vector::filled` meets its contract: after i turns the point is made of the first i. Assumes nothing.
use native.Mathlib.Omega.{arith}
use lib.ListN.{length-set}
use mathlib.Core.Path.{◌∙◌}
use Rattle.vector.proofs.Loops.{fills_more}
use Rattle.vector.proofs.filled.Goals as goal

pub loop-i-preserved : goal.loop-i-preserved
loop-i-preserved g c =
    let (_, long, made) = c.loop-i.invariant in
    (omega (arith, c.loop-i-test.true), length-set c.loop-i.r c.loop-i.i c.f.result ∙ long, fills_more (omega (arith, c.requires.n_bound, c.loop-i-test.true)) made c.f.ensures)
