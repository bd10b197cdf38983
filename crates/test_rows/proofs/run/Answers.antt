-- `test_rows::run` meets its contract: a part leads further, and a read of none shows the end. Assumes nothing.
use Rattle.std.proofs.Common.{◌∙◌, refl}
use Rattle.test_rows.proofs.Runs.{part_more}
use Rattle.test_rows.proofs.run.Goals as goal

pub loop-preserved : goal.loop-preserved
loop-preserved g c = (c.read.auto.buf ∙ c.loop.invariant.0, part_more (goal.F-post g c.args.fed) _ _ _ c.args.begun c.loop.state c.in_ok-state-in-Ok.state _ _ c.loop.invariant.1 c.in-Ok.ensures.bytes.0 refl c.in_ok-state-in-Ok.ensures)
