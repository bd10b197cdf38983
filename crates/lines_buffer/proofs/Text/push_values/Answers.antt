-- `lines_buffer::Text::push_values` meets its contract: after each turn the values so far stand. Assumes nothing.
use Rattle.std.proofs.Common.{arith}
use Rattle.lines_buffer.proofs.Digits.{values_none, values_more}
use Rattle.lines_buffer.proofs.Text.push_values.Goals as goal

pub loop-x-init : goal.loop-x-init
loop-x-init g c = (values_none c.args.self.now, omega arith)

pub loop-x-preserved : goal.loop-x-preserved
loop-x-preserved g c =
    let l = c.loop-x in
    let w = c.push_value.ensures in
    (rw (w.text, l.invariant.0) (values_more _ _ l.x-index _ (omega arith)), omega (arith, w.room, l.invariant.1))
