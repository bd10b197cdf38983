-- `lines_buffer::Text::push_values` meets its contract: after each turn the values so far stand. Assumes nothing.
use Rattle.std.proofs.Common.{◌≡◌, ◌+◌, ◌*◌, ◌++◌, length, take}
use Rattle.lines_buffer.specs.Texts.{values_text}
use Rattle.lines_buffer.proofs.Text.push_values.Given as goal

abbrev pub invariant-loop-x : goal.invariant-loop-x
invariant-loop-x g l = (l.self ≡ l.initial.self ++ values_text (take l.x-index l.xs)) × (length l.self ≡ length l.initial.self + 17 * l.x-index)
