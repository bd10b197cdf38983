-- `lines_buffer::Text::put` meets its contract: a text put at a buffer's start decides the buffer. Assumes nothing.
use Rattle.std.proofs.Common.{rules}
use Rattle.lines_buffer.proofs.Puts.{whole}
use Rattle.lines_buffer.proofs.Text.put.Goals as goal

pub returns-clause-text : goal.returns-clause-text
returns-clause-text g c = search (rules, whole c.put_text.ensures)
