-- `lines_buffer::put_text` meets its contract: the text stands at its place, and all else as it was. Assumes nothing.
use Rattle.std.proofs.Common.{length, arith, refl}
use Rattle.lines_buffer.proofs.Puts.{part}
use Rattle.lines_buffer.proofs.put_text.Goals as goal

pub returns : goal.returns
returns c = part c.args.at (length c.args.s.now) c.args.out.now _ c.args.s.now (omega (arith, c.requires)) refl c.copy_from_slice.ensures.after
