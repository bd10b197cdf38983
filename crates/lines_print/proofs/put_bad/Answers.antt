-- `lines_print::put_bad` meets its contract: the parts of the line, one after another. Assumes nothing.
use Rattle.std.proofs.Common.{rules, append_assoc}
use Rattle.lines_print.specs.Print.{bad_text}
use Rattle.lines_print.proofs.put_bad.Goals as goal

pub returns : goal.returns
unfolding bad_text
returns c = search (rules, append_assoc)
