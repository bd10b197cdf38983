-- `lines_print::put_no` meets its contract: the parts of the line, one after another. Assumes nothing.
use Rattle.std.proofs.Common.{rules, append_assoc}
use Rattle.lines_print.specs.Print.{no_text}
use Rattle.lines_print.proofs.put_no.Goals as goal

pub returns : goal.returns
unfolding no_text
returns c = search (rules, append_assoc)
