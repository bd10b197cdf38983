-- `lines_print::put_ask` meets its contract: the parts of the line, one after another. Assumes nothing.
use Rattle.std.proofs.Common.{rules, append_assoc}
use Rattle.lines_print.specs.Print.{ask_text}
use Rattle.lines_print.proofs.put_ask.Goals as goal

pub returns : goal.returns
unfolding ask_text
returns c = search (rules, append_assoc)
