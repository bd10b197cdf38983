-- `lines_print::put_end` meets its contract: the parts of the line, one after another. Assumes nothing.
use Rattle.std.proofs.Common.{◌≡◌, rules, append_assoc}
use Rattle.lines_print.specs.Print.{end_before, end_text, result_of}
use Rattle.lines_print.proofs.put_end.Goals as goal

parts : (c : goal.After-put) → c.push-2.new.self ≡ end_text (result_of c.args.s c.args.x c.args.n)
unfolding end_text end_before
parts c = search (rules, append_assoc, c.push-2.ensures, c.push_values.ensures.text, c.push_value.ensures.text, c.push_count-3.ensures.text, c.push_count-2.ensures.text, c.push_count.ensures.text, c.push_bytes-3.ensures, c.push.ensures, c.push_bytes-2.ensures, c.push_bytes.ensures, c.new-t.ensures, c.reason_text.ensures.0, c.flag_text.ensures.0, c.coordinates.ensures.0)

pub returns : goal.returns
returns c = rw (parts c) at c.put.ensures.text
