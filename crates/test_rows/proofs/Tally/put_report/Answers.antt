-- `test_rows::Tally::put_report` meets its contract: the parts of the line, one after another. Assumes nothing.
use Rattle.std.proofs.Common.{◌≡◌, rules, append_assoc, arith}
use Rattle.test_rows.specs.Rows.{report_text}
use Rattle.test_rows.proofs.Tally.put_report.Goals as goal

parts : (c : goal.After-put) → c.push.new.self ≡ report_text c.args.self
unfolding report_text
parts c = rw (← c.unwrap_or.ensures) (search (rules, append_assoc))

pub returns : goal.returns
returns c =
    let text = rw (parts c) at c.put.ensures.text in
    (omega (arith, c.put.ensures.fits, c.put.array_long), text.0, text.1)
