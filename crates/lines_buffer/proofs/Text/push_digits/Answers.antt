-- `lines_buffer::Text::push_digits` meets its contract: the digits stand behind the text. Assumes nothing.
use Rattle.std.proofs.Common.{rules}
use Rattle.std.proofs.lemmas.Slice.{overwrites}
use Rattle.lines_buffer.proofs.Digits.{length_numeral}
use Rattle.lines_buffer.proofs.Text.push_digits.Goals as goal

pub returns : goal.returns
returns g c = search (rules, overwrites, length_numeral)
