-- `lines_buffer::Text::push_decimal` meets its contract: its digits are as many as the number has. Assumes nothing.
use Rattle.std.proofs.Common.{ℕ, ◌++◌, ap, ◌∙◌, arith, length-append}
use Rattle.lines_buffer.specs.Texts.{numeral, decimal_text}
use Rattle.lines_buffer.proofs.Digits.{length_numeral}
use Rattle.lines_buffer.proofs.Text.push_decimal.Goals as goal

pub returns-clause-text : goal.returns-clause-text
unfolding decimal_text
returns-clause-text g c = c.push_digits.ensures ∙ ap (λ (k : ℕ). c.args.self.now ++ numeral 10 k c.args.n) c.places.ensures.0

pub returns-clause-room : goal.returns-clause-room
returns-clause-room g c =
    let k = c.places.result in
    rw c.push_digits.ensures (omega (arith, length-append c.args.self.now (numeral 10 k c.args.n), length_numeral 10 k c.args.n, c.places.ensures.1))
