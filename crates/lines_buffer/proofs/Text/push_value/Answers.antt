-- `lines_buffer::Text::push_value` meets its contract: a space and sixteen digits. Assumes nothing.
use Rattle.std.proofs.Common.{[], ◌∷◌, arith, append_assoc, ap, length, length-append, ◌∙◌}
use Rattle.lines_buffer.specs.Texts.{numeral, value_text}
use Rattle.lines_buffer.proofs.Digits.{length_numeral}
use Rattle.lines_buffer.proofs.Text.push_value.Goals as goal

pub returns-clause-text : goal.returns-clause-text
unfolding value_text
returns-clause-text g c = rw (c.push_digits.ensures, c.push.ensures, c.bits.ensures) (append_assoc c.args.self.now (32 ∷ []) _)

pub returns-clause-room : goal.returns-clause-room
returns-clause-room g c =
    let digits = length-append c.push.new.self (numeral 16 16 c.bits.result) in
    let space = length-append c.args.self.now (32 ∷ []) in
    ap length c.push_digits.ensures ∙ omega (arith, digits, space, ap length c.push.ensures, length_numeral 16 16 c.bits.result)
