-- `lines_buffer::put_digits` meets its contract: the digits that are to come and those that stand are the numeral. Assumes nothing.
use Rattle.std.proofs.Common.{◌≡◌, ◌∙◌, arith}
use Rattle.lines_buffer.specs.Texts.{numeral}
use Rattle.lines_buffer.proofs.Digits.{digit_more}
use Rattle.lines_buffer.proofs.put_digits.Goals as goal

pub loop-i-preserved : goal.loop-i-preserved
loop-i-preserved c =
    let l = c.loop-i in
    digit_more c.args.base l.i l.rest c.glyph.result l.out (omega arith) (omega arith) c.glyph.ensures ∙ l.invariant

pub returns : goal.returns
unfolding numeral
returns c =
    let l = c.loop-i in
    let z : l.i ≡ 0 = omega arith in
    rw z at l.invariant
