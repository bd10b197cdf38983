-- `lines_buffer::put_digits` meets its contract: the digits that are to come and those that stand are the numeral. Assumes nothing.
use Rattle.std.proofs.Common.{◌≡◌, ◌++◌, length, drop}
use Rattle.lines_buffer.specs.Texts.{numeral}
use Rattle.lines_buffer.proofs.put_digits.Given as goal

abbrev pub invariant-loop-i : goal.invariant-loop-i
invariant-loop-i l = numeral l.base l.i l.rest ++ drop l.i l.out ≡ numeral l.base (length l.initial.out) l.n
