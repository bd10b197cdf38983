-- `test_rows::fed_part` meets its contract: the bytes so far were fed. Assumes nothing.
use Rattle.std.proofs.Common.{take}
use Rattle.std.specs.List.{FoldsTo}
use Rattle.test_rows.proofs.fed_part.Given as goal

abbrev pub invariant-loop-b : goal.invariant-loop-b
invariant-loop-b g l = FoldsTo g.T.Table.feeds l.fn.begun (take l.b-index l.part) l.t
