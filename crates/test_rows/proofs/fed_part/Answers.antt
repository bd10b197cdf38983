-- `test_rows::fed_part` meets its contract: the bytes so far were fed. Assumes nothing.
use Rattle.std.proofs.Common.{take, get_or, sym, subst}
use Rattle.std.proofs.lemmas.Fn.{FoldsTo-push}
use Rattle.std.proofs.lemmas.List.{take_more}
use Rattle.std.specs.List.{FoldsTo}
use Rattle.test_rows.proofs.fed_part.Goals as goal

pub loop-b-preserved : goal.loop-b-preserved
loop-b-preserved g c =
    let l = c.loop-b in
    let s = c.args.part.now in
    let feeds = g.T.Table.feeds in
    subst (λ k. FoldsTo feeds c.args.begun k c.fed.new.self) (sym (take_more s l.b-index 0 c.loop-b-test.true)) (FoldsTo-push feeds c.args.begun (take l.b-index s) l.t (get_or s l.b-index 0) c.fed.new.self l.invariant c.fed.ensures)
