-- `fit::write_reply` meets its contract: what a write took is gone from the front of what was left. Assumes nothing.
use Rattle.std.proofs.Common.{◌++◌, take}
use Rattle.fit.proofs.Writes.{further}
use Rattle.fit.proofs.write_reply.Goals as goal

pub loop-rest-preserved : goal.loop-rest-preserved
loop-rest-preserved g c =
    let (done, split, before) = c.loop-rest.invariant in
    let n = c.in-Ok.n in
    let more = further _ _ _ _ done _ n split before c.in-Ok.ensures.bytes in
    (done ++ take n c.loop-rest.rest.now, more.0, more.1)
