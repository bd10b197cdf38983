-- `test_rows::counted` meets its contract: bytes that are fed part by part are fed one after another. Assumes nothing.
use Rattle.std.proofs.Common.{rules}
use Rattle.test_rows.proofs.Feeds.{counts}
use Rattle.test_rows.proofs.counted.Goals as goal

pub returns : goal.returns
returns g c = counts _ g.T.Table.feeds g.T.Table.closes _ c.args.begun c.in_ok-end.end c.closed.result c.in_ok-end.ensures c.closed.ensures (λ p x q h. search rules)
