-- `test_rows::said` meets its contract: one text behind the other. Assumes nothing.
use Rattle.test_rows.proofs.Writes.{then_ok}
use Rattle.test_rows.proofs.said.Goals as goal

pub returns : goal.returns
returns g c = rw (c.as_bytes.ensures.value, c.as_bytes-2.ensures.value) at (then_ok c.write_all-2.result _ _ _ _ _ c.in_ok-write_all.ensures.bytes c.write_all-2.ensures.bytes)
