-- `lines_buffer::places` meets its contract: the power of ten that is the last not above n tells its digits. Assumes nothing.
use Rattle.std.proofs.Common.{rules}
use Rattle.lines_buffer.proofs.Digits.{counted}
use Rattle.lines_buffer.proofs.places.Goals as goal

pub returns : goal.returns
returns c =
    let log = c.checked_ilog10.ensures in
    counted c.args.n c.checked_ilog10.result c.map_or.result log.none log.power_le log.next_power_gt log.bound (search rules)
