-- `test_rows::say` meets its contract: where nothing failed nothing is written. Assumes nothing.
use Rattle.std.proofs.Common.{rules}
use Rattle.std.proofs.KnownBytes.{Appends-nil}
use Rattle.test_rows.specs.Rows.{said_text}
use Rattle.test_rows.proofs.say.Goals as goal

pub returns-in-Ok : goal.returns-in-Ok
unfolding said_text
returns-in-Ok g c = search (rules, Appends-nil)

pub returns-in-Ok-2 : goal.returns-in-Ok-2
unfolding said_text
returns-in-Ok-2 g c = search (rules, Appends-nil)
