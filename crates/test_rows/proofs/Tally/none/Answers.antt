-- `test_rows::Tally::none` meets its contract: each return follows the calls and tests that led to it. Assumes nothing.
use mathlib.Core.Path.{refl}
use Rattle.test_rows.specs.Rows.{none_of}
use Rattle.test_rows.proofs.Tally.none.Goals as goal

pub returns : goal.returns
unfolding none_of
returns c = refl
