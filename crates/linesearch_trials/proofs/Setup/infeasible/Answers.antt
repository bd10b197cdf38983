-- `linesearch_trials::Setup::infeasible` meets its contract: each return follows the calls and tests that led to it. Assumes nothing.
use Rattle.linesearch_trials.specs.Evaluations.{infeasible_of}
use lib.Ieee.{div, of_bits}
use Rattle.linesearch_trials.proofs.Setup.infeasible.Goals as goal

pub returns : goal.returns
unfolding infeasible_of div of_bits
returns c = rw (← c.point_at-x.ensures, ← c.nans-g.ensures)
