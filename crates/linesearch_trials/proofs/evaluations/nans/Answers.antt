-- `linesearch_trials::evaluations::nans` meets its contract. Assumes nothing.
use lib.Ieee.{div, nan, of_bits}
use Rattle.std.proofs.Common.{rules}
use Rattle.linesearch_trials.specs.Evaluations.{nans_of}
use Rattle.linesearch_trials.proofs.evaluations.nans.Goals as goal

pub returns : goal.returns
unfolding nans_of div of_bits
returns c = c.filled.ensures (λ i. nan) (λ i l v p. search rules)
