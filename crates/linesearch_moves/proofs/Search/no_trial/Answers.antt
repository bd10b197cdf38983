-- `linesearch_moves::Search::no_trial` meets its contract. Assumes nothing.
use lib.Ieee.{of_bits}
use Rattle.linesearch_trials.proofs.Zeros.{trial_zeros, evaluation_zeros}
use Rattle.linesearch_moves.proofs.Search.no_trial.Goals as goal

pub returns : goal.returns
unfolding of_bits
returns c = rw (trial_zeros _ c.default.ensures, trial_zeros _ c.default-2.ensures, evaluation_zeros _ c.default-3.ensures, ← c.begun.ensures)
