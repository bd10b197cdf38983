-- `quasinewton_record::Descent::idle` meets its contract. Assumes nothing.
use lib.Ieee.{of_bits}
use Rattle.linesearch_trials.proofs.Zeros.{line_zeros}
use Rattle.quasinewton_record.specs.Descents.{idle_of}
use Rattle.quasinewton_record.proofs.Descent.idle.Goals as goal

pub returns : goal.returns
unfolding idle_of of_bits
returns c = rw (line_zeros _ c.default.ensures, ← c.no_trial.ensures, ← c.begun.ensures)
