-- `float::magnitude` meets its contract. Assumes nothing.
use Rattle.float.proofs.Bits.{held}
use Rattle.float.proofs.Words.{magnitude_word}
use Rattle.float.proofs.magnitude.Goals as goal

pub returns : goal.returns
returns c = magnitude_word c.args.x (held c.well_formed.0.1) c.requires
