-- `float::is_negative` meets its contract. Assumes nothing.
use Rattle.float.proofs.Bits.{held, sign_test}
use Rattle.float.proofs.is_negative.Goals as goal

pub returns : goal.returns
returns c = sign_test c.args.x (held c.well_formed.0.1) c.requires
