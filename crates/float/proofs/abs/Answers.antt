-- `float::abs` meets its contract. Assumes nothing.
use Rattle.float.specs.Values.{abs_of}
use Rattle.float.proofs.Bits.{held, is_nan_lem, number, abs_is, abs_no_nan}
use Rattle.float.proofs.abs.Goals as goal

pub returns-then-x : goal.returns-then-x
unfolding abs_of
returns-then-x c = rw (is_nan_lem c.args.x c.if-x.true)

pub float_to_bits-result : goal.float_to_bits-result
unfolding abs_of
float_to_bits-result c = number c.args.x c.if-x.false

pub float_from_bits-result : goal.float_from_bits-result
unfolding abs_of
float_from_bits-result c = abs_no_nan c.args.x (held c.well_formed.0.1) (number c.args.x c.if-x.false)

pub returns : goal.returns
unfolding abs_of
returns c = abs_is c.args.x (held c.well_formed.0.1) (number c.args.x c.if-x.false)
