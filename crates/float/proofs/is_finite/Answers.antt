-- `float::is_finite` meets its contract. Assumes nothing.
use Rattle.float.specs.Values.{finite_of}
use Rattle.float.proofs.Bits.{held, is_nan_lem, number, finite_is}
use Rattle.float.proofs.is_finite.Goals as goal

pub returns-then-x : goal.returns-then-x
unfolding finite_of
returns-then-x c = rw (is_nan_lem c.args.x c.if-x.true)

pub float_to_bits-result : goal.float_to_bits-result
unfolding finite_of
float_to_bits-result c = number c.args.x c.if-x.false

pub returns : goal.returns
unfolding finite_of
returns c = finite_is c.args.x (held c.well_formed.0.1) (number c.args.x c.if-x.false)
