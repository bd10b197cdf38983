-- `float::sqrt` meets its contract: each return follows the tests that led to it. Assumes nothing.
use mathlib.Core.Path.{◌∙◌}
use lib.Ieee.{div, of_bits}
use Rattle.float.specs.Binary64.{Number}
use Rattle.float.specs.Sqrt.{sqrt_of}
use Rattle.float.proofs.Bits.{held, is_nan_lem, number}
use Rattle.float.proofs.Quanta.{root_of_zero, root_below_zero, root_of_infinity, at_least, at_most, above_is}
use Rattle.float.proofs.sqrt.Goals as goal

pub returns-then-x : goal.returns-then-x
unfolding sqrt_of
returns-then-x c = rw (is_nan_lem c.args.x c.if-x.true)

pub float_to_bits-b : goal.float_to_bits-b
float_to_bits-b c =
    let numeric : Number c.args.x = number c.args.x c.if-x.false in
    numeric

pub returns-then-b-eq0 : goal.returns-then-b-eq0
returns-then-b-eq0 c =
    let numeric : Number c.args.x = number c.args.x c.if-x.false in
    root_of_zero c.args.x (held c.well_formed.0.1) numeric c.if-b-eq0.true

pub returns-then-b-eq1 : goal.returns-then-b-eq1
unfolding div of_bits
returns-then-b-eq1 c =
    let numeric : Number c.args.x = number c.args.x c.if-x.false in
    root_below_zero c.args.x (held c.well_formed.0.1) numeric c.if-b-eq0.false c.if-b-eq1.true

pub returns-then-b-eq-TOP : goal.returns-then-b-eq-TOP
returns-then-b-eq-TOP c =
    let numeric : Number c.args.x = number c.args.x c.if-x.false in
    root_of_infinity c.args.x (held c.well_formed.0.1) numeric c.if-b-eq0.false c.if-b-eq1.false c.if-b-eq-TOP.true

pub positive_root-requires : goal.positive_root-requires
positive_root-requires c =
    let numeric : Number c.args.x = number c.args.x c.if-x.false in
    let n = numeric in record { b_nonzero = at_least c.args.x (held c.well_formed.0.1) n c.if-b-eq0.false c.if-b-eq1.false; b_bound = at_most c.args.x (held c.well_formed.0.1) n c.if-b-eq0.false c.if-b-eq1.false c.if-b-eq-TOP.false }

pub returns : goal.returns
returns c =
    let numeric : Number c.args.x = number c.args.x c.if-x.false in
    c.positive_root.ensures
    ∙ above_is c.args.x (held c.well_formed.0.1) numeric
    (at_least c.args.x (held c.well_formed.0.1) numeric c.if-b-eq0.false c.if-b-eq1.false)
    (at_most c.args.x (held c.well_formed.0.1) numeric c.if-b-eq0.false c.if-b-eq1.false c.if-b-eq-TOP.false)
