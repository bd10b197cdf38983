-- `float::positive_root` meets its contract. Assumes nothing.
use Rattle.float.proofs.Rounded.{width, no_nan, result_is}
use Rattle.float.proofs.positive_root.Goals as goal

pub integer_root-requires : goal.integer_root-requires
integer_root-requires c =
    let p = c.full_width-p in
    let w = width c.args.b p.result.m p.result.e p.ensures in
    record { w_large = w.0; w_bound = w.1 }

pub float_from_bits-result : goal.float_from_bits-result
float_from_bits-result c =
    let p = c.full_width-p in
    no_nan c.args.b p.result.m p.result.e p.ensures c.integer_root.result c.integer_root.ensures

pub returns : goal.returns
returns c =
    let p = c.full_width-p in
    result_is c.args.b p.result.m p.result.e p.ensures c.integer_root.result c.integer_root.ensures
