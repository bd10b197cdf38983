-- `float::precedes` meets its contract: keys compared as i64 decide the order. Assumes nothing.
use mathlib.Core.Path.{refl, sym, ◌∙◌}
use Rattle.float.proofs.Bits.{held}
use Rattle.float.proofs.Keys.{keys_decide}
use Rattle.float.proofs.Words.{signed_test}
use Rattle.float.proofs.precedes.Goals as goal

pub returns : goal.returns
returns c =
    let k1 = c.key in
    let k2 = c.key-2 in
    sym (signed_test k1.type_inv k2.type_inv k1.ensures k2.ensures refl) ∙ keys_decide.order c.args.a c.args.b (held c.well_formed.0.1) (held c.well_formed.1.0.1)
