-- `float::newton` meets its contract. Assumes nothing.
use Prim.Native.Nat.{◌/◌, ◌^◌, ◌<◌}
use native.Mathlib.Omega.{arith}
use Rattle.float.proofs.IntegerRoots.{stepped, quotient_small}
use Rattle.float.proofs.newton.Goals as goal

pub returns : goal.returns
returns c =
    let quotient : c.args.w / c.args.g < 2 ^ 32 = quotient_small c.args.w c.args.g (omega arith) (omega arith) in
    stepped c.args.g (omega arith) (omega arith) (omega (arith, quotient))
