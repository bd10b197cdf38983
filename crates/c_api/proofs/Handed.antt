-- What is handed back of tests is the refusal that they stand for. Assumes nothing.
use mathlib.Core.Path.{◌≡◌, refl}
use mathlib.Core.Bool.{Bool, true, false}
use lib.Dec.{eqb}
use borrow.Author.Tests.{eqb-true}
use Rattle.protocol.specs.declared.Refusal.{Refusal}
use Rattle.protocol.specs.Protocol.{as_result}
use Rattle.protocol.proofs.Refusals.{Proper}
use Rattle.c_api.specs.Options.{from_refusal_of, from_result_of}

pub handed : (r : Refusal) → Proper r → from_result_of (as_result r) ≡ from_refusal_of r
unfolding as_result
handed r p = by (eqb r.number 0) refl
  where
    by : (b : Bool) → eqb r.number 0 ≡ b → from_result_of (as_result r) ≡ from_refusal_of r
    by true z = rw (p (eqb-true _ _ z))
    by false z = rw z
