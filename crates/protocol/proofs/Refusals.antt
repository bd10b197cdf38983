-- What a result of tests says of the refusal that it stands for. Assumes nothing.
use mathlib.Core.Path.{◌≡◌, refl}
use mathlib.Core.Bool.{Bool, true, false, cond, not}
use Prim.Native.Nat.{ℕ, suc}
use native.Mathlib.Omega.{arith}
use lib.Dec.{eqb}
use borrow.Author.Tests.{eqb-true, eqb-false}
use Rattle.std.specs.Prelude.{Ok, Err}
use Rattle.protocol.specs.declared.Refusal.{Refusal}
use Rattle.protocol.specs.Protocol.{refusal, no_refusal, as_result}

-- where the tests are passed there is no refusal
pub passed : (r : Refusal) → Ok tt ≡ as_result r → eqb r.number 0 ≡ true
unfolding as_result
passed r e = by (eqb r.number 0) refl
  where
    by : (b : Bool) → eqb r.number 0 ≡ b → eqb r.number 0 ≡ true
    by true z = z
    by false z = let h = (rw z at e) in cc

-- where one is failed, what is handed back is the refusal
pub failed : (r why : Refusal) → Err why ≡ as_result r → (eqb r.number 0 ≡ false) × (r ≡ why)
unfolding as_result
failed r why e = by (eqb r.number 0) refl
  where
    by : (b : Bool) → eqb r.number 0 ≡ b → (eqb r.number 0 ≡ false) × (r ≡ why)
    by true z = let h = (rw z at e) in cc
    by false z = let h = (rw z at e) in (z, cc)

pub none : (r : Refusal) → Ok tt ≡ as_result r → r.number ≡ 0
none r e = eqb-true _ _ (passed r e)

pub some : (r why : Refusal) → Err why ≡ as_result r → r.number ≡ 0 → ⊥
some r why e = eqb-false _ _ (failed r why e).0

-- tests, then others: where the first are passed the others count, else the first
pub then_others : (r s : Refusal) → Ok tt ≡ as_result r → as_result s ≡ as_result (cond (not (eqb r.number 0)) r s)
then_others r s e = rw (passed r e)

pub first_of : (r s why : Refusal) → Err why ≡ as_result r → Err why ≡ as_result (cond (not (eqb r.number 0)) r s)
first_of r s why e = rw (failed r why e).0 e

-- ---- a refusal with the number 0 is none, with no detail

abbrev pub Proper : Refusal → Type 0
Proper r = r.number ≡ 0 → r ≡ no_refusal

pub nothing : Proper no_refusal
nothing e = refl

pub made : (k d : ℕ) → Proper (refusal (suc k) d)
made k d e = absurd (zero k e)
  where
    zero : (k : ℕ) → suc k ≡ 0 → ⊥
    zero k e = omega arith

pub either : (b : Bool) {r s : Refusal} → Proper r → Proper s → Proper (cond b r s)
either true p q = p
either false p q = q
