-- Bits to values, NaN patterns too, and a list that is filled place by place. Assumes nothing.
use Prim.Native.Nat.{ℕ, zero, suc, ◌+◌, ◌<◌}
use mathlib.Core.Path.{◌≡◌, refl, sym, ap, ap₂, ◌∙◌}
use mathlib.Core.List.{List, [], ◌∷◌, ◌++◌}
use native.Mathlib.Omega.{arith}
use native.Mathlib.Nat.{add-zero, zero-add}
use lib.ListN.{length}
use lib.Bits.{bit_and, and_mask}
use lib.Ieee.{nan, div, of_bits}
use Rattle.std.proofs.Common.{slice_index_or}
use Rattle.std.specs.Fn.{Mut, Called}
use Rattle.std.specs.Array.{IsFromFnResult, IsFromFnResultFrom}
use Rattle.float.specs.Binary64.{bits, ◌⊘◌}
use Rattle.float.proofs.Bits.{nan_above}
use Rattle.vector.specs.Loops.{upto}

-- `0.0 / 0.0`
zero_by_zero : bits 0 ⊘ bits 0 ≡ nan
unfolding div of_bits
zero_by_zero = refl

pub nan_bits : (b : ℕ) → 0x7ff0_0000_0000_0000 < bit_and b 0x7fff_ffff_ffff_ffff → bits 0 ⊘ bits 0 ≡ bits b
nan_bits b h = zero_by_zero ∙ sym (nan_above b (omega (arith, and_mask b 63)))

front : {A : Type 0} (g : ℕ → A) (n : ℕ) → upto g (suc n) ≡ g 0 ∷ upto (λ i. g (suc i)) n
front g zero = refl
front g (suc n) = ap (λ l. l ++ (g (suc n) ∷ [])) (front g n)

-- a list is what its places have
pub listed : {A : Type 0} (xs : List A) (g : ℕ → A) (d : A) {n : ℕ} → length xs ≡ n → ((i : ℕ) → i < n → slice_index_or xs i d ≡ g i) → xs ≡ upto g n
listed [] g d e h = rw (← e) refl
listed (x ∷ xs) g d e h = rw (← e) (ap₂ (λ y l. y ∷ l) (h 0 (omega arith)) (listed xs (λ i. g (suc i)) d refl (λ i l. h (suc i) (omega arith))) ∙ sym (front g (length xs)))

-- an array whose places are filled by calls that have v of their places, where P holds of the closure at each call
module _ {F B : Type 0} {g : Mut F (ℕ × Unit {0}) B} (P : F → Type 0) (v : ℕ → B) (ys : List B) (d : B)
    (call : (p : F) (i : ℕ) (y : B) (q : F) → P p → Called g p (i, tt) y q → (y ≡ v i) × P q) where
  each : (n i : ℕ) (f : F) → P f → IsFromFnResultFrom g f ys i n → (k : ℕ) → k < n → slice_index_or ys (i + k) d ≡ v (i + k)
  each zero i f p r k h = absurd (omega arith)
  each (suc n) i f p r zero h = rw add-zero (r.2.1 d ∙ (call f i r.1 r.0 p r.3).0)
  each (suc n) i f p r (suc k) h = let e : i + suc k ≡ i + 1 + k = omega arith in rw e (each n (i + 1) r.0 (call f i r.1 r.0 p r.3).1 r.4 k (omega arith))

  pub from_calls : (n : ℕ) (f : F) → P f → IsFromFnResult g f ys n → ys ≡ upto v n
  from_calls n f p r = listed ys v d r.long (λ k l. rw zero-add at (each n 0 f p r.each k l))
