-- Each number is kept by the form that it is. Assumes nothing.
use mathlib.Core.Path.{◌≡◌, refl}
use Prim.Native.Nat.{ℕ, zero, suc, ◌≤◌}
use native.Mathlib.Omega.{arith}
use borrow.Author.Tests.{ne_eqb}
use Rattle.lines_reader.specs.Forms.{form_of, number_of}

other : (k : ℕ) → 6 ≤ k → number_of (form_of k) ≡ k
unfolding form_of
other k h =
    rw (
      ne_eqb k 0 (λ e. omega arith),
      ne_eqb k 1 (λ e. omega arith),
      ne_eqb k 2 (λ e. omega arith),
      ne_eqb k 3 (λ e. omega arith),
      ne_eqb k 4 (λ e. omega arith),
      ne_eqb k 5 (λ e. omega arith),
    )
    refl

pub numbered : (k : ℕ) → number_of (form_of k) ≡ k
unfolding form_of
numbered zero = refl
numbered (suc zero) = refl
numbered (suc (suc zero)) = refl
numbered (suc (suc (suc zero))) = refl
numbered (suc (suc (suc (suc zero)))) = refl
numbered (suc (suc (suc (suc (suc zero))))) = refl
numbered (suc (suc (suc (suc (suc (suc k)))))) = other (suc (suc (suc (suc (suc (suc k)))))) (omega arith)
