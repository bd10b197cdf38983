-- The laws of loops that count from 0 to n: each is stated once, and every loop cites them. Assumes nothing.
use mathlib.Core.Path.{◌≡◌, refl, sym, ap, ◌∙◌, subst}
use Prim.Native.Nat.{ℕ, zero, suc, ◌+◌, ◌-◌, ◌≤◌, ◌<◌, zero-le}
use mathlib.Core.Bool.{Bool, true, false, ◌&&◌}
use mathlib.Core.List.{List, [], ◌∷◌, ◌++◌, append_assoc}
use native.Mathlib.Nat.{le_antisymm, add-zero, add-suc, add-sub_of_le}
use native.Mathlib.Numerals.{add-one}
use native.Mathlib.Omega.{arith}
use lib.ListN.{length, set, replicate, length-append}
use lib.Seq.{set_at}
use lib.Ieee.{Float}
use Rattle.float.specs.Binary64.{plus_zero}
use Rattle.vector.specs.Loops.{fold, upto, point, Fills, Holds}

-- The invariant of a loop that counts i up to n, at most N, and has made s, which is F i
pub record Made {A : Type 0} (N : ℕ) (F : ℕ → A) (n : ℕ) (s : A) (i : ℕ) : Type 0 where
  pub within : i ≤ n
  pub small : n ≤ N
  pub made : s ≡ F i

-- at the loop's start
pub start : {A : Type 0} {N : ℕ} {F : ℕ → A} {n : ℕ} {s : A} → n ≤ N → s ≡ F 0 → Made N F n s 0
start h e = record { within = zero-le; small = h; made = e }

-- at its end
pub done : {A : Type 0} {N : ℕ} {F : ℕ → A} {n : ℕ} {s : A} {i : ℕ} → Made N F n s i → n ≤ i → s ≡ F n
done {F = F} m h = m.made ∙ ap F (le_antisymm m.within h)

-- a turn of one that carries a value: the new one is what f makes of the old one
pub carried : {A : Type 0} {N : ℕ} {f : A → ℕ → A} {z : A} {n : ℕ} {s s' : A} {i : ℕ} → Made N (fold f z) n s i → i < n → s' ≡ f s i → Made N (fold f z) n s' (i + 1)
carried {f = f} {i = i} m h e = record { within = omega arith; small = m.small; made = rw (add-one) (e ∙ ap (λ x. f x i) m.made) }

stays : {A : Type 0} (f : A → ℕ → A) (z b : A) (i : ℕ) → fold f z i ≡ b → ((k : ℕ) → f b k ≡ b) → (d : ℕ) → fold f z (i + d) ≡ b
stays f z b i e h zero = rw add-zero e
stays f z b i e h (suc d) = rw add-suc (ap (λ x. f x (i + d)) (stays f z b i e h d) ∙ h (i + d))

-- a turn that leaves the loop with b, which no later turn would change
pub left_with : {A : Type 0} {N : ℕ} {f : A → ℕ → A} {z : A} {n : ℕ} {s b : A} {i : ℕ} → Made N (fold f z) n s i → i < n → b ≡ f s i → ((k : ℕ) → f b k ≡ b) → b ≡ fold f z n
left_with {f = f} {z = z} {n = n} {b = b} {i = i} m h e k =
    sym (subst (λ j. fold f z j ≡ b) (add-sub_of_le h) (stays f z b (suc i) (ap (λ x. f x i) (sym m.made) ∙ sym e) k (n - suc i)))

pub length_upto : {A : Type 0} (g : ℕ → A) (n : ℕ) → length (upto g n) ≡ n
length_upto g zero = refl
length_upto g (suc n) = length-append (upto g n) (g n ∷ []) ∙ ap (λ (k : ℕ). k + 1) (length_upto g n) ∙ add-one n

point_more : (g : ℕ → Float) (n : ℕ) → n < 16 → set (point g n) n (g n) ≡ point g (suc n)
point_more g n h =
    let left : 16 - n ≡ suc (16 - suc n) = omega arith in
    ap (λ (k : ℕ). set (upto g n ++ replicate k plus_zero) n (g n)) left
    ∙ set_at (upto g n) plus_zero (replicate (16 - suc n) plus_zero) (g n) n (length_upto g n)
    ∙ sym (append_assoc (upto g n) (g n ∷ []) (replicate (16 - suc n) plus_zero))

-- a turn that puts at coordinate i what R has there
pub fills_more : {R : ℕ → Float → Type 0} {i : ℕ} {r : List Float} {v : Float} → i < 16 → Fills R i r → R i v → Fills R (i + 1) (set r i v)
fills_more {R = R} {i = i} {r = r} {v = v} h m e g k =
    rw (add-one, k i (omega arith) v e, m g (λ j l. k j (omega (arith, l)))) (point_more g i h)

-- a turn that leaves the loop with false, where R has false
pub holds_not : {R : ℕ → Bool → Type 0} {i n : ℕ} {b : Bool} → i < n → Holds R i true → R i b → b ≡ false → Holds R n false
holds_not {i = i} {n = n} {b = b} h m v e p k =
    left_with {N = n} {f = λ c j. c && p j} {z = true} (record { within = omega arith; small = omega arith; made = m p (λ j l. k j (omega (arith, l))) }) h (sym e ∙ k i h b v) (λ j. refl)
