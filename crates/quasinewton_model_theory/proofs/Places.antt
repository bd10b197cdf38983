-- What loops that store place by place leave in an array, and lists made place by place. Assumes nothing.
use Prim.Native.Nat.{ℕ, zero, suc, ◌<◌}
use mathlib.Core.Path.{◌≡◌, refl, ap, ap₂, ◌∙◌}
use mathlib.Core.Logic.{inl, inr}
use mathlib.Core.List.{List, [], ◌∷◌, ◌++◌}
use native.Mathlib.Nat.{not-suc-le-zero, le_refl, le-suc, le_trans, eq-or-lt_of_le, le_of_suc-le-suc}
use native.Mathlib.Omega.{arith}
use lib.ListN.{length, get_or, set, drop, length-set, get_or-append}
use lib.Seq.{get_or_at, get_or-set_same, get_or-set_other, drop-append-le}
use Rattle.vector.specs.Loops.{fold, upto}
use Rattle.vector.proofs.Loops.{length_upto}
use Rattle.vector.proofs.First.{upto_same}

-- ---- a loop whose turn j makes place p j anew by f, from what stands there
abbrev pub stored : {A : Type 0} → A → (A → ℕ → A) → (ℕ → ℕ) → List A → ℕ → List A
stored d f p h = fold (λ w j. set w (p j) (f (get_or w (p j) d) j)) h

module _ {A : Type 0} (d : A) (f : A → ℕ → A) (p : ℕ → ℕ) (h : List A) where
  pub stored_length : (m : ℕ) → length (stored d f p h m) ≡ length h
  stored_length zero = refl
  stored_length (suc m) = length-set (stored d f p h m) (p m) (f (get_or (stored d f p h m) (p m) d) m) ∙ stored_length m

  -- a place that no turn made stays
  pub stored_other : (m k : ℕ) → ((j : ℕ) → j < m → k ≡ p j → ⊥) → get_or (stored d f p h m) k d ≡ get_or h k d
  stored_other zero k free = refl
  stored_other (suc m) k free =
      get_or-set_other (stored d f p h m) (p m) k (f (get_or (stored d f p h m) (p m) d) m) d (free m (le_refl (suc m)))
      ∙ stored_other m k (λ j l. free j (le_trans l (le-suc m)))

  pub stored_at : ((i j : ℕ) → p i ≡ p j → i ≡ j) → (m j : ℕ) → j < m → ((i : ℕ) → i < m → p i < length h) → get_or (stored d f p h m) (p j) d ≡ f (get_or h (p j) d) j
  stored_at one zero j l room = absurd (not-suc-le-zero l)
  stored_at one (suc m) j l room = elim (eq-or-lt_of_le (le_of_suc-le-suc l)) [
    | inl e ↦ rw e
        (get_or-set_same (stored d f p h m) (p m) (f (get_or (stored d f p h m) (p m) d) m) d (rw (stored_length m) (room m (le_refl (suc m))))
        ∙ ap (λ x. f x m) (stored_other m (p m) (λ i k q. omega (arith, one m i q))))
    | inr k ↦ get_or-set_other (stored d f p h m) (p m) (p j) (f (get_or (stored d f p h m) (p m) d) m) d (λ q. omega (arith, one j m q))
        ∙ stored_at one m j k (λ i t. room i (le_trans t (le-suc m)))
  ]

-- ---- lists made place by place
pub at_upto : {A : Type 0} (g : ℕ → A) (d : A) (n k : ℕ) → k < n → get_or (upto g n) k d ≡ g k
at_upto g d zero k h = absurd (not-suc-le-zero h)
at_upto g d (suc n) k h = elim (eq-or-lt_of_le (le_of_suc-le-suc h)) [
  | inl e ↦ rw e (get_or_at (upto g n) (g n) [] d n (length_upto g n))
  | inr l ↦ get_or-append (upto g n) (g n ∷ []) d k (rw (length_upto g n) l) ∙ at_upto g d n k l
]

-- the first drops out
pub upto_drop : {A : Type 0} (g : ℕ → A) (n : ℕ) → drop 1 (upto g (suc n)) ≡ upto (λ i. g (suc i)) n
upto_drop g zero = refl
upto_drop g (suc n) = drop-append-le 1 (upto g (suc n)) (g (suc n) ∷ []) (rw (length_upto g (suc n)) (omega arith)) ∙ ap (λ l. l ++ (g (suc n) ∷ [])) (upto_drop g n)

-- one is put behind the first k of an array
pub upto_push : {A B : Type 0} (f : A → B) (h : List A) (d x : A) (k : ℕ) → k < length h → upto (λ i. f (get_or (set h k x) i d)) (suc k) ≡ upto (λ i. f (get_or h i d)) k ++ (f x ∷ [])
upto_push f h d x k l =
    ap₂ (λ a b. a ++ (b ∷ []))
    (upto_same (λ i. f (get_or (set h k x) i d)) (λ i. f (get_or h i d)) k (λ i j. ap f (get_or-set_other h k i x d (λ e. omega arith))))
    (ap f (get_or-set_same h k x d l))
