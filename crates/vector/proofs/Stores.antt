-- What a store into one coordinate does to the list that `first` reads, and what reading a whole list gives. Only a store wants a length: that of the array stored into. Assumes nothing.
use mathlib.Core.Path.{◌≡◌, refl, sym, ap, ap₂, ◌∙◌}
use Prim.Native.Nat.{ℕ, suc, ◌<◌}
use mathlib.Core.Bool.{Bool, true, false}
use mathlib.Core.List.{List, [], ◌∷◌, ◌++◌}
use native.Mathlib.Omega.{arith}
use lib.Dec.{eqb}
use lib.ListN.{length, length-set, set}
use lib.Seq.{get_or-set_same, get_or-set_other, ext_get_or}
use lib.Ieee.{Float, nan}
use borrow.Author.Tests.{eqb-true, eqb-false}
use Rattle.vector.specs.Loops.{at}
use Rattle.vector.specs.Lists.{first}
use Rattle.vector.proofs.First.{upto_same, point_laws}

pub first_set : (n : ℕ) (x : List Float) (i : ℕ) (v : Float) → i < n → i < length x → first n (set x i v) ≡ set (first n x) i v
first_set n x i v h l =
    ext_get_or nan (first n (set x i v)) (set (first n x) i v) (listed (set x i v) ∙ sym (length-set (first n x) i v ∙ listed x))
    (λ k j. read (set x i v) k (rw (listed (set x i v)) at j) ∙ place k (rw (listed (set x i v)) at j) (eqb k i) refl)
  where
    listed : (y : List Float) → length (first n y) ≡ n
    listed y = point_laws.listed n y

    read : (y : List Float) (k : ℕ) → k < n → at (first n y) k ≡ at y k
    read y k j = point_laws.read n y k j

    place : (k : ℕ) → k < n → (b : Bool) → eqb k i ≡ b → at (set x i v) k ≡ at (set (first n x) i v) k
    place k j true e = ap (at (set x i v)) (eqb-true k i e) ∙ get_or-set_same x i v nan l ∙ sym (ap (at (set (first n x) i v)) (eqb-true k i e) ∙ get_or-set_same (first n x) i v nan (rw (listed x) h))
    place k j false e = get_or-set_other x i k v nan (eqb-false k i e) ∙ sym (get_or-set_other (first n x) i k v nan (eqb-false k i e) ∙ read x k j)

-- the next coordinate is put at the end of those that are done
pub first_more : (g : List Float) (i : ℕ) (v : Float) → i < length g → first (suc i) (set g i v) ≡ first i g ++ (v ∷ [])
unfolding first
first_more g i v l = ap₂ (λ a b. a ++ (b ∷ [])) (upto_same (at (set g i v)) (at g) i (λ k h. get_or-set_other g i k v nan (λ e. omega arith))) (get_or-set_same g i v nan l)

-- all coordinates of a list are the list
pub first_whole : (x : List Float) → first (length x) x ≡ x
first_whole x =
    ext_get_or nan (first (length x) x) x (point_laws.listed (length x) x) (λ k j. point_laws.read (length x) x k (rw (point_laws.listed (length x) x) at j))
