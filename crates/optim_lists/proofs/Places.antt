-- A list is what stands at its places. Assumes nothing.
use Prim.Native.Nat.{ℕ, zero, suc, ◌+◌, ◌<◌}
use mathlib.Core.Path.{◌≡◌, refl, sym, ap, subst, ◌∙◌}
use mathlib.Core.List.{List, [], ◌∷◌, ◌++◌, map}
use native.Mathlib.Omega.{arith}
use denote.Param.Members.{Mut, Called}
use lib.ListN.{length, get_or}
use lib.Ieee.{Float}
use Rattle.std.specs.Array.{IsFromFnResult, IsFromFnResultFrom}
use Rattle.std.proofs.lemmas.List.{same_lists}
use Rattle.vector.specs.Loops.{upto}
use Rattle.vector.proofs.Loops.{length_upto}
use Rattle.quasinewton_limited.specs.declared.Pair.{Pair}
use Rattle.neldermead_vertices.specs.declared.Vertex.{Vertex}
use Rattle.optim_lists.specs.Lists.{vertex_of, pair_of, vertices_from, pairs_from}

-- ---- read place by place

upto_front : {A : Type 0} (g : ℕ → A) (n : ℕ) → upto g (suc n) ≡ g 0 ∷ upto (λ i. g (suc i)) n
upto_front g zero = refl
upto_front g (suc n) = ap (λ l. l ++ (g (suc n) ∷ [])) (upto_front g n)

map_all : {A B : Type 0} (f : A → B) (z : A) (l : List A) → upto (λ i. f (get_or l i z)) (length l) ≡ map f l
map_all f z [] = refl
map_all f z (x ∷ l) = upto_front (λ i. f (get_or (x ∷ l) i z)) (length l) ∙ ap (λ k. f x ∷ k) (map_all f z l)

-- what f makes of each element
pub map_places : {A B : Type 0} (f : A → B) (z : A) (l : List A) (n : ℕ) → length l ≡ n → upto (λ i. f (get_or l i z)) n ≡ map f l
map_places f z l n e = ap (upto (λ i. f (get_or l i z))) (sym e) ∙ map_all f z l

map_same : {A : Type 0} (l : List A) → map (λ x. x) l ≡ l
map_same [] = refl
map_same (x ∷ l) = ap (λ k. x ∷ k) (map_same l)

pub read_places : {A : Type 0} (z : A) (l : List A) (n : ℕ) → length l ≡ n → upto (λ i. get_or l i z) n ≡ l
read_places z l n e = map_places (λ x. x) z l n e ∙ map_same l

vertices_all : (xs : List (List Float)) (fs : List Float) → length xs ≡ length fs → upto (vertex_of xs fs) (length xs) ≡ vertices_from xs fs
unfolding vertices_from
vertices_all [] fs e = refl
vertices_all (x ∷ xs) [] e = absurd (omega (arith, e))
vertices_all (x ∷ xs) (f ∷ fs) e =
    upto_front (vertex_of (x ∷ xs) (f ∷ fs)) (length xs) ∙ ap (λ (v : List Vertex). record { x = x; f = f } ∷ v) (vertices_all xs fs (omega (arith, e)))

pairs_all : (ss ys : List (List Float)) (rs : List Float) → length ss ≡ length ys → length ys ≡ length rs → upto (pair_of ss ys rs) (length ss) ≡ pairs_from ss ys rs
unfolding pairs_from
pairs_all [] ys rs d e = refl
pairs_all (s ∷ ss) [] rs d e = absurd (omega (arith, d))
pairs_all (s ∷ ss) (y ∷ ys) [] d e = absurd (omega (arith, e))
pairs_all (s ∷ ss) (y ∷ ys) (r ∷ rs) d e =
    upto_front (pair_of (s ∷ ss) (y ∷ ys) (r ∷ rs)) (length ss) ∙ ap (λ (p : List Pair). record { s = s; y = y; rho = r } ∷ p) (pairs_all ss ys rs (omega (arith, d)) (omega (arith, e)))

pub vertices_places : (xs : List (List Float)) (fs : List Float) → length xs ≡ 17 → length fs ≡ 17 → upto (vertex_of xs fs) 17 ≡ vertices_from xs fs
vertices_places xs fs d e = ap (upto (vertex_of xs fs)) (sym d) ∙ vertices_all xs fs (d ∙ sym e)

pub pairs_places : (ss ys : List (List Float)) (rs : List Float) → length ss ≡ 16 → length ys ≡ 16 → length rs ≡ 16 → upto (pair_of ss ys rs) 16 ≡ pairs_from ss ys rs
pairs_places ss ys rs d e f = ap (upto (pair_of ss ys rs)) (sym d) ∙ pairs_all ss ys rs (d ∙ sym e) (e ∙ sym f)

-- ---- arrays made place by place

upto_places : {A : Type 0} (g : ℕ → A) (n i : ℕ) (d : A) → i < n → get_or (upto g n) i d ≡ g i
upto_places g zero i d h = absurd (omega (arith, h))
upto_places g (suc n) zero d h = ap (λ l. get_or l 0 d) (upto_front g n)
upto_places g (suc n) (suc i) d h = ap (λ l. get_or l (suc i) d) (upto_front g n) ∙ upto_places (λ j. g (suc j)) n i d (omega (arith, h))

-- g 0, g 1, .., as `from_fn` has them of a closure that a call leaves as it was
module _ {F A : Type 0} {k : Mut F (ℕ × Unit {0}) A} {c : F} (g : ℕ → A) (h : (q : F) (i : ℕ) (y : A) → Called k c (i, tt) y q → (y ≡ g i) × (q ≡ c)) where
  turn : (p q : F) (i : ℕ) (y : A) → p ≡ c → Called k p (i, tt) y q → (y ≡ g i) × (q ≡ c)
  turn p q i y e = subst (λ (a : F). Called k a (i, tt) y q → (y ≡ g i) × (q ≡ c)) (sym e) (h q i y)

  turns : (r : List A) (p : F) (i n : ℕ) → p ≡ c → IsFromFnResultFrom k p r i n → (j l : ℕ) (d : A) → l ≡ i + j → j < n → get_or r l d ≡ g l
  turns r p i zero e t j l d w b = absurd (omega (arith, b))
  turns r p i (suc n) e t zero l d w b = subst (λ (a : ℕ). get_or r a d ≡ g a) (omega (arith, w)) (t.2.1 d ∙ (turn p t.0 i t.1 e t.3).0)
  turns r p i (suc n) e t (suc j) l d w b = turns r t.0 (i + 1) n (turn p t.0 i t.1 e t.3).1 t.4 j l d (omega (arith, w)) (omega (arith, b))

  pub made : {r : List A} (n : ℕ) → IsFromFnResult k c r n → r ≡ upto g n
  made {r = r} n m =
      same_lists r (upto g n) (m.long ∙ sym (length_upto g n))
      (λ i d b. turns r c 0 n refl m.each i i d (omega arith) (omega (arith, m.long, b)) ∙ sym (upto_places g n i d (omega (arith, m.long, b))))
