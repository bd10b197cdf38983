-- How long the points and the simplex of a fit over n unknowns are. Assumes nothing.
use Prim.Native.Nat.{ℕ, suc, ◌+◌}
use native.Mathlib.Omega.{arith}
use mathlib.Core.Path.{◌≡◌, refl, sym, ◌∙◌, ap, subst}
use mathlib.Core.Logic.{⊎_elim}
use mathlib.Core.List.Memᴰ
use mathlib.Core.List.{List, [], ◌∷◌, ◌++◌, map, foldl, Memᴰ}
use lib.ListN.{length, length-append, length-map}
use lib.Ieee.{Float}
use Rattle.float.specs.Binary64.{plus_zero}
use Rattle.vector.specs.Lists.{addition, quotient, shrunk, towards as between}
use Rattle.vector.proofs.First.{zip_long}
use Rattle.neldermead_vertices.specs.declared.Vertex.{Vertex}
use Rattle.neldermead_vertices.specs.Method.{displaced}
use Rattle.neldermead_theory.specs.Algorithm.{corners, SimplexPosition, vertex, but_last, others, centroid, towards}
use Rattle.neldermead_theory.specs.Laws.{All}
use Rattle.neldermead_theory.proofs.Order.{get_d_cases, butlast_from}

-- a vertex with n coordinates
abbrev pub Long : ℕ → Vertex → Type 0
Long n u = length u.x ≡ n

-- ---- points

sum_long : (n : ℕ) (c : List Float) (us : List Vertex) → length c ≡ n → All (Long n) us → length (foldl (λ c u. addition c u.x) c us) ≡ n
unfolding addition
sum_long n c [] i h = i
sum_long n c (u ∷ us) i h = sum_long n (addition c u.x) us (zip_long n _ c u.x i (h u (Memᴰ.head refl))) (λ w m. h w (Memᴰ.tail m))

pub shrunk_long : (n : ℕ) (b v : List Float) (t : Float) → length b ≡ n → length v ≡ n → length (shrunk b v t) ≡ n
unfolding shrunk
shrunk_long n b v t i j = zip_long n _ b v i j

module _ (n : ℕ) (p : SimplexPosition) (best : Long n p.best) (all : All (Long n) p.vertices) where
  pub vertex_long : (k : ℕ) → Long n (vertex p k)
  vertex_long k = ⊎_elim (λ m. all (vertex p k) m) (λ e. subst (Long n) (sym e) best) (get_d_cases p.vertices k p.best)

  centroid_long : length (centroid p) ≡ n
  unfolding centroid quotient
  centroid_long =
      simp length-map
      (sum_long n (map (λ v. plus_zero) (vertex p 0).x) (but_last p.vertices) (length-map (vertex p 0).x (λ v. plus_zero) ∙ vertex_long 0)
      (λ w m. all w (butlast_from p.vertices w m)))

  pub towards_long : (t : Float) → length (towards p t) ≡ n
  unfolding between
  towards_long t = zip_long n _ (centroid p) (vertex p p.n).x centroid_long (vertex_long p.n)

-- ---- the corners of a new simplex

pub corners_many : (initial : Float) (front xs : List Float) → length (corners initial front xs) ≡ length xs
unfolding corners
corners_many initial front [] = refl
corners_many initial front (x ∷ xs) = ap suc (corners_many initial (front ++ (x ∷ [])) xs)

-- each is as long as the point
pub corner_long : (initial : Float) (front xs p : List Float) → Memᴰ p (corners initial front xs) → length p ≡ length front + length xs
unfolding corners
corner_long initial front [] p m = absurd (Memᴰ.not-nil m)
corner_long initial front (x ∷ xs) p m =
    ⊎_elim (λ e. ap length e ∙ length-append front (displaced initial x ∷ xs))
    (λ k. corner_long initial (front ++ (x ∷ [])) xs p k ∙ simp length-append (omega arith)) (Memᴰ.cases_cons m)

-- ---- the simplex with its worst replaced, and without its first

butlast_length : (u : Vertex) (us : List Vertex) → length (but_last (u ∷ us)) ≡ length us
butlast_length u [] = refl
butlast_length u (w ∷ ws) = ap suc (butlast_length w ws)

pub replaced_length : (us : List Vertex) (u : Vertex) (n : ℕ) → length us ≡ suc n → length (but_last us ++ (u ∷ [])) ≡ suc n
replaced_length [] u n e = absurd (omega arith)
replaced_length (w ∷ ws) u n e = simp length-append (omega (arith, butlast_length w ws))

pub others_length : (us : List Vertex) (n : ℕ) → length us ≡ suc n → length (others us) ≡ n
others_length [] n e = absurd (omega arith)
others_length (u ∷ us) n e = omega arith
