-- The functions on seventeen vertices, read as lists, are the Algorithm's (`vertices_tied`), and coordinates past n stay +0.0 (`zeros_past`). Assumes nothing.
use Prim.Native.Nat.{ℕ, ◌≤◌, ◌<◌}
use native.Mathlib.Omega.{arith}
use mathlib.Core.Path.{◌≡◌, refl, sym, subst, ◌∙◌}
use mathlib.Core.Bool.{Bool, true, false, cond}
use mathlib.Core.List.{List}
use lib.Dec.{eqb}
use lib.ListN.{length, set}
use lib.Seq.{get_or-set_same, get_or-set_other}
use lib.Ieee.{Float, nan, lt}
use borrow.Author.Tests.{eqb-true, eqb-false}
use Rattle.vector.specs.Loops.{at}
use Rattle.vector.specs.Points.{quotient_of, towards_of, shrunk_of}
use Rattle.vector.proofs.First.{point_laws}
use Rattle.vector.specs.Ties.{ZeroFrom}
use Rattle.neldermead_vertices.specs.declared.Vertex.{Vertex}
use Rattle.neldermead_vertices.specs.Method.{better, displaced}
use Rattle.neldermead_vertices.specs.Vertices.{no_vertex, vertex_at, sorted_of, centroid_of, corner_of}
use Rattle.neldermead_theory.specs.Ties.{VerticesTied, ZerosFrom, SimplexZeroLaws}
use Rattle.neldermead_theory.proofs.TiesOrder.{many, vertex_at_lem, sorted_of_lem, sorted_many, sorted_past, sorted_from_lem, set_inside, set_next, set_last, better_of}
use Rattle.neldermead_theory.proofs.TiesPoints.{vertex_of_lem, centroid_of_lem, towards_of_lem, size_of_lem, converged_of_lem, reason_of_lem, drawn_many, drawn_at, corners_many, corner_at, any_finite_lem}

pub vertices_tied : (n : ℕ) (v : List Vertex) → n ≤ 16 → length v ≡ 17 → VerticesTied n v
vertices_tied n v small long =
    record {
      many = many n v small long;
      vertex_at_lem = vertex_at_lem n v small long;
      sorted_of_lem = sorted_of_lem n v small long;
      sorted_many = sorted_many n v small long;
      sorted_past = sorted_past n v small long;
      sorted_from_lem = sorted_from_lem n v long;
      vertex_of_lem = vertex_of_lem n v small long;
      centroid_of_lem = centroid_of_lem n v small long;
      towards_of_lem = towards_of_lem n v small long;
      size_of_lem = size_of_lem n v small long;
      converged_of_lem = converged_of_lem n v small long;
      reason_of_lem = reason_of_lem n v small long;
      drawn_many = drawn_many n v small long;
      drawn_at = drawn_at n v small long;
      corners_many = corners_many n;
      corner_at = corner_at n small;
      any_finite_lem = any_finite_lem n v small long;
      set_inside = set_inside n v small long;
      set_next = set_next n v small long;
      set_last = set_last n v small long;
      better_of = better_of n;
    }

-- ---- coordinates past n
module _ (n : ℕ) where
  sorted_zeros : (v : List Vertex) → length v ≡ 17 → ZerosFrom n v → ZerosFrom n (sorted_of v n)
  sorted_zeros v long z i h =
      let r = sorted_from_lem n v long i h in
      subst (λ (u : Vertex). ZeroFrom n u.x) (sym r.2) (z r.0 r.1)

  set_zeros : (v : List Vertex) (i : ℕ) (u : Vertex) → length v ≡ 17 → ZerosFrom n v → ZeroFrom n u.x → ZerosFrom n (set v i u)
  set_zeros v i u long z y j h = go (eqb j i) refl
    where
      go : (b : Bool) → eqb j i ≡ b → ZeroFrom n (vertex_at (set v i u) j).x
      go true e = rw (eqb-true j i e, get_or-set_same v i u no_vertex (omega (arith, eqb-true j i e))) y
      go false e = rw (get_or-set_other v i j u no_vertex (eqb-false j i e)) (z j h)

  better_zeros : (u b : Vertex) → ZeroFrom n u.x → ZeroFrom n b.x → ZeroFrom n (better u b).x
  unfolding better
  better_zeros u b y z = go (lt u.f b.f)
    where
      go : (t : Bool) → ZeroFrom n (cond t u b).x
      go true = y
      go false = z

  corner_zeros : (initial : Float) (x : List Float) (i : ℕ) → i < n → ZeroFrom n x → ZeroFrom n (corner_of initial x i)
  unfolding corner_of
  corner_zeros initial x i h z k l j = get_or-set_other x i k (displaced initial (at x i)) nan (λ e. omega arith) ∙ z k l j

  pub zeros_past : SimplexZeroLaws n
  unfolding centroid_of quotient_of towards_of shrunk_of
  zeros_past =
      record {
        sorted_zeros = sorted_zeros;
        set_zeros = set_zeros;
        better_zeros = better_zeros;
        corner_zeros = corner_zeros;
        centroid_zeros = λ v k l j. point_laws.past _ n k l j;
        towards_zeros = λ c w t k l j. point_laws.past _ n k l j;
        shrunk_zeros = λ b w t k l j. point_laws.past _ n k l j;
      }
