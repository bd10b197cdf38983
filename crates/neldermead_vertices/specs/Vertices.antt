-- What each function on the seventeen vertices computes: the order, centroid, size and finiteness of the first n + 1, and the points of a new simplex. Definitions only.
use Rattle.std.specs.Prelude.{ℕ, suc, ◌+◌, Bool, false, ◌||◌, cond, List, [], ◌++◌, get_or, set, take, drop, replicate, Float}
use Rattle.std.proofs.Math.Seq.{slice}
use Rattle.std.specs.Float.{nan}
use Rattle.std.specs.Float.Ieee.{le}
use Rattle.float.specs.Binary64.{◌⊖◌, plus_zero}
use Rattle.float.specs.Values.{abs_of, finite_of, max_of}
use Rattle.vector.specs.Loops.{fold, at}
use Rattle.vector.specs.Points.{inf_norm_of, difference_of, addition_of, quotient_of}
use Rattle.protocol.specs.declared.SimplexOptions.{SimplexOptions}
use Rattle.neldermead_vertices.specs.declared.Vertex.{Vertex}
use Rattle.neldermead_vertices.specs.Order.{insert, in_order}
use Rattle.neldermead_vertices.specs.Method.{real, displaced, resolution}

-- what an index past the end would read
abbrev pub no_vertex : Vertex
no_vertex = record { x = []; f = nan }

-- v[i], as the code's index reads it
abbrev pub vertex_at : List Vertex → ℕ → Vertex
vertex_at v i = get_or v i no_vertex

-- v with u in the place of vertex i, put among those after it up to n
unfoldable pub put_of : Vertex → List Vertex → ℕ → ℕ → List Vertex
put_of u v i n = take i v ++ (insert u (slice (suc i) (suc n) v) ++ drop (suc n) v)

-- vertex i put among those after it up to n, which are in order: what a turn of `sorted` does
unfoldable pub inserted_of : List Vertex → ℕ → ℕ → List Vertex
unfolding put_of
inserted_of v i n = put_of (vertex_at v i) v i n

-- the first n + 1 in order
unfoldable pub sorted_of : List Vertex → ℕ → List Vertex
sorted_of v n = in_order (take (suc n) v) ++ drop (suc n) v

-- the points of the first k summed from +0, n coordinates of each
unfoldable pub summed_of : List Vertex → ℕ → ℕ → List Float
summed_of v n = fold (λ sum i. addition_of sum (vertex_at v i).x n) (replicate 16 plus_zero)

-- the mean of the first n
unfoldable pub centroid_of : List Vertex → ℕ → List Float
unfolding summed_of
centroid_of v n = quotient_of (summed_of v n n) (real n) n

-- the seed with coordinate i displaced
unfoldable pub corner_of : Float → List Float → ℕ → List Float
corner_of initial x i = set x i (displaced initial (at x i))

-- the largest distance of the k vertices after the first from it
unfoldable pub size_of : List Vertex → ℕ → ℕ → Float
size_of v n = fold (λ m i. max_of m (inf_norm_of (difference_of (vertex_at v (i + 1)).x (vertex_at v 0).x n) n)) plus_zero

-- one of the first k values is finite
unfoldable pub any_finite_of : List Vertex → ℕ → Bool
any_finite_of v = fold (λ b i. b || finite_of (vertex_at v i).f) false

-- the spread of values within its tolerance or its floor
unfoldable pub flat_of : Float → Float → Float → Bool
flat_of tol least most = le (abs_of (most ⊖ least)) (max_of tol (resolution (abs_of least)))

-- size and spread within their tolerances or their floors
unfoldable pub converged_of : SimplexOptions → List Vertex → ℕ → Bool
converged_of o v n =
    cond (le (size_of v n n) (max_of o.xtol (resolution (inf_norm_of (vertex_at v 0).x n)))) (flat_of o.ftol (vertex_at v 0).f (vertex_at v n).f) false
