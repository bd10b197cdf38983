-- The seventeen vertices of sixteen coordinates, read as the Algorithm's n + 1 of n: what each function on them comes to over lists, and that coordinates past n are +0.0.
-- Definitions and statements only.
use Rattle.std.specs.Prelude.{ℕ, suc, ◌≤◌, ◌<◌, ◌≡◌, cond, List, [], ◌∷◌, ◌++◌, map, length, get_or, set, take, Float}
use Rattle.std.specs.Float.Ieee.{lt}
use Rattle.float.specs.Values.{abs_of}
use Rattle.vector.specs.Points.{towards_of, shrunk_of}
use Rattle.vector.specs.Lists.{first}
use Rattle.vector.specs.Ties.{ZeroFrom}
use Rattle.protocol.specs.declared.SimplexOptions.{SimplexOptions}
use Rattle.protocol.specs.declared.Termination.TheVariants.{SimplexTolerance, ObjectiveResolution}
use Rattle.neldermead_vertices.specs.declared.Vertex.{Vertex}
use Rattle.neldermead_vertices.specs.Order.{in_order}
use Rattle.neldermead_vertices.specs.Method.{better, resolution, delta}
use Rattle.neldermead_theory.specs.Algorithm.{SimplexPosition, vertex, but_last, any_finite, corners, centroid, towards, size, converged, reason}
use Rattle.neldermead_theory.specs.Phases.{drawn}
use Rattle.neldermead_vertices.specs.Vertices.{vertex_at, sorted_of, centroid_of, corner_of, size_of, any_finite_of, converged_of}

-- the vertex with the first n coordinates alone
abbrev pub lowered : ℕ → Vertex → Vertex
lowered n u = record { x = first n u.x; f = u.f }

-- the first k vertices, n coordinates of each
abbrev pub lowered_to : ℕ → ℕ → List Vertex → List Vertex
lowered_to n k v = map (lowered n) (take k v)

-- p is a position over n unknowns with the options o, and its simplex is the first n + 1 of v
pub record Reads (o : SimplexOptions) (n : ℕ) (v : List Vertex) (p : SimplexPosition) : Type 0 where
  pub options : p.options ≡ o
  pub count : p.n ≡ n
  pub vertices : p.vertices ≡ lowered_to n (suc n) v

-- what each function on the vertices v comes to, for n ≤ 16 and seventeen vertices
pub record VerticesTied (n : ℕ) (v : List Vertex) : Type 0 where
  -- how many are read, and which
  pub many : (k : ℕ) → k ≤ 17 → length (lowered_to n k v) ≡ k
  pub vertex_at_lem : (d : Vertex) (i : ℕ) → i ≤ n → get_or (lowered_to n (suc n) v) i d ≡ lowered n (vertex_at v i)
  -- the order of the first n + 1; each vertex past n stays, and none is new
  pub sorted_of_lem : lowered_to n (suc n) (sorted_of v n) ≡ in_order (lowered_to n (suc n) v)
  pub sorted_many : length (sorted_of v n) ≡ 17
  pub sorted_past : (i : ℕ) → n < i → vertex_at (sorted_of v n) i ≡ vertex_at v i
  pub sorted_from_lem : (i : ℕ) → i < 17 → (j : ℕ) × (j < 17) × (vertex_at (sorted_of v n) i ≡ vertex_at v j)
  -- a position's vertices, trial points and tests
  pub vertex_of_lem : (o : SimplexOptions) (p : SimplexPosition) → Reads o n v p → (i : ℕ) → i ≤ n → vertex p i ≡ lowered n (vertex_at v i)
  pub centroid_of_lem : (o : SimplexOptions) (p : SimplexPosition) → Reads o n v p → first n (centroid_of v n) ≡ centroid p
  pub towards_of_lem : (o : SimplexOptions) (p : SimplexPosition) → Reads o n v p → (t : Float) → first n (towards_of (centroid_of v n) (vertex_at v n).x t n) ≡ towards p t
  pub size_of_lem : (o : SimplexOptions) (p : SimplexPosition) → Reads o n v p → size_of v n n ≡ size p
  pub converged_of_lem : (o : SimplexOptions) (p : SimplexPosition) → Reads o n v p → converged_of o v n ≡ converged p
  pub reason_of_lem : (o : SimplexOptions) (p : SimplexPosition) → Reads o n v p
      → cond (lt o.ftol (resolution (abs_of (vertex_at v 0).f))) ObjectiveResolution SimplexTolerance ≡ reason p
  -- the n points of a shrink: the i-th is that of vertex i + 1
  pub drawn_many : (o : SimplexOptions) (p : SimplexPosition) → Reads o n v p → length (drawn p) ≡ n
  pub drawn_at : (o : SimplexOptions) (p : SimplexPosition) → Reads o n v p → (d : List Float) (i : ℕ) → i < n
      → get_or (drawn p) i d ≡ first n (shrunk_of (vertex_at v 0).x (vertex_at v (suc i)).x (delta o n) n)
  -- the n points of a new simplex about x, beside x itself
  pub corners_many : (initial : Float) (x : List Float) → length (corners initial [] (first n x)) ≡ n
  pub corner_at : (initial : Float) (x : List Float) → length x ≡ 16 → (d : List Float) (i : ℕ) → i < n
      → get_or (corners initial [] (first n x)) i d ≡ first n (corner_of initial x i)
  pub any_finite_lem : (k : ℕ) → k ≤ 17 → any_finite_of v k ≡ any_finite (lowered_to n k v)
  -- one vertex replaced: one of k, the next after k, the last of n + 1
  pub set_inside : (k i : ℕ) (u : Vertex) → i < k → lowered_to n k (set v i u) ≡ set (lowered_to n k v) i (lowered n u)
  pub set_next : (k : ℕ) (u : Vertex) → k < 17 → lowered_to n (suc k) (set v k u) ≡ lowered_to n k v ++ (lowered n u ∷ [])
  pub set_last : (u : Vertex) → lowered_to n (suc n) (set v n u) ≡ but_last (lowered_to n (suc n) v) ++ (lowered n u ∷ [])
  pub better_of : (u b : Vertex) → lowered n (better u b) ≡ better (lowered n u) (lowered n b)

-- ---- coordinates past n

-- that of each of the seventeen vertices
abbrev pub ZerosFrom : ℕ → List Vertex → Type 0
ZerosFrom n v = (i : ℕ) → i < 17 → ZeroFrom n (vertex_at v i).x

-- 01, of a vertex's sixteen coordinates: "(those past n are zero)". They stay +0.0. Centroids and trial points have these zeros whatever they are made of, the others if their arguments have.
pub record SimplexZeroLaws (n : ℕ) : Type 0 where
  pub sorted_zeros : (v : List Vertex) → length v ≡ 17 → ZerosFrom n v → ZerosFrom n (sorted_of v n)
  pub set_zeros : (v : List Vertex) (i : ℕ) (u : Vertex) → length v ≡ 17 → ZerosFrom n v → ZeroFrom n u.x → ZerosFrom n (set v i u)
  pub better_zeros : (u b : Vertex) → ZeroFrom n u.x → ZeroFrom n b.x → ZeroFrom n (better u b).x
  pub corner_zeros : (initial : Float) (x : List Float) (i : ℕ) → i < n → ZeroFrom n x → ZeroFrom n (corner_of initial x i)
  pub centroid_zeros : (v : List Vertex) → ZeroFrom n (centroid_of v n)
  pub towards_zeros : (c w : List Float) (t : Float) → ZeroFrom n (towards_of c w t n)
  pub shrunk_zeros : (b w : List Float) (t : Float) → ZeroFrom n (shrunk_of b w t n)
