-- Trial points, tests and the points of a new or a shrunk simplex, over seventeen vertices and over lists. Assumes nothing.
use Prim.Native.Nat.{ℕ, zero, suc, ◌+◌, ◌≤◌, ◌<◌, zero-le}
use native.Mathlib.Nat.{zero-add, add-zero}
use native.Mathlib.Numerals.{add-one}
use native.Mathlib.Omega.{arith}
use mathlib.Core.Path.{◌≡◌, refl, sym, ap, ap₂, ◌∙◌}
use mathlib.Core.Bool.{Bool, true, false, ◌||◌, cond, or_assoc}
use mathlib.Core.List.{List, [], ◌∷◌, ◌++◌, map, foldl, foldl-append}
use lib.ListN.{length, get_or, set, replicate, length-map, length-append, get_or-replicate}
use lib.Seq.{append_snoc, set-append_seam, ext_get_or}
use lib.Ieee.{Float, nan, lt, le}
use Rattle.float.specs.Binary64.{◌⊖◌, plus_zero}
use Rattle.float.specs.Values.{abs_of, finite_of, max_of}
use Rattle.float.proofs.Tests.{cond_and}
use Rattle.vector.specs.Loops.{at}
use Rattle.vector.specs.Points.{towards_of, shrunk_of, inf_norm_of, difference_of}
use Rattle.vector.specs.Lists.{first, addition, quotient, difference, inf_norm, shrunk, towards as between}
use Rattle.vector.proofs.First.{point_laws, ties}
use Rattle.vector.proofs.Stores.{first_set}
use Rattle.protocol.specs.declared.SimplexOptions.{SimplexOptions}
use Rattle.protocol.specs.declared.Termination.TheVariants.{SimplexTolerance, ObjectiveResolution}
use Rattle.neldermead_vertices.specs.declared.Vertex.{Vertex}
use Rattle.neldermead_vertices.specs.Method.{displaced, resolution, delta, real}
use Rattle.neldermead_theory.specs.Algorithm.{SimplexPosition, vertex, but_last, others, any_finite, corners, centroid, towards, size, converged, reason}
use Rattle.neldermead_theory.specs.Phases.{drawn}
use Rattle.neldermead_vertices.specs.Vertices.{vertex_at, summed_of, centroid_of, corner_of, size_of, any_finite_of, flat_of, converged_of}
use Rattle.neldermead_theory.specs.Ties.{lowered, lowered_to, Reads}
use Rattle.neldermead_theory.proofs.CountsLengths.{corners_many as corners_length, others_length}
use Rattle.neldermead_theory.proofs.TiesOrder.{get_d_map, many, vertex_at_lem, one_more, butlast_of}

-- ---- the points of a new simplex

-- the i-th of those after `front` is the whole with one coordinate displaced
corner_in : (initial : Float) (front xs d : List Float) (i : ℕ) → i < length xs
    → get_or (corners initial front xs) i d ≡ set (front ++ xs) (length front + i) (displaced initial (at xs i))
unfolding corners
corner_in initial front [] d i h = absurd (omega arith)
corner_in initial front (x ∷ xs) d zero h = rw add-zero (sym (set-append_seam front x xs (displaced initial x)))
corner_in initial front (x ∷ xs) d (suc i) h =
    let place : length (front ++ (x ∷ [])) + i ≡ length front + suc i = simp length-append (omega arith) in
    corner_in initial (front ++ (x ∷ [])) xs d i (omega arith) ∙ rw (append_snoc front x xs, place)

pub corners_many : (n : ℕ) (initial : Float) (x : List Float) → length (corners initial [] (first n x)) ≡ n
corners_many n initial x = corners_length initial [] (first n x) ∙ point_laws.listed n x

pub corner_at : (n : ℕ) → n ≤ 16 → (initial : Float) (x : List Float) → length x ≡ 16 → (d : List Float) (i : ℕ) → i < n
    → get_or (corners initial [] (first n x)) i d ≡ first n (corner_of initial x i)
unfolding corner_of
corner_at n small initial x long d i h =
    let l : i < length x = omega arith in
    corner_in initial [] (first n x) d i (rw (point_laws.listed n x) h) ∙ rw (zero-add i, point_laws.read n x i, first_set n x i)

-- ---- lists that grow at the end

or_more : (us : List Vertex) (u : Vertex) → any_finite (us ++ (u ∷ [])) ≡ any_finite us || finite_of u.f
or_more [] u = go (finite_of u.f)
  where
    go : (b : Bool) → b || false ≡ b
    go true = refl
    go false = refl
or_more (w ∷ ws) u = ap (λ (b : Bool). finite_of w.f || b) (or_more ws u) ∙ sym (or_assoc (finite_of w.f) (any_finite ws) (finite_of u.f))

others_more : (us : List Vertex) (u : Vertex) → 0 < length us → others (us ++ (u ∷ [])) ≡ others us ++ (u ∷ [])
others_more [] u h = absurd (omega arith)
others_more (w ∷ ws) u h = refl

pub others_at : (us : List Vertex) (i : ℕ) (d : Vertex) → get_or (others us) i d ≡ get_or us (suc i) d
others_at [] i d = refl
others_at (u ∷ us) i d = refl

-- the sum's start
zeros_first : (n : ℕ) → n ≤ 16 → (x : List Float) → first n (replicate 16 plus_zero) ≡ map (λ v. plus_zero) (first n x)
zeros_first n small x =
    ext_get_or nan (first n (replicate 16 plus_zero)) (map (λ v. plus_zero) (first n x)) (listed (replicate 16 plus_zero) ∙ sym (length-map (first n x) (λ v. plus_zero) ∙ listed x))
    (λ k j. each k (rw (listed (replicate 16 plus_zero)) at j))
  where
    listed : (y : List Float) → length (first n y) ≡ n
    listed y = point_laws.listed n y

    each : (k : ℕ) → k < n → at (first n (replicate 16 plus_zero)) k ≡ at (map (λ v. plus_zero) (first n x)) k
    each k h =
        point_laws.read n (replicate 16 plus_zero) k h
        ∙ get_or-replicate 16 k plus_zero nan (omega arith)
        ∙ sym (get_d_map (λ v. plus_zero) (first n x) k nan nan (rw (listed x) h))

-- ---- seventeen vertices
module _ (n : ℕ) (v : List Vertex) (small : n ≤ 16) (long : length v ≡ 17) where
  pub any_finite_lem : (k : ℕ) → k ≤ 17 → any_finite_of v k ≡ any_finite (lowered_to n k v)
  unfolding any_finite_of
  any_finite_lem zero h = refl
  any_finite_lem (suc k) h =
      ap (λ (b : Bool). b || finite_of (vertex_at v k).f) (any_finite_lem k (omega arith))
      ∙ sym (ap any_finite (one_more n v small long k h) ∙ or_more (lowered_to n k v) (lowered n (vertex_at v k)))

  summed_of_lem : (c : List Float) → first n (replicate 16 plus_zero) ≡ c → (k : ℕ) → k ≤ 17 → first n (summed_of v n k) ≡ foldl (λ c u. addition c u.x) c (lowered_to n k v)
  unfolding summed_of
  summed_of_lem c e zero h = e
  summed_of_lem c e (suc k) h =
      ties.addition_of_lem (summed_of v n k) (vertex_at v k).x n
      ∙ ap (λ s. addition s (first n (vertex_at v k).x)) (summed_of_lem c e k (omega arith))
      ∙ sym (ap (foldl (λ c u. addition c u.x) c) (one_more n v small long k h) ∙ foldl-append (λ c u. addition c u.x) c (lowered_to n k v) (lowered n (vertex_at v k) ∷ []))

  -- the distance of a vertex from the best, whose point is b
  abbrev farthest : List Float → Float → Vertex → Float
  farthest b m u = max_of m (inf_norm (difference u.x b))

  size_to : (k : ℕ) → k < 17 → size_of v n k ≡ foldl (farthest (first n (vertex_at v 0).x)) plus_zero (others (lowered_to n (suc k) v))
  unfolding size_of
  size_to zero h = sym (ap (λ us. foldl (farthest (first n (vertex_at v 0).x)) plus_zero (others us)) (one_more n v small long 0 h))
  size_to (suc k) h =
      let b = (vertex_at v 0).x in
      let f = farthest (first n b) in
      let u = vertex_at v (suc k) in
      let next : inf_norm_of (difference_of (vertex_at v (k + 1)).x b n) n ≡ inf_norm (difference (first n u.x) (first n b)) =
      rw (add-one k) (ties.inf_norm_lem (difference_of u.x b n) n ∙ ap inf_norm (ties.difference_of_lem u.x b n)) in
      let some : 0 < length (lowered_to n (suc k) v) = omega (arith, many n v small long (suc k) (omega arith)) in
      ap₂ (λ m d. max_of m d) (size_to k (omega arith)) next
      ∙ sym (ap (λ us. foldl f plus_zero (others us)) (one_more n v small long (suc k) h)
      ∙ ap (foldl f plus_zero) (others_more (lowered_to n (suc k) v) (lowered n u) some)
      ∙ foldl-append f plus_zero (others (lowered_to n (suc k) v)) (lowered n u ∷ []))

  -- ---- a position that reads them
  module _ (o : SimplexOptions) (p : SimplexPosition) (r : Reads o n v p) where
    pub vertex_of_lem : (i : ℕ) → i ≤ n → vertex p i ≡ lowered n (vertex_at v i)
    vertex_of_lem i h = rw r.vertices (vertex_at_lem n v small long p.best i h)

    point_of_lem : (i : ℕ) → i ≤ n → (vertex p i).x ≡ first n (vertex_at v i).x
    point_of_lem i h = ap (λ u. u.x) (vertex_of_lem i h)

    value_of_lem : (i : ℕ) → i ≤ n → (vertex p i).f ≡ (vertex_at v i).f
    value_of_lem i h = ap (λ u. u.f) (vertex_of_lem i h)

    pub centroid_of_lem : first n (centroid_of v n) ≡ centroid p
    unfolding centroid_of centroid
    centroid_of_lem =
        let zeros = map (λ v. plus_zero) (vertex p 0).x in
        let start : first n (replicate 16 plus_zero) ≡ zeros = zeros_first n small (vertex_at v 0).x ∙ ap (map (λ v. plus_zero)) (sym (point_of_lem 0 zero-le)) in
        let all : but_last p.vertices ≡ lowered_to n n v = ap but_last r.vertices ∙ butlast_of n v small long in
        ties.quotient_of_lem (summed_of v n n) (real n) n
        ∙ ap₂ (λ c (m : ℕ). quotient c (real m)) (summed_of_lem zeros start n (omega arith) ∙ ap (foldl (λ c u. addition c u.x) zeros) (sym all)) (sym r.count)

    pub towards_of_lem : (t : Float) → first n (towards_of (centroid_of v n) (vertex_at v n).x t n) ≡ towards p t
    towards_of_lem t =
        ties.towards_of_lem (centroid_of v n) (vertex_at v n).x t n
        ∙ ap₂ (λ c w. between c w t) centroid_of_lem (sym (ap (λ (m : ℕ). (vertex p m).x) r.count ∙ point_of_lem n (omega arith)))

    pub size_of_lem : size_of v n n ≡ size p
    unfolding size
    size_of_lem =
        size_to n (omega arith)
        ∙ ap₂ (λ b us. foldl (farthest b) plus_zero (others us)) (sym (point_of_lem 0 zero-le)) (sym r.vertices)

    pub converged_of_lem : converged_of o v n ≡ converged p
    unfolding converged_of flat_of converged
    converged_of_lem =
        rw (← size_of_lem, r.options, r.count, value_of_lem n (omega arith), value_of_lem 0 zero-le, point_of_lem 0 zero-le, ties.inf_norm_lem (vertex_at v 0).x n)
        (cond_and (le (size_of v n n) (max_of o.xtol (resolution (inf_norm (first n (vertex_at v 0).x)))))
        (le (abs_of ((vertex_at v n).f ⊖ (vertex_at v 0).f)) (max_of o.ftol (resolution (abs_of (vertex_at v 0).f)))))

    pub reason_of_lem : cond (lt o.ftol (resolution (abs_of (vertex_at v 0).f))) ObjectiveResolution SimplexTolerance ≡ reason p
    unfolding reason
    reason_of_lem = rw (r.options, value_of_lem 0 zero-le)

    some_others : length (others p.vertices) ≡ n
    some_others = others_length p.vertices n (ap length r.vertices ∙ many n v small long (suc n) (omega arith))

    pub drawn_many : length (drawn p) ≡ n
    drawn_many = length-map (others p.vertices) _ ∙ some_others

    pub drawn_at : (d : List Float) (i : ℕ) → i < n → get_or (drawn p) i d ≡ first n (shrunk_of (vertex_at v 0).x (vertex_at v (suc i)).x (delta o n) n)
    drawn_at d i h =
        let other : get_or (others p.vertices) i p.best ≡ lowered n (vertex_at v (suc i)) = others_at p.vertices i p.best ∙ vertex_of_lem (suc i) h in
        get_d_map (λ u. shrunk (vertex p 0).x u.x (delta p.options p.n)) (others p.vertices) i p.best d (rw some_others h)
        ∙ rw (other, point_of_lem 0 zero-le, r.options, r.count) (sym (ties.shrunk_of_lem (vertex_at v 0).x (vertex_at v (suc i)).x (delta o n) n))
