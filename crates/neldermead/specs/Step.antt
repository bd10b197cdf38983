-- What each move does to the record of the simplex: it takes the value told for the open question, and gives the record with the next question or the end. Definitions only.
use Rattle.std.specs.Prelude.{ℕ, ◌+◌, ◌-◌, false, cond, List, leb, ltb, eqb, set, replicate, Float}
use Rattle.std.specs.Float.{inf}
use Rattle.std.specs.Float.Ieee.{neg, lt, le}
use Rattle.float.specs.Binary64.{◌⊗◌, plus_zero}
use Rattle.float.specs.Values.{abs_of}
use Rattle.vector.specs.Points.{towards_of, shrunk_of}
use Rattle.protocol.specs.declared.SimplexOptions.{SimplexOptions}
use Rattle.neldermead_vertices.specs.declared.Vertex.{Vertex}
use Rattle.neldermead.specs.declared.Fixed.{Fixed}
use Rattle.neldermead.specs.declared.Simplex.{Simplex}
use Rattle.neldermead_vertices.specs.Method.{alpha, beta, gamma, delta, resolution, better}
use Rattle.neldermead_vertices.specs.Vertices.{vertex_at, sorted_of, centroid_of, corner_of, any_finite_of, converged_of}

-- ---- the phases: what the open question is for, or how the fit has ended: SimplexTolerance, ObjectiveResolution, MaxIterations, MaxFevals, refusal 20

abbrev pub building : ℕ
building = 1

abbrev pub reflecting : ℕ
reflecting = 2

abbrev pub expanding : ℕ
expanding = 3

abbrev pub contracting_outside : ℕ
contracting_outside = 4

abbrev pub contracting_inside : ℕ
contracting_inside = 5

abbrev pub shrinking : ℕ
shrinking = 6

abbrev pub by_tolerance : ℕ
by_tolerance = 7

abbrev pub by_resolution : ℕ
by_resolution = 8

abbrev pub by_simplex_iterations : ℕ
by_simplex_iterations = 9

abbrev pub by_simplex_fevals : ℕ
by_simplex_fevals = 10

abbrev pub not_finite : ℕ
not_finite = 11

-- ---- the record with some fields set

abbrev pub vertex_of : List Float → Float → Vertex
vertex_of x f = record { x = x; f = f }

module _ (s : Simplex) where
  -- in another phase
  abbrev pub phased : ℕ → Simplex
  phased p = record { phase = p; at = s.at; rounds = s.rounds; runs = s.runs; x = s.x; best = s.best; cen = s.cen; refl = s.refl; v = s.v }

  -- the question at x, for vertex i of a simplex that is built or shrunk
  abbrev pub asked : ℕ → ℕ → List Float → Simplex
  asked p i x = record { phase = p; at = i; rounds = s.rounds; runs = s.runs; x = x; best = s.best; cen = s.cen; refl = s.refl; v = s.v }

  abbrev pub with_order : List Vertex → Vertex → Simplex
  with_order v b = record { phase = s.phase; at = s.at; rounds = s.rounds; runs = s.runs; x = s.x; best = b; cen = s.cen; refl = s.refl; v = v }

  abbrev pub with_refl : Vertex → Simplex
  with_refl r = record { phase = s.phase; at = s.at; rounds = s.rounds; runs = s.runs; x = s.x; best = s.best; cen = s.cen; refl = r; v = s.v }

  abbrev pub with_vertex : ℕ → Vertex → Simplex
  with_vertex i u = record { phase = s.phase; at = s.at; rounds = s.rounds; runs = s.runs; x = s.x; best = s.best; cen = s.cen; refl = s.refl; v = set s.v i u }

  -- one round more, about the centroid c
  abbrev pub with_round : List Float → Simplex
  with_round c = record { phase = s.phase; at = s.at; rounds = s.rounds + 1; runs = s.runs; x = s.x; best = s.best; cen = c; refl = s.refl; v = s.v }

  -- one run more, about the best point
  abbrev pub rerun : Simplex
  rerun = record { phase = building; at = 0; rounds = s.rounds; runs = s.runs + 1; x = s.best.x; best = s.best; cen = s.cen; refl = s.refl; v = s.v }

-- ---- the head of a round

-- the vertices in order, and the best of all runs
unfoldable pub ordered_of : ℕ → Simplex → Simplex
ordered_of n s = let w = sorted_of s.v n in with_order s w (better (vertex_at w 0) s.best)

-- the trial point with a coefficient
unfoldable pub trial_of : ℕ → Simplex → ℕ → Float → Simplex
trial_of n s p coef = asked s p s.at (towards_of s.cen (vertex_at s.v n).x coef n)

unfoldable pub reflect_of : ℕ → Simplex → Simplex
reflect_of n s = trial_of n (with_round s (centroid_of s.v n)) reflecting alpha

-- why a run stops whose least value is f
unfoldable pub reason_of : Float → Float → ℕ
reason_of ftol f = cond (lt ftol (resolution (abs_of f))) by_resolution by_tolerance

-- the end for this reason, or with restarts left another run
abbrev pub rerun_or_end : ℕ → Simplex → ℕ → Simplex
rerun_or_end restarts s why = cond (leb restarts s.runs) (phased s why) (rerun s)

-- a run is done
unfoldable pub done_of : SimplexOptions → Simplex → Simplex
done_of o s = rerun_or_end o.restarts s (reason_of o.ftol (vertex_at s.v 0).f)

-- "size and spread, then max_iter, then max_fevals"
unfoldable pub tested_of : Fixed → Simplex → ℕ → Simplex
tested_of fit s fevals =
    cond (converged_of fit.options s.v fit.n) (done_of fit.options s)
    (cond (leb fit.iter s.rounds) (phased s by_simplex_iterations)
    (cond (leb fit.fevals fevals) (phased s by_simplex_fevals)
    (reflect_of fit.n s)))

unfoldable pub headed_of : Fixed → Simplex → ℕ → Simplex
headed_of fit s fevals = tested_of fit (ordered_of fit.n s) fevals

-- ---- a new simplex

-- the vertex in which coordinate i of the seed, the first vertex, is displaced
unfoldable pub build_of : Float → Simplex → ℕ → Simplex
build_of initial s i = asked s s.phase (i + 1) (corner_of initial (vertex_at s.v 0).x i)

-- all vertices are told
unfoldable pub settled_of : Fixed → Simplex → ℕ → Simplex
settled_of fit s fevals = cond (any_finite_of s.v (fit.n + 1)) (headed_of fit s fevals) (phased s not_finite)

unfoldable pub built_of : Fixed → Simplex → Float → ℕ → Simplex
built_of fit s f fevals =
    let q = with_vertex s s.at (vertex_of s.x f) in
    cond (ltb s.at fit.n) (build_of fit.options.step q s.at) (settled_of fit q fevals)

-- ---- a round

-- the worst vertex gives way to u
unfoldable pub replaced_of : Fixed → Simplex → Vertex → ℕ → Simplex
replaced_of fit s u fevals = headed_of fit (with_vertex s fit.n u) fevals

unfoldable pub reflected_of : Fixed → Simplex → Float → ℕ → Simplex
reflected_of fit s f fevals =
    let n = fit.n in
    let u = vertex_of s.x f in
    let q = with_refl s u in
    cond (lt f (vertex_at s.v 0).f) (trial_of n q expanding (alpha ⊗ beta fit.options n))
    (cond (lt f (vertex_at s.v (n - 1)).f) (replaced_of fit q u fevals)
    (cond (lt f (vertex_at s.v n).f) (trial_of n q contracting_outside (alpha ⊗ gamma fit.options n))
    (trial_of n q contracting_inside (neg (gamma fit.options n)))))

-- the better of the expanded and the reflected point
unfoldable pub expanded_of : Fixed → Simplex → Float → ℕ → Simplex
expanded_of fit s f fevals = cond (lt f s.refl.f) (replaced_of fit s (vertex_of s.x f) fevals) (replaced_of fit s s.refl fevals)

-- vertex i drawn to the best, and asked for
unfoldable pub shrink_of : Fixed → Simplex → ℕ → Simplex
shrink_of fit s i = asked s shrinking i (shrunk_of (vertex_at s.v 0).x (vertex_at s.v i).x (delta fit.options fit.n) fit.n)

unfoldable pub outside_of : Fixed → Simplex → Float → ℕ → Simplex
outside_of fit s f fevals = cond (le f s.refl.f) (replaced_of fit s (vertex_of s.x f) fevals) (shrink_of fit s 1)

unfoldable pub inside_of : Fixed → Simplex → Float → ℕ → Simplex
inside_of fit s f fevals = cond (lt f (vertex_at s.v fit.n).f) (replaced_of fit s (vertex_of s.x f) fevals) (shrink_of fit s 1)

unfoldable pub shrinking_of : Fixed → Simplex → Float → ℕ → Simplex
shrinking_of fit s f fevals =
    let q = with_vertex s s.at (vertex_of s.x f) in
    cond (ltb s.at fit.n) (shrink_of fit q (s.at + 1)) (headed_of fit q fevals)

-- ---- the answer to the open question, and the start

-- by what the question is for; a fit that has ended stays as it is
unfoldable pub told_of : Fixed → Simplex → Float → ℕ → Simplex
told_of fit s f fevals =
    cond (eqb s.phase building) (built_of fit s f fevals)
    (cond (eqb s.phase reflecting) (reflected_of fit s f fevals)
    (cond (eqb s.phase expanding) (expanded_of fit s f fevals)
    (cond (eqb s.phase contracting_outside) (outside_of fit s f fevals)
    (cond (eqb s.phase contracting_inside) (inside_of fit s f fevals)
    (cond (eqb s.phase shrinking) (shrinking_of fit s f fevals)
    s)))))

-- best_x = x0, best_f = infinity, and the first vertex of the first simplex is asked for
unfoldable pub start_of : List Float → Simplex
start_of x =
    let u = vertex_of (replicate 16 plus_zero) plus_zero in
    record { phase = building; at = 0; rounds = 0; runs = 0; x = x; best = vertex_of x (inf false); cen = replicate 16 plus_zero; refl = u; v = replicate 17 u }
