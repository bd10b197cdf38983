-- What the code decides, and the next point. Definitions only.
use Rattle.std.specs.Prelude.{ℕ, ◌+◌, ◌-◌, ◌<◌, ◌≤◌, cond, List, leb, ltb, eqb, Float}
use Rattle.std.specs.Float.Ieee.{neg, lt, le}
use Rattle.float.specs.Binary64.{◌⊗◌}
use Rattle.vector.specs.Points.{towards_of, shrunk_of}
use Rattle.neldermead_vertices.specs.Method.{alpha, beta, gamma, delta}
use Rattle.neldermead_vertices.specs.Vertices.{vertex_at, corner_of, converged_of}
use Rattle.neldermead.specs.declared.Ask.{Ask}
use Rattle.neldermead.specs.declared.Ask.TheVariants.{Corner, Expansion, Outside, Inside, Drawn}
use Rattle.neldermead.specs.declared.Outcome.{Outcome}
use Rattle.neldermead.specs.declared.Outcome.TheVariants.{Rests, Asks, Built, Takes, Keeps, Shrunk}
use Rattle.neldermead.specs.declared.Fixed.{Fixed}
use Rattle.neldermead.specs.declared.Simplex.{Simplex}
use Rattle.neldermead.specs.Step.{building, reflecting, expanding, contracting_outside, contracting_inside, shrinking, by_simplex_iterations, by_simplex_fevals, reason_of}

-- ---- what an answer comes to

unfoldable pub reflection_of : Simplex → ℕ → Float → Outcome
reflection_of s n f =
    cond (lt f (vertex_at s.v 0).f) (Asks Expansion)
    (cond (lt f (vertex_at s.v (n - 1)).f) Takes
    (cond (lt f (vertex_at s.v n).f) (Asks Outside) (Asks Inside)))

unfoldable pub outcome_of : Simplex → ℕ → Float → Outcome
outcome_of s n f =
    cond (eqb s.phase building) (cond (ltb s.at n) (Asks (Corner s.at)) Built)
    (cond (eqb s.phase reflecting) (reflection_of s n f)
    (cond (eqb s.phase expanding) (cond (lt f s.refl.f) Takes Keeps)
    (cond (eqb s.phase contracting_outside) (cond (le f s.refl.f) Takes (Asks (Drawn 1)))
    (cond (eqb s.phase contracting_inside) (cond (lt f (vertex_at s.v n).f) Takes (Asks (Drawn 1)))
    (cond (eqb s.phase shrinking) (cond (ltb s.at n) (Asks (Drawn (s.at + 1))) Shrunk)
    Rests)))))

-- the coordinate that a question names is one of n, and the vertex one of n + 1
abbrev pub AskWithin : ℕ → Ask → Type 0
AskWithin n (Corner i) = i < n
AskWithin n Expansion = Unit {0}
AskWithin n Outside = Unit {0}
AskWithin n Inside = Unit {0}
AskWithin n (Drawn i) = i ≤ n

abbrev pub OutcomeWithin : ℕ → Outcome → Type 0
OutcomeWithin n Rests = Unit {0}
OutcomeWithin n (Asks a) = AskWithin n a
OutcomeWithin n Built = Unit {0}
OutcomeWithin n Takes = Unit {0}
OutcomeWithin n Keeps = Unit {0}
OutcomeWithin n Shrunk = Unit {0}

-- ---- the next question: its phase, the vertex that is asked for, and its point

unfoldable pub phase_of : Ask → ℕ
phase_of (Corner i) = building
phase_of Expansion = expanding
phase_of Outside = contracting_outside
phase_of Inside = contracting_inside
phase_of (Drawn i) = shrinking

unfoldable pub at_of : Ask → ℕ → ℕ
at_of (Corner i) at = i + 1
at_of Expansion at = at
at_of Outside at = at
at_of Inside at = at
at_of (Drawn i) at = i

unfoldable pub point_of : Fixed → Simplex → Ask → List Float
point_of fit s (Corner i) = corner_of fit.options.step (vertex_at s.v 0).x i
point_of fit s Expansion = towards_of s.cen (vertex_at s.v fit.n).x (alpha ⊗ beta fit.options fit.n) fit.n
point_of fit s Outside = towards_of s.cen (vertex_at s.v fit.n).x (alpha ⊗ gamma fit.options fit.n) fit.n
point_of fit s Inside = towards_of s.cen (vertex_at s.v fit.n).x (neg (gamma fit.options fit.n)) fit.n
point_of fit s (Drawn i) = shrunk_of (vertex_at s.v 0).x (vertex_at s.v i).x (delta fit.options fit.n) fit.n

-- ---- the head of a round

-- the phase after its tests
unfoldable pub verdict_of : Fixed → Simplex → ℕ → ℕ
verdict_of fit s fevals =
    cond (converged_of fit.options s.v fit.n) (cond (leb fit.options.restarts s.runs) (reason_of fit.options.ftol (vertex_at s.v 0).f) building)
    (cond (leb fit.iter s.rounds) by_simplex_iterations
    (cond (leb fit.fevals fevals) by_simplex_fevals reflecting))
