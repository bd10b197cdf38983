-- The simplex fit one answer at a time, over lists: what the open question is for, and the step that its answer makes. The code's record is held to this. Definitions only.
use Rattle.std.specs.Prelude.{◌-◌, not, cond, List, [], ◌∷◌, ◌++◌, map, eqb, length, get_or, Float}
use Rattle.std.specs.Float.{nan}
use Rattle.std.specs.Float.Ieee.{lt, le, neg}
use Rattle.float.specs.Binary64.{◌⊗◌}
use Rattle.vector.specs.Lists.{all_finite, shrunk}
use Rattle.protocol.specs.declared.Kind.TheVariants.{Value}
use Rattle.protocol.specs.declared.SimplexOptions.{SimplexOptions}
use Rattle.protocol.specs.Protocol.{read_of}
use Rattle.protocol.specs.Rounds.{at_head, fails}
use Rattle.protocol.specs.Places.{Turn, still, ends, Steps}
use Rattle.neldermead_vertices.specs.declared.Vertex.{Vertex}
use Rattle.neldermead_vertices.specs.Method.{alpha, beta, gamma, delta}
use Rattle.neldermead_theory.specs.Algorithm.{SimplexPosition, vertex, arrive, replaced, others, any_finite, corners, towards, iterated, rerun, nowhere, tolerance, positive_finite, nelder_mead}

-- vertices are those told so far, the point is the open one, and the points behind it are still to be asked
pub data Phase : Type 0 where
  building : SimplexPosition → List Vertex → List Float → List (List Float) → Phase
  reflecting : SimplexPosition → Phase
  expanding : SimplexPosition → Vertex → Phase
  outside : SimplexPosition → Vertex → Phase
  inside : SimplexPosition → Phase
  shrinking : SimplexPosition → List Vertex → List Float → List (List Float) → Phase

-- the point of the open question
abbrev pub point_of : Phase → List Float
point_of (building p us x xs) = x
point_of (reflecting p) = towards p alpha
point_of (expanding p r) = towards p (alpha ⊗ beta p.options p.n)
point_of (outside p r) = towards p (alpha ⊗ gamma p.options p.n)
point_of (inside p) = towards p (neg (gamma p.options p.n))
point_of (shrinking p us x xs) = x

abbrev pub Move : Type 0
Move = Turn Phase SimplexPosition

abbrev pub build_on : SimplexPosition → List Vertex → List (List Float) → Move
build_on p us [] = ends (cond (any_finite us) (at_head (arrive p us)) (fails 20 0))
build_on p us (x ∷ xs) = still (building p us x xs)

abbrev pub shrink_on : SimplexPosition → List Vertex → List (List Float) → Move
shrink_on p us [] = ends (at_head (arrive p (vertex p 0 ∷ us)))
shrink_on p us (x ∷ xs) = still (shrinking p us x xs)

-- the points that a shrink asks for
abbrev pub drawn : SimplexPosition → List (List Float)
drawn p = map (λ u. shrunk (vertex p 0).x u.x (delta p.options p.n)) (others p.vertices)

abbrev pub reflect_on : SimplexPosition → Vertex → Move
reflect_on p r =
    cond (lt r.f (vertex p 0).f) (still (expanding p r))
    (cond (lt r.f (vertex p (p.n - 1)).f) (ends (replaced p r))
    (cond (lt r.f (vertex p p.n).f) (still (outside p r)) (still (inside p))))

-- u is the open point with the value told
abbrev pub move : Phase → Vertex → Move
move (building p us x xs) u = build_on p (us ++ (u ∷ [])) xs
move (reflecting p) u = reflect_on p u
move (expanding p r) u = ends (replaced p (cond (lt u.f r.f) u r))
move (outside p r) u = cond (le u.f r.f) (ends (replaced p u)) (shrink_on p [] (drawn p))
move (inside p) u = cond (lt u.f (vertex p p.n).f) (ends (replaced p u)) (shrink_on p [] (drawn p))
move (shrinking p us x xs) u = shrink_on p (us ++ (u ∷ [])) xs

abbrev pub told : List Float → List Float → Vertex
told x w = record { x = x; f = read_of (get_or w 0 nan) }

abbrev pub step_of : Phase → List Float → Move
step_of s w = move s (told (point_of s) w)

-- the first question of a simplex about x
abbrev pub build_at : SimplexPosition → List Float → Move
build_at p x = still (building p [] x (corners p.options.step [] x))

abbrev pub opening_move : SimplexOptions → List Float → Move
opening_move o x =
    cond (not (tolerance o.xtol)) (ends (fails 4 1))
    (cond (not (tolerance o.ftol)) (ends (fails 4 2))
    (cond (not (positive_finite o.step)) (ends (fails 8 0))
    (cond (eqb (length x) 0) (ends (fails 9 0))
    (cond (not (all_finite x)) (ends (fails 12 1))
    (build_at (nowhere o x) x)))))

abbrev pub simplex_steps : Steps nelder_mead
simplex_steps = record {
  Place = Phase;
  kind = λ s. Value;
  point = point_of;
  step = step_of;
  opening = opening_move;
  again = λ p. build_at (rerun p) p.best.x;
  round = λ p. still (reflecting (iterated p));
}
