-- A vertex of a new simplex is told: `built_follows`. Assumes nothing.
use Prim.Native.Nat.{ℕ, suc, ◌+◌, ◌≤◌, ◌<◌}
use native.Mathlib.Numerals.{add-one}
use native.Mathlib.Omega.{arith}
use mathlib.Core.Path.{◌≡◌, refl, sym, ◌∙◌, ap}
use mathlib.Core.Bool.{Bool, true, false, cond}
use mathlib.Core.List.{List, [], ◌∷◌, ◌++◌}
use borrow.Author.Tests.{ltb-true, ltb-false, eqb-true, eqb-false}
use lib.Dec.{ltb, eqb, eqb-suc-zero}
use lib.ListN.{length, set, drop, length-set, drop_of_length-le}
use lib.Seq.{drop-cons, get_or-set_same, get_or-set_other}
use lib.Ieee.{Float}
use Rattle.vector.specs.Lists.{first}
use Rattle.protocol.specs.Rounds.{at_head, fails, FitLimits}
use Rattle.protocol.specs.Places.{ends}
use Rattle.neldermead_vertices.specs.declared.Vertex.{Vertex}
use Rattle.neldermead.specs.declared.Fixed.{Fixed}
use Rattle.neldermead.specs.declared.Simplex.{Simplex}
use Rattle.neldermead_theory.specs.Algorithm.{SimplexPosition, arrive, corners, any_finite}
use Rattle.neldermead_theory.specs.Phases.{building, build_on}
use Rattle.neldermead_vertices.specs.Vertices.{no_vertex, vertex_at, any_finite_of}
use Rattle.neldermead.specs.Step.{not_finite, vertex_of, with_vertex, phased, headed_of, build_of, settled_of, built_of}
use Rattle.neldermead_theory.specs.Ties.{lowered_to, VerticesTied}
use Rattle.neldermead_theory.specs.Follows.{SimplexShaped, seed_of, Related, RelatedMove, settled_move, SimplexAllows}
use Rattle.neldermead_theory.proofs.Ties.{vertices_tied}
use Rattle.neldermead_theory.proofs.FollowsHead.{carried, headed_follows}

module _ (fit : Fixed) (l : FitLimits) (allows : SimplexAllows fit l) (v : ℕ) (s : Simplex) (shape : SimplexShaped fit.n s)
    (p : SimplexPosition) (us : List Vertex) (x : List Float) (xs : List (List Float)) (related : Related fit s (building p us x xs)) (f : Float) where
  -- the vertex told, in the record and in the phase
  abbrev new : Vertex
  new = vertex_of s.x f

  abbrev next : Simplex
  next = with_vertex s s.at new

  abbrev vertices : List Vertex
  vertices = us ++ (record { x = x; f = f } ∷ [])

  abbrev seed : List Float
  seed = (vertex_at (set s.v s.at new) 0).x

  abbrev edges : List (List Float)
  edges = corners fit.options.step [] (first fit.n seed)

  tied : VerticesTied fit.n s.v
  tied = vertices_tied fit.n s.v shape.small shape.many

  at_room : s.at < 17
  at_room = omega (arith, shape.within, shape.small)

  next_many : length (set s.v s.at new) ≡ 17
  next_many = length-set s.v s.at new ∙ shape.many

  told : vertices ≡ lowered_to fit.n (suc s.at) (set s.v s.at new)
  told = rw (related.holds.told, ← related.point) (sym (tied.set_next s.at new at_room))

  -- the seed stays the same
  seeded : seed ≡ seed_of s
  seeded = go (eqb s.at 0) refl
    where
      go : (b : Bool) → eqb s.at 0 ≡ b → seed ≡ cond b s.x (vertex_at s.v 0).x
      go true e =
          let z : s.at ≡ 0 = eqb-true s.at 0 e in
          rw z (ap (λ (u : Vertex). u.x) (get_or-set_same s.v 0 new no_vertex (omega (arith, shape.many))))
      go false e = ap (λ (u : Vertex). u.x) (get_or-set_other s.v s.at 0 new no_vertex (λ z. eqb-false s.at 0 e (sym z)))

  seed16 : length seed ≡ 16
  seed16 = rw seeded (go (eqb s.at 0))
    where
      go : (b : Bool) → length (cond b s.x (vertex_at s.v 0).x) ≡ 16
      go true = shape.points.x
      go false = shape.points.vertices 0 (omega arith)

  left : xs ≡ drop s.at edges
  left = related.holds.left ∙ ap (λ (z : List Float). drop s.at (corners fit.options.step [] (first fit.n z))) (sym seeded)

  -- the next corner
  more : s.at < fit.n → RelatedMove fit (build_of fit.options.step next s.at) (settled_move l v (build_on p vertices xs))
  unfolding build_of
  more h =
      let n16 = vertices_tied fit.n (set s.v s.at new) shape.small next_many in
      let some : s.at < length edges = rw (n16.corners_many fit.options.step seed) h in
      rw (left, drop-cons edges s.at [] some)
      (record {
        mark = related.mark;
        point = sym (n16.corner_at fit.options.step seed seed16 [] s.at h);
        position = carried fit s _ p refl refl refl related.position;
        holds = record { told = rw add-one told; left = rw (add-one, eqb-suc-zero) };
      })

  -- the last vertex is told
  whole : fit.n ≤ s.at → RelatedMove fit (settled_of fit next v) (settled_move l v (build_on p vertices xs))
  unfolding settled_of
  whole h =
      let n16 = vertices_tied fit.n (set s.v s.at new) shape.small next_many in
      let end : s.at ≡ fit.n = omega (arith, shape.within) in
      let all : vertices ≡ lowered_to fit.n (suc fit.n) (set s.v s.at new) = told ∙ ap (λ (k : ℕ). lowered_to fit.n (suc k) (set s.v s.at new)) end in
      let none : xs ≡ [] = left ∙ drop_of_length-le edges {i = s.at} (rw (n16.corners_many fit.options.step seed) h) in
      let finite : any_finite vertices ≡ any_finite_of (set s.v s.at new) (fit.n + 1) = rw (all, add-one) (sym (n16.any_finite_lem (suc fit.n) (omega (arith, shape.small)))) in
      rw (none, finite)
      (settled (any_finite_of (set s.v s.at new) (fit.n + 1))
      (headed_follows fit l allows v shape.small next p vertices next_many (carried fit s next p refl refl refl related.position) all))
    where
      settled : (b : Bool) → RelatedMove fit (headed_of fit next v) (settled_move l v (ends (at_head (arrive p vertices))))
          → RelatedMove fit (cond b (headed_of fit next v) (phased next not_finite)) (settled_move l v (ends (cond b (at_head (arrive p vertices)) (fails 20 0))))
      settled true k = k
      settled false k = record { mark = refl; refusal = refl; detail = refl }

  pub built_follows : RelatedMove fit (built_of fit s f v) (settled_move l v (build_on p vertices xs))
  unfolding built_of
  built_follows = go (ltb s.at fit.n) refl
    where
      go : (b : Bool) → ltb s.at fit.n ≡ b → RelatedMove fit (cond b (build_of fit.options.step next s.at) (settled_of fit next v)) (settled_move l v (build_on p vertices xs))
      go true e = more (ltb-true s.at fit.n e)
      go false e = whole (ltb-false s.at fit.n e)
