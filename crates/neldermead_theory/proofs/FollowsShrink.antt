-- A vertex drawn to the best is asked for (`draw_follows`), and told (`shrinking_follows`). Assumes nothing.
use Prim.Native.Nat.{ℕ, suc, ◌+◌, ◌≤◌, ◌<◌}
use native.Mathlib.Numerals.{add-one}
use native.Mathlib.Omega.{arith}
use mathlib.Core.Path.{◌≡◌, refl, sym, ◌∙◌, ap}
use mathlib.Core.Bool.{Bool, true, false, cond}
use mathlib.Core.List.{List, [], ◌∷◌, ◌++◌}
use borrow.Author.Tests.{ltb-true, ltb-false}
use lib.Dec.{ltb}
use lib.ListN.{length, get_or, set, drop, length-set, length-map, drop_of_length-le}
use lib.Seq.{drop-cons, get_or-set_other}
use lib.Ieee.{Float}
use Rattle.vector.specs.Lists.{shrunk}
use Rattle.vector.proofs.First.{ties}
use Rattle.protocol.specs.Rounds.{FitLimits}
use Rattle.neldermead_theory.proofs.TiesPoints.{others_at}
use Rattle.neldermead_vertices.specs.declared.Vertex.{Vertex}
use Rattle.neldermead.specs.declared.Fixed.{Fixed}
use Rattle.neldermead.specs.declared.Simplex.{Simplex}
use Rattle.neldermead_vertices.specs.Method.{delta}
use Rattle.neldermead_theory.specs.Algorithm.{SimplexPosition, vertex, others}
use Rattle.neldermead_theory.specs.Phases.{shrinking, drawn, shrink_on}
use Rattle.neldermead_vertices.specs.Vertices.{no_vertex, vertex_at}
use Rattle.neldermead.specs.Step.{vertex_of, with_vertex, headed_of, shrink_of, shrinking_of}
use Rattle.neldermead_theory.specs.Ties.{lowered, lowered_to}
use Rattle.neldermead_theory.specs.Follows.{SimplexShaped, AtPosition, Related, RelatedMove, settled_move, SimplexAllows}
use Rattle.neldermead_theory.proofs.CountsLengths.{others_length}
use Rattle.neldermead_theory.proofs.TiesOrder.{get_d_map}
use Rattle.neldermead_theory.proofs.Ties.{vertices_tied}
use Rattle.neldermead_theory.proofs.FollowsHead.{carried, headed_follows}

-- the points that a shrink asks for
module _ (p : SimplexPosition) (n : ℕ) (many : length p.vertices ≡ suc n) where
  drawn_many : length (drawn p) ≡ n
  drawn_many = simp length-map (others_length p.vertices n many)

  drawn_at : (k : ℕ) → k < n → get_or (drawn p) k [] ≡ shrunk (vertex p 0).x (vertex p (suc k)).x (delta p.options p.n)
  drawn_at k h =
      let some : k < length (others p.vertices) = rw (others_length p.vertices n many) h in
      get_d_map (λ u. shrunk (vertex p 0).x u.x (delta p.options p.n)) (others p.vertices) k p.best [] some
      ∙ ap (λ (u : Vertex). shrunk (vertex p 0).x u.x (delta p.options p.n)) (others_at p.vertices k p.best)

module _ (fit : Fixed) (l : FitLimits) (v : ℕ) (s : Simplex) (p : SimplexPosition) (position : AtPosition fit s p) (many : length p.vertices ≡ suc fit.n)
    (least : vertex p 0 ≡ lowered fit.n (vertex_at s.v 0)) where
  -- the next drawn point
  pub draw_follows : (k : ℕ) (us : List Vertex) → k < fit.n → vertex p 0 ∷ us ≡ lowered_to fit.n (suc k) s.v
      → ((i : ℕ) → suc k ≤ i → i ≤ fit.n → vertex p i ≡ lowered fit.n (vertex_at s.v i))
      → RelatedMove fit (shrink_of fit s (suc k)) (settled_move l v (shrink_on p us (drop k (drawn p))))
  unfolding shrink_of
  draw_follows k us h told old =
      let some : k < length (drawn p) = rw (drawn_many p fit.n many) h in
      rw (drop-cons (drawn p) k [] some)
      (record {
        mark = refl;
        point =
            rw (drawn_at p fit.n many k h, least, old (suc k) (omega arith) h, position.options, position.count)
            (ties.shrunk_of_lem (vertex_at s.v 0).x (vertex_at s.v (suc k)).x _ fit.n);
        position = carried fit s _ p refl refl refl position;
        holds = record { some = omega arith; many = many; least = least; told = told; old = old; left = refl };
      })

module _ (fit : Fixed) (l : FitLimits) (allows : SimplexAllows fit l) (v : ℕ) (s : Simplex) (shape : SimplexShaped fit.n s)
    (p : SimplexPosition) (us : List Vertex) (x : List Float) (xs : List (List Float)) (related : Related fit s (shrinking p us x xs)) (f : Float) where
  -- the vertex told, in the record and in the phase
  abbrev new : Vertex
  new = vertex_of s.x f

  abbrev next : Simplex
  next = with_vertex s s.at new

  abbrev vertices : List Vertex
  vertices = us ++ (record { x = x; f = f } ∷ [])

  at_room : s.at < 17
  at_room = omega (arith, shape.within, shape.small)

  next_many : length (set s.v s.at new) ≡ 17
  next_many = length-set s.v s.at new ∙ shape.many

  told : vertex p 0 ∷ vertices ≡ lowered_to fit.n (suc s.at) (set s.v s.at new)
  told =
      ap (λ (ws : List Vertex). ws ++ (record { x = x; f = f } ∷ [])) related.holds.told
      ∙ ap (λ (z : List Float). lowered_to fit.n s.at s.v ++ (record { x = z; f = f } ∷ [])) (sym related.point)
      ∙ sym ((vertices_tied fit.n s.v shape.small shape.many).set_next s.at new at_room)

  -- another vertex stays
  stays : (i : ℕ) → (i ≡ s.at → ⊥) → vertex_at s.v i ≡ vertex_at (set s.v s.at new) i
  stays i h = sym (get_or-set_other s.v s.at i new no_vertex h)

  more : s.at < fit.n → RelatedMove fit (shrink_of fit next (s.at + 1)) (settled_move l v (shrink_on p vertices xs))
  more h =
      let some = related.holds.some in
      rw (add-one, related.holds.left)
      (draw_follows fit l v next p (carried fit s next p refl refl refl related.position) related.holds.many
      (related.holds.least ∙ ap (lowered fit.n) (stays 0 (λ e. omega arith))) s.at vertices h told
      (λ i a b. related.holds.old i (omega arith) b ∙ ap (lowered fit.n) (stays i (λ e. omega arith))))

  whole : fit.n ≤ s.at → RelatedMove fit (headed_of fit next v) (settled_move l v (shrink_on p vertices xs))
  whole h =
      let end : s.at ≡ fit.n = omega (arith, shape.within) in
      let all : vertex p 0 ∷ vertices ≡ lowered_to fit.n (suc fit.n) (set s.v s.at new) =
      told ∙ ap (λ (k : ℕ). lowered_to fit.n (suc k) (set s.v s.at new)) end in
      let none : xs ≡ [] = related.holds.left ∙ drop_of_length-le (drawn p) {i = s.at} (rw (drawn_many p fit.n related.holds.many) h) in
      rw none (headed_follows fit l allows v shape.small next p (vertex p 0 ∷ vertices) next_many (carried fit s next p refl refl refl related.position) all)

  pub shrinking_follows : RelatedMove fit (shrinking_of fit s f v) (settled_move l v (shrink_on p vertices xs))
  unfolding shrinking_of
  shrinking_follows = go (ltb s.at fit.n) refl
    where
      go : (b : Bool) → ltb s.at fit.n ≡ b → RelatedMove fit (cond b (shrink_of fit next (s.at + 1)) (headed_of fit next v)) (settled_move l v (shrink_on p vertices xs))
      go true e = more (ltb-true s.at fit.n e)
      go false e = whole (ltb-false s.at fit.n e)
