-- A trial point of a round is told: `reflected_follows`, `expanded_follows`, `outside_follows`, `inside_follows`. Assumes nothing.
use Prim.Native.Nat.{ℕ, suc, ◌-◌, ◌≤◌, zero-le}
use native.Mathlib.Nat.{le_refl}
use native.Mathlib.Omega.{arith}
use mathlib.Core.Path.{◌≡◌, refl, sym, ◌∙◌, ap, ap₂}
use mathlib.Core.Bool.{Bool, true, false, cond}
use mathlib.Core.List.{List, [], ◌∷◌, map}
use lib.ListN.{length}
use lib.Seq.{take-suc}
use lib.Ieee.{Float, lt, le, neg}
use Rattle.float.specs.Binary64.{◌⊗◌}
use Rattle.vector.specs.Lists.{first, towards as between}
use Rattle.vector.specs.Points.{towards_of}
use Rattle.vector.proofs.First.{ties}
use Rattle.protocol.specs.declared.SimplexOptions.{SimplexOptions}
use Rattle.protocol.specs.Rounds.{FitLimits}
use Rattle.protocol.specs.Places.{still, ends}
use Rattle.neldermead_vertices.specs.declared.Vertex.{Vertex}
use Rattle.neldermead.specs.declared.Fixed.{Fixed}
use Rattle.neldermead.specs.declared.Simplex.{Simplex}
use Rattle.neldermead_vertices.specs.Method.{alpha, beta, gamma}
use Rattle.neldermead_theory.specs.Algorithm.{SimplexPosition, vertex, replaced, towards}
use Rattle.neldermead_theory.specs.Phases.{Phase, Move, expanding, outside, inside, point_of, drawn, shrink_on, reflect_on}
use Rattle.neldermead_vertices.specs.Vertices.{no_vertex, vertex_at}
use Rattle.neldermead.specs.Step.{expanding as expanding_mark, contracting_outside, contracting_inside, vertex_of, with_refl, trial_of, replaced_of, reflected_of, expanded_of, shrink_of, outside_of, inside_of}
use Rattle.neldermead_theory.specs.Ties.{lowered, VerticesTied}
use Rattle.neldermead_theory.specs.Follows.{AtPosition, InRound, InTrial, InPhase, mark_of, position_of, Related, RelatedMove, settled_move, SimplexAllows}
use Rattle.neldermead_theory.proofs.Ties.{vertices_tied}
use Rattle.neldermead_theory.proofs.FollowsHead.{carried, replaced_follows}
use Rattle.neldermead_theory.proofs.FollowsShrink.{draw_follows}

module _ (fit : Fixed) (l : FitLimits) (allows : SimplexAllows fit l) (v : ℕ) (positive : 1 ≤ fit.n) (small : fit.n ≤ 16) where
  -- a test decides in the record as in the turn
  decided : (b c : Bool) → c ≡ b → (s t : Simplex) (m k : Move) → RelatedMove fit s (settled_move l v m) → RelatedMove fit t (settled_move l v k)
      → RelatedMove fit (cond b s t) (settled_move l v (cond c m k))
  decided b c e s t m k i j = rw e (go b)
    where
      go : (d : Bool) → RelatedMove fit (cond d s t) (settled_move l v (cond d m k))
      go true = i
      go false = j

  -- in a round about the position p
  module _ (s : Simplex) (many : length s.v ≡ 17) (p : SimplexPosition) (position : AtPosition fit s p) (round : InRound fit s p) where
    tied : VerticesTied fit.n s.v
    tied = vertices_tied fit.n s.v small many

    same_vertex : (i : ℕ) → i ≤ fit.n → vertex p i ≡ lowered fit.n (vertex_at s.v i)
    same_vertex = tied.vertex_of_lem fit.options p (record { options = position.options; count = position.count; vertices = round.vertices })

    worst : vertex p p.n ≡ lowered fit.n (vertex_at s.v fit.n)
    worst = ap (vertex p) position.count ∙ same_vertex fit.n (le_refl fit.n)

    trial_point : (t : Float) → first fit.n (towards_of s.cen (vertex_at s.v fit.n).x t fit.n) ≡ towards p t
    trial_point t =
        ties.towards_of_lem s.cen (vertex_at s.v fit.n).x t fit.n ∙ ap₂ (λ c w. between c w t) round.middle (ap (λ (u : Vertex). u.x) (sym worst))

    shrink_follows : RelatedMove fit (shrink_of fit s 1) (settled_move l v (shrink_on p [] (drawn p)))
    shrink_follows =
        draw_follows fit l v s p position (rw round.vertices (tied.many (suc fit.n) (omega arith))) (same_vertex 0 zero-le) 0 [] positive
        (ap (λ (u : Vertex). u ∷ []) (same_vertex 0 zero-le) ∙ ap (map (lowered fit.n)) (sym (take-suc s.v 0 no_vertex (omega arith))))
        (λ i a b. same_vertex i b)

    -- the worst gives way to the point told
    replaced_by : (u w : Vertex) → w ≡ lowered fit.n u → RelatedMove fit (replaced_of fit s u v) (settled_move l v (ends (replaced p w)))
    replaced_by u w e = replaced_follows fit l allows v small s p u w many position round.vertices e

  -- the value f is told for the point x
  module _ (s : Simplex) (many : length s.v ≡ 17) (f : Float) (p : SimplexPosition) (x : List Float) (point : first fit.n s.x ≡ x) (position : AtPosition fit s p) where
    -- the vertex told, in the record and in the phase
    abbrev new : Vertex
    new = vertex_of s.x f

    abbrev told : Vertex
    told = record { x = x; f = f }

    seen : told ≡ lowered fit.n new
    seen = ap (λ (z : List Float). record { x = z; f = f }) (sym point)

    pub expanded_follows : (r : Vertex) → InTrial fit s p r → RelatedMove fit (expanded_of fit s f v) (settled_move l v (ends (replaced p (cond (lt f r.f) told r))))
    unfolding expanded_of
    expanded_follows r h = rw h.trial (go (lt f s.refl.f))
      where
        go : (b : Bool)
            → RelatedMove fit (cond b (replaced_of fit s new v) (replaced_of fit s s.refl v)) (settled_move l v (ends (replaced p (cond b told (lowered fit.n s.refl)))))
        go true = replaced_by s many p position h.round new told seen
        go false = replaced_by s many p position h.round s.refl (lowered fit.n s.refl) refl

    pub outside_follows : (r : Vertex) → InTrial fit s p r
        → RelatedMove fit (outside_of fit s f v) (settled_move l v (cond (le f r.f) (ends (replaced p told)) (shrink_on p [] (drawn p))))
    unfolding outside_of
    outside_follows r h =
        decided (le f s.refl.f) (le f r.f) (ap (λ (u : Vertex). le f u.f) h.trial) _ _ (ends (replaced p told)) (shrink_on p [] (drawn p))
        (replaced_by s many p position h.round new told seen) (shrink_follows s many p position h.round)

    module _ (round : InRound fit s p) where
      pub inside_follows : RelatedMove fit (inside_of fit s f v) (settled_move l v (cond (lt f (vertex p p.n).f) (ends (replaced p told)) (shrink_on p [] (drawn p))))
      unfolding inside_of
      inside_follows =
          decided _ _ (ap (λ (u : Vertex). lt f u.f) (worst s many p position round)) _ _ (ends (replaced p told)) (shrink_on p [] (drawn p))
          (replaced_by s many p position round new told seen) (shrink_follows s many p position round)

      -- the record with the reflected point in it
      abbrev next : Simplex
      next = with_refl s new

      next_position : AtPosition fit next p
      next_position = carried fit s next p refl refl refl position

      next_round : InRound fit next p
      next_round = record { vertices = round.vertices; middle = round.middle }

      next_trial : (k : ℕ) (t : Float) → InTrial fit (trial_of fit.n next k t) p told
      unfolding trial_of
      next_trial k t = record { round = record { vertices = round.vertices; middle = round.middle }; trial = seen }

      -- the question at the trial point with the coefficient c
      trial_related : (k : ℕ) (c : SimplexOptions → ℕ → Float) (ph : Phase) → k ≡ mark_of ph → towards p (c p.options p.n) ≡ point_of ph → position_of ph ≡ p
          → InPhase fit (trial_of fit.n next k (c fit.options fit.n)) ph → Related fit (trial_of fit.n next k (c fit.options fit.n)) ph
      unfolding trial_of
      trial_related k c ph m y q h =
          let same : c fit.options fit.n ≡ c p.options p.n = rw (position.options, position.count) in
          record {
            mark = m;
            point = rw same (trial_point s many p position round (c p.options p.n)) ∙ y;
            position = rw q (carried fit s _ p refl refl refl position);
            holds = h;
          }

      -- the values that it is held to
      below_at : (i j : ℕ) → j ≡ i → i ≤ fit.n → lt f (vertex p j).f ≡ lt f (vertex_at s.v i).f
      below_at i j e h = rw e (ap (λ (u : Vertex). lt f u.f) (same_vertex s many p position round i h))

      pub reflected_follows : RelatedMove fit (reflected_of fit s f v) (settled_move l v (reflect_on p told))
      unfolding reflected_of
      reflected_follows =
          decided _ _ (below_at 0 0 refl zero-le) _ _ (still (expanding p told)) _
          (trial_related expanding_mark (λ o n. alpha ⊗ beta o n) (expanding p told) refl refl refl (next_trial expanding_mark _))
          (decided _ _ (below_at (fit.n - 1) (p.n - 1) (rw position.count) (omega arith)) _ _ (ends (replaced p told)) _ (replaced_by next many p next_position next_round new told seen)
          (decided _ _ (below_at fit.n p.n position.count (le_refl fit.n)) _ _ (still (outside p told)) (still (inside p))
          (trial_related contracting_outside (λ o n. alpha ⊗ gamma o n) (outside p told) refl refl refl (next_trial contracting_outside _))
          (trial_related contracting_inside (λ o n. neg (gamma o n)) (inside p) refl refl refl (next_trial contracting_inside _).round)))
