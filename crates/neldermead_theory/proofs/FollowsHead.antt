-- At the head of a round the record orders and tests as the position does (`headed_follows`), and with its worst vertex replaced it goes on to the head (`replaced_follows`).
-- Assumes nothing.
use Prim.Native.Nat.{ℕ, suc, ◌≤◌, zero-le}
use native.Mathlib.Numerals.{add-one}
use mathlib.Core.Path.{◌≡◌, refl, sym, ◌∙◌, ap}
use mathlib.Core.Bool.{Bool, true, false, cond}
use mathlib.Core.List.{List, [], ◌∷◌, ◌++◌}
use lib.Dec.{leb}
use lib.ListN.{length, length-set}
use lib.Ieee.{lt}
use Rattle.float.specs.Values.{abs_of}
use Rattle.protocol.specs.declared.Termination.{Termination}
use Rattle.protocol.specs.declared.Termination.TheVariants.{SimplexTolerance, MaxIterations, MaxFevals, ObjectiveResolution}
use Rattle.protocol.specs.Ask.{Ask}
use Rattle.protocol.specs.Rounds.{Ending, at_head, go_on, stop, restart, FitLimits, reached}
use Rattle.protocol.specs.Places.{ends}
use Rattle.neldermead_vertices.specs.declared.Vertex.{Vertex}
use Rattle.neldermead.specs.declared.Fixed.{Fixed}
use Rattle.neldermead.specs.declared.Simplex.{Simplex}
use Rattle.neldermead_vertices.specs.Order.{in_order}
use Rattle.neldermead_vertices.specs.Method.{resolution}
use Rattle.neldermead_theory.specs.Algorithm.{SimplexPosition, arrive, but_last, replaced, build, iterated, rerun, converged, reason, tests}
use Rattle.neldermead_theory.specs.Phases.{reflecting, build_at}
use Rattle.neldermead_vertices.specs.Vertices.{vertex_at, sorted_of, converged_of}
use Rattle.neldermead.specs.Step.{by_tolerance, by_resolution, by_simplex_iterations, by_simplex_fevals, phased, rerun as reran, with_vertex, ordered_of, trial_of, reflect_of, reason_of, done_of, tested_of, headed_of, replaced_of}
use Rattle.neldermead_theory.specs.Ties.{lowered, lowered_to, Reads, VerticesTied}
use Rattle.neldermead_theory.specs.Follows.{AtPosition, Related, StoppedBy, Stopped, RelatedMove, allowed_move, headed_move, settled_move, SimplexAllows}
use Rattle.neldermead_theory.proofs.Ties.{vertices_tied}

-- a record with the same rounds, runs and best vertex is at the same position
pub carried : (fit : Fixed) (s t : Simplex) (p : SimplexPosition) → t.rounds ≡ s.rounds → t.runs ≡ s.runs → t.best ≡ s.best → AtPosition fit s p → AtPosition fit t p
carried fit s t p i r b h =
    record { options = h.options; count = h.count; iterations = h.iterations ∙ sym i; runs = h.runs ∙ sym r; best = h.best ∙ ap (lowered fit.n) (sym b) }

module _ (fit : Fixed) (l : FitLimits) (allows : SimplexAllows fit l) (v : ℕ) (small : fit.n ≤ 16) where
  -- ---- the tests, over the vertices in order
  module _ (s : Simplex) (p : SimplexPosition) (many : length s.v ≡ 17) (at : AtPosition fit s p) (same : p.vertices ≡ lowered_to fit.n (suc fit.n) s.v) where
    tied : VerticesTied fit.n s.v
    tied = vertices_tied fit.n s.v small many

    reads : Reads fit.options fit.n s.v p
    reads = record { options = at.options; count = at.count; vertices = same }

    stopped : (k : ℕ) (y : Termination) → StoppedBy fit (phased s k) y → Stopped fit (phased s k) y p
    stopped k y m = record { mark = m; iterations = at.iterations; best = at.best }

    -- the first question of a new run
    reran_related : RelatedMove fit (reran s) (build_at (rerun p) p.best.x)
    reran_related =
        record {
          mark = refl;
          point = sym (ap (λ (u : Vertex). u.x) at.best);
          position = record { options = at.options; count = at.count; iterations = at.iterations; runs = rw (add-one, at.runs); best = at.best };
          holds = record { told = refl; left = rw (at.options, at.best) };
        }

    -- the first question of a round
    reflect_related : Related fit (reflect_of fit.n s) (reflecting (iterated p))
    unfolding reflect_of trial_of
    reflect_related =
        let r : Reads fit.options fit.n s.v (iterated p) = record { options = at.options; count = at.count; vertices = same } in
        record {
          mark = refl;
          point = tied.towards_of_lem fit.options (iterated p) r _;
          position = record { options = at.options; count = at.count; iterations = rw (add-one, at.iterations); runs = at.runs; best = at.best };
          holds = record { vertices = same; middle = tied.centroid_of_lem fit.options (iterated p) r };
        }

    by_limits : (over full : Bool) → RelatedMove fit (cond over (phased s by_simplex_iterations) (cond full (phased s by_simplex_fevals) (reflect_of fit.n s))) (allowed_move over full p)
    by_limits true full = stopped by_simplex_iterations MaxIterations refl
    by_limits false true = stopped by_simplex_fevals MaxFevals refl
    by_limits false false = reflect_related

    by_reason : (b : Bool) → Stopped fit (phased s (cond b by_resolution by_tolerance)) (cond b ObjectiveResolution SimplexTolerance) p
    by_reason true = stopped by_resolution ObjectiveResolution refl
    by_reason false = stopped by_tolerance SimplexTolerance refl

    over_by : reached p.iterations l.iter ≡ leb fit.iter s.rounds
    over_by = rw (allows.iter, at.iterations)

    full_by : reached v l.fevals ≡ leb fit.fevals v
    full_by = rw allows.fevals

    by_tests : (done last low : Bool) (m : Ask (Ending SimplexPosition))
        → RelatedMove fit
        (cond done (cond last (phased s (cond low by_resolution by_tolerance)) (reran s))
        (cond (leb fit.iter s.rounds) (phased s by_simplex_iterations) (cond (leb fit.fevals v) (phased s by_simplex_fevals) (reflect_of fit.n s))))
        (headed_move l v (cond done (cond last (stop (cond low ObjectiveResolution SimplexTolerance)) (restart m)) go_on) p)
    by_tests true true low m = by_reason low
    by_tests true false low m = reran_related
    by_tests false last low m = rw (over_by, full_by) (by_limits (leb fit.iter s.rounds) (leb fit.fevals v))

    tested_follows : RelatedMove fit (tested_of fit s v) (headed_move l v (tests p) p)
    unfolding tested_of done_of reason_of
    tested_follows =
        let b = lt fit.options.ftol (resolution (abs_of (vertex_at s.v 0).f)) in
        let done : converged p ≡ converged_of fit.options s.v fit.n = sym (tied.converged_of_lem fit.options p reads) in
        let last : leb p.options.restarts p.runs ≡ leb fit.options.restarts s.runs = rw (at.options, at.runs) in
        let low : reason p ≡ cond b ObjectiveResolution SimplexTolerance = sym (tied.reason_of_lem fit.options p reads) in
        rw (done, last, low) (by_tests (converged_of fit.options s.v fit.n) (leb fit.options.restarts s.runs) b (build (rerun p) p.best.x))

  -- ---- the order
  module _ (s : Simplex) (p : SimplexPosition) (us : List Vertex) (many : length s.v ≡ 17) (at : AtPosition fit s p) (same : us ≡ lowered_to fit.n (suc fit.n) s.v) where
    abbrev sorted : List Vertex
    sorted = sorted_of s.v fit.n

    sorted_many : length sorted ≡ 17
    sorted_many = (vertices_tied fit.n s.v small many).sorted_many

    ordered : in_order us ≡ lowered_to fit.n (suc fit.n) sorted
    ordered = ap in_order same ∙ sym (vertices_tied fit.n s.v small many).sorted_of_lem

    arrived : AtPosition fit (ordered_of fit.n s) (arrive p us)
    unfolding ordered_of arrive
    arrived =
        let new = vertices_tied fit.n sorted small sorted_many in
        record {
          options = at.options;
          count = at.count;
          iterations = at.iterations;
          runs = at.runs;
          best = rw (ordered, new.vertex_at_lem p.best 0 zero-le, at.best) (sym (new.better_of (vertex_at sorted 0) s.best));
        }

    pub headed_follows : RelatedMove fit (headed_of fit s v) (settled_move l v (ends (at_head (arrive p us))))
    unfolding headed_of ordered_of arrive
    headed_follows = tested_follows (ordered_of fit.n s) (arrive p us) sorted_many arrived ordered

  -- ---- the worst vertex replaced
  pub replaced_follows : (s : Simplex) (p : SimplexPosition) (u w : Vertex) → length s.v ≡ 17 → AtPosition fit s p → p.vertices ≡ lowered_to fit.n (suc fit.n) s.v
      → w ≡ lowered fit.n u → RelatedMove fit (replaced_of fit s u v) (settled_move l v (ends (replaced p w)))
  unfolding replaced_of
  replaced_follows s p u w many at same e =
      headed_follows (with_vertex s fit.n u) p (but_last p.vertices ++ (w ∷ [])) (length-set s.v fit.n u ∙ many) (carried fit s (with_vertex s fit.n u) p refl refl refl at)
      (rw (same, e) (sym ((vertices_tied fit.n s.v small many).set_last u)))
