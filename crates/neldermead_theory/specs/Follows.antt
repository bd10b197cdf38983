-- The record of the simplex follows the phases over lists, whatever is told: what ties the two, that it lasts under every answer, and that the arrays keep their sizes and their
-- zeros. Definitions and statements only.
use Rattle.std.specs.Prelude.{ℕ, ◌≤◌, ◌<◌, suc, ◌≡◌, Bool, true, false, cond, List, [], ◌∷◌, eqb, length, drop, Float}
use Rattle.std.proofs.Common.{inl}
use Rattle.vector.specs.Lists.{first}
use Rattle.vector.specs.Ties.{ZeroFrom}
use Rattle.protocol.specs.declared.GradientOptions.{GradientOptions}
use Rattle.protocol.specs.declared.Termination.{Termination}
use Rattle.protocol.specs.declared.Termination.TheVariants.{GradientTolerance, SimplexTolerance, StepTolerance, FunctionTolerance, MaxIterations, MaxFevals, LineSearchFailed, GradientFailed, ObjectiveResolution}
use Rattle.protocol.specs.Protocol.{read_of}
use Rattle.protocol.specs.Claim.{limit}
use Rattle.protocol.specs.Rounds.{at_head, stops, fails, Verdict, go_on, stop, restart, Rounds, FitLimits, reached}
use Rattle.protocol.specs.Fits.{fits}
use Rattle.protocol.specs.Places.{still, ends, Steps, settle_turn, map_turn, fits_steps}
use Rattle.neldermead_vertices.specs.declared.Vertex.{Vertex}
use Rattle.neldermead.specs.declared.Fixed.{Fixed}
use Rattle.neldermead.specs.declared.Simplex.{Simplex}
use Rattle.neldermead_theory.specs.Algorithm.{SimplexPosition, vertex, centroid, corners, tests, nowhere, nelder_mead}
use Rattle.neldermead_theory.specs.Phases.{Phase, building, reflecting, expanding, outside, inside, shrinking, point_of, Move, drawn, step_of, build_at, simplex_steps}
use Rattle.neldermead_vertices.specs.Vertices.{vertex_at}
use Rattle.neldermead.specs.Step.{building as building_mark, reflecting as reflecting_mark, expanding as expanding_mark, contracting_outside, contracting_inside, shrinking as shrinking_mark, by_tolerance, by_resolution, by_simplex_iterations, by_simplex_fevals, not_finite, told_of, start_of}
use Rattle.neldermead_theory.specs.Ties.{lowered, lowered_to}

-- ---- what holds of the arrays

-- P holds of every point in the record
pub record EveryPoint (P : List Float → Type 0) (s : Simplex) : Type 0 where
  pub x : P s.x
  pub best : P s.best.x
  pub cen : P s.cen
  pub refl : P s.refl.x
  pub vertices : (i : ℕ) → i < 17 → P (vertex_at s.v i).x

-- from 1 to 16 unknowns, seventeen vertices, sixteen coordinates of each point, and the vertex that is asked for is one of the simplex
pub record SimplexShaped (n : ℕ) (s : Simplex) : Type 0 where
  pub positive : 1 ≤ n
  pub small : n ≤ 16
  pub within : s.at ≤ n
  pub many : length s.v ≡ 17
  pub points : EveryPoint (λ x. length x ≡ 16) s

-- ---- what ties the record to a phase

-- the mark of a phase
abbrev pub mark_of : Phase → ℕ
mark_of (building p us x xs) = building_mark
mark_of (reflecting p) = reflecting_mark
mark_of (expanding p r) = expanding_mark
mark_of (outside p r) = contracting_outside
mark_of (inside p) = contracting_inside
mark_of (shrinking p us x xs) = shrinking_mark

-- the position of a phase
abbrev pub position_of : Phase → SimplexPosition
position_of (building p us x xs) = p
position_of (reflecting p) = p
position_of (expanding p r) = p
position_of (outside p r) = p
position_of (inside p) = p
position_of (shrinking p us x xs) = p

-- the point about which a simplex is built: the first vertex, or the open point until that is told
abbrev pub seed_of : Simplex → List Float
seed_of s = cond (eqb s.at 0) s.x (vertex_at s.v 0).x

module _ (fit : Fixed) (s : Simplex) where
  -- options, count of unknowns, iterations, runs and best vertex of p are those of the fit and its record
  pub record AtPosition (p : SimplexPosition) : Type 0 where
    pub options : p.options ≡ fit.options
    pub count : p.n ≡ fit.n
    pub iterations : p.iterations ≡ s.rounds
    pub runs : p.runs ≡ s.runs
    pub best : p.best ≡ lowered fit.n s.best

  -- us are the vertices told, and xs the corners of the seed that are still to come
  pub record InBuild (us : List Vertex) (xs : List (List Float)) : Type 0 where
    pub told : us ≡ lowered_to fit.n s.at s.v
    pub left : xs ≡ drop s.at (corners fit.options.step [] (first fit.n (seed_of s)))

  -- the simplex and its centroid are those of p
  pub record InRound (p : SimplexPosition) : Type 0 where
    pub vertices : p.vertices ≡ lowered_to fit.n (suc fit.n) s.v
    pub middle : first fit.n s.cen ≡ centroid p

  -- and the reflected point is r
  pub record InTrial (p : SimplexPosition) (r : Vertex) : Type 0 where
    pub round : InRound p
    pub trial : r ≡ lowered fit.n s.refl

  -- the best vertex and those from `at` on are still p's, us are those told between them, and xs the drawn points that are still to come
  pub record InShrink (p : SimplexPosition) (us : List Vertex) (xs : List (List Float)) : Type 0 where
    pub some : 1 ≤ s.at
    pub many : length p.vertices ≡ suc fit.n
    pub least : vertex p 0 ≡ lowered fit.n (vertex_at s.v 0)
    pub told : vertex p 0 ∷ us ≡ lowered_to fit.n s.at s.v
    pub old : (i : ℕ) → s.at ≤ i → i ≤ fit.n → vertex p i ≡ lowered fit.n (vertex_at s.v i)
    pub left : xs ≡ drop s.at (drawn p)

  -- what a phase holds beside its position and its point
  abbrev pub InPhase : Phase → Type 0
  InPhase (building p us x xs) = InBuild us xs
  InPhase (reflecting p) = InRound p
  InPhase (expanding p r) = InTrial p r
  InPhase (outside p r) = InTrial p r
  InPhase (inside p) = InRound p
  InPhase (shrinking p us x xs) = InShrink p us xs

  -- the record is at the phase
  pub record Related (ph : Phase) : Type 0 where
    pub mark : s.phase ≡ mark_of ph
    pub point : first fit.n s.x ≡ point_of ph
    pub position : AtPosition (position_of ph)
    pub holds : InPhase ph

  -- the mark is that of the reason; a simplex fit has no other
  abbrev pub StoppedBy : Termination → Type 0
  StoppedBy SimplexTolerance = s.phase ≡ by_tolerance
  StoppedBy ObjectiveResolution = s.phase ≡ by_resolution
  StoppedBy MaxIterations = s.phase ≡ by_simplex_iterations
  StoppedBy MaxFevals = s.phase ≡ by_simplex_fevals
  StoppedBy GradientTolerance = ⊥
  StoppedBy StepTolerance = ⊥
  StoppedBy FunctionTolerance = ⊥
  StoppedBy LineSearchFailed = ⊥
  StoppedBy GradientFailed = ⊥

  -- the record has stopped at p
  pub record Stopped (y : Termination) (p : SimplexPosition) : Type 0 where
    pub mark : StoppedBy y
    pub iterations : p.iterations ≡ s.rounds
    pub best : p.best ≡ lowered fit.n s.best

  -- of a simplex that is built no value is finite: refusal 20
  pub record SimplexFailed (k d : ℕ) : Type 0 where
    pub mark : s.phase ≡ not_finite
    pub refusal : k ≡ 20
    pub detail : d ≡ 0

  -- the record is where a turn leads that has gone on through its head
  abbrev pub RelatedMove : Move → Type 0
  RelatedMove (still ph) = Related ph
  RelatedMove (ends (stops y p)) = Stopped y p
  RelatedMove (ends (fails k d)) = SimplexFailed k d
  RelatedMove (ends (at_head p)) = ⊥

-- ---- a turn goes on through the head, after v accepted values

-- tests of max_iter and max_fevals, then the round
abbrev pub allowed_move : Bool → Bool → SimplexPosition → Move
allowed_move true b p = ends (stops MaxIterations p)
allowed_move false true p = ends (stops MaxFevals p)
allowed_move false false p = simplex_steps.round p

-- by what the fit's own tests say
abbrev pub headed_move : FitLimits → ℕ → Verdict SimplexPosition → SimplexPosition → Move
headed_move l v go_on p = allowed_move (reached p.iterations l.iter) (reached v l.fevals) p
headed_move l v (stop y) p = ends (stops y p)
headed_move l v (restart m) p = simplex_steps.again p

-- the turn goes on
abbrev pub settled_move : FitLimits → ℕ → Move → Move
settled_move l v (still ph) = still ph
settled_move l v (ends (at_head p)) = headed_move l v (tests p) p
settled_move l v (ends (stops y p)) = ends (stops y p)
settled_move l v (ends (fails k d)) = ends (fails k d)

-- it is protocol's `settle_turn` of the fit of any job, at a turn of the simplex's
abbrev pub SimplexSettlesAsFits : Type 1
SimplexSettlesAsFits =
    (B : Rounds (Bool × GradientOptions)) (SB : Steps B) (l : FitLimits) (v : ℕ) (t : Move)
    → settle_turn (fits nelder_mead B) (fits_steps nelder_mead B simplex_steps SB) l v (map_turn inl inl t) ≡ map_turn inl inl (settled_move l v t)

-- ---- the record follows

-- the limits are the allowances that the start fixed
pub record SimplexAllows (fit : Fixed) (l : FitLimits) : Type 0 where
  pub iter : l.iter ≡ limit fit.iter
  pub fevals : l.fevals ≡ limit fit.fevals

pub record SimplexFollows : Type 0 where
  -- the start is at the first question of a simplex about the point
  pub starts : (fit : Fixed) (x : List Float) → RelatedMove fit (start_of x) (build_at (nowhere fit.options (first fit.n x)) (first fit.n x))
  -- whatever word w is told, and after whatever count v
  pub follows : (fit : Fixed) (l : FitLimits) (s : Simplex) (ph : Phase) → SimplexAllows fit l → SimplexShaped fit.n s → Related fit s ph
      → (w : Float) (v : ℕ) → RelatedMove fit (told_of fit s (read_of w) v) (settled_move l v (step_of ph (w ∷ [])))
  -- sizes last, and every coordinate past n is +0.0
  pub start_shaped : (n : ℕ) (x : List Float) → 1 ≤ n → n ≤ 16 → length x ≡ 16 → SimplexShaped n (start_of x)
  pub told_shaped : (fit : Fixed) (s : Simplex) (f : Float) (v : ℕ) → SimplexShaped fit.n s → SimplexShaped fit.n (told_of fit s f v)
  pub start_zeros : (n : ℕ) (x : List Float) → ZeroFrom n x → EveryPoint (ZeroFrom n) (start_of x)
  pub told_zeros : (fit : Fixed) (s : Simplex) (f : Float) (v : ℕ) → SimplexShaped fit.n s → EveryPoint (ZeroFrom fit.n) s → EveryPoint (ZeroFrom fit.n) (told_of fit s f v)
