-- A fit's record with no function in it, of the shape that code can hold: instead of the rest of a text it keeps a place in it. `Steps` is what such a record does, `StepsLaws` what
-- it owes: what a place has still to do, in the words of the text, and that after any answer it has the rest of it to do. Definitions only.
use Rattle.std.specs.Prelude.{ℕ, suc, ◌+◌, ◌≡◌, Bool, true, false, not, ◌&&◌, cond, ◌⊎◌, List, eqb, length, Float}
use Rattle.std.proofs.Common.{inl, inr}
use Rattle.protocol.specs.declared.Kind.{Kind}
use Rattle.protocol.specs.declared.Kind.TheVariants.{Value, Gradient}
use Rattle.protocol.specs.declared.Termination.TheVariants.{MaxIterations, MaxFevals}
use Rattle.protocol.specs.declared.SimplexOptions.{SimplexOptions}
use Rattle.protocol.specs.declared.GradientOptions.{GradientOptions}
use Rattle.protocol.specs.Protocol.{letter, Answer, fitted, Reply, ask, ended, refused, Job, simplex, bfgs, lbfgs, Fit, Engine}
use Rattle.protocol.specs.Dialogue.{wanted, of_kind}
use Rattle.protocol.specs.Ask.{Ask, finish, query}
use Rattle.protocol.specs.PastLimits.{past_limits}
use Rattle.protocol.specs.Rounds.{Ending, at_head, stops, fails, Verdict, go_on, stop, restart, Rounds, FitLimits, reached, limits_of, result_at, question_at}
use Rattle.protocol.specs.Fits.{map_ending, Positions, fits}

-- where a step leads: to a place where a question stands open, or to the text's end
pub data Turn (Place Position : Type 0) : Type 0 where
  still : Place → Turn Place Position
  ends : Ending Position → Turn Place Position

-- what a turn has still to do, by what a place has
abbrev pub text : {Place Position : Type 0} → (Place → Ask (Ending Position)) → Turn Place Position → Ask (Ending Position)
text to_do (still s) = to_do s
text to_do (ends o) = finish o

-- the question that stands open at a place, the step that its answer makes, and the first turns of opening, restart and round
pub record Steps {Start : Type 0} (R : Rounds Start) : Type 1 where
  pub Place : Type 0
  pub kind : Place → Kind
  pub point : Place → List Float
  pub step : Place → List Float → Turn Place R.Position
  pub opening : Start → List Float → Turn Place R.Position
  pub again : R.Position → Turn Place R.Position
  pub round : R.Position → Turn Place R.Position

-- a place asks what its text asks and steps to the rest of it, and the first turns are those of the fit's texts
pub record StepsLaws {Start : Type 0} (R : Rounds Start) (S : Steps R) : Type 0 where
  pub to_do : S.Place → Ask (Ending R.Position)
  pub follows : (s : S.Place) → to_do s ≡ query (S.kind s) (S.point s) (λ w. text to_do (S.step s w))
  pub opens : (j : Start) (x : List Float) → text to_do (S.opening j x) ≡ R.opening j x
  pub restarts : (p : R.Position) (m : Ask (Ending R.Position)) → R.tests p ≡ restart m → text to_do (S.again p) ≡ m
  pub rounds : (p : R.Position) → text to_do (S.round p) ≡ R.round p

-- what the record holds: a place, or an outcome
pub data Held (Place : Type 0) : Type 0 where
  at : Place → Held Place
  closed : Reply → Held Place

-- the record: as `Kept` of the texts, with what is held for the state
pub record Placed (Place : Type 0) : Type 0 where
  pub limits : FitLimits
  pub last : ℕ
  pub values : ℕ
  pub gradients : ℕ
  pub held : Held Place

-- ---- the engine of the places: that of the texts (`Rounds`), with turns for texts

module _ (R : Rounds Job) (S : Steps R) where
  -- where a step of this fit leads
  abbrev pub Turns : Type 0
  Turns = Turn S.Place R.Position

  -- the head of a round, after v accepted values
  abbrev pub allowed_turn : Bool → Bool → R.Position → Turns
  allowed_turn true b p = ends (stops MaxIterations p)
  allowed_turn false true p = ends (stops MaxFevals p)
  allowed_turn false false p = S.round p

  abbrev pub headed_turn : FitLimits → ℕ → Verdict R.Position → R.Position → Turns
  headed_turn l v go_on p = allowed_turn (reached (R.iterations p) l.iter) (reached v l.fevals) p
  headed_turn l v (stop y) p = ends (stops y p)
  headed_turn l v (restart m) p = S.again p

  -- the turn goes on through a head
  abbrev pub settle_turn : FitLimits → ℕ → Turns → Turns
  settle_turn l v (still s) = still s
  settle_turn l v (ends (at_head p)) = headed_turn l v (R.tests p) p
  settle_turn l v (ends (stops y p)) = ends (stops y p)
  settle_turn l v (ends (fails k d)) = ends (fails k d)

  -- the reply and the record, after n accepted answers, v values and g gradients
  abbrev pub placed : FitLimits → ℕ → ℕ → ℕ → Held S.Place → Placed S.Place
  placed l n v g h = record { limits = l; last = n; values = v; gradients = g; held = h }

  abbrev pub close : FitLimits → ℕ → ℕ → ℕ → Reply → Reply × Placed S.Place
  close l n v g y = (y, placed l n v g (closed y))

  abbrev pub put_turn : FitLimits → ℕ → ℕ → ℕ → Turns → Reply × Placed S.Place
  put_turn l n v g (still s) = (ask (question_at R n (S.kind s) (S.point s)), placed l n v g (at s))
  put_turn l n v g (ends (stops y p)) = close l n v g (ended (fitted (result_at R y v g p)))
  put_turn l n v g (ends (fails k d)) = close l n v g (refused k d)
  -- never met: no opening, round or restart is at a head before it has asked
  put_turn l n v g (ends (at_head p)) = close l n v g (refused 1 0)

  -- the question or the outcome that stands
  abbrev pub standing_at : ℕ → Held S.Place → Reply
  standing_at n (at s) = ask (question_at R n (S.kind s) (S.point s))
  standing_at n (closed y) = y

  -- an answer that suits is counted, and makes its step
  abbrev pub accept_at : Placed S.Place → S.Place → Answer → Reply × Placed S.Place
  accept_at r s a =
      let v = r.values + of_kind Value (S.kind s) in
      put_turn r.limits (suc r.last) v (r.gradients + of_kind Gradient (S.kind s)) (settle_turn r.limits v (S.step s a.words))

  -- not a repeat: 15, 16, 17, or accepted
  abbrev pub fresh_at : Placed S.Place → Held S.Place → Answer → Reply × Placed S.Place
  fresh_at r (closed y) a = (refused 15 0, r)
  fresh_at r (at s) a =
      cond (not (eqb a.number (suc r.last))) (refused 16 0, r)
      (cond (not (eqb a.kind (letter (S.kind s)) && eqb (length a.words) (wanted (S.kind s) (S.point s)))) (refused 17 0, r) (accept_at r s a))

  -- a repeat carries the number last accepted; before the first acceptance no number is one
  abbrev pub answer_at : Placed S.Place → Answer → Reply × Placed S.Place
  answer_at r a = cond (not (eqb r.last 0) && eqb a.number r.last) (standing_at r.last r.held, r) (fresh_at r r.held a)

  -- refusal 2 comes before all that the opening refuses
  abbrev pub begun_turn : Fit → Turns
  begun_turn f = cond (past_limits f) (ends (fails 2 0)) (S.opening f.job f.x0)

  abbrev pub start_at : Fit → Reply × Placed S.Place
  start_at f = put_turn (limits_of f) 0 0 0 (begun_turn f)

  -- the engine whose record holds a place
  abbrev pub engine_of_places : Engine
  engine_of_places = record { Record = Placed S.Place; start = start_at; answer = answer_at }

-- ---- two such records as one: a fit is at a place of the one or of the other

-- a turn with its place and its position mapped
abbrev pub map_turn : {S T P Q : Type 0} → (P → Q) → (S → T) → Turn S P → Turn T Q
map_turn f g (still s) = still (g s)
map_turn f g (ends o) = ends (map_ending f o)

module _ (A : Rounds SimplexOptions) (B : Rounds (Bool × GradientOptions)) (SA : Steps A) (SB : Steps B) where
  -- a place of one of the two
  abbrev pub Places : Type 0
  Places = SA.Place ⊎ SB.Place

  abbrev pub kind_of : Places → Kind
  kind_of (inl s) = SA.kind s
  kind_of (inr s) = SB.kind s

  abbrev pub point_of : Places → List Float
  point_of (inl s) = SA.point s
  point_of (inr s) = SB.point s

  abbrev pub step_of : Places → List Float → Turn Places (Positions A B)
  step_of (inl s) w = map_turn inl inl (SA.step s w)
  step_of (inr s) w = map_turn inr inr (SB.step s w)

  -- the turns are those of the job's fit, or of the one that the place or the position is of
  abbrev pub opening_turn : Job → List Float → Turn Places (Positions A B)
  opening_turn (simplex o) x = map_turn inl inl (SA.opening o x)
  opening_turn (bfgs o) x = map_turn inr inr (SB.opening (false, o) x)
  opening_turn (lbfgs o) x = map_turn inr inr (SB.opening (true, o) x)

  abbrev pub again_turn : Positions A B → Turn Places (Positions A B)
  again_turn (inl p) = map_turn inl inl (SA.again p)
  again_turn (inr p) = map_turn inr inr (SB.again p)

  abbrev pub round_turn : Positions A B → Turn Places (Positions A B)
  round_turn (inl p) = map_turn inl inl (SA.round p)
  round_turn (inr p) = map_turn inr inr (SB.round p)

  -- the steps of the fit of any job
  abbrev pub fits_steps : Steps (fits A B)
  fits_steps = record { Place = Places; kind = kind_of; point = point_of; step = step_of; opening = opening_turn; again = again_turn; round = round_turn }
