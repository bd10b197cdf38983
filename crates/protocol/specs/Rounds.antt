-- An engine out of a fit in direct style. A fit is an opening, and rounds that begin at a head: each is a text that asks (`Ask`), and ends at the next head, stops the fit
-- for a reason, or fails with a refusal. At the head stand the fit's own tests: go on, stop, or restart by a text that leads to the next head. Then come the tests of max_iter
-- and max_fevals, here (`headed`) and nowhere else, and then the round. The engine adds what every fit has: the number last accepted, repeats, refusals 15 to 17, and the
-- counts of accepted answers. Definitions only.
use Rattle.std.specs.Prelude.{ℕ, suc, ◌+◌, Bool, true, false, not, ◌&&◌, cond, List, leb, eqb, length, Float}
use Rattle.protocol.specs.declared.Kind.{Kind}
use Rattle.protocol.specs.declared.Kind.TheVariants.{Value, Gradient}
use Rattle.protocol.specs.declared.Termination.{Termination}
use Rattle.protocol.specs.declared.Termination.TheVariants.{MaxIterations, MaxFevals}
use Rattle.protocol.specs.Protocol.{letter, Question, Answer, converges, Result, fitted, Reply, ask, ended, refused, Job, Fit, Engine}
use Rattle.protocol.specs.Dialogue.{wanted, of_kind}
use Rattle.protocol.specs.Claim.{Limit, limit, unlimited, iter_allowance, fevals_allowance}
use Rattle.protocol.specs.Ask.{Ask, finish, query}
use Rattle.protocol.specs.PastLimits.{past_limits}

-- how a text of a fit ends
pub data Ending (Position : Type 0) : Type 0 where
  at_head : Position → Ending Position
  stops : Termination → Position → Ending Position
  fails : ℕ → ℕ → Ending Position

-- what the tests at the head of a round say
pub data Verdict (Position : Type 0) : Type 0 where
  go_on : Verdict Position
  stop : Termination → Verdict Position
  restart : Ask (Ending Position) → Verdict Position

-- A position stands at the head of a round: the point and the value that a result would have, and the iterations so far.
pub record Rounds (Start : Type 0) : Type 1 where
  pub Position : Type 0
  pub x : Position → List Float
  pub f : Position → Float
  pub iterations : Position → ℕ
  -- from a start to the head of the first round; a refused start fails without a question
  pub opening : Start → List Float → Ask (Ending Position)
  pub tests : Position → Verdict Position
  pub round : Position → Ask (Ending Position)

pub record FitLimits : Type 0 where
  pub iter : Limit
  pub fevals : Limit

abbrev pub reached : ℕ → Limit → Bool
reached k (limit n) = leb n k
reached k unlimited = false

abbrev pub limits_of : Fit → FitLimits
limits_of f = record { iter = iter_allowance f; fevals = fevals_allowance f }

-- what a record holds: an open question with the rest of the text, or an outcome
pub data State (Position : Type 0) : Type 0 where
  open_at : Kind → List Float → (List Float → Ask (Ending Position)) → State Position
  over : Reply → State Position

pub record Kept (Position : Type 0) : Type 0 where
  pub limits : FitLimits
  pub last : ℕ
  pub values : ℕ
  pub gradients : ℕ
  pub state : State Position

module _ (R : Rounds Job) where
  abbrev pub result_at : Termination → ℕ → ℕ → R.Position → Result
  result_at y v g p = record { reason = y; converged = converges y; iterations = R.iterations p; fevals = v; gevals = g; f = R.f p; x = R.x p }

  -- ---- the head of a round, after v accepted values

  abbrev pub allowed : Bool → Bool → R.Position → Ask (Ending R.Position)
  allowed true b p = finish (stops MaxIterations p)
  allowed false true p = finish (stops MaxFevals p)
  allowed false false p = R.round p

  abbrev pub headed : FitLimits → ℕ → Verdict R.Position → R.Position → Ask (Ending R.Position)
  headed l v go_on p = allowed (reached (R.iterations p) l.iter) (reached v l.fevals) p
  headed l v (stop y) p = finish (stops y p)
  headed l v (restart m) p = m

  -- the text goes on through a head
  abbrev pub settle : FitLimits → ℕ → Ask (Ending R.Position) → Ask (Ending R.Position)
  settle l v (query k x c) = query k x c
  settle l v (finish (at_head p)) = headed l v (R.tests p) p
  settle l v (finish (stops y p)) = finish (stops y p)
  settle l v (finish (fails k d)) = finish (fails k d)

  -- ---- the reply and the record, after n accepted answers, v values and g gradients

  abbrev pub question_at : ℕ → Kind → List Float → Question
  question_at n k x = record { number = suc n; kind = k; point = x }

  abbrev pub kept : FitLimits → ℕ → ℕ → ℕ → State R.Position → Kept R.Position
  kept l n v g s = record { limits = l; last = n; values = v; gradients = g; state = s }

  abbrev pub put : FitLimits → ℕ → ℕ → ℕ → Ask (Ending R.Position) → Reply × Kept R.Position
  put l n v g (query k x c) = (ask (question_at n k x), kept l n v g (open_at k x c))
  put l n v g (finish (stops y p)) = (ended (fitted (result_at y v g p)), kept l n v g (over (ended (fitted (result_at y v g p)))))
  put l n v g (finish (fails k d)) = (refused k d, kept l n v g (over (refused k d)))
  -- never met: no opening, round or restart is at a head before it has asked
  put l n v g (finish (at_head p)) = (refused 1 0, kept l n v g (over (refused 1 0)))

  abbrev pub standing : ℕ → State R.Position → Reply
  standing n (open_at k x c) = ask (question_at n k x)
  standing n (over y) = y

  abbrev pub accept : Kept R.Position → Kind → (List Float → Ask (Ending R.Position)) → Answer → Reply × Kept R.Position
  accept r k c a =
      let v = r.values + of_kind Value k in
      put r.limits (suc r.last) v (r.gradients + of_kind Gradient k) (settle r.limits v (c a.words))

  -- not a repeat: 15, 16, 17, or accepted
  abbrev pub fresh : Kept R.Position → State R.Position → Answer → Reply × Kept R.Position
  fresh r (over y) a = (refused 15 0, r)
  fresh r (open_at k x c) a =
      cond (not (eqb a.number (suc r.last))) (refused 16 0, r)
      (cond (not (eqb a.kind (letter k) && eqb (length a.words) (wanted k x))) (refused 17 0, r) (accept r k c a))

  -- a repeat carries the number last accepted; before the first acceptance no number is one
  abbrev pub is_repeat : Kept R.Position → Answer → Bool
  is_repeat r a = not (eqb r.last 0) && eqb a.number r.last

  abbrev pub answer_to : Kept R.Position → Answer → Reply × Kept R.Position
  answer_to r a = cond (is_repeat r a) (standing r.last r.state, r) (fresh r r.state a)

  -- refusal 2 comes before all that the opening refuses
  abbrev pub begun : Fit → Ask (Ending R.Position)
  begun f = cond (past_limits f) (finish (fails 2 0)) (R.opening f.job f.x0)

  abbrev pub engine : Engine
  engine = record { Record = Kept R.Position; start = λ f. put (limits_of f) 0 0 0 (begun f); answer = answer_to }
