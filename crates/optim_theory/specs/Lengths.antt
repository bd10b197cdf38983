-- "a point of n coordinates": along every list of answers, every question's point and every outcome's is as long as the list that the start was lent. Definitions and statements only.
use Rattle.std.specs.Prelude.{ℕ, ◌≡◌, length, Float}
use mathlib.Core.List.{List, Memᴰ}
use Rattle.protocol.specs.Protocol.{Question, Answer, Outcome, fitted, searched, differenced, Reply, ask, ended, refused, Fit}
use Rattle.protocol.specs.Dialogue.{Dialogue, run, NotRefused, Started}
use Rattle.optim_record.specs.declared.Record.{Record}
use Rattle.optim_start.specs.Start.{differences_of}
use Rattle.optim_theory.specs.Engine.{code}
use Rattle.optim_theory.specs.Follows.{differences_run}
use Rattle.optim_theory.specs.Search.{SearchStart, search_code, code_run}

-- a result's x, a search's x and gradient, and the gradient that differences give
abbrev pub OutcomeOf : ℕ → Outcome → Type 0
OutcomeOf n (fitted r) = length r.x ≡ n
OutcomeOf n (searched s) = (length s.x ≡ n) × (length s.gradient ≡ n)
OutcomeOf n (differenced g) = length g ≡ n

abbrev pub PointsOf : ℕ → Reply → Type 0
PointsOf n (ask q) = length q.point ≡ n
PointsOf n (ended o) = OutcomeOf n o
PointsOf n (refused k d) = Unit {0}

-- of every reply so far, repeated ones too, and of every question put
pub record AllOf (n : ℕ) (d : Dialogue Record) : Type 0 where
  pub replies : (y : Reply) → Memᴰ y d.replies → PointsOf n y
  pub questions : (q : Question) → Memᴰ q d.questions → length q.point ≡ n

pub record Lengths : Type 0 where
  pub fits : (f : Fit) (l : List Answer) → Started code f → AllOf (length f.x0) (run code f l)
  pub search : (s : SearchStart) (l : List Answer) → NotRefused (search_code s).0 → AllOf (length s.x) (code_run s l)
  pub differences : (x : List Float) (l : List Answer) → NotRefused (differences_of x).0 → AllOf (length x) (differences_run x l)
