-- What `point` and `slopes` hold is what the reply speaks of, after every answer and every start. Definitions and statements only.
use Rattle.std.specs.Prelude.{ℕ, ◌≡◌, Bool, List, Float}
use Rattle.vector.specs.Lists.{first}
use Rattle.protocol.specs.declared.SimplexOptions.{SimplexOptions}
use Rattle.protocol.specs.declared.GradientOptions.{GradientOptions}
use Rattle.protocol.specs.declared.WolfeOptions.{WolfeOptions}
use Rattle.protocol.specs.declared.Allowances.{Allowances}
use Rattle.protocol.specs.Protocol.{Outcome, fitted, searched, differenced, Reply, ask, ended, refused}
use Rattle.optim_start.specs.Start.{differences_of, simplex_of, search_of, bfgs_of, lbfgs_of}
use Rattle.optim_lists.specs.Layout as place
use Rattle.optim_lists.specs.Lists.{Lists, mark}
use Rattle.optim_lists.specs.Answered.{answered_of, started_of, point_after, slopes_after}

-- the point of a reply is the first n places of p, and a bare job's gradient those of s
abbrev pub EndShown : Outcome → ℕ → List Float → List Float → Type 0
EndShown (fitted r) n p s = r.x ≡ first n p
EndShown (searched r) n p s = (r.x ≡ first n p) × (r.gradient ≡ first n s)
EndShown (differenced g) n p s = g ≡ first n s

abbrev pub Shown : Reply → ℕ → List Float → List Float → Type 0
Shown (ask q) n p s = q.point ≡ first n p
Shown (ended o) n p s = EndShown o n p s
Shown (refused k d) n p s = Unit {0}

-- so after a call, of its reply and the lists that it leaves, whatever `point` and `slopes` held
abbrev pub Shows : Reply × Lists → Type 0
Shows a = (p s : List Float) → Shown a.0 (mark a.1.marks place.n) (point_after a p) (slopes_after a s)

pub record ListsShow : Type 0 where
  pub answer : (l : Lists) (number kind : ℕ) (words : List Float) → Shows (answered_of l number kind words)
  pub simplex : (x : List Float) (o : SimplexOptions) (a : Allowances) → Shows (started_of (simplex_of x o a))
  pub bfgs : (x : List Float) (o : GradientOptions) (a : Allowances) → Shows (started_of (bfgs_of x o a))
  pub lbfgs : (x : List Float) (o : GradientOptions) (a : Allowances) → Shows (started_of (lbfgs_of x o a))
  pub search : (x d : List Float) (f0 : Float) (g : List Float) (step : Float) (o : WolfeOptions) (gradients : Bool) → Shows (started_of (search_of x d f0 g step o gradients))
  pub differences : (x : List Float) → Shows (started_of (differences_of x))
