-- What holds at the head of every round of a simplex fit, and what it gives: the laws of rounds, and the claim. Definitions and statements only.
use Rattle.std.specs.Prelude.{◌≡◌, Bool, ◌⊎◌, Float}
use mathlib.Core.List.{List, [], Memᴰ}
use Rattle.float.specs.Binary64.{NotAbove}
use Rattle.float.specs.Values.{Finite}
use Rattle.protocol.specs.declared.GradientOptions.{GradientOptions}
use Rattle.protocol.specs.Protocol.{read_of}
use Rattle.protocol.specs.Dialogue.{Exchange, Told}
use Rattle.protocol.specs.Claim.{Claim}
use Rattle.protocol.specs.Ask.{finish}
use Rattle.protocol.specs.Rounds.{fails, go_on, Rounds, engine}
use Rattle.protocol.specs.RoundsLaws.{RoundsLaws}
use Rattle.protocol.specs.Fits.{fits}
use Rattle.neldermead_vertices.specs.declared.Vertex.{Vertex}
use Rattle.neldermead_theory.specs.Algorithm.{SimplexPosition, nelder_mead}

-- the vertex's value is what was read of a word told for its point
abbrev pub VertexTold : List Exchange → Vertex → Type 0
VertexTold es u = (w : Float) × Told es u.x w × (read_of w ≡ u.f)

-- P of each vertex of us
abbrev pub All : (Vertex → Type 0) → List Vertex → Type 0
All P us = (u : Vertex) → Memᴰ u us → P u

-- each value told is not below the best's, or not below that of one of us
abbrev pub Cover : List Exchange → Vertex → List Vertex → Type 0
Cover es b us = (x : List Float) (v : Float) → Told es x v → NotAbove b.f (read_of v) ⊎ ((u : Vertex) × Memᴰ u us × NotAbove u.f (read_of v))

-- the best is told, and finite
abbrev pub BestTold : List Exchange → Vertex → Type 0
BestTold es b = VertexTold es b × Finite b.f

-- at the head p after the exchanges es: all is told, and nothing told is below the best
pub record SimplexAtHead (es : List Exchange) (p : SimplexPosition) : Type 0 where
  pub vertices_told : All (VertexTold es) p.vertices
  pub best_told : BestTold es p.best
  pub cover : Cover es p.best []

-- a simplex fit's f is always the least told
abbrev pub SimplexLaws : Type 1
SimplexLaws = RoundsLaws nelder_mead (λ o. Unit {0})

-- It stands for the gradient fits until they are there: every start is refused.
abbrev pub gradientless : Rounds (Bool × GradientOptions)
gradientless =
    record { Position = ⊥; x = λ p. absurd p; f = λ p. absurd p; iterations = λ p. absurd p; opening = λ s x. finish (fails 2 0); tests = λ p. go_on; round = λ p. absurd p }

-- the mission's 3 of the engine that runs simplex fits alone
abbrev pub SimplexClaim : Type 0
SimplexClaim = Claim (engine (fits nelder_mead gradientless))
