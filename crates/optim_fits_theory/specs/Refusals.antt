-- Which refusals can end a fit, job by job: what its texts owe, and what then holds of every reply along every list of answers. Definitions and statements only.
use Rattle.std.specs.Prelude.{ℕ, ◌≡◌, ◌⊎◌, Float}
use mathlib.Core.List.{List, [], Memᴰ}
use Rattle.protocol.specs.Protocol.{Answer, Reply, ask, ended, refused, Job, simplex, bfgs, lbfgs, Fit}
use Rattle.protocol.specs.Calls.{SearchRefusal, FirstRefusal}
use Rattle.protocol.specs.Dialogue.{Exchange, GivenF64s, Started, run}
use Rattle.protocol.specs.Ask.{Ask, finish, query, wp}
use Rattle.protocol.specs.Rounds.{Ending, at_head, stops, fails, restart, Rounds, engine}
use Rattle.protocol.specs.RoundsLaws.{Begins}

-- the refusals that end a fit that was started: a simplex fit 20, a gradient fit 6, 7, 12 for x, 18 or 19
abbrev pub EndedBy : Job → ℕ → ℕ → Type 0
EndedBy (simplex o) k d = (k ≡ 20) × (d ≡ 0)
EndedBy (bfgs o) k d = SearchRefusal k d ⊎ FirstRefusal k d
EndedBy (lbfgs o) k d = SearchRefusal k d ⊎ FirstRefusal k d

-- a reply to a fit of the job j that was started, where P j k d says which refusals may end it: if it is refused, then with 15, 16, 17 or one of these
abbrev pub Replied : (Job → ℕ → ℕ → Type 0) → Job → Reply → Type 0
Replied P j (ask q) = Unit {0}
Replied P j (ended o) = Unit {0}
Replied P j (refused k d) = P j k d ⊎ ((d ≡ 0) × ((k ≡ 15) ⊎ ((k ≡ 16) ⊎ (k ≡ 17))))

-- `P j k d`: the refusal k with the detail d may end a fit of the job j
module _ (R : Rounds Job) (P : Job → ℕ → ℕ → Type 0) where
  abbrev pub EndsBy : (Job → List Exchange → R.Position → Type 0) → Job → List Exchange → Ending R.Position → Type 0
  EndsBy Head j es (at_head p) = Head j es p
  EndsBy Head j es (stops y p) = Unit {0}
  EndsBy Head j es (fails k d) = P j k d

  -- an opening is refused, by whatever number, or asks
  abbrev pub OpensBy : (Job → List Exchange → R.Position → Type 0) → Job → Ask (Ending R.Position) → Type 0
  OpensBy Head j (query k x c) = wp [] (query k x c) (EndsBy Head j)
  OpensBy Head j (finish (at_head p)) = ⊥
  OpensBy Head j (finish (stops y p)) = ⊥
  OpensBy Head j (finish (fails k d)) = Unit {0}

  pub record FailsLaws : Type 1 where
    -- `Head j es p`: a fit of the job j may be at the head p after the exchanges es
    pub Head : Job → List Exchange → R.Position → Type 0
    pub opening_by : (j : Job) (x : List Float) → OpensBy Head j (R.opening j x)
    pub restart_by : (j : Job) (es : List Exchange) (p : R.Position) (m : Ask (Ending R.Position)) → Head j es p → R.tests p ≡ restart m → Begins m × wp es m (EndsBy Head j)
    pub round_by : (j : Job) (es : List Exchange) (p : R.Position) → Head j es p → Begins (R.round p) × wp es (R.round p) (EndsBy Head j)

  abbrev pub RefusedBy : Type 0
  RefusedBy = (f : Fit) (l : List Answer) → Started (engine R) f → GivenF64s l → (y : Reply) → Memᴰ y (run (engine R) f l).replies → Replied P f.job y
