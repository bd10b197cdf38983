-- The engine of all three fits, simplex, bfgs and lbfgs, as their Algorithms have them, and what is claimed of it: the mission's 3, 01's four bounds on questions, the counts of
-- answers, and the refusals that a started fit can meet. Definitions and statements only.
use Rattle.std.specs.Prelude.{ℕ}
use mathlib.Core.List.{List, Memᴰ}
use Rattle.protocol.specs.Protocol.{Answer, refused, Job, Fit, Engine}
use Rattle.protocol.specs.Dialogue.{GivenF64s, Started, run}
use Rattle.protocol.specs.Claim.{Claim}
use Rattle.protocol.specs.Rounds.{Rounds, engine}
use Rattle.protocol.specs.Counts.{Counted}
use Rattle.protocol.specs.Fits.{fits}
use Rattle.neldermead_theory.specs.Algorithm.{nelder_mead}
use Rattle.neldermead_theory.specs.Counts.{SimplexCounts}
use Rattle.quasinewton_theory.specs.Algorithm.{quasi_newton}
use Rattle.quasinewton_theory.specs.Counts.{GradientCounts}
use Rattle.optim_fits_theory.specs.Refusals.{RefusedBy, EndedBy}

abbrev pub all_fits : Rounds Job
all_fits = fits nelder_mead quasi_newton

abbrev pub reference : Engine
reference = engine all_fits

-- no reply to a fit that was started is refused with k, whatever is told
abbrev pub NeverMet : ℕ → Type 0
NeverMet k = (f : Fit) (l : List Answer) (d : ℕ) → Started reference f → GivenF64s l → Memᴰ (refused k d) (run reference f l).replies → ⊥

pub record FitsClaim : Type 0 where
  -- the mission's 3
  pub mission : Claim reference
  -- M+(R+1)(n+1) and (R+1)(n+1)+I(n+2)
  pub simplex_questions : SimplexCounts quasi_newton
  -- 1+I·E of each kind, and (1+2n)(1+I·E)
  pub gradient_questions : GradientCounts nelder_mead
  pub counted : Counted all_fits
  pub refusals : RefusedBy all_fits EndedBy
  -- "no fit that was started meets any but 6, 7 and 12 detail 1" of what a search tests
  pub never_13 : NeverMet 13
  pub never_14 : NeverMet 14
