-- The engine that runs simplex fits alone satisfies the mission's 3 (`claim`), and puts no more questions than 01 allows (`at_most`). Assumes nothing.
use Rattle.protocol.specs.RoundsLaws.{RoundsLaws}
use Rattle.protocol.specs.Fits.{fits}
use Rattle.protocol.proofs.FitsLaws.{fits_laws}
use Rattle.protocol.proofs.RoundsClaim.{claim_of_rounds}
use Rattle.neldermead_theory.specs.Algorithm.{nelder_mead}
use Rattle.neldermead_theory.specs.Laws.{gradientless, SimplexClaim}
use Rattle.neldermead_theory.specs.Counts.{SimplexCounts}
use Rattle.neldermead_theory.proofs.Laws.{laws}
use Rattle.neldermead_theory.proofs.Counts.{counts}

-- a fit without a position owes nothing
gradientless_laws : RoundsLaws gradientless (λ s. ⊥)
gradientless_laws =
    record {
      At = λ s es p. ⊥;
      known = λ s es p a. absurd a;
      opening_ok = λ s x. tt;
      stop_ok = λ s es p y a e. absurd a;
      restart_ok = λ s es p m a e. absurd a;
      round_ok = λ s es p a. absurd a;
    }

pub claim : SimplexClaim
claim = claim_of_rounds (fits nelder_mead gradientless) (fits_laws nelder_mead gradientless laws gradientless_laws)

pub at_most : SimplexCounts gradientless
at_most = counts gradientless
