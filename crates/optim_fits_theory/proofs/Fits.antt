-- THE MISSION'S 3 of the engine of all three fits (`mission`), with 01's four bounds on its questions and the refusals that a started fit can meet (`fits_claim`). Assumes nothing.
use Prim.Native.Nat.{ℕ}
use native.Mathlib.Omega.{arith}
use mathlib.Core.Path.{◌≡◌, sym, subst₂}
use mathlib.Core.Logic.{⊎_elim}
use lib.Dec.{T, eqb}
use mathlib.Core.Bool.{Bool, true, false, ◌&&◌, ◌||◌}
use Rattle.protocol.specs.Protocol.{refused, Job, simplex, bfgs, lbfgs}
use Rattle.protocol.specs.Calls.{ends_fit}
use Rattle.protocol.specs.Claim.{IsSimplex, Claim}
use Rattle.protocol.specs.RoundsLaws.{RoundsLaws}
use Rattle.protocol.proofs.FitsLaws.{fits_laws}
use Rattle.protocol.proofs.RoundsClaim.{claim_of_rounds}
use Rattle.protocol.proofs.Counts.{counted}
use Rattle.neldermead_theory.specs.Algorithm.{nelder_mead}
use Rattle.neldermead_theory.proofs.Laws.{laws as simplex_laws}
use Rattle.neldermead_theory.proofs.Counts.{counts as simplex_counts}
use Rattle.quasinewton_theory.specs.Algorithm.{quasi_newton}
use Rattle.quasinewton_theory.proofs.Laws.{ends_fit_lem, first_ends_fit, laws as gradient_laws}
use Rattle.quasinewton_theory.proofs.Counts.{counts as gradient_counts}
use Rattle.optim_fits_theory.specs.Refusals.{RefusedBy, EndedBy}
use Rattle.optim_fits_theory.specs.Fits.{all_fits, reference, NeverMet, FitsClaim}
use Rattle.optim_fits_theory.proofs.RefusalsLists.{refused_by_lem}
use Rattle.optim_fits_theory.proofs.Refusals.{fails_laws}

pub all_laws : RoundsLaws all_fits IsSimplex
all_laws = fits_laws nelder_mead quasi_newton simplex_laws gradient_laws

pub mission : Claim reference
mission = claim_of_rounds all_fits all_laws

refusals : RefusedBy all_fits EndedBy
refusals = refused_by_lem all_fits EndedBy fails_laws

-- ---- refusals that are never met

ends : (j : Job) (k d : ℕ) → EndedBy j k d → T (ends_fit k d)
ends (simplex o) k d h = subst₂ (λ (i j : ℕ). T (ends_fit i j)) (sym h.0) (sym h.1) tt
ends (bfgs o) k d h = ⊎_elim (ends_fit_lem k d) (first_ends_fit k d) h
ends (lbfgs o) k d h = ⊎_elim (ends_fit_lem k d) (first_ends_fit k d) h

-- k ends no fit, and is none of 15 to 17
never : (k : ℕ) → ((d : ℕ) → T (ends_fit k d) → ⊥) → (k ≡ 15 → ⊥) → (k ≡ 16 → ⊥) → (k ≡ 17 → ⊥) → NeverMet k
never k none a b c f l d s w m =
    ⊎_elim (λ h. none d (ends f.job k d h)) (λ h. ⊎_elim a (λ i. ⊎_elim b c i) h.1) (refusals f l s w (refused k d) m)

neither : (a b : Bool) → T ((a && false) || (b && false)) → ⊥
neither true true h = h
neither true false h = h
neither false true h = h
neither false false h = h

never_13 : NeverMet 13
never_13 = never 13 (λ d. neither (eqb d 0) (eqb d 1)) (λ e. omega arith) (λ e. omega arith) (λ e. omega arith)

never_14 : NeverMet 14
never_14 = never 14 (λ d. neither (eqb d 0) (eqb d 1)) (λ e. omega arith) (λ e. omega arith) (λ e. omega arith)

pub fits_claim : FitsClaim
fits_claim =
    record {
      mission = mission;
      simplex_questions = simplex_counts quasi_newton;
      gradient_questions = gradient_counts nelder_mead;
      counted = counted all_fits;
      refusals = refusals;
      never_13 = never_13;
      never_14 = never_14;
    }
