-- How many questions a simplex fit puts. 01: "Simplex: at most M+(R+1)(n+1), and at most (R+1)(n+1)+I(n+2)", with M and I its allowances, R restarts and n unknowns. Statements only.
use Rattle.std.specs.Prelude.{ℕ, suc, ◌+◌, ◌*◌, ◌≤◌, ◌≡◌, Bool, List, length, Float}
use Rattle.protocol.specs.declared.Kind.TheVariants.{Value, Gradient}
use Rattle.protocol.specs.declared.SimplexOptions.{SimplexOptions}
use Rattle.protocol.specs.declared.GradientOptions.{GradientOptions}
use Rattle.protocol.specs.Protocol.{Answer, simplex, Fit}
use Rattle.protocol.specs.Dialogue.{run}
use Rattle.protocol.specs.Claim.{limit, iter_allowance, fevals_allowance}
use Rattle.protocol.specs.Rounds.{Rounds, FitLimits, engine}
use Rattle.protocol.specs.Bounds.{BoundLaws}
use Rattle.protocol.specs.Fits.{fits}
use Rattle.neldermead_theory.specs.Algorithm.{nelder_mead}

-- M+(R+1)(n+1)
abbrev pub by_fevals : ℕ → SimplexOptions → List Float → ℕ
by_fevals M o x = M + suc o.restarts * suc (length x)

-- (R+1)(n+1)+I(n+2)
abbrev pub by_iterations : ℕ → SimplexOptions → List Float → ℕ
by_iterations I o x = suc o.restarts * suc (length x) + I * suc (suc (length x))

-- the laws of both bounds, and that no gradient is asked for
pub record SimplexBounds : Type 1 where
  pub by_fevals_lem : (o : SimplexOptions) (x : List Float) (l : FitLimits) (M : ℕ) → l.fevals ≡ limit M → BoundLaws nelder_mead Value (by_fevals M o x) l o x
  pub by_iterations_lem : (o : SimplexOptions) (x : List Float) (l : FitLimits) (I : ℕ) → l.iter ≡ limit I → BoundLaws nelder_mead Value (by_iterations I o x) l o x
  pub no_gradients : (o : SimplexOptions) (x : List Float) (l : FitLimits) → BoundLaws nelder_mead Gradient 0 l o x

-- both bounds on all the questions that a simplex fit puts, whatever is answered, and whatever the other fits of the engine are
pub record SimplexCounts (B : Rounds (Bool × GradientOptions)) : Type 0 where
  pub by_fevals_lem : (f : Fit) (o : SimplexOptions) (M : ℕ) → f.job ≡ simplex o → fevals_allowance f ≡ limit M
      → (l : List Answer) → length (run (engine (fits nelder_mead B)) f l).questions ≤ by_fevals M o f.x0
  pub by_iterations_lem : (f : Fit) (o : SimplexOptions) (I : ℕ) → f.job ≡ simplex o → iter_allowance f ≡ limit I
      → (l : List Answer) → length (run (engine (fits nelder_mead B)) f l).questions ≤ by_iterations I o f.x0
