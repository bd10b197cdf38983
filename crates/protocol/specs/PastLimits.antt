-- Refusal 2 of the three fits. 01: "A lent list or memory is above 16, an allowance above 1,000,000, max_evals above 1,000 or restarts above 100"; bfgs ignores memory. Definitions only.
use Rattle.std.specs.Prelude.{ℕ, Bool, false, ◌||◌, Option, None, Some, ltb, length}
use Rattle.protocol.specs.Protocol.{Job, simplex, bfgs, lbfgs, Fit}

-- an allowance, where it is given
abbrev pub excess : Option ℕ → Bool
excess None = false
excess (Some k) = ltb 1000000 k

-- what else a job lends
abbrev pub options_past : Job → Bool
options_past (simplex o) = ltb 100 o.restarts
options_past (bfgs o) = ltb 1000 o.wolfe.evals
options_past (lbfgs o) = ltb 1000 o.wolfe.evals || ltb 16 o.memory

abbrev pub past_limits : Fit → Bool
past_limits f = ltb 16 (length f.x0) || (excess f.allowances.iter || (excess f.allowances.fevals || options_past f.job))
