-- The options of the Rust's `impl Default`, each f64 by its bits. Definitions only.
use Rattle.std.specs.Prelude.{true, false}
use Rattle.float.specs.Binary64.{bits, plus_zero}
use Rattle.c_api.specs.declared.options.Allowances.{Allowances}
use Rattle.protocol.specs.declared.SimplexOptions.{SimplexOptions}
use Rattle.protocol.specs.declared.WolfeOptions.{WolfeOptions}
use Rattle.protocol.specs.declared.GradientOptions.{GradientOptions}

-- `NelderMeadOptions` of neldermead.rs: 1e-8, 1e-8 and 0.05
unfoldable pub default_simplex : SimplexOptions
default_simplex = record { xtol = bits 0x3e45_798e_e230_8c3a; ftol = bits 0x3e45_798e_e230_8c3a; step = bits 0x3fa9_9999_9999_999a; restarts = 0; adaptive = true }

-- `WolfeOptions` of linesearch.rs: 1e-4, 0.9 and 1e10
unfoldable pub default_wolfe : WolfeOptions
default_wolfe = record { c1 = bits 0x3f1a_36e2_eb1c_432d; c2 = bits 0x3fec_cccc_cccc_cccd; stepmax = bits 0x4202_a05f_2000_0000; evals = 30 }

-- `BfgsOptions` and `LbfgsOptions` of quasinewton.rs: 1e-8, and a memory of 10, which bfgs passes over. Gradients are no option there: objective.rs has "The analytic gradient at `x`, or
-- `None` if unavailable", and `None` is "the default".
unfoldable pub default_gradient : GradientOptions
unfolding default_wolfe
default_gradient = record { gradtol = bits 0x3e45_798e_e230_8c3a; ftol = plus_zero; xtol = plus_zero; wolfe = default_wolfe; memory = 10; gradients = false }

-- max_iter and max_fevals of all three: `None`
unfoldable pub default_allowances : Allowances
default_allowances = record { iter = record { given = false; count = 0 }; fevals = record { given = false; count = 0 } }
