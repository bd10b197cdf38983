-- `optim_rules::meets` meets its contract: a number accepted has one that follows. Assumes nothing.
use mathlib.Core.Path.{sym, ◌∙◌}
use native.Mathlib.Omega.{arith}
use Rattle.optim_rules.proofs.Ranges.{ranges}
use Rattle.optim_rules.proofs.meets.Goals as goal

pub overflow_add-r : goal.overflow_add-r
overflow_add-r c = omega (arith, (ranges c.args.r (sym c.valid.ensures ∙ c.if-not-valid.false)).numbers)
