-- `optim_start::gradient` meets its contract: what is said stands in the record of what `first_gradient` gave. Assumes nothing.
use mathlib.Core.Path.{◌∙◌, sym, subst}
use Rattle.optim_record.specs.Record.{Stands}
use Rattle.optim_reply.proofs.Says.{says, says_also}
use Rattle.optim_start.proofs.Standing.{gradient_speaks, gradient_stands}
use Rattle.optim_start.proofs.gradient.Goals as goal

pub asks-requires : goal.asks-requires
asks-requires c = let within = (rw c.in-Ok.is at c.first_gradient.ensures.within) in (subst Stands (sym c.gradient_record-r.ensures) (gradient_stands _ _ _ _ _ within)).numbers

pub returns-clause-outcome : goal.returns-clause-outcome
returns-clause-outcome c =
    let begun = (rw (c.in-Ok.is, ← c.gradient_record-r.ensures) at c.first_gradient.ensures.begun) in
    (says_also _ _ _ (says _ _ _ c.answered.ensures (c.asks.ensures ∙ rw c.gradient_record-r.ensures (gradient_speaks _ _ _ _ _))) begun).outcome

pub returns-clause-spoken : goal.returns-clause-spoken
returns-clause-spoken c =
    let begun = (rw (c.in-Ok.is, ← c.gradient_record-r.ensures) at c.first_gradient.ensures.begun) in
    (says_also _ _ _ (says _ _ _ c.answered.ensures (c.asks.ensures ∙ rw c.gradient_record-r.ensures (gradient_speaks _ _ _ _ _))) begun).spoken
