-- `optim_start::search` meets its contract: what is said stands in the record of what `first_search` gave. Assumes nothing.
use mathlib.Core.Path.{sym, subst}
use Rattle.optim_record.specs.Record.{Stands}
use Rattle.optim_reply.proofs.Says.{says, says_also}
use Rattle.optim_start.proofs.Standing.{search_stands}
use Rattle.optim_start.proofs.search.Goals as goal

pub standing-requires : goal.standing-requires
standing-requires c = let within = (rw c.in-Ok.is at c.first_search.ensures.within) in subst Stands (sym c.search_record-r.ensures) (search_stands _ _ _ _ _ within)

pub returns-clause-outcome : goal.returns-clause-outcome
returns-clause-outcome c =
    let begun = (rw (c.in-Ok.is, ← c.search_record-r.ensures) at c.first_search.ensures.begun) in
    (says_also _ _ _ (says _ _ _ c.answered.ensures c.standing.ensures) begun).outcome

pub returns-clause-spoken : goal.returns-clause-spoken
returns-clause-spoken c =
    let begun = (rw (c.in-Ok.is, ← c.search_record-r.ensures) at c.first_search.ensures.begun) in
    (says_also _ _ _ (says _ _ _ c.answered.ensures c.standing.ensures) begun).spoken
