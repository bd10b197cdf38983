-- `optim_start::differences` meets its contract: a list too long is refused, and what stands in the first record is said. Assumes nothing.
use mathlib.Core.Path.{sym, subst, ◌∙◌}
use borrow.Author.Tests.{le-ltb, lt-ltb}
use Rattle.optim_record.specs.Record.{Stands}
use Rattle.optim_reply.proofs.Says.{says, says_also}
use Rattle.optim_start.specs.Start.{differences_of}
use Rattle.optim_start.proofs.Standing.{begun_stands}
use Rattle.optim_start.proofs.differences.Goals as goal

pub returns-then-x-gt16-clause-outcome : goal.returns-then-x-gt16-clause-outcome
unfolding differences_of
returns-then-x-gt16-clause-outcome c = c.refused.ensures.outcome ∙ rw (c.new.ensures, lt-ltb _ _ c.if-x-gt16.true)

pub returns-then-x-gt16-clause-spoken : goal.returns-then-x-gt16-clause-spoken
unfolding differences_of
returns-then-x-gt16-clause-spoken c = (says_also _ _ _ (c.refused.ensures.outcome, c.refused.ensures.spoken) (rw (c.new.ensures, lt-ltb _ _ c.if-x-gt16.true))).spoken

pub standing-requires : goal.standing-requires
standing-requires c = subst Stands (sym c.begun_record-r.ensures) (begun_stands c.args.x.now c.if-x-gt16.false)

pub returns-clause-outcome : goal.returns-clause-outcome
unfolding differences_of
returns-clause-outcome c = (says _ _ _ c.answered.ensures c.standing.ensures).0 ∙ rw (c.begun_record-r.ensures, le-ltb _ _ c.if-x-gt16.false)

pub returns-clause-spoken : goal.returns-clause-spoken
unfolding differences_of
returns-clause-spoken c = (says_also _ _ _ (says _ _ _ c.answered.ensures c.standing.ensures) (rw (c.begun_record-r.ensures, le-ltb _ _ c.if-x-gt16.false))).spoken
