-- `optim_start::refused` meets its contract: the refusal is said, beside the blank record. Assumes nothing.
use mathlib.Core.Path.{◌∙◌}
use Rattle.protocol.specs.Protocol.{reply_of}
use Rattle.optim_reply.specs.Spoken.{reply_with}
use Rattle.optim_start.proofs.refused.Goals as goal

pub returns-clause-outcome : goal.returns-clause-outcome
unfolding reply_with reply_of
returns-clause-outcome c = c.answered.ensures.0 ∙ rw (c.refused.ensures, c.blank.ensures)
