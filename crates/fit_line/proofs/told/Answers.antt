-- `fit_line::told` meets its contract: the engine's reply is shown, and its record kept. Assumes nothing.
use mathlib.Core.Path.{sym, subst}
use Rattle.protocol.specs.Protocol.{Reply}
use Rattle.optim_record.specs.declared.Record.{Record}
use Rattle.optim_record.specs.Record.{outcome_of}
use Rattle.fit_line.specs.Turns.{Few, told_of}
use Rattle.fit_line.proofs.Few.{answer_few}
use Rattle.fit_line.proofs.told.Goals as goal

pub shown-count-requires : goal.shown-count-requires
unfolding told_of outcome_of
shown-count-requires c = subst (λ (o : Reply × Record). Few o.0 o.1.n) (sym c.answer-a.ensures.outcome) (answer_few _ _ _ _)

pub returns : goal.returns
unfolding told_of outcome_of
returns c = (rw (← c.answer-a.ensures.outcome, ← c.shown-count.ensures.0, c.onward.ensures), rw (← c.answer-a.ensures.outcome) c.shown-count.ensures.1)
