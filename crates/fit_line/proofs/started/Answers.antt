-- `fit_line::started` meets its contract: the engine's reply is shown, and its record kept. Assumes nothing.
use mathlib.Core.Path.{sym, subst}
use Rattle.protocol.specs.Protocol.{Reply}
use Rattle.optim_record.specs.declared.Record.{Record}
use Rattle.optim_record.specs.Record.{outcome_of}
use Rattle.fit_line.specs.Turns.{Few, started_of}
use Rattle.fit_line.proofs.Few.{start_few}
use Rattle.fit_line.proofs.started.Goals as goal

pub shown-count-requires : goal.shown-count-requires
unfolding started_of outcome_of
shown-count-requires c = subst (λ (o : Reply × Record). Few o.0 o.1.n) (sym c.start-a.ensures) (start_few _ _)

pub returns : goal.returns
unfolding started_of outcome_of
returns c = (rw (← c.start-a.ensures, ← c.shown-count.ensures.0, c.onward.ensures, c.due_after.ensures), rw (← c.start-a.ensures) c.shown-count.ensures.1)
