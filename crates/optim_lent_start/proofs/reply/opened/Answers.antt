-- `optim_lent_start::reply::opened` meets its contract, by what is said and what is stored. Assumes nothing.
use mathlib.Core.Path.{refl}
use Rattle.optim_record.specs.Record.{outcome_of}
use Rattle.optim_lent_start.proofs.Laws.{started}
use Rattle.optim_lent_start.proofs.reply.opened.Goals as goal

pub returns : goal.returns
returns c =
    let a = c.args in
    let said = c.speak.ensures in
    let h = started a.a (outcome_of a.a) a.point.now a.slopes.now refl c.requires said.said_point said.said_slopes _ c.store.ensures in
    record { outcome = h.outcome; said_point = h.point; said_slopes = h.slopes }
