-- `optim_lent::answer` meets its contract: an unknown flag, an answer that moves the record, and one that does not. Assumes nothing.
use mathlib.Core.Path.{ap, ◌∙◌}
use Rattle.optim_lists.specs.Lists.{record_of}
use Rattle.optim_lists.specs.Lent.{lists_in}
use Rattle.optim_lent.proofs.Laws.{answer_unknown, answer_moved, answer_left}
use Rattle.optim_lent.proofs.answer.Goals as goal

pub returns-then-not-formed : goal.returns-then-not-formed
returns-then-not-formed c =
    let a = c.args in
    let held = lists_in a.l in
    let h = answer_unknown held _ _ _ _ _ _ c.new.ensures _ c.formed.ensures c.if-not-formed.true in
    record { outcome = h.outcome; said_point = h.point; said_slopes = h.slopes }

pub returns-then-a-before : goal.returns-then-a-before
returns-then-a-before c =
    let a = c.args in
    let held = lists_in a.l in
    let said = c.speak.ensures in
    let e = c.answer-a.ensures in
    let h = answer_moved held a.number a.kind a.words.now c.answer-a.result _ a.point.now a.slopes.now _ c.formed.ensures c.if-not-formed.false (c.load.ensures ∙ ap record_of c.held.ensures) e.outcome e.spoken said.said_point said.said_slopes _ c.if-a-before.true c.store.ensures in
    record { outcome = h.outcome; said_point = h.point; said_slopes = h.slopes }

pub returns-else-a-before : goal.returns-else-a-before
returns-else-a-before c =
    let a = c.args in
    let held = lists_in a.l in
    let said = c.speak.ensures in
    let e = c.answer-a.ensures in
    let h = answer_left held a.number a.kind a.words.now c.answer-a.result _ a.point.now a.slopes.now _ c.formed.ensures c.if-not-formed.false (c.load.ensures ∙ ap record_of c.held.ensures) e.outcome e.spoken said.said_point said.said_slopes c.if-a-before.false in
    record { outcome = h.outcome; said_point = h.point; said_slopes = h.slopes }
