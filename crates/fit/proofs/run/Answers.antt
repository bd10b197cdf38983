-- `fit::run` meets its contract: each exit says what is due of what was read. Assumes nothing.
use Rattle.std.proofs.Common.{refl, ◌∙◌, arith, true, false}
use Rattle.fit.proofs.Runs.{begun, part_more, part_lost, stop_due, end_due}
use Rattle.fit.proofs.run.Goals as goal

pub loop-init : goal.loop-init
loop-init g c = (refl, begun _ _ _ c.opened-place.ensures)

pub returns-in_err-ended-in-Ok-eq0-clause-lost : goal.returns-in_err-ended-in-Ok-eq0-clause-lost
returns-in_err-ended-in-Ok-eq0-clause-lost g c =
    let read = c.in-Ok-eq0.ensures.bytes in
    let none = c.in-Ok-eq0.field-0-test in
    λ _. end_due false _ _ _ _ _ _ _ _ _ c.loop.invariant.1 read.0 none (read.1 none (omega (arith, c.read.auto.buf, c.loop.invariant.0))) c.in_err-ended-in-Ok-eq0.ensures

pub returns-in-Ok-eq0-clause-whole : goal.returns-in-Ok-eq0-clause-whole
returns-in-Ok-eq0-clause-whole g c =
    let read = c.in-Ok-eq0.ensures.bytes in
    let none = c.in-Ok-eq0.field-0-test in
    end_due true _ _ _ _ _ _ _ _ _ c.loop.invariant.1 read.0 none (read.1 none (omega (arith, c.read.auto.buf, c.loop.invariant.0))) c.in_ok-ended-in-Ok-eq0.ensures

pub returns-in_err-place-in-Ok-clause-lost : goal.returns-in_err-place-in-Ok-clause-lost
returns-in_err-place-in-Ok-clause-lost g c =
    λ _. part_lost _ _ _ _ _ _ _ _ c.loop.invariant.1 c.in-Ok.ensures.bytes.0 c.in_err-place-in-Ok.ensures.replies

pub returns-in-Stopped-clause-whole : goal.returns-in-Stopped-clause-whole
returns-in-Stopped-clause-whole g c =
    let fed = c.in_ok-place-in-Ok.ensures in
    let went = part_more _ _ _ _ _ _ _ _ _ c.loop.invariant.1 c.in-Ok.ensures.bytes.0 fed.place fed.replies in
    stop_due _ _ _ _ _ went c.in-Stopped.is

pub loop-preserved : goal.loop-preserved
loop-preserved g c =
    let fed = c.in_ok-place-in-Ok.ensures in
    (c.read.auto.buf ∙ c.loop.invariant.0, part_more _ _ _ _ _ _ _ _ _ c.loop.invariant.1 c.in-Ok.ensures.bytes.0 fed.place fed.replies)
