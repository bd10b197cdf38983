-- `fit::fed_part` meets its contract: each line goes further, and adds what it brings. Assumes nothing.
use Rattle.std.proofs.Common.{List, ◌++◌, ℕ, drop, sym, ap, subst, ◌∙◌, arith, append-nil}
use Rattle.std.proofs.lemmas.Result.{err_from_is_err_and}
use Rattle.fit_state.specs.States.{scanned_of}
use Rattle.fit_dialogue.specs.declared.Place.{Place}
use Rattle.fit_dialogue.specs.declared.Step.{Step}
use Rattle.fit_dialogue.specs.Program.{and_then, passed_of, turned_of}
use Rattle.fit_dialogue.proofs.Steps.{step_further}
use Rattle.std.specs.Io.KnownBytes.{Appends}
use Rattle.std.proofs.KnownBytes.{Appends-trans}
use Rattle.fit.proofs.Parts.{line_goes, then_then, part_ends}
use Rattle.fit.proofs.Writes.{then_lost}
use Rattle.fit.proofs.fed_part.Goals as goal

pub returns-in_err-q-clause-replies : goal.returns-in_err-q-clause-replies
returns-in_err-q-clause-replies g c =
    let l = c.loop-at in
    let (text, split, wrote) = l.invariant in
    let goes = ap (and_then text) (sym (line_goes l.place c.args.s.now l.at c.loop-at-test.true)) ∙ split in
    rw (err_from_is_err_and c.from_residual.result c.from_residual.ensures.1).1
    (then_lost _ _ _ text _ _ _ (ap (λ (q : List ℕ × Place). q.0) goes) wrote c.in_err-q.ensures.reply)

pub loop-at-smaller : goal.loop-at-smaller
loop-at-smaller g c =
    let l = c.loop-at in
    rw c.in_ok-q.ensures.step (omega (arith, c.loop-at-test.true, step_further l.place c.args.s.now l.at c.loop-at-test.true))

pub loop-at-preserved : goal.loop-at-preserved
loop-at-preserved g c =
    let l = c.loop-at in
    let s = c.args.s.now in
    let (text, split, wrote) = l.invariant in
    let more = (turned_of l.place (scanned_of l.at (drop l.at s) l.place.reader)).0 in (
      text ++ more,
      ap (λ (r : Step). and_then (text ++ more) (passed_of r.place (drop r.at s))) c.in_ok-q.ensures.step
          ∙ then_then text more _
          ∙ ap (and_then text) (sym (line_goes l.place s l.at c.loop-at-test.true))
          ∙ split,
      Appends-trans _ _ _ text more wrote c.in_ok-q.ensures.reply,
    )

pub returns-clause-place : goal.returns-clause-place
returns-clause-place g c =
    let l = c.loop-at in
    let (text, split, wrote) = l.invariant in
    let end = part_ends l.place c.args.s.now l.at c.loop-at-test.false in
    ap (λ (q : List ℕ × Place). q.1) (ap (and_then text) (sym end) ∙ split)

pub returns-clause-replies : goal.returns-clause-replies
returns-clause-replies g c =
    let l = c.loop-at in
    let (text, split, wrote) = l.invariant in
    let end = part_ends l.place c.args.s.now l.at c.loop-at-test.false in
    subst (Appends _ _) (sym (append-nil text) ∙ ap (λ (q : List ℕ × Place). q.0) (ap (and_then text) (sym end) ∙ split)) wrote
