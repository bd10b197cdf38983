-- `fit_state::scanned` meets its contract: what is to be scanned from here on is what was to be scanned. Assumes nothing.
use Prim.Native.Nat.{◌+◌}
use mathlib.Core.Path.{◌≡◌, ap, ◌∙◌}
use mathlib.Core.Logic.{inl, inr}
use native.Mathlib.Omega.{arith}
use lib.ListN.{length, drop, get_or}
use borrow.Author.Tests.{eq-eqb, ne_eqb}
use Rattle.std.proofs.lemmas.Bool.{cases_lt}
use Rattle.lines_reader.specs.declared.Reader.{Reader}
use Rattle.fit_state.specs.States.{scanned_of}
use Rattle.fit_state.proofs.Scans.{scan_feed, scan_go, scan_end}
use Rattle.fit_state.proofs.scanned.Goals as goal

pub returns-then-b-eq10 : goal.returns-then-b-eq10
returns-then-b-eq10 c =
    let s = c.args.s.now in
    let l = c.loop-i in
    scan_feed s l.i l.reader (omega arith) (eq-eqb (get_or s l.i 0) 10 c.if-b-eq10.true) ∙ l.invariant.kept

pub loop-i-preserved : goal.loop-i-preserved
loop-i-preserved c =
    let s = c.args.s.now in
    let l = c.loop-i in
    record {
      kept = ap (λ (r : Reader). scanned_of (l.i + 1) (drop (l.i + 1) s) r) c.fed-reader.ensures
          ∙ scan_go s l.i l.reader (omega arith) (ne_eqb (get_or s l.i 0) 10 c.if-b-eq10.false)
          ∙ l.invariant.kept;
      past = λ h. omega arith;
    }

pub returns : goal.returns
returns c =
    let s = c.args.s.now in
    let l = c.loop-i in
    let end : c.max.result ≡ l.i =
    elim (cases_lt c.args.from (length s)) [
      | inl h ↦ omega (arith, l.auto.i-end (omega arith))
      | inr h ↦ omega (arith, l.invariant.past h)
    ]
    in
    rw end (scan_end s l.i l.reader (omega arith) ∙ l.invariant.kept)
