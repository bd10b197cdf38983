-- `fit_state::scanned` meets its contract: what is to be scanned from here on is what was to be scanned. Assumes nothing.
use Prim.Native.Nat.{◌≤◌}
use mathlib.Core.Path.{◌≡◌}
use lib.ListN.{length, drop}
use Rattle.fit_state.specs.States.{scanned_of}
use Rattle.fit_state.proofs.scanned.Given as goal

abbrev pub invariant-loop-i : goal.invariant-loop-i
invariant-loop-i l =
    record {
      kept : scanned_of l.i (drop l.i l.s) l.reader ≡ scanned_of l.from (drop l.from l.s) l.initial.reader;
      past : length l.s ≤ l.from → l.i ≤ l.from;
    }
