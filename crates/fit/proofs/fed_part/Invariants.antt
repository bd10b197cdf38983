-- `fit::fed_part` ends, since each turn passes a byte at least. What was written, and what is passed from here on, is what the part brings. Assumes nothing.
use Rattle.std.proofs.Common.{◌-◌, ◌≡◌, ℕ, List, length, drop}
use Rattle.std.specs.Io.KnownBytes.{Appends}
use Rattle.fit_dialogue.specs.Program.{and_then, passed_of}
use Rattle.fit.proofs.fed_part.Given as goal

abbrev pub invariant-loop-at : goal.invariant-loop-at
invariant-loop-at g l = (text : List ℕ)
    × (and_then text (passed_of l.place (drop l.at l.s)) ≡ passed_of l.initial.place l.s)
    × Appends (g.W.Write.contents l.initial.output) (g.W.Write.contents l.output) text

abbrev pub decreases-loop-at : goal.decreases-loop-at
decreases-loop-at g l = length l.s - l.at
