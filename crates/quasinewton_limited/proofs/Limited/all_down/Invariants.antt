-- `quasinewton_limited::Limited::all_down` meets its contract: what is left to do with i pairs to go is what was to do at the start. Assumes nothing.
use Rattle.std.proofs.Common.{◌≡◌, ◌≤◌}
use Rattle.quasinewton_limited.specs.Step.{down_from}
use Rattle.quasinewton_limited.proofs.Limited.all_down.Given as goal

abbrev pub invariant-loop-i : goal.invariant-loop-i
invariant-loop-i l = (l.i ≤ 16) × (down_from l.self.pairs l.n l.i l.w ≡ down_from l.self.pairs l.n l.self.count l.initial.w)
