-- `quasinewton_limited::Limited::all_up` meets its contract: after i turns it has made what the definition makes of i. Assumes nothing.
use Rattle.std.proofs.Common.{◌≡◌, ◌≤◌}
use Rattle.quasinewton_limited.specs.Step.{all_up_of}
use Rattle.quasinewton_limited.proofs.Limited.all_up.Given as goal

abbrev pub invariant-loop-i : goal.invariant-loop-i
invariant-loop-i l = (l.i ≤ l.self.count) × (l.q ≡ all_up_of l.self.pairs l.initial.q l.alphas l.n l.i)
