-- `quasinewton_limited::shifted` meets its contract: what is copied is what the definition stores one by one. Assumes nothing.
use borrow.Author.Rules.{rules}
use mathlib.Core.Path.{ap, ◌∙◌}
use mathlib.Core.List.{List, ◌++◌}
use native.Mathlib.Omega.{arith}
use lib.ListN.{take, drop}
use Rattle.quasinewton_limited.specs.declared.Pair.{Pair}
use Rattle.quasinewton_limited.proofs.Loops.{shift_parts}
use Rattle.quasinewton_limited.proofs.shifted.Goals as goal

pub returns : goal.returns
returns c =
    let ps = c.args.pairs in
    let k = c.args.k in
    ap (λ (l : List Pair). l ++ drop k ps) (c.copy_from_slice.ensures.after ∙ ap (λ j. take j (drop 1 ps)) (omega arith)) ∙ shift_parts ps k (search rules)
