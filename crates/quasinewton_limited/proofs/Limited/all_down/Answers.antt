-- `quasinewton_limited::Limited::all_down` meets its contract: what is left to do with i pairs to go is what was to do at the start. Assumes nothing.
use borrow.Author.Rules.{rules}
use mathlib.Core.Path.{ap, ◌∙◌}
use lib.Ieee.{of_bits}
use Rattle.quasinewton_limited.specs.Step.{down_from, all_down_of}
use Rattle.quasinewton_limited.proofs.Loops.{down_goes, down_ends}
use Rattle.quasinewton_limited.proofs.Limited.all_down.Goals as goal

pub loop-i-preserved : goal.loop-i-preserved
loop-i-preserved c =
    let l = c.loop-i in
    (search rules, ap (down_from _ _ _) c.down-w.ensures ∙ down_goes _ _ l.i l.w c.loop-i-test.true ∙ l.invariant.1)

pub returns : goal.returns
unfolding all_down_of of_bits
returns c = down_ends _ _ c.loop-i.i c.loop-i.w c.loop-i-test.false ∙ c.loop-i.invariant.1
