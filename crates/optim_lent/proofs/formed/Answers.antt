-- `optim_lent::formed` meets its contract, by what `all` says of the flags. Assumes nothing.
use borrow.Author.Rules.{rules}
use borrow.Author.Tests.{tests}
use mathlib.Core.Path.{◌≡◌, ◌∙◌}
use mathlib.Core.Bool.{true, false}
use lib.Dec.{leb}
use lib.ListN.{drop}
use Rattle.std.proofs.lemmas.Iterator.{YieldsList-from_slice, cases_from_all}
use Rattle.optim_lists.specs.Layout as place
use Rattle.optim_lent.proofs.Laws.{flags_part, flags_checked}
use Rattle.optim_lent.proofs.formed.Goals as goal

pub returns : goal.returns
returns c =
    flags_checked c.all.result (drop place.flags c.args.m.now)
    (cases_from_all _ _ _ (λ k. leb k 1 ≡ true) (λ k. leb k 1 ≡ false) c.all.ensures.ran (YieldsList-from_slice (drop place.flags c.args.m.now) (c.iter.ensures.rest ∙ flags_part c.args.m.now (search rules))) (λ x q k. search (rules, tests)) (λ x q k. search (rules, tests)))
