-- `optim_store::steps_of` meets its contract, place by place. Assumes nothing.
use borrow.Author.Rules.{rules}
use mathlib.Core.Path.{◌∙◌}
use Rattle.quasinewton_limited.specs.declared.Pair.{Pair}
use Rattle.quasinewton_limited.specs.Step.{no_pair, pair_at}
use Rattle.optim_lists.proofs.Places.{map_places, made}
use Rattle.optim_store.proofs.steps_of.Goals as goal

pub returns : goal.returns
returns c =
    made (λ i. (pair_at c.args.p i).s) (λ q i y p. (search rules, search rules)) 16 c.from_fn.ensures.items
    ∙ map_places (λ (a : Pair). a.s) no_pair c.args.p 16 (search rules)
