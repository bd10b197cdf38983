-- `optim_load::parts::pairs` meets its contract, place by place. Assumes nothing.
use borrow.Author.Rules.{rules}
use mathlib.Core.Path.{◌∙◌}
use Rattle.optim_lists.specs.Lists.{pair_of}
use Rattle.optim_lists.proofs.Places.{pairs_places, made}
use Rattle.optim_load.proofs.parts.pairs.Goals as goal

pub returns : goal.returns
returns c =
    made (pair_of c.args.ss c.args.ys c.args.rs) (λ q i y p. (search rules, search rules)) 16 c.from_fn.ensures.items
    ∙ pairs_places c.args.ss c.args.ys c.args.rs (search rules) (search rules) (search rules)
