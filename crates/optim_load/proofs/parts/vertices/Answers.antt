-- `optim_load::parts::vertices` meets its contract, place by place. Assumes nothing.
use borrow.Author.Rules.{rules}
use mathlib.Core.Path.{◌∙◌}
use Rattle.optim_lists.specs.Lists.{vertex_of}
use Rattle.optim_lists.proofs.Places.{vertices_places, made}
use Rattle.optim_load.proofs.parts.vertices.Goals as goal

pub returns : goal.returns
returns c =
    made (vertex_of c.args.xs c.args.fs) (λ q i y p. (search rules, search rules)) 17 c.from_fn.ensures.items
    ∙ vertices_places c.args.xs c.args.fs (search rules) (search rules)
