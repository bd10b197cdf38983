-- `optim_store::values_of` meets its contract, place by place. Assumes nothing.
use borrow.Author.Rules.{rules}
use mathlib.Core.Path.{◌∙◌}
use Rattle.neldermead_vertices.specs.declared.Vertex.{Vertex}
use Rattle.neldermead_vertices.specs.Vertices.{no_vertex, vertex_at}
use Rattle.optim_lists.proofs.Places.{map_places, made}
use Rattle.optim_store.proofs.values_of.Goals as goal

pub returns : goal.returns
returns c =
    made (λ i. (vertex_at c.args.v i).f) (λ q i y p. (search rules, search rules)) 17 c.from_fn.ensures.items
    ∙ map_places (λ (a : Vertex). a.f) no_vertex c.args.v 17 (search rules)
