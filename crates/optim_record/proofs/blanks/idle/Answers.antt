-- `optim_record::idle` meets its contract: a default that is zero field by field is the record of zeros. Assumes nothing.
use lib.Ieee.{of_bits}
use Rattle.std.proofs.Common.{◌≡◌, List}
use Rattle.std.specs.Prelude.{Float}
use Rattle.std.specs.Array.{AllOfLen}
use Rattle.std.proofs.lemmas.List.FromFn.{fill_by_all}
use Rattle.float.specs.Binary64.{plus_zero}
use Rattle.neldermead_vertices.specs.declared.Vertex.{Vertex}
use Rattle.optim_record.specs.Record.{no_vertex, idle_of}
use Rattle.optim_record.proofs.blanks.idle.Goals as goal

abbrev IsPoint : List Float → Type 0
IsPoint x = AllOfLen (λ v. v ≡ plus_zero) x 16

abbrev IsZero : Vertex → Type 0
IsZero u = IsPoint u.x × (u.f ≡ plus_zero)

point_zeros : (x : List Float) → IsPoint x → x ≡ no_vertex.x
point_zeros x a = fill_by_all (λ _. plus_zero) x 16 plus_zero a.long (λ k l. a.at k plus_zero l)

vertex_zeros : (u : Vertex) → IsZero u → u ≡ no_vertex
vertex_zeros u h = whole (point_zeros u.x h.0) h.1
  where
    vertex : List Float → Float → Vertex
    vertex x f = record { x = x; f = f }

    whole : {x y : List Float} {f g : Float} → x ≡ y → f ≡ g → vertex x f ≡ vertex y g
    whole p q = cc

vertices_zeros : (v : List Vertex) → AllOfLen (λ u. IsZero u) v 17 → v ≡ idle_of.v
unfolding idle_of
vertices_zeros v a = fill_by_all (λ _. no_vertex) v 17 no_vertex a.long (λ k l. vertex_zeros _ (a.at k no_vertex l))

pub returns : goal.returns
unfolding idle_of of_bits
returns c =
    let h = c.default.ensures in
    rw (h.0, h.1.0, h.1.1.0, h.1.1.1.0, point_zeros _ h.1.1.1.1.0, vertex_zeros _ h.1.1.1.1.1.0, point_zeros _ h.1.1.1.1.1.1.0, vertex_zeros _ h.1.1.1.1.1.1.1.0, vertices_zeros _ h.1.1.1.1.1.1.1.1)
