-- Vertices in order. 01: "Vertices are put in order by value, equal ones as they stood, and -0.0 before +0.0." Definitions and statements only.
use Rattle.std.specs.Prelude.{ℕ, suc, ◌<◌, ◌≡◌, not, cond, List, [], ◌∷◌, T, length, get_or, Float}
use Rattle.float.specs.Order.{precedes_of}
use Rattle.neldermead_vertices.specs.declared.Vertex.{Vertex}

-- u, which stood in front of all of the list, put into it; the list is in order
unfoldable pub insert : Vertex → List Vertex → List Vertex
insert u [] = u ∷ []
insert u (w ∷ ws) = cond (precedes_of w.f u.f) (w ∷ insert u ws) (u ∷ w ∷ ws)

-- order.sort_by(|&a, &b| fx[a].total_cmp(&fx[b])), which is stable
unfoldable pub in_order : List Vertex → List Vertex
unfolding insert
in_order [] = []
in_order (u ∷ us) = insert u (in_order us)

-- the vertices that stand level with the value v, as they stand
unfoldable pub level : Float → List Vertex → List Vertex
level v [] = []
level v (u ∷ us) = let rest = level v us in cond (precedes_of v u.f) rest (cond (precedes_of u.f v) rest (u ∷ rest))

-- vs is us in order: none comes before the one that it follows, and at each value there are the same vertices as they stood
pub record Ordered (us vs : List Vertex) : Type 0 where
  pub sorted : (d : Vertex) (i : ℕ) → suc i < length vs → T (not (precedes_of (get_or vs (suc i) d).f (get_or vs i d).f))
  pub stable : (v : Float) → level v vs ≡ level v us
