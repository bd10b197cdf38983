-- `neldermead_vertices::any_finite` meets its contract: a fold over the first k places is `any` of their list. Assumes nothing.
use Rattle.std.proofs.Common.{ℕ, zero, suc, ◌≤◌, Bool, true, false, ◌||◌, List, length, take, refl, ap, ◌∙◌, ◌≡◌, arith, rules, tests}
use Rattle.std.specs.List.{list_any}
use Rattle.std.proofs.Math.Seq.{take-suc}
use Rattle.std.proofs.lemmas.List.Folds.{list_any-append}
use Rattle.std.proofs.lemmas.Iterator.{YieldsList-from_slice}
use Rattle.std.proofs.lemmas.Iterator.Search.{any_from_yields_List}
use Rattle.float.specs.Values.{finite_of}
use Rattle.neldermead_vertices.specs.declared.Vertex.{Vertex}
use Rattle.neldermead_vertices.specs.Vertices.{no_vertex, vertex_at, any_finite_of}
use Rattle.neldermead_vertices.proofs.any_finite.Goals as goal

or_false : (a b : Bool) → (a || (b || false)) ≡ (a || b)
or_false true b = refl
or_false false true = refl
or_false false false = refl

any_taken : (v : List Vertex) (k : ℕ) → k ≤ length v → list_any (λ (u : Vertex). finite_of u.f) (take k v) ≡ any_finite_of v k
unfolding any_finite_of
any_taken v zero h = refl
any_taken v (suc k) h =
    rw (take-suc v k no_vertex (omega arith), list_any-append, or_false)
    (ap (λ (b : Bool). b || finite_of (vertex_at v k).f) (any_taken v k (omega arith)))

pub returns : goal.returns
returns c =
    let long : length c.args.v.now ≡ 17 = search rules in
    any_from_yields_List {all = take c.args.k c.args.v.now} (λ (u : Vertex). finite_of u.f) _ _ c.any.result c.any.ensures.ran (YieldsList-from_slice _ (search rules)) (λ x b q k. search (rules, tests))
    ∙ any_taken c.args.v.now c.args.k (omega (arith, c.requires))
