-- `neldermead_vertices::sorted` meets its contract: the vertices from i on are in order; in a turn, what is left to do with place j free is what
-- was to do with place i. Assumes nothing.
use borrow.Author.Rules.{rules}
use Prim.Native.Nat.{◌-◌}
use mathlib.Core.Path.{◌≡◌, sym, ap, ◌∙◌}
use mathlib.Core.List.{List}
use native.Mathlib.Omega.{arith}
use lib.ListN.{length, length-set}
use Rattle.neldermead_vertices.specs.declared.Vertex.{Vertex}
use Rattle.neldermead_vertices.specs.Vertices.{inserted_of, sorted_of}
use Rattle.neldermead_vertices.proofs.Insertion.{put_goes, put_stays, put_ends, sorted_from, sorted_starts, sorted_goes}
use Rattle.neldermead_vertices.proofs.sorted.Goals as goal
use Rattle.neldermead_vertices.proofs.sorted.Goals.{else-loop-j-test, then-loop-j-test+else-precedes}

pub loop-i-init : goal.loop-i-init
loop-i-init c =
    let a = c.args in
    let long : length a.v ≡ 17 = search rules in
    (long, sorted_starts a.v a.n (omega arith))

pub loop-j-preserved : goal.loop-j-preserved
loop-j-preserved c =
    let l = c.loop-j in
    let long = l.invariant.1 in
    (search rules, simp length-set long, put_goes _ l.w _ (omega arith) l.j c.loop-j-test.true (sym c.precedes.ensures ∙ c.if-precedes.true) ∙ l.invariant.2)

pub loop-i-preserved : goal.loop-i-preserved
unfolding inserted_of
loop-i-preserved c =
    let a = c.args in
    let o = c.loop-i in
    let l = c.loop-j in
    let long : length a.v ≡ 17 = search rules in
    let still = l.invariant.1 in
    let next = ap (λ (w : List Vertex). inserted_of w (o.i - 1) a.n) o.invariant.1 ∙ sorted_goes a.v a.n (omega arith) o.i c.loop-i-test.true (omega arith) in (
      simp length-set still,
      elim c.loop-j-test.branch [
        | else-loop-j-test w ↦
            let end : l.j ≡ a.n = omega (arith, w.loop-j-test.false) in
            rw end (put_ends _ l.w a.n (omega arith)) ∙ rw end at l.invariant.2 ∙ next
        | then-loop-j-test+else-precedes w ↦
            put_stays _ l.w _ (omega arith) l.j w.loop-j-test.true (sym w.precedes.ensures ∙ w.if-precedes.false) ∙ l.invariant.2 ∙ next
      ],
    )

pub returns : goal.returns
unfolding sorted_of sorted_from
returns c =
    let l = c.loop-i in
    let end : l.i ≡ 0 = omega arith in
    rw end at l.invariant.1
