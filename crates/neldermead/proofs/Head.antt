-- The head of a round by the phase that its tests give. Assumes nothing.
use Prim.Native.Nat.{ℕ}
use mathlib.Core.Path.{◌≡◌, sym, ap, ◌∙◌}
use mathlib.Core.Bool.{cond}
use mathlib.Core.List.{List}
use lib.Dec.{leb, eqb}
use lib.Ieee.{lt}
use Rattle.float.specs.Values.{abs_of}
use Rattle.float.proofs.Tests.{by}
use Rattle.neldermead_vertices.specs.declared.Vertex.{Vertex}
use Rattle.neldermead_vertices.specs.Method.{better, resolution}
use Rattle.neldermead_vertices.specs.Vertices.{vertex_at, sorted_of, converged_of}
use Rattle.neldermead.specs.declared.Fixed.{Fixed}
use Rattle.neldermead.specs.declared.Simplex.{Simplex}
use Rattle.neldermead.specs.Step.{building, reflecting, phased, with_order, rerun, ordered_of, reflect_of, reason_of, done_of, tested_of, headed_of}
use Rattle.neldermead.specs.Parts.{verdict_of}

-- what each phase makes of the vertices in order
abbrev pub head_of : Fixed → Simplex → ℕ → Simplex
head_of fit q p = cond (eqb p building) (rerun q) (cond (eqb p reflecting) (reflect_of fit.n q) (phased q p))

module _ (fit : Fixed) (q : Simplex) (fevals : ℕ) where
  head_parts : head_of fit q (verdict_of fit q fevals) ≡ tested_of fit q fevals
  unfolding verdict_of tested_of done_of reason_of
  head_parts =
      by (converged_of fit.options q.v fit.n)
      (λ e. rw e (by (leb fit.options.restarts q.runs)
      (λ m. rw m (by (lt fit.options.ftol (resolution (abs_of (vertex_at q.v 0).f))) (λ o. rw o) (λ o. rw o))) (λ m. rw m)))
      (λ e. rw e (by (leb fit.iter q.rounds) (λ m. rw m)
      (λ m. rw m (by (leb fit.fevals fevals) (λ o. rw o) (λ o. rw o)))))

-- the same by what the calls gave, at a phase v
pub headed_by : (fit : Fixed) (s : Simplex) (fevals : ℕ) (w : List Vertex) (b : Vertex) (p v : ℕ) → w ≡ sorted_of s.v fit.n → b ≡ better (vertex_at w 0) s.best
    → p ≡ verdict_of fit (with_order s w b) fevals → p ≡ v → head_of fit (with_order s w b) v ≡ headed_of fit s fevals
unfolding headed_of ordered_of
headed_by fit s fevals w b p v i j k l = rw (← i, ← j) (ap (head_of fit (with_order s w b)) (sym l ∙ k) ∙ head_parts fit (with_order s w b) fevals)
