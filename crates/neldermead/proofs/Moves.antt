-- The answer to the open question in the parts that the code takes: what is put in the record, and what comes of it. Assumes nothing.
use Prim.Native.Nat.{ℕ, ◌+◌, ◌-◌}
use mathlib.Core.Path.{◌≡◌, sym, ap, ◌∙◌}
use mathlib.Core.Bool.{cond}
use lib.Dec.{ltb, eqb}
use lib.Ieee.{Float, lt, le}
use borrow.Author.Tests.{eqb-true}
use Rattle.float.proofs.Tests.{by}
use Rattle.neldermead_vertices.specs.declared.Vertex.{Vertex}
use Rattle.neldermead_vertices.specs.Vertices.{vertex_at, any_finite_of}
use Rattle.neldermead.specs.declared.Outcome.{Outcome}
use Rattle.neldermead.specs.declared.Outcome.TheVariants.{Rests, Asks, Built, Takes, Keeps, Shrunk}
use Rattle.neldermead.specs.declared.Fixed.{Fixed}
use Rattle.neldermead.specs.declared.Simplex.{Simplex}
use Rattle.neldermead.specs.Step.{building, reflecting, expanding, contracting_outside, contracting_inside, shrinking, not_finite, vertex_of, phased, asked, with_refl, with_vertex, trial_of, headed_of, build_of, settled_of, built_of, replaced_of, reflected_of, expanded_of, shrink_of, outside_of, inside_of, shrinking_of, told_of}
use Rattle.neldermead.specs.Parts.{reflection_of, outcome_of, phase_of, at_of, point_of}

module _ (fit : Fixed) (s : Simplex) (f : Float) (fevals : ℕ) where
  abbrev here : Vertex
  here = vertex_of s.x f

  -- the record with the point told in its place, where it has one
  abbrev pub noted : Simplex
  noted = cond (eqb s.phase building) (with_vertex s s.at here) (cond (eqb s.phase shrinking) (with_vertex s s.at here) (cond (eqb s.phase reflecting) (with_refl s here) s))

  -- what comes of it
  abbrev pub tell_of : Simplex → Outcome → Simplex
  tell_of q Rests = q
  tell_of q (Asks a) = asked q (phase_of a) (at_of a q.at) (point_of fit q a)
  tell_of q Built = cond (any_finite_of q.v (fit.n + 1)) (headed_of fit q fevals) (phased q not_finite)
  tell_of q Takes = headed_of fit (with_vertex q fit.n here) fevals
  tell_of q Keeps = headed_of fit (with_vertex q fit.n q.refl) fevals
  tell_of q Shrunk = headed_of fit q fevals

  told_parts : tell_of noted (outcome_of s fit.n f) ≡ told_of fit s f fevals
  unfolding outcome_of reflection_of phase_of at_of point_of told_of built_of build_of settled_of reflected_of trial_of replaced_of expanded_of shrink_of outside_of inside_of shrinking_of
  told_parts =
      by (eqb s.phase building)
      (λ e. rw (eqb-true _ _ e) (by (ltb s.at fit.n) (λ m. rw m) (λ m. rw m)))
      (λ a. rw a (by (eqb s.phase reflecting)
      (λ e. rw (eqb-true _ _ e) (by (lt f (vertex_at s.v 0).f) (λ m. rw m)
      (λ m. rw m (by (lt f (vertex_at s.v (fit.n - 1)).f) (λ o. rw o)
      (λ o. rw o (by (lt f (vertex_at s.v fit.n).f) (λ q. rw q) (λ q. rw q)))))))
      (λ b. rw b (by (eqb s.phase expanding)
      (λ e. rw (eqb-true _ _ e) (by (lt f s.refl.f) (λ m. rw m) (λ m. rw m)))
      (λ c. rw c (by (eqb s.phase contracting_outside)
      (λ e. rw (eqb-true _ _ e) (by (le f s.refl.f) (λ m. rw m) (λ m. rw m)))
      (λ d. rw d (by (eqb s.phase contracting_inside)
      (λ e. rw (eqb-true _ _ e) (by (lt f (vertex_at s.v fit.n).f) (λ m. rw m) (λ m. rw m)))
      (λ g. rw g (by (eqb s.phase shrinking)
      (λ e. rw (eqb-true _ _ e) (by (ltb s.at fit.n) (λ m. rw m) (λ m. rw m)))
      (λ h. rw h)))))))))))

  -- the same by what the code has found
  pub told_by : (q : Simplex) (w v : Outcome) → q ≡ noted → w ≡ outcome_of s fit.n f → w ≡ v → tell_of q v ≡ told_of fit s f fevals
  told_by q w v i j k = ap (λ (p : Simplex). tell_of p v) i ∙ ap (tell_of noted) (sym k ∙ j) ∙ told_parts
