-- Whatever is told, the arrays of the record keep their sizes, and what every point made anew has, all points of the record keep: `told_shaped`, `told_zeros`. Assumes nothing.
use Prim.Native.Nat.{ℕ, ◌+◌, ◌-◌, ◌≤◌, ◌<◌, zero-le}
use native.Mathlib.Omega.{arith}
use mathlib.Core.Path.{◌≡◌, refl, sym, ◌∙◌, ap, subst}
use mathlib.Core.Bool.{Bool, true, false, cond}
use mathlib.Core.List.{List}
use borrow.Author.Tests.{ltb-true, eqb-true, eqb-false}
use lib.Dec.{leb, ltb, eqb}
use lib.ListN.{length, length-set, set, replicate, get_or-replicate}
use lib.Seq.{get_or-set_same, get_or-set_other}
use lib.Ieee.{Float, lt, le, nan}
use Rattle.float.specs.Binary64.{plus_zero}
use Rattle.vector.specs.Points.{towards_of, shrunk_of, quotient_of}
use Rattle.vector.proofs.First.{point_laws}
use Rattle.vector.specs.Ties.{ZeroFrom}
use Rattle.neldermead_vertices.specs.declared.Vertex.{Vertex}
use Rattle.neldermead.specs.declared.Fixed.{Fixed}
use Rattle.neldermead.specs.declared.Simplex.{Simplex}
use Rattle.neldermead_vertices.specs.Method.{alpha, better}
use Rattle.neldermead_vertices.specs.Vertices.{no_vertex, vertex_at, sorted_of, centroid_of, corner_of, any_finite_of, converged_of}
use Rattle.neldermead.specs.Step.{building, reflecting, expanding, contracting_outside, contracting_inside, shrinking, by_simplex_iterations, by_simplex_fevals, not_finite, vertex_of, phased, asked, with_vertex, with_refl, with_round, rerun, ordered_of, trial_of, reflect_of, done_of, tested_of, headed_of, build_of, settled_of, built_of, replaced_of, reflected_of, expanded_of, shrink_of, outside_of, inside_of, shrinking_of, told_of, start_of}
use Rattle.neldermead_theory.specs.Follows.{EveryPoint, SimplexShaped}
use Rattle.neldermead_theory.proofs.TiesOrder.{sorted_from_lem}
use Rattle.neldermead_theory.proofs.Ties.{vertices_tied, zeros_past}

-- what lasts: the vertex asked for is one of the simplex, there are seventeen, and every point has P
record Lasting (n : ℕ) (P : List Float → Type 0) (s : Simplex) : Type 0 where
  within : s.at ≤ n
  many : length s.v ≡ 17
  points : EveryPoint P s

-- a point that is made anew has P, and so has a corner of a point that has it
record Makes (n : ℕ) (P : List Float → Type 0) : Type 0 where
  centroid_of_lem : (v : List Vertex) → P (centroid_of v n)
  towards_of_lem : (c w : List Float) (t : Float) → P (towards_of c w t n)
  shrunk_of_lem : (b w : List Float) (t : Float) → P (shrunk_of b w t n)
  corner_of_lem : (initial : Float) (x : List Float) (i : ℕ) → i < n → P x → P (corner_of initial x i)

module _ (fit : Fixed) (P : List Float → Type 0) (positive : 1 ≤ fit.n) (small : fit.n ≤ 16) (makes : Makes fit.n P) where
  abbrev Last : Simplex → Type 0
  Last s = Lasting fit.n P s

  either : (b : Bool) (s t : Simplex) → (b ≡ true → Last s) → Last t → Last (cond b s t)
  either true s t h k = h refl
  either false s t h k = k

  -- with the vertices and the best vertex of s
  kept : (s t : Simplex) → t.v ≡ s.v → t.best ≡ s.best → t.at ≤ fit.n → P t.x → P t.cen → P t.refl.x → Last s → Last t
  kept s t e b i x c r h =
      record {
        within = i;
        many = ap length e ∙ h.many;
        points = record { x = x; best = rw b h.points.best; cen = c; refl = r; vertices = λ j l. rw e (h.points.vertices j l) };
      }

  phased_last : (s : Simplex) (k : ℕ) → Last s → Last (phased s k)
  phased_last s k h = kept s (phased s k) refl refl h.within h.points.x h.points.cen h.points.refl h

  asked_last : (s : Simplex) (k i : ℕ) (x : List Float) → i ≤ fit.n → P x → Last s → Last (asked s k i x)
  asked_last s k i x l p h = kept s (asked s k i x) refl refl l p h.points.cen h.points.refl h

  rerun_last : (s : Simplex) → Last s → Last (rerun s)
  rerun_last s h = kept s (rerun s) refl refl zero-le h.points.best h.points.cen h.points.refl h

  refl_last : (s : Simplex) (u : Vertex) → P u.x → Last s → Last (with_refl s u)
  refl_last s u p h = kept s (with_refl s u) refl refl h.within h.points.x h.points.cen p h

  vertex_last : (s : Simplex) (i : ℕ) (u : Vertex) → P u.x → Last s → Last (with_vertex s i u)
  vertex_last s i u p h =
      record {
        within = h.within;
        many = length-set s.v i u ∙ h.many;
        points = record { x = h.points.x; best = h.points.best; cen = h.points.cen; refl = h.points.refl; vertices = λ j l. go j l (eqb j i) refl };
      }
    where
      go : (j : ℕ) → j < 17 → (b : Bool) → eqb j i ≡ b → P (vertex_at (set s.v i u) j).x
      go j l true e =
          let m = h.many in
          rw (eqb-true j i e, get_or-set_same s.v i u no_vertex (omega (arith, eqb-true j i e))) p
      go j l false e = rw (get_or-set_other s.v i j u no_vertex (eqb-false j i e)) (h.points.vertices j l)

  ordered_last : (s : Simplex) → Last s → Last (ordered_of fit.n s)
  unfolding ordered_of better
  ordered_last s h =
      record {
        within = h.within;
        many = (vertices_tied fit.n s.v small h.many).sorted_many;
        points = record { x = h.points.x; best = go (lt (vertex_at (sorted_of s.v fit.n) 0).f s.best.f); cen = h.points.cen; refl = h.points.refl; vertices = sorted };
      }
    where
      sorted : (i : ℕ) → i < 17 → P (vertex_at (sorted_of s.v fit.n) i).x
      sorted i l =
          let r = sorted_from_lem fit.n s.v h.many i l in
          subst (λ (u : Vertex). P u.x) (sym r.2) (h.points.vertices r.0 r.1)

      go : (b : Bool) → P (cond b (vertex_at (sorted_of s.v fit.n) 0) s.best).x
      go true = sorted 0 (omega arith)
      go false = h.points.best

  trial_last : (s : Simplex) (k : ℕ) (t : Float) → Last s → Last (trial_of fit.n s k t)
  unfolding trial_of
  trial_last s k t h = asked_last s k s.at _ h.within (makes.towards_of_lem s.cen (vertex_at s.v fit.n).x t) h

  reflect_last : (s : Simplex) → Last s → Last (reflect_of fit.n s)
  unfolding reflect_of
  reflect_last s h =
      let q = with_round s (centroid_of s.v fit.n) in
      trial_last q reflecting alpha (kept s q refl refl h.within h.points.x (makes.centroid_of_lem s.v) h.points.refl h)

  tested_last : (s : Simplex) (v : ℕ) → Last s → Last (tested_of fit s v)
  unfolding tested_of done_of
  tested_last s v h =
      either (converged_of fit.options s.v fit.n) _ _
      (λ e. either (leb fit.options.restarts s.runs) _ _ (λ i. phased_last s _ h) (rerun_last s h))
      (either (leb fit.iter s.rounds) _ _ (λ e. phased_last s by_simplex_iterations h)
      (either (leb fit.fevals v) _ _ (λ e. phased_last s by_simplex_fevals h) (reflect_last s h)))

  headed_last : (s : Simplex) (v : ℕ) → Last s → Last (headed_of fit s v)
  unfolding headed_of
  headed_last s v h = tested_last (ordered_of fit.n s) v (ordered_last s h)

  replaced_last : (s : Simplex) (u : Vertex) (v : ℕ) → P u.x → Last s → Last (replaced_of fit s u v)
  unfolding replaced_of
  replaced_last s u v p h = headed_last (with_vertex s fit.n u) v (vertex_last s fit.n u p h)

  shrink_last : (s : Simplex) (i : ℕ) → i ≤ fit.n → Last s → Last (shrink_of fit s i)
  unfolding shrink_of
  shrink_last s i l h = asked_last s shrinking i _ l (makes.shrunk_of_lem (vertex_at s.v 0).x (vertex_at s.v i).x _) h

  -- the vertex told
  module _ (s : Simplex) (f : Float) (v : ℕ) (h : Last s) where
    abbrev new : Vertex
    new = vertex_of s.x f

    new_last : Last (with_vertex s s.at new)
    new_last = vertex_last s s.at new h.points.x h

    built_last : Last (built_of fit s f v)
    unfolding built_of build_of settled_of
    built_last =
        either (ltb s.at fit.n) _ _
        (λ e.
        let l : s.at < fit.n = ltb-true s.at fit.n e in
        asked_last (with_vertex s s.at new) s.phase (s.at + 1) _ (omega arith)
        (makes.corner_of_lem fit.options.step _ s.at l (new_last.points.vertices 0 (omega arith))) new_last)
        (either (any_finite_of (set s.v s.at new) (fit.n + 1)) _ _ (λ e. headed_last _ v new_last) (phased_last _ not_finite new_last))

    reflected_last : Last (reflected_of fit s f v)
    unfolding reflected_of
    reflected_last =
        let q = refl_last s new h.points.x h in
        either (lt f (vertex_at s.v 0).f) _ _ (λ e. trial_last _ expanding _ q)
        (either (lt f (vertex_at s.v (fit.n - 1)).f) _ _ (λ e. replaced_last _ new v h.points.x q)
        (either (lt f (vertex_at s.v fit.n).f) _ _ (λ e. trial_last _ contracting_outside _ q) (trial_last _ contracting_inside _ q)))

    expanded_last : Last (expanded_of fit s f v)
    unfolding expanded_of
    expanded_last = either (lt f s.refl.f) _ _ (λ e. replaced_last s new v h.points.x h) (replaced_last s s.refl v h.points.refl h)

    outside_last : Last (outside_of fit s f v)
    unfolding outside_of
    outside_last = either (le f s.refl.f) _ _ (λ e. replaced_last s new v h.points.x h) (shrink_last s 1 positive h)

    inside_last : Last (inside_of fit s f v)
    unfolding inside_of
    inside_last = either (lt f (vertex_at s.v fit.n).f) _ _ (λ e. replaced_last s new v h.points.x h) (shrink_last s 1 positive h)

    shrinking_last : Last (shrinking_of fit s f v)
    unfolding shrinking_of
    shrinking_last =
        either (ltb s.at fit.n) _ _
        (λ e.
        let l : s.at < fit.n = ltb-true s.at fit.n e in
        shrink_last _ (s.at + 1) (omega arith) new_last) (headed_last _ v new_last)

    told_last : Last (told_of fit s f v)
    unfolding told_of
    told_last =
        either (eqb s.phase building) _ _ (λ e. built_last)
        (either (eqb s.phase reflecting) _ _ (λ e. reflected_last)
        (either (eqb s.phase expanding) _ _ (λ e. expanded_last)
        (either (eqb s.phase contracting_outside) _ _ (λ e. outside_last)
        (either (eqb s.phase contracting_inside) _ _ (λ e. inside_last)
        (either (eqb s.phase shrinking) _ _ (λ e. shrinking_last) h)))))

-- ---- sixteen coordinates, and zeros past n

sizes : (n : ℕ) → n ≤ 16 → Makes n (λ x. length x ≡ 16)
unfolding centroid_of quotient_of towards_of shrunk_of corner_of
sizes n h =
    record {
      centroid_of_lem = λ v. point_laws.width _ n h;
      towards_of_lem = λ c w t. point_laws.width _ n h;
      shrunk_of_lem = λ b w t. point_laws.width _ n h;
      corner_of_lem = λ initial x i l e. length-set x i _ ∙ e;
    }

zeros : (n : ℕ) → Makes n (ZeroFrom n)
zeros n = record { centroid_of_lem = (zeros_past n).centroid_zeros; towards_of_lem = (zeros_past n).towards_zeros; shrunk_of_lem = (zeros_past n).shrunk_zeros; corner_of_lem = (zeros_past n).corner_zeros }

pub told_shaped : (fit : Fixed) (s : Simplex) (f : Float) (v : ℕ) → SimplexShaped fit.n s → SimplexShaped fit.n (told_of fit s f v)
told_shaped fit s f v h =
    let r = told_last fit (λ x. length x ≡ 16) h.positive h.small (sizes fit.n h.small) s f v (record { within = h.within; many = h.many; points = h.points }) in
    record { positive = h.positive; small = h.small; within = r.within; many = r.many; points = r.points }

pub told_zeros : (fit : Fixed) (s : Simplex) (f : Float) (v : ℕ) → SimplexShaped fit.n s → EveryPoint (ZeroFrom fit.n) s → EveryPoint (ZeroFrom fit.n) (told_of fit s f v)
told_zeros fit s f v h z =
    (told_last fit (ZeroFrom fit.n) h.positive h.small (zeros fit.n) s f v (record { within = h.within; many = h.many; points = z })).points

pub start_shaped : (n : ℕ) (x : List Float) → 1 ≤ n → n ≤ 16 → length x ≡ 16 → SimplexShaped n (start_of x)
unfolding start_of
start_shaped n x p h e =
    record {
      positive = p;
      small = h;
      within = zero-le;
      many = refl;
      points = record { x = e; best = e; cen = refl; refl = refl; vertices = λ i l. rw (get_or-replicate 17 i (vertex_of (replicate 16 plus_zero) plus_zero) no_vertex l) };
    }

pub start_zeros : (n : ℕ) (x : List Float) → ZeroFrom n x → EveryPoint (ZeroFrom n) (start_of x)
unfolding start_of
start_zeros n x z =
    record {
      x = z;
      best = z;
      cen = none;
      refl = none;
      vertices = λ i l. rw (get_or-replicate 17 i (vertex_of (replicate 16 plus_zero) plus_zero) no_vertex l) none;
    }
  where
    none : ZeroFrom n (replicate 16 plus_zero)
    none k l h = get_or-replicate 16 k plus_zero nan h
