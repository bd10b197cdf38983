-- Whatever is told, rounds stay within max_iter and runs within the restarts (`told_within`), and texts within the bound on questions (`step_keeps`, `opening_keeps`). Assumes nothing.
use Prim.Native.Nat.{ℕ, ◌+◌, ◌-◌, ◌≤◌, zero-le}
use native.Mathlib.Omega.{arith}
use mathlib.Core.Path.{◌≡◌, refl, sym, subst}
use mathlib.Core.Bool.{Bool, true, false, cond}
use mathlib.Core.List.{List}
use borrow.Author.Tests.{leb-false}
use lib.Dec.{leb, ltb, eqb}
use lib.Ieee.{Float, lt, le}
use Rattle.protocol.specs.declared.Kind.TheVariants.{Value}
use Rattle.protocol.specs.declared.SimplexOptions.{SimplexOptions}
use Rattle.protocol.specs.Claim.{limit}
use Rattle.protocol.specs.Ask.{Ask}
use Rattle.protocol.specs.Rounds.{Ending, at_head, stops, fails, Verdict, go_on, stop, restart, FitLimits, reached}
use Rattle.protocol.specs.Bounds.{Keeps, BoundLaws}
use Rattle.protocol.specs.Places.{still, ends, text}
use Rattle.neldermead.specs.declared.Fixed.{Fixed}
use Rattle.neldermead.specs.declared.Simplex.{Simplex}
use Rattle.neldermead_theory.specs.Algorithm.{SimplexPosition, tests, nelder_mead}
use Rattle.neldermead_theory.specs.Phases.{Phase, Move, step_of, simplex_steps}
use Rattle.neldermead_vertices.specs.Vertices.{vertex_at, any_finite_of, converged_of}
use Rattle.neldermead.specs.Step.{building, reflecting, expanding, contracting_outside, contracting_inside, shrinking, ordered_of, trial_of, reflect_of, done_of, tested_of, headed_of, build_of, settled_of, built_of, replaced_of, reflected_of, expanded_of, shrink_of, outside_of, inside_of, shrinking_of, told_of, start_of}
use Rattle.neldermead_theory.specs.Counts.{by_fevals}
use Rattle.neldermead_theory.specs.Follows.{allowed_move, headed_move, settled_move}
use Rattle.neldermead_theory.proofs.Phases.{simplex_steps_lem}
use Rattle.neldermead_theory.proofs.Counts.{bounds}

-- ---- rounds and runs

pub record Within (fit : Fixed) (s : Simplex) : Type 0 where
  pub rounds : s.rounds ≤ fit.iter
  pub runs : s.runs ≤ fit.options.restarts

pub start_within : (fit : Fixed) (x : List Float) → Within fit (start_of x)
unfolding start_of
start_within fit x = record { rounds = zero-le; runs = zero-le }

module _ (fit : Fixed) where
  either : (b : Bool) (s t : Simplex) → (b ≡ true → Within fit s) → (b ≡ false → Within fit t) → Within fit (cond b s t)
  either true s t h k = h refl
  either false s t h k = k refl

  -- with the rounds and the runs of s
  same : (s t : Simplex) → t.rounds ≡ s.rounds → t.runs ≡ s.runs → Within fit s → Within fit t
  same s t e i h = record { rounds = rw e h.rounds; runs = rw i h.runs }

  reflect_within : (s : Simplex) → s.rounds + 1 ≤ fit.iter → Within fit s → Within fit (reflect_of fit.n s)
  unfolding reflect_of trial_of
  reflect_within s l h = record { rounds = l; runs = h.runs }

  done_within : (s : Simplex) → Within fit s → Within fit (done_of fit.options s)
  unfolding done_of
  done_within s h =
      either (leb fit.options.restarts s.runs) _ _ (λ e. same s _ refl refl h)
      (λ e. record { rounds = h.rounds; runs = omega (arith, leb-false fit.options.restarts s.runs e) })

  tested_within : (s : Simplex) (v : ℕ) → Within fit s → Within fit (tested_of fit s v)
  unfolding tested_of
  tested_within s v h =
      either (converged_of fit.options s.v fit.n) _ _ (λ e. done_within s h)
      (λ e. either (leb fit.iter s.rounds) _ _ (λ i. same s _ refl refl h)
      (λ i. either (leb fit.fevals v) _ _ (λ j. same s _ refl refl h)
      (λ j. reflect_within s (omega (arith, leb-false fit.iter s.rounds i)) h)))

  headed_within : (s : Simplex) (v : ℕ) → Within fit s → Within fit (headed_of fit s v)
  unfolding headed_of ordered_of
  headed_within s v h = tested_within (ordered_of fit.n s) v (same s _ refl refl h)

  module _ (s : Simplex) (f : Float) (v : ℕ) (h : Within fit s) where
    built_within : Within fit (built_of fit s f v)
    unfolding built_of build_of settled_of
    built_within =
        either (ltb s.at fit.n) _ _ (λ e. same s _ refl refl h)
        (λ e. either (any_finite_of _ (fit.n + 1)) _ _ (λ i. headed_within _ v (same s _ refl refl h)) (λ i. same s _ refl refl h))

    reflected_within : Within fit (reflected_of fit s f v)
    unfolding reflected_of trial_of replaced_of
    reflected_within =
        either (lt f (vertex_at s.v 0).f) _ _ (λ e. same s _ refl refl h)
        (λ e. either (lt f (vertex_at s.v (fit.n - 1)).f) _ _ (λ i. headed_within _ v (same s _ refl refl h))
        (λ i. either (lt f (vertex_at s.v fit.n).f) _ _ (λ j. same s _ refl refl h) (λ j. same s _ refl refl h)))

    expanded_within : Within fit (expanded_of fit s f v)
    unfolding expanded_of replaced_of
    expanded_within =
        either (lt f s.refl.f) _ _ (λ e. headed_within _ v (same s _ refl refl h)) (λ e. headed_within _ v (same s _ refl refl h))

    outside_within : Within fit (outside_of fit s f v)
    unfolding outside_of replaced_of shrink_of
    outside_within = either (le f s.refl.f) _ _ (λ e. headed_within _ v (same s _ refl refl h)) (λ e. same s _ refl refl h)

    inside_within : Within fit (inside_of fit s f v)
    unfolding inside_of replaced_of shrink_of
    inside_within = either (lt f (vertex_at s.v fit.n).f) _ _ (λ e. headed_within _ v (same s _ refl refl h)) (λ e. same s _ refl refl h)

    shrinking_within : Within fit (shrinking_of fit s f v)
    unfolding shrinking_of shrink_of
    shrinking_within = either (ltb s.at fit.n) _ _ (λ e. same s _ refl refl h) (λ e. headed_within _ v (same s _ refl refl h))

    pub told_within : Within fit (told_of fit s f v)
    unfolding told_of
    told_within =
        either (eqb s.phase building) _ _ (λ e. built_within)
        (λ e. either (eqb s.phase reflecting) _ _ (λ i. reflected_within)
        (λ i. either (eqb s.phase expanding) _ _ (λ j. expanded_within)
        (λ j. either (eqb s.phase contracting_outside) _ _ (λ k. outside_within)
        (λ k. either (eqb s.phase contracting_inside) _ _ (λ m. inside_within)
        (λ m. either (eqb s.phase shrinking) _ _ (λ n. shrinking_within) (λ n. h))))))

-- ---- the questions that are left

abbrev pub words : Move → Ask (Ending SimplexPosition)
words t = text simplex_steps_lem.to_do t

-- the allowance M, the options and the start that a bound is of
module _ (M : ℕ) (o : SimplexOptions) (x : List Float) (l : FitLimits) (e : l.fevals ≡ limit M) where
  abbrev laws : BoundLaws nelder_mead Value (by_fevals M o x) l o x
  laws = bounds.by_fevals_lem o x l M e

  -- after k questions, what the turn has still to do keeps to the bound
  abbrev pub Budget : ℕ → Move → Type 0
  Budget k t = Keeps Value (by_fevals M o x) laws.Head k (words t)

  -- the turn goes on through a head
  settled_keeps : (k : ℕ) (t : Move) → Budget k t → Budget k (settled_move l k t)
  settled_keeps k (still ph) h = h
  settled_keeps k (ends (stops y p)) h = h
  settled_keeps k (ends (fails m d)) h = h
  settled_keeps k (ends (at_head p)) h = go (tests p) refl
    where
      both : (a b : Bool) → reached p.iterations l.iter ≡ a → reached k l.fevals ≡ b → Budget k (allowed_move a b p)
      both true b i j = tt
      both false true i j = tt
      both false false i j =
          subst (Keeps Value (by_fevals M o x) laws.Head k) (sym (simplex_steps_lem.rounds p)) (laws.round_keeps k 0 p h i j)

      go : (y : Verdict SimplexPosition) → tests p ≡ y → Budget k (headed_move l k y p)
      go go_on i = both (reached p.iterations l.iter) (reached k l.fevals) refl refl
      go (stop y) i = tt
      go (restart m) i = subst (Keeps Value (by_fevals M o x) laws.Head k) (sym (simplex_steps_lem.restarts p m i)) (laws.restart_keeps k p m h i)

  -- one question more keeps to the bound, and so does what its answer leads to
  pub step_keeps : (k : ℕ) (ph : Phase) → Budget k (still ph) → (k + 1 ≤ by_fevals M o x) × ((w : List Float) → Budget (k + 1) (settled_move l (k + 1) (step_of ph w)))
  step_keeps k ph h =
      let q = subst (Keeps Value (by_fevals M o x) laws.Head k) (simplex_steps_lem.follows ph) h in
      (q.0, λ w. settled_keeps (k + 1) (step_of ph w) (q.1 w))

  -- a start has asked nothing
  pub opening_keeps : Budget 0 (simplex_steps.opening o x)
  opening_keeps = subst (Keeps Value (by_fevals M o x) laws.Head 0) (sym (simplex_steps_lem.opens o x)) laws.opening_keeps
