-- A bound on one fit's questions is a bound on them in simplex and gradient fits as one. Assumes nothing.
use Prim.Native.Nat.{◌+◌}
use mathlib.Core.Path.{◌≡◌, refl, sym, subst}
use mathlib.Core.Logic.{inl, inr}
use mathlib.Core.List.{List}
use mathlib.Core.Bool.{Bool, true, false}
use Prim.Native.Nat.{ℕ}
use lib.Ieee.{Float}
use Rattle.protocol.specs.declared.Kind.{Kind}
use Rattle.protocol.specs.declared.SimplexOptions.{SimplexOptions}
use Rattle.protocol.specs.declared.GradientOptions.{GradientOptions}
use Rattle.protocol.specs.Protocol.{Job, simplex, bfgs, lbfgs}
use Rattle.protocol.specs.Ask.{Ask, finish, query, ◌>>=◌}
use Rattle.protocol.specs.Rounds.{Ending, at_head, stops, fails, Verdict, go_on, stop, restart, Rounds, FitLimits, reached}
use Rattle.protocol.specs.Dialogue.{of_kind}
use Rattle.protocol.specs.Bounds.{Keeps, of_both, BoundLaws}
use Rattle.protocol.specs.Fits.{map_text, map_verdict, Positions, iterations_of, opening_of, tests_of, round_of, fits}
use Rattle.protocol.proofs.Verdicts.{stop≢restart, go_on≢restart, restart_inj}

module _ {P Q : Type 0} (f : P → Q) (κ : Kind) (bound : ℕ) (HP : ℕ → P → Type 0) (HQ : ℕ → Q → Type 0) (h : (k : ℕ) (p : P) → HP k p → HQ k (f p)) where
  keeps_map : (k : ℕ) (m : Ask (Ending P)) → Keeps κ bound HP k m → Keeps κ bound HQ k (map_text f m)
  unfolding ◌>>=◌
  keeps_map k (query j x c) a = (a.0, λ w. keeps_map (k + of_kind κ j) (c w) (a.1 w))
  keeps_map k (finish (at_head p)) a = h k p a
  keeps_map k (finish (stops y p)) a = tt
  keeps_map k (finish (fails m d)) a = tt

  restart_map : (k : ℕ) (v : Verdict P) (m : Ask (Ending Q)) → map_verdict f v ≡ restart m → ((n : Ask (Ending P)) → v ≡ restart n → Keeps κ bound HP k n) → Keeps κ bound HQ k m
  restart_map k go_on m e a = absurd (go_on≢restart e)
  restart_map k (stop y) m e a = absurd (stop≢restart e)
  restart_map k (restart n) m e a = subst (Keeps κ bound HQ k) (restart_inj e) (keeps_map k n (a n refl))

module _ (A : Rounds SimplexOptions) (B : Rounds (Bool × GradientOptions)) (κ : Kind) (bound : ℕ) (l : FitLimits) (x : List Float) where
  abbrev Texts : Type 0
  Texts = Ask (Ending (Positions A B))

  module _ (o : SimplexOptions) (N : BoundLaws A κ bound l o x) where
    abbrev Left : ℕ → Positions A B → Type 0
    Left k (inl p) = N.Head k p
    Left k (inr p) = ⊥

    left : (k : ℕ) (m : Ask (Ending A.Position)) → Keeps κ bound N.Head k m → Keeps κ bound Left k (map_text inl m)
    left k m h = keeps_map inl κ bound N.Head Left (λ k p a. a) k m h

    restarts : (k : ℕ) (p : Positions A B) (m : Texts) → Left k p → tests_of A B p ≡ restart m → Keeps κ bound Left k m
    restarts k (inl p) m a e = restart_map inl κ bound N.Head Left (λ k p a. a) k (A.tests p) m e (λ n i. N.restart_keeps k p n a i)
    restarts k (inr p) m a e = absurd a

    rounds : (v g : ℕ) (p : Positions A B) → Left (of_both κ v g) p → reached (iterations_of A B p) l.iter ≡ false → reached v l.fevals ≡ false
        → Keeps κ bound Left (of_both κ v g) (round_of A B p)
    rounds v g (inl p) a i j = left (of_both κ v g) (A.round p) (N.round_keeps v g p a i j)
    rounds v g (inr p) a i j = absurd a

    pub simplex_bounds : BoundLaws (fits A B) κ bound l (simplex o) x
    simplex_bounds = record { Head = Left; opening_keeps = left 0 (A.opening o x) N.opening_keeps; restart_keeps = restarts; round_keeps = rounds }

  module _ (limited : Bool) (o : GradientOptions) (N : BoundLaws B κ bound l (limited, o) x) where
    abbrev Right : ℕ → Positions A B → Type 0
    Right k (inl p) = ⊥
    Right k (inr p) = N.Head k p

    right : (k : ℕ) (m : Ask (Ending B.Position)) → Keeps κ bound N.Head k m → Keeps κ bound Right k (map_text inr m)
    right k m h = keeps_map inr κ bound N.Head Right (λ k p a. a) k m h

    again : (k : ℕ) (p : Positions A B) (m : Texts) → Right k p → tests_of A B p ≡ restart m → Keeps κ bound Right k m
    again k (inl p) m a e = absurd a
    again k (inr p) m a e = restart_map inr κ bound N.Head Right (λ k p a. a) k (B.tests p) m e (λ n i. N.restart_keeps k p n a i)

    onward : (v g : ℕ) (p : Positions A B) → Right (of_both κ v g) p → reached (iterations_of A B p) l.iter ≡ false → reached v l.fevals ≡ false
        → Keeps κ bound Right (of_both κ v g) (round_of A B p)
    onward v g (inl p) a i j = absurd a
    onward v g (inr p) a i j = right (of_both κ v g) (B.round p) (N.round_keeps v g p a i j)

    gradient_bounds : (j : Job) → opening_of A B j x ≡ map_text inr (B.opening (limited, o) x) → BoundLaws (fits A B) κ bound l j x
    gradient_bounds j e = record {
      Head = Right;
      opening_keeps = subst (Keeps κ bound Right 0) (sym e) (right 0 (B.opening (limited, o) x) N.opening_keeps);
      restart_keeps = again;
      round_keeps = onward;
    }

  pub bfgs_bounds : (o : GradientOptions) → BoundLaws B κ bound l (false, o) x → BoundLaws (fits A B) κ bound l (bfgs o) x
  bfgs_bounds o N = gradient_bounds false o N (bfgs o) refl

  pub lbfgs_bounds : (o : GradientOptions) → BoundLaws B κ bound l (true, o) x → BoundLaws (fits A B) κ bound l (lbfgs o) x
  lbfgs_bounds o N = gradient_bounds true o N (lbfgs o) refl
