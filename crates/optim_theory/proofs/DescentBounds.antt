-- A gradient fit's text keeps to its bounds as it goes on through heads (`settled_keeps`), and within 2's limits they are low (`bound_low`). Assumes nothing.
use Prim.Native.Nat.{ℕ, ◌+◌, ◌*◌, ◌≤◌}
use native.Mathlib.Nat.{le_trans, mul-le-mul_left, mul-le-mul_right}
use native.Mathlib.Omega.{arith}
use mathlib.Core.Path.{◌≡◌, refl}
use mathlib.Core.Bool.{Bool, true, false}
use mathlib.Core.List.{List}
use lib.ListN.{length}
use lib.Ieee.{Float}
use Rattle.protocol.specs.declared.Kind.{Kind}
use Rattle.protocol.specs.declared.Kind.TheVariants.{Value, Gradient}
use Rattle.protocol.specs.declared.GradientOptions.{GradientOptions}
use Rattle.protocol.specs.Claim.{limit}
use Rattle.protocol.specs.Ask.{Ask, finish, query}
use Rattle.protocol.specs.Rounds.{Ending, at_head, stops, fails, Verdict, go_on, stop, restart, FitLimits, reached}
use Rattle.protocol.specs.Bounds.{Keeps, of_both, BoundLaws}
use Rattle.quasinewton_theory.specs.Algorithm.{GradientPosition, tests, quasi_newton}
use Rattle.quasinewton_theory.specs.Counts.{with_gradients, without_gradients}
use Rattle.quasinewton_theory.specs.Follows.{allowed, headed, settled}
use Rattle.quasinewton_theory.proofs.Counts.{bounds}

-- what a start is bounded by: whether memory is limited, the options, the point, the limits and how many iterations they allow
pub record Budget : Type 0 where
  pub limited : Bool
  pub options : GradientOptions
  pub x0 : List Float
  pub limits : FitLimits
  pub rounds : ℕ
  pub iter : limits.iter ≡ limit rounds

-- a bound with its laws
pub record Bounding (κ : Kind) (b : Budget) : Type 1 where
  pub bound : ℕ
  pub laws : BoundLaws quasi_newton κ bound b.limits (b.limited, b.options) b.x0

-- by the kind, and by whether the objective gives gradients
abbrev bounding_by : (κ : Kind) (b : Budget) (g : Bool) → b.options.gradients ≡ g → Bounding κ b
bounding_by κ b true e = record { bound = with_gradients b.rounds b.options; laws = bounds.with_gradients_lem κ b.limited b.options b.x0 b.limits b.rounds e b.iter }
bounding_by Value b false e =
    record { bound = without_gradients b.rounds b.options b.x0; laws = bounds.without_gradients_lem b.limited b.options b.x0 b.limits b.rounds e b.iter }
bounding_by Gradient b false e = record { bound = 0; laws = bounds.no_gradients b.limited b.options b.x0 b.limits e }

abbrev pub bounding : (κ : Kind) (b : Budget) → Bounding κ b
bounding κ b = bounding_by κ b b.options.gradients refl

-- ---- it is low

-- 33*(1+10^9) values, 1+10^9 gradients
abbrev pub most_of : Kind → ℕ
most_of Value = 33000000033
most_of Gradient = 1000000001

pub bound_low : (κ : Kind) (b : Budget) → b.rounds ≤ 1000000 → b.options.wolfe.evals ≤ 1000 → length b.x0 ≤ 16 → (bounding κ b).bound ≤ most_of κ
bound_low κ b i e n = go κ b.options.gradients refl
  where
    trials : 1 + b.rounds * b.options.wolfe.evals ≤ 1000000001
    trials = low (b.rounds * b.options.wolfe.evals) (le_trans (mul-le-mul_right b.options.wolfe.evals i) (mul-le-mul_left 1000000 e))
      where
        low : (k : ℕ) → k ≤ 1000000000 → 1 + k ≤ 1000000001
        low k h = omega arith

    per : 1 + 2 * length b.x0 ≤ 33
    per = omega arith

    go : (κ : Kind) (g : Bool) (j : b.options.gradients ≡ g) → (bounding_by κ b g j).bound ≤ most_of κ
    go Value true j = omega (arith, trials)
    go Gradient true j = trials
    go Value false j = le_trans (mul-le-mul_right (1 + b.rounds * b.options.wolfe.evals) per) (mul-le-mul_left 33 trials)
    go Gradient false j = omega arith

-- ---- a text goes on through a head

module _ (κ : Kind) (b : Budget) where
  abbrev pub Within : ℕ → Ask (Ending GradientPosition) → Type 0
  Within k m = Keeps κ (bounding κ b).bound (bounding κ b).laws.Head k m

  pub settled_keeps : (v g : ℕ) (m : Ask (Ending GradientPosition)) → Within (of_both κ v g) m → Within (of_both κ v g) (settled b.limits v m)
  settled_keeps v g (query j x c) h = h
  settled_keeps v g (finish (stops y p)) h = h
  settled_keeps v g (finish (fails k d)) h = h
  settled_keeps v g (finish (at_head p)) h = go (tests p) refl
    where
      both : (a c : Bool) → reached p.iterations b.limits.iter ≡ a → reached v b.limits.fevals ≡ c → Within (of_both κ v g) (allowed a c p)
      both true c i j = tt
      both false true i j = tt
      both false false i j = (bounding κ b).laws.round_keeps v g p h i j

      go : (o : Verdict GradientPosition) → tests p ≡ o → Within (of_both κ v g) (headed b.limits v o p)
      go go_on e = both (reached p.iterations b.limits.iter) (reached v b.limits.fevals) refl refl
      go (stop y) e = tt
      go (restart m) e = (bounding κ b).laws.restart_keeps (of_both κ v g) p m h e
