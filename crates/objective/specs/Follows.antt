-- The record of the differences follows the Algorithm: its question is the text's next, and after any answer it has the rest of the text to do. Statements only.
use Rattle.std.specs.Prelude.{ℕ, zero, suc, ◌-◌, ◌≤◌, ◌<◌, ◌≡◌, Bool, true, false, List, [], ◌∷◌, ◌++◌, length, get_or, set, Float}
use Rattle.std.specs.Float.{nan}
use Rattle.float.specs.Binary64.{plus_zero}
use Rattle.vector.specs.Loops.{at}
use Rattle.vector.specs.Lists.{first}
use Rattle.protocol.specs.declared.Kind.TheVariants.{Value}
use Rattle.protocol.specs.Ask.{Ask, finish, query, ask_value, ◌>>=◌}
use Rattle.objective.specs.declared.Differences.{Differences}
use Rattle.objective.specs.Algorithm.{backward_of, slope_at, differences_from, differences}
use Rattle.objective.specs.Step.{begun_of, probe_of, told_of}

-- a record over n coordinates whose arrays are sixteen long, and that is within them
pub record DifferencesSized (n : ℕ) (s : Differences) : Type 0 where
  pub small : n ≤ 16
  pub within : s.at ≤ n
  pub point16 : length s.x ≡ 16
  pub gradient16 : length s.g ≡ 16

-- the coordinates past n are +0 in point and gradient
pub record DifferencesZeroPast (n : ℕ) (s : Differences) : Type 0 where
  pub point : (k : ℕ) → n ≤ k → k < 16 → at s.x k ≡ plus_zero
  pub gradient : (k : ℕ) → n ≤ k → k < 16 → at s.g k ≡ plus_zero

module _ (read : Float → Float) where
  -- k coordinates to come, from i on; grad is the gradient so far, and fp is told where `forward` is true
  abbrev pub to_do_at : List Float → ℕ → ℕ → List Float → Bool → Float → Ask (List Float)
  to_do_at x zero i grad forward fp = finish grad
  to_do_at x (suc k) i grad false fp = differences_from read x (suc k) i grad
  to_do_at x (suc k) i grad true fp = ask_value read (set x i (backward_of (at x i))) >>= λ fm. differences_from read x k (suc i) (grad ++ (slope_at (at x i) fp fm ∷ []))

  -- what a record has still to do
  abbrev pub to_do : ℕ → Differences → Ask (List Float)
  to_do n s = to_do_at (first n s.x) (n - s.at) s.at (first s.at s.g) s.forward s.value

  pub record DifferencesFollow : Type 0 where
    pub begins : (n : ℕ) (x : List Float) → differences read (first n x) ≡ to_do n (begun_of x)
    -- whatever the words w tell
    pub follows : (n : ℕ) (s : Differences) → DifferencesSized n s → s.at < n → to_do n s ≡ query Value (first n (probe_of s)) (λ w. to_do n (told_of s (read (get_or w 0 nan))))
    pub ends : (n : ℕ) (s : Differences) → s.at ≡ n → to_do n s ≡ finish (first n s.g)
    -- it lasts
    pub begun_sized : (n : ℕ) (x : List Float) → n ≤ 16 → length x ≡ 16 → DifferencesSized n (begun_of x)
    pub told_sized : (n : ℕ) (s : Differences) (v : Float) → DifferencesSized n s → s.at < n → DifferencesSized n (told_of s v)
    pub begun_zeros : (n : ℕ) (x : List Float) → ((k : ℕ) → n ≤ k → k < 16 → at x k ≡ plus_zero) → DifferencesZeroPast n (begun_of x)
    pub told_zeros : (n : ℕ) (s : Differences) (v : Float) → s.at < n → DifferencesZeroPast n s → DifferencesZeroPast n (told_of s v)
    pub probe_zeros : (n : ℕ) (s : Differences) → s.at < n → DifferencesZeroPast n s → (k : ℕ) → n ≤ k → k < 16 → at (probe_of s) k ≡ plus_zero
