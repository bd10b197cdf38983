-- Central differences in direct style: `central_difference_gradient` of objective.rs, over lists of n coordinates. Definitions only.
use Prim.Native.Nat.{ℕ, zero, suc}
use Rattle.std.specs.Prelude.{Bool, cond, List, [], ◌∷◌, ◌++◌, length, set, Float}
use Rattle.float.specs.Binary64.{◌⊕◌, ◌⊖◌, ◌⊗◌, ◌⊘◌, bits}
use Rattle.float.specs.Values.{abs_of, max_of}
use Rattle.float.specs.Roots.{difference_factor}
use Rattle.vector.specs.Loops.{at}
use Rattle.vector.specs.Lists.{first}
use Rattle.protocol.specs.declared.Kind.TheVariants.{Gradient}
use Rattle.protocol.specs.Ask.{Ask, finish, query, ask_value, ◌>>=◌}

-- h = base * x[i].abs().max(1.0), with a coordinate's typical size in the place of the 1
unfoldable pub difference_step : Float → Float → Float
difference_step x size = difference_factor ⊗ max_of (abs_of x) size

-- xp = x[i] + h and xm = x[i] - h, with the size 1.0
unfoldable pub forward_of : Float → Float
unfolding difference_step
forward_of x = x ⊕ difference_step x (bits 0x3ff0_0000_0000_0000)

unfoldable pub backward_of : Float → Float
unfolding difference_step
backward_of x = x ⊖ difference_step x (bits 0x3ff0_0000_0000_0000)

-- grad[i] = (fp - fm) / (xp - xm): the divisor is the computed difference
unfoldable pub slope_at : Float → Float → Float → Float
unfolding forward_of backward_of
slope_at x fp fm = (fp ⊖ fm) ⊘ (forward_of x ⊖ backward_of x)

-- `read` is how a value told is read: `read_of` in a fit and for trials, as it is in bare differences
module _ (read : Float → Float) where
  -- for i in 0..n: k coordinates are left, the next is i, and grad is the gradient so far
  unfoldable pub differences_from : List Float → ℕ → ℕ → List Float → Ask (List Float)
  unfolding ◌>>=◌
  differences_from x zero i grad = finish grad
  differences_from x (suc k) i grad =
      ask_value read (set x i (forward_of (at x i))) >>= λ fp.
      ask_value read (set x i (backward_of (at x i))) >>= λ fm.
      differences_from x k (suc i) (grad ++ (slope_at (at x i) fp fm ∷ []))

  abbrev pub differences : List Float → Ask (List Float)
  differences x = differences_from x (length x) 0 []

  -- `eval_gradient`: the objective's own gradient where it gives them, else central differences
  abbrev pub eval_gradient : Bool → List Float → Ask (List Float)
  eval_gradient gradients x = cond gradients (query Gradient x (λ w. finish (first (length x) w))) (differences x)
