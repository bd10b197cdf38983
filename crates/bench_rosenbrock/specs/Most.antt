-- How many questions a fit of the chain is answered at most. Assumes nothing.
use Rattle.std.specs.Prelude.{ℕ, Bool, true, cond, eqb, ltb}

-- n is not from 1 to 16
unfoldable pub outside_of : ℕ → Bool
outside_of n = cond (eqb n 0) true (ltb 16 n)

unfoldable pub most_of : ℕ → ℕ
most_of n = cond (outside_of n) 0 100000
