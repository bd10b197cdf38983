-- What each function of this crate computes, over sixteen coordinates and the first `count` of sixteen pairs. Definitions only.
use Rattle.std.specs.Prelude.{ℕ, zero, suc, ◌+◌, ◌-◌, cond, List, [], eqb, get_or, set, replicate, Float}
use Rattle.std.specs.Float.{nan}
use Rattle.std.specs.Float.Ieee.{lt}
use Rattle.float.specs.Binary64.{◌⊖◌, ◌⊗◌, ◌⊘◌, plus_zero}
use Rattle.vector.specs.Loops.{fold, at}
use Rattle.vector.specs.Points.{dot_of, negation_of, scaled_of, plus_scaled_of, minus_scaled_of}
use Rattle.quasinewton_dense.specs.Step.{one}
use Rattle.quasinewton_limited.specs.declared.Pair.{Pair}
use Rattle.quasinewton_limited.specs.declared.Limited.{Limited}
use Rattle.quasinewton_limited.specs.declared.Sweep.{Sweep}

-- what an index past the end would read
abbrev pub no_pair : Pair
no_pair = record { s = []; y = []; rho = nan }

-- pairs[i], as the code's index reads it
abbrev pub pair_at : List Pair → ℕ → Pair
pair_at pairs i = get_or pairs i no_pair

unfoldable pub down_of : Pair → Sweep → ℕ → ℕ → Sweep
down_of p w i n =
    let alpha = p.rho ⊗ dot_of p.s w.q n in
    record { q = minus_scaled_of w.q alpha p.y n; alphas = set w.alphas i alpha }

-- past the first k pairs, from the newest of them
unfoldable pub down_from : List Pair → ℕ → ℕ → Sweep → Sweep
down_from pairs n zero w = w
down_from pairs n (suc k) w = down_from pairs n k (down_of (pair_at pairs k) w k n)

unfoldable pub all_down_of : Limited → List Float → ℕ → Sweep
all_down_of l g n = down_from l.pairs n l.count (record { q = g; alphas = replicate 16 plus_zero })

unfoldable pub up_of : Pair → List Float → Float → ℕ → List Float
up_of p q alpha n = plus_scaled_of q (alpha ⊖ p.rho ⊗ dot_of p.y q n) p.s n

-- past the first k pairs, from the oldest
unfoldable pub all_up_of : List Pair → List Float → List Float → ℕ → ℕ → List Float
all_up_of pairs r alphas n = fold (λ q i. up_of (pair_at pairs i) q (at alphas i) n) r

unfoldable pub limited_direction_of : Limited → List Float → ℕ → List Float
limited_direction_of l g n =
    let w = all_down_of l g n in
    negation_of (all_up_of l.pairs (scaled_of w.q l.gamma n) w.alphas n l.count) n

unfoldable pub shifted_of : List Pair → ℕ → List Pair
shifted_of pairs = fold (λ w i. set w i (pair_at pairs (i + 1))) pairs

unfoldable pub popped_of : Limited → Limited
popped_of l = cond (eqb l.count 0) l (record { count = l.count - 1; gamma = l.gamma; pairs = shifted_of l.pairs (l.count - 1) })

unfoldable pub room_of : Limited → ℕ → Limited
room_of l memory = cond (eqb l.count memory) (popped_of l) l

unfoldable pub gamma_of : Float → Float → Float → Float
gamma_of old sy yy = cond (lt plus_zero yy) (sy ⊘ yy) old

unfoldable pub limited_update_of : Limited → ℕ → List Float → List Float → ℕ → Limited
limited_update_of l memory s y n =
    let sy = dot_of s y n in
    let kept = room_of l memory in
    record { count = kept.count + 1; gamma = gamma_of l.gamma sy (dot_of y y n); pairs = set kept.pairs kept.count (record { s = s; y = y; rho = one ⊘ sy }) }

abbrev pub blank_pair : Pair
blank_pair = record { s = replicate 16 plus_zero; y = replicate 16 plus_zero; rho = plus_zero }

unfoldable pub no_pairs_of : Float → Limited
no_pairs_of gamma = record { count = 0; gamma = gamma; pairs = replicate 16 blank_pair }
