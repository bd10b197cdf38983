-- The operations over lists of n coordinates, as the Rust's iterators have them. Each comment is the Rust's line. Definitions only.
use Rattle.std.specs.Prelude.{ℕ, ◌+◌, ◌*◌, Bool, true, ◌&&◌, Float}
use mathlib.Core.List.{List, foldl, map, zip_with}
use Rattle.std.specs.Float.Ieee.{neg}
use Rattle.float.specs.Binary64.{◌⊕◌, ◌⊖◌, ◌⊗◌, ◌⊘◌, plus_zero, minus_zero}
use Rattle.float.specs.Values.{abs_of, finite_of, max_of}
use Rattle.vector.specs.Loops.{upto, at}

-- a.iter().zip(b).map(|(&x, &y)| x * y).sum()
unfoldable pub dot : List Float → List Float → Float
unfolding zip_with
dot a b = foldl ◌⊕◌ minus_zero (zip_with ◌⊗◌ a b)

-- a.iter().fold(0.0, |m, &v| m.max(v.abs()))
unfoldable pub inf_norm : List Float → Float
inf_norm a = foldl (λ m v. max_of m (abs_of v)) plus_zero a

-- !a.iter().any(|v| !v.is_finite())
unfoldable pub all_finite : List Float → Bool
all_finite a = foldl (λ b v. b && finite_of v) true a

-- x.iter().zip(d).map(|(&xi, &di)| xi + t * di)
unfoldable pub plus_scaled : List Float → Float → List Float → List Float
unfolding zip_with
plus_scaled x t d = zip_with (λ xi di. xi ⊕ t ⊗ di) x d

-- for (qi, yi) in q.iter_mut().zip(y) { *qi -= t * yi }
unfoldable pub minus_scaled : List Float → Float → List Float → List Float
unfolding zip_with
minus_scaled x t d = zip_with (λ xi di. xi ⊖ t ⊗ di) x d

-- a.iter().zip(b).map(|(&a, &b)| a - b)
unfoldable pub difference : List Float → List Float → List Float
unfolding zip_with
difference a b = zip_with ◌⊖◌ a b

-- for (ci, vi) in c.iter_mut().zip(v) { *ci += vi }
unfoldable pub addition : List Float → List Float → List Float
unfolding zip_with
addition a b = zip_with ◌⊕◌ a b

-- for ci in c.iter_mut() { *ci /= t }
unfoldable pub quotient : List Float → Float → List Float
quotient a t = map (λ v. v ⊘ t) a

-- for qi in q.iter_mut() { *qi *= t }
unfoldable pub scaled : List Float → Float → List Float
scaled a t = map (λ v. v ⊗ t) a

-- g.iter().map(|&v| -v)
unfoldable pub negation : List Float → List Float
negation a = map neg a

-- cen.iter().zip(worst).map(|(&ci, &wi)| ci + coef * (ci - wi))
unfoldable pub towards : List Float → List Float → Float → List Float
unfolding zip_with
towards c w t = zip_with (λ ci wi. ci ⊕ t ⊗ (ci ⊖ wi)) c w

-- for (vi, bi) in v.iter_mut().zip(best) { *vi = bi + delta * (*vi - bi) }
unfoldable pub shrunk : List Float → List Float → Float → List Float
unfolding zip_with
shrunk b v t = zip_with (λ bi vi. bi ⊕ t ⊗ (vi ⊖ bi)) b v

-- for (i, hyi) in hy.iter_mut().enumerate() { *hyi = dot(&h[i * n..(i + 1) * n], y) }
unfoldable pub mat_vec : List (List Float) → List Float → List Float
unfolding dot
mat_vec rows v = map (λ row. dot row v) rows

-- ---- lists of n coordinates, read off sixteen

-- the first n coordinates
unfoldable pub first : ℕ → List Float → List Float
first n x = upto (at x) n

-- the first n rows of a matrix of sixteen columns, n coordinates each
unfoldable pub row_of : ℕ → List Float → ℕ → List Float
row_of n h i = upto (λ j. at h (i * 16 + j)) n

unfoldable pub rows_of : ℕ → List Float → List (List Float)
unfolding row_of
rows_of n h = upto (row_of n h) n
