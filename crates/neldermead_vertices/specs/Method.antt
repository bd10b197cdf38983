-- The formulas of Nelder and Mead's method that the Algorithm over lists and the code's definitions share: coefficients of Gao and Han (2012), edges, floors, the best. Each
-- stands beside its line of neldermead.rs. Definitions only.
use Rattle.std.specs.Prelude.{ℕ, Bool, ◌&&◌, cond, pos, ltb, Float}
use Rattle.std.specs.Float.{binary64}
use Rattle.std.specs.Float.Ieee.{neg, lt, of_int}
use Rattle.float.specs.Binary64.{◌⊕◌, ◌⊖◌, ◌⊗◌, ◌⊘◌, bits, plus_zero}
use Rattle.float.specs.Values.{abs_of, max_of}
use Rattle.protocol.specs.declared.SimplexOptions.{SimplexOptions}
use Rattle.neldermead_vertices.specs.declared.Vertex.{Vertex}

-- n as f64
abbrev pub real : ℕ → Float
real n = of_int binary64 (pos n)

abbrev pub one : Float
one = bits 0x3ff0_0000_0000_0000

abbrev pub two : Float
two = bits 0x4000_0000_0000_0000

abbrev pub half : Float
half = bits 0x3fe0_0000_0000_0000

-- ---- the coefficients alpha, beta, gamma and delta

-- opts.adaptive && n > 2
abbrev pub adapts : SimplexOptions → ℕ → Bool
adapts o n = o.adaptive && ltb 2 n

abbrev pub alpha : Float
alpha = one

-- 1.0 + 2.0 / nf, or 2.0
unfoldable pub beta : SimplexOptions → ℕ → Float
beta o n = cond (adapts o n) (one ⊕ two ⊘ real n) two

-- 0.75 - 1.0 / (2.0 * nf), or 0.5
unfoldable pub gamma : SimplexOptions → ℕ → Float
gamma o n = cond (adapts o n) (bits 0x3fe8_0000_0000_0000 ⊖ one ⊘ (two ⊗ real n)) half

-- 1.0 - 1.0 / nf, or 0.5
unfoldable pub delta : SimplexOptions → ℕ → Float
delta o n = cond (adapts o n) (one ⊖ one ⊘ real n) half

-- ---- the edges of a new simplex

-- step = (opts.initial_step * v[i].abs()).max(ZERO_STEP); v[i] += if v[i] < 0.0 { -step } else { step }
unfoldable pub displaced : Float → Float → Float
displaced initial v = let step = max_of (initial ⊗ abs_of v) (bits 0x3f30_624d_d2f1_a9fc) in v ⊕ cond (lt v plus_zero) (neg step) step

-- ---- the floors of the tests, and the best of all runs

-- RESOLUTION_ULPS * f64::EPSILON * scale
unfoldable pub resolution : Float → Float
resolution scale = bits 0x4010_0000_0000_0000 ⊗ bits 0x3cb0_0000_0000_0000 ⊗ scale

-- if fx[0] < best_f { best = simplex[0] }
unfoldable pub better : Vertex → Vertex → Vertex
better u b = cond (lt u.f b.f) u b
