-- 01's bench values marked P, "proved together as a table of the definitions under a shared theorem". Each row applies a definition that a contract of the code cites, and has its
-- value by bits. A row more is a line in one of the lists below, or a list more in `table`. Definitions and the statement.
use Rattle.std.specs.Prelude.{ℕ, ◌≡◌, true, List, [], ◌∷◌, ◌++◌, map, Float}
use Rattle.std.specs.Float.{binary64}
use Rattle.std.specs.Float.Ieee.{to_bits}
use Rattle.float.specs.Binary64.{bits, plus_zero}
use Rattle.float.specs.Sqrt.{sqrt_of}
use Rattle.protocol.specs.declared.SimplexOptions.{SimplexOptions}
use Rattle.linesearch_trials.specs.declared.Trial.{Trial}
use Rattle.linesearch_trials.specs.Cubic.{interpolate_of}
use Rattle.neldermead_vertices.specs.Method.{alpha, beta, gamma, delta, displaced}

-- what a definition computes, and the bits that it is to have
pub record Row : Type 0 where
  pub computed : Float
  pub value : ℕ

infixl 60 ◌gives◌
abbrev pub ◌gives◌ : Float → ℕ → Row
x gives b = record { computed = x; value = b }

-- "P roots: -0.0 gives -0.0; 4 gives 2; 2 gives 3FF6A09E667F3BCD; 2^-1074 gives 1E60000000000000; the largest finite gives 5FEFFFFFFFFFFFFF."
abbrev pub roots : List Row
roots =
    (sqrt_of (bits 0x8000_0000_0000_0000) gives 0x8000_0000_0000_0000)
    ∷ (sqrt_of (bits 0x4010_0000_0000_0000) gives 0x4000_0000_0000_0000)
    ∷ (sqrt_of (bits 0x4000_0000_0000_0000) gives 0x3FF6_A09E_667F_3BCD)
    ∷ (sqrt_of (bits 0x0000_0000_0000_0001) gives 0x1E60_0000_0000_0000)
    ∷ (sqrt_of (bits 0x7FEF_FFFF_FFFF_FFFF) gives 0x5FEF_FFFF_FFFF_FFFF)
    ∷ []

abbrev pub trial : ℕ → ℕ → ℕ → Trial
trial step value slope = record { step = bits step; value = bits value; slope = bits slope }

-- "P cubic, ends 0 and 1, values 0 and 1: slopes 1 and 1 give 0.5 (denominator 0); 2 and 2 give 0.5 (discriminant -3). Ends 0 and 2, values 1 and 1, slopes -2 and 2 give 1."
abbrev pub cubics : List Row
cubics =
    (interpolate_of (trial 0 0 0x3FF0_0000_0000_0000) (trial 0x3FF0_0000_0000_0000 0x3FF0_0000_0000_0000 0x3FF0_0000_0000_0000) gives 0x3FE0_0000_0000_0000)
    ∷ (interpolate_of (trial 0 0 0x4000_0000_0000_0000) (trial 0x3FF0_0000_0000_0000 0x3FF0_0000_0000_0000 0x4000_0000_0000_0000) gives 0x3FE0_0000_0000_0000)
    ∷ (interpolate_of (trial 0 0x3FF0_0000_0000_0000 0xC000_0000_0000_0000) (trial 0x4000_0000_0000_0000 0x3FF0_0000_0000_0000 0x4000_0000_0000_0000) gives 0x3FF0_0000_0000_0000)
    ∷ []

-- adaptive, with initial_step 0.5
abbrev pub adaptive : SimplexOptions
adaptive = record { xtol = plus_zero; ftol = plus_zero; step = bits 0x3FE0_0000_0000_0000; restarts = 0; adaptive = true }

-- "P adaptive n 4: 1, 1.5, 0.625, 0.75"
abbrev pub of_four : List Row
of_four =
    (alpha gives 0x3FF0_0000_0000_0000)
    ∷ (beta adaptive 4 gives 0x3FF8_0000_0000_0000)
    ∷ (gamma adaptive 4 gives 0x3FE4_0000_0000_0000)
    ∷ (delta adaptive 4 gives 0x3FE8_0000_0000_0000)
    ∷ []

-- "n 2: 1, 2, 0.5, 0.5"
abbrev pub of_two : List Row
of_two =
    (alpha gives 0x3FF0_0000_0000_0000)
    ∷ (beta adaptive 2 gives 0x4000_0000_0000_0000)
    ∷ (gamma adaptive 2 gives 0x3FE0_0000_0000_0000)
    ∷ (delta adaptive 2 gives 0x3FE0_0000_0000_0000)
    ∷ []

-- "P edge, initial_step 0.5: 1 to 1.5, -1 to -1.5"
abbrev pub edges : List Row
edges =
    (displaced adaptive.step (bits 0x3FF0_0000_0000_0000) gives 0x3FF8_0000_0000_0000)
    ∷ (displaced adaptive.step (bits 0xBFF0_0000_0000_0000) gives 0xBFF8_0000_0000_0000)
    ∷ []

abbrev pub table : List Row
table = roots ++ cubics ++ of_four ++ of_two ++ edges

-- every row's definition computes to its value
abbrev pub Computes : Type 0
Computes = map (λ r. to_bits binary64 r.computed) table ≡ map (λ r. r.value) table
