-- What is written of a text. Definitions only.
use Rattle.std.specs.Prelude.{ℕ, ◌≡◌, Bool, true, false, List, ◌++◌, Option}
use Rattle.std.specs.Io.KnownBytes.{Appends}

-- a writer that held `old`, where that is known, holds `new`: a text was written, or, where a write failed, a front of it
abbrev pub Wrote : Bool → Option (List ℕ) → Option (List ℕ) → List ℕ → Type 0
Wrote true old new text = Appends old new text
Wrote false old new text = (front rest : List ℕ) × (text ≡ front ++ rest) × Appends old new front
