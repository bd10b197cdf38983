-- What a program makes of its input, part by part. Definitions only.
use Rattle.std.specs.Prelude.{◌≡◌, ℕ, List, Result, Ok}
use Rattle.std.specs.Borrow.{Bor}
use Rattle.std.specs.List.{FoldsTo, concat}
use Rattle.test_rows.specs.declared.Tally.{Tally}

-- `R z part r`: r may be what is made of z at a part. A text is the parts, one after another, and they lead from z to s
abbrev pub InParts : {S E : Type 0} → (S → Bor (List ℕ) → Result S E → Type 0) → S → List ℕ → S → Type 0
InParts R z bs s = (parts : List (List ℕ)) × (bs ≡ concat parts) × FoldsTo (λ p part q. (x : Bor (List ℕ)) × (x.now ≡ part) × R p x (Ok q)) z parts s

-- the bytes of a table are fed one after another, and t is counted where they end
abbrev pub Counts : {T : Type 0} → (T → ℕ → T → Type 0) → (T → Tally → Type 0) → T → List ℕ → Tally → Type 0
Counts {T} feeds closes begun bs t = (end : T) × FoldsTo feeds begun bs end × closes end t
