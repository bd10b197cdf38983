-- A run so far: what was read, and where its parts lead. Assumes nothing.
use Rattle.std.proofs.Common.{◌≡◌, ℕ, List, [], ◌∷◌, ◌++◌, Option, Result, Ok, Bor, sym, ap, ◌∙◌, append-nil}
use Rattle.std.proofs.KnownBytes.{Consumes-trans}
use Rattle.std.proofs.lemmas.Fn.{FoldsTo-push}
use Rattle.std.proofs.lemmas.List.Folds.{concat-append}
use Rattle.std.specs.Io.KnownBytes.{Consumes}
use Rattle.std.specs.List.{concat}
use Rattle.test_rows.specs.Runs.{InParts}

-- bytes were read from a reader that had a left and has b, and lead from z to s
abbrev pub Went : {S E : Type 0} → (S → Bor (List ℕ) → Result S E → Type 0) → Option (List ℕ) → Option (List ℕ) → S → S → Type 0
Went R a b z s = (bs : List ℕ) × Consumes a b bs × InParts R z bs s

-- a part more
pub part_more : {S E : Type 0} (R : S → Bor (List ℕ) → Result S E → Type 0) (a b c : Option (List ℕ)) (z s t : S) (x : Bor (List ℕ)) (cs : List ℕ) → Went R a b z s
    → Consumes b c cs → x.now ≡ cs → R s x (Ok t) → Went R a c z t
part_more {S} R a b c z s t x cs (bs, read, (parts, split, folds)) more at made = (
  bs ++ cs,
  Consumes-trans a b c bs cs read more,
  (
    parts ++ (cs ∷ []),
    ap (λ (l : List ℕ). l ++ cs) split ∙ ap (λ (l : List ℕ). concat parts ++ l) (sym (append-nil cs)) ∙ sym (concat-append parts (cs ∷ [])),
    FoldsTo-push (λ (p : S) (part : List ℕ) (q : S). (y : Bor (List ℕ)) × (y.now ≡ part) × R p y (Ok q)) z parts s cs t folds (x, at, made),
  ),
)
