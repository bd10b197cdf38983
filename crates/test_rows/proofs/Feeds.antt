-- A table that is fed part by part is fed byte by byte. Assumes nothing.
use Rattle.std.proofs.Common.{◌≡◌, ℕ, List, [], ◌∷◌, ◌++◌, Option, Some, None, Bor, IfSome, sym, subst}
use Rattle.std.specs.List.{FoldsTo, concat}
use Rattle.test_rows.specs.declared.Tally.{Tally}
use Rattle.test_rows.specs.Runs.{Counts}

joined : {P A : Type 0} (R : P → A → P → Type 0) (p : P) (xs : List A) (q : P) (ys : List A) (r : P) → FoldsTo R p xs q → FoldsTo R q ys r → FoldsTo R p (xs ++ ys) r
joined R p [] q ys r e h = subst (λ z. FoldsTo R z ys r) (sym e) h
joined R p (x ∷ xs) q ys r (j, step, more) h = (j, step, joined R j xs q ys r more h)

-- parts that lead from z to s, each of them as Q says
abbrev pub Led : {T : Type 0} → (T → Bor (List ℕ) → T → Type 0) → T → List ℕ → T → Type 0
Led Q z bs s = (parts : List (List ℕ)) × (bs ≡ concat parts) × FoldsTo (λ p part q. (x : Bor (List ℕ)) × (x.now ≡ part) × Q p x q) z parts s

over : {T : Type 0} (Q : T → Bor (List ℕ) → T → Type 0) (S : T → ℕ → T → Type 0) (each : (p : T) (x : Bor (List ℕ)) (q : T) → Q p x q → FoldsTo S p x.now q)
    → (z : T) (parts : List (List ℕ)) (s : T) → FoldsTo (λ p part q. (x : Bor (List ℕ)) × (x.now ≡ part) × Q p x q) z parts s → FoldsTo S z (concat parts) s
over Q S each z [] s e = e
over Q S each z (part ∷ parts) s (j, (x, at, step), more) = joined S z part j (concat parts) s (subst (λ l. FoldsTo S z l j) at (each z x j step)) (over Q S each j parts s more)

-- where a part leads to what its bytes lead to
pub counts : {T : Type 0} (Q : T → Bor (List ℕ) → T → Type 0) (S : T → ℕ → T → Type 0) (C : T → Tally → Type 0) (o : Option (List ℕ)) (z s : T) (t : Tally)
    → IfSome o (λ bs. Led Q z bs s) → C s t → ((p : T) (x : Bor (List ℕ)) (q : T) → Q p x q → FoldsTo S p x.now q) → IfSome o (λ bs. Counts S C z bs t)
counts Q S C None z s t h c each = tt
counts Q S C (Some bs) z s t (parts, split, folds) c each = (s, subst (λ l. FoldsTo S z l s) (sym split) (over Q S each z parts s folds), c)
