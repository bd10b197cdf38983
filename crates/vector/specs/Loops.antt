-- Loops that count from 0 to n, as definitions: `fold` for one that carries a value, `point` for one that fills sixteen coordinates. Definitions only.
use Rattle.std.specs.Prelude.{◌≡◌, ℕ, zero, suc, ◌-◌, ◌<◌, List, [], ◌∷◌, ◌++◌, get_or, replicate, Float, Bool, true, ◌&&◌}
use Rattle.std.specs.Float.{nan}
use Rattle.float.specs.Binary64.{plus_zero}

-- what f makes of z at 0, then at 1, and so on up to n - 1
abbrev pub fold : {A : Type 0} → (A → ℕ → A) → A → ℕ → A
fold f z zero = z
fold f z (suc k) = f (fold f z k) k

-- g 0, g 1, .. up to g (n - 1)
abbrev pub upto : {A : Type 0} → (ℕ → A) → ℕ → List A
upto g zero = []
upto g (suc k) = upto g k ++ (g k ∷ [])

-- the point whose first n of sixteen coordinates are g 0, g 1, .., and whose others are +0
abbrev pub point : (ℕ → Float) → ℕ → List Float
point g n = upto g n ++ replicate (16 - n) plus_zero

-- coordinate i, as the code's a[i] is read
abbrev pub at : List Float → ℕ → Float
at a i = get_or a i nan

-- ---- what a loop makes by calling a closure, of which only a relation is known: `R i v` says that the call at i may return v

-- r is the point that the calls below n fill: where g says what each of them returns, it is the point of g
abbrev pub Fills : (ℕ → Float → Type 0) → ℕ → List Float → Type 0
Fills R n r = (g : ℕ → Float) → ((i : ℕ) → i < n → (v : Float) → R i v → v ≡ g i) → r ≡ point g n

-- t is what the calls below n make of z, each of what the one before returned: `R s i r` says that the call at s and i may return r.
-- Where f says what each of them returns, it is the fold of f
abbrev pub Folds : {A : Type 0} → (A → ℕ → A → Type 0) → ℕ → A → A → Type 0
Folds {A = A} R n z t = (f : A → ℕ → A) → ((s : A) (i : ℕ) → i < n → (r : A) → R s i r → r ≡ f s i) → t ≡ fold f z n

-- c is whether every call below n returns true: where p says what each of them returns, it is the conjunction of p
abbrev pub Holds : (ℕ → Bool → Type 0) → ℕ → Bool → Type 0
Holds R n c = (p : ℕ → Bool) → ((i : ℕ) → i < n → (b : Bool) → R i b → b ≡ p i) → c ≡ fold (λ b i. b && p i) true n
