-- What a test tells, where the kit has no such law. Assumes nothing.
use mathlib.Core.Path.{◌≡◌, refl}
use mathlib.Core.Bool.{Bool, true, false, not, ◌&&◌, ◌||◌, cond, true≢false}
use lib.Dec.{T}

-- the two cases of a test, each with what it showed
pub by : {P : Type 0} (b : Bool) → (b ≡ true → P) → (b ≡ false → P) → P
by true f g = f refl
by false f g = g refl

-- and of what it chooses
pub by_cond : {A : Type 0} (P : A → Type 0) (b : Bool) (m n : A) → (b ≡ true → P m) → (b ≡ false → P n) → P (cond b m n)
by_cond P true m n h k = h refl
by_cond P false m n h k = k refl

-- what holds of both arms holds of what a test chooses
pub either : {A : Type 0} (P : A → Type 0) (b : Bool) (x y : A) → P x → P y → P (cond b x y)
either P true x y p q = p
either P false x y p q = q

pub and_false : (b : Bool) → (b && false) ≡ false
and_false true = refl
and_false false = refl

-- the code's `if !a { return false; } b`
pub not_cond : (a b : Bool) → not (cond (not a) false b) ≡ not (a && b)
not_cond true b = refl
not_cond false b = refl

pub false_T : (b : Bool) → b ≡ false → T (not b)
false_T true e = absurd (true≢false e)
false_T false e = tt

pub or_l : (a b : Bool) → T a → T (a || b)
or_l true b t = tt
or_l false b t = absurd t

-- the code's `if a { return b; } false`
pub cond_and : (a b : Bool) → cond a b false ≡ (a && b)
cond_and true b = refl
cond_and false b = refl
