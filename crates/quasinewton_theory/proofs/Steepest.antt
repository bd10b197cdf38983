-- Minus the gradient descends where it is searched along (`steepest_descends`), so that 14 is never met: its slope is minus g·g exactly, since all terms have one sign. Assumes
-- nothing.
use Prim.Native.Nat.{ℕ, zero, suc, ◌+◌, ◌-◌, ◌*◌, ◌^◌}
use native.Mathlib.Nat.{zero-mul}
use native.Mathlib.Omega.{arith}
use mathlib.Core.Path.{◌≡◌, refl, sym, ◌∙◌, ap, subst}
use mathlib.Core.Bool.{Bool, true, false, ◌&&◌, cond, true≢false}
use mathlib.Core.List.{List, [], ◌∷◌, map, zip_with, foldl}
use lib.Dec.{T, ltb, lt→ltb}
use lib.Ieee.{Float, nan, inf, fin, binary64, round, up, down, neg, add, sum, mul, le}
use Rattle.float.specs.Binary64.{negative, ◌⊕◌, ◌⊗◌, plus_zero, minus_zero}
use Rattle.float.specs.Values.{finite_of}
use Rattle.float.proofs.Sums.{round_neg, round_negative}
use Rattle.vector.specs.Lists.{dot, all_finite, negation}

-- no minus; a NaN has none
abbrev NoMinus : Float → Type 0
NoMinus x = negative x ≡ false

round_plus : (a c : ℕ) → NoMinus (round binary64 false a c)
round_plus a c = round_negative binary64 false a c

-- ---- a square, and a sum of what has no minus

square_mirror : (x : Float) → x ⊗ neg x ≡ neg (x ⊗ x)
unfolding mul neg
square_mirror nan = refl
square_mirror (inf true) = refl
square_mirror (inf false) = refl
square_mirror (fin true m e) = round_neg binary64 (m * up e * (m * up e)) (down e * down e)
square_mirror (fin false m e) = round_neg binary64 (m * up e * (m * up e)) (down e * down e)

square_plus : (x : Float) → NoMinus (x ⊗ x)
unfolding mul
square_plus nan = refl
square_plus (inf true) = refl
square_plus (inf false) = refl
square_plus (fin true m e) = round_plus (m * up e * (m * up e)) (down e * down e)
square_plus (fin false m e) = round_plus (m * up e * (m * up e)) (down e * down e)

add_mirror : (a b : Float) → NoMinus a → NoMinus b → (neg a ⊕ neg b ≡ neg (a ⊕ b)) × NoMinus (a ⊕ b)
unfolding add neg sum
add_mirror nan b u v = (refl, refl)
add_mirror (inf true) b u v = absurd (true≢false u)
add_mirror (inf false) nan u v = (refl, refl)
add_mirror (inf false) (inf true) u v = absurd (true≢false v)
add_mirror (inf false) (inf false) u v = (refl, refl)
add_mirror (inf false) (fin t n d) u v = (refl, refl)
add_mirror (fin true m e) b u v = absurd (true≢false u)
add_mirror (fin false m e) nan u v = (refl, refl)
add_mirror (fin false m e) (inf t) u v = (refl, v)
add_mirror (fin false m e) (fin true n d) u v = absurd (true≢false v)
add_mirror (fin false m e) (fin false n d) u v =
    (round_neg binary64 (m * up e * down d + n * up d * down e) (down e * down d), round_plus (m * up e * down d + n * up d * down e) (down e * down d))

-- ---- -0.0, which the sum begins with, plus ±p

zero_sum : (a b c : ℕ) → a ≡ 0 → (sum binary64 true a true b c ≡ neg (sum binary64 true a false b c)) × NoMinus (sum binary64 true a false b c)
unfolding sum
zero_sum a b c i =
    subst
    (λ (k : ℕ). (round binary64 true (k + b) c ≡ neg (cond (ltb k b) (round binary64 false (b - k) c) (round binary64 (true && ltb b k) (k - b) c)))
    × NoMinus (cond (ltb k b) (round binary64 false (b - k) c) (round binary64 (true && ltb b k) (k - b) c)))
    (sym i) (go b)
  where
    go : (b : ℕ) → (round binary64 true (0 + b) c ≡ neg (cond (ltb 0 b) (round binary64 false (b - 0) c) (round binary64 (true && ltb b 0) (0 - b) c)))
        × NoMinus (cond (ltb 0 b) (round binary64 false (b - 0) c) (round binary64 (true && ltb b 0) (0 - b) c))
    go zero = (round_neg binary64 0 c, round_plus 0 c)
    go (suc b) = one (ltb 0 (suc b)) refl
      where
        clash : ltb 0 (suc b) ≡ false → ⊥
        clash e = subst (λ (x : Bool). T x) e (lt→ltb 0 (suc b) (omega arith))

        one : (x : Bool) → ltb 0 (suc b) ≡ x → (round binary64 true (0 + suc b) c ≡ neg (cond x (round binary64 false (suc b - 0) c) (round binary64 (true && ltb (suc b) 0) (0 - suc b) c)))
            × NoMinus (cond x (round binary64 false (suc b - 0) c) (round binary64 (true && ltb (suc b) 0) (0 - suc b) c))
        one true e = (ap (λ (k : ℕ). round binary64 true k c) same ∙ round_neg binary64 (suc b - 0) c, round_plus (suc b - 0) c)
          where
            same : 0 + suc b ≡ suc b - 0
            same = omega arith
        one false e = absurd (clash e)

minus_zero_lem : (p : Float) → NoMinus p → (minus_zero ⊕ neg p ≡ neg (minus_zero ⊕ p)) × NoMinus (minus_zero ⊕ p)
unfolding add neg
minus_zero_lem nan u = (refl, refl)
minus_zero_lem (inf true) u = absurd (true≢false u)
minus_zero_lem (inf false) u = (refl, refl)
minus_zero_lem (fin true n d) u = absurd (true≢false u)
minus_zero_lem (fin false n d) u = zero_sum (0 * 2 ^ 0 * down d) (n * up d * 1) (1 * down d) (ap (λ (k : ℕ). k * down d) (zero-mul (2 ^ 0)) ∙ zero-mul (down d))

-- ---- g·(-g)

mirror_from : (g : List Float) (a : Float) → NoMinus a → foldl ◌⊕◌ (neg a) (zip_with ◌⊗◌ g (map neg g)) ≡ neg (foldl ◌⊕◌ a (zip_with ◌⊗◌ g g))
unfolding zip_with
mirror_from [] a u = refl
mirror_from (x ∷ g) a u =
    let h = add_mirror a (x ⊗ x) u (square_plus x) in
    ap (λ (z : Float). foldl ◌⊕◌ z (zip_with ◌⊗◌ g (map neg g))) (ap (λ (z : Float). neg a ⊕ z) (square_mirror x) ∙ h.0) ∙ mirror_from g (a ⊕ x ⊗ x) h.1

-- of one coordinate or more
slope_mirror : (x : Float) (g : List Float) → dot (x ∷ g) (negation (x ∷ g)) ≡ neg (dot (x ∷ g) (x ∷ g))
unfolding dot negation zip_with
slope_mirror x g =
    let h = minus_zero_lem (x ⊗ x) (square_plus x) in
    ap (λ (z : Float). foldl ◌⊕◌ z (zip_with ◌⊗◌ g (map neg g))) (ap (λ (z : Float). minus_zero ⊕ z) (square_mirror x) ∙ h.0) ∙ mirror_from g (minus_zero ⊕ x ⊗ x) h.1

zero_not_below : le plus_zero (neg (dot [] [])) ≡ true
unfolding dot zip_with le neg
zero_not_below = refl

pub steepest_descends : (g : List Float) → le plus_zero (neg (dot g g)) ≡ false → le plus_zero (dot g (negation g)) ≡ false
steepest_descends [] e = absurd (true≢false (sym zero_not_below ∙ e))
steepest_descends (x ∷ g) e = rw (slope_mirror x g) e

-- ---- minus the gradient is finite where the gradient is

neg_finite : (x : Float) → finite_of (neg x) ≡ finite_of x
unfolding neg finite_of
neg_finite nan = refl
neg_finite (inf s) = refl
neg_finite (fin s m e) = refl

finite_from : (b : Bool) (g : List Float) → foldl (λ b v. b && finite_of v) b (map neg g) ≡ foldl (λ b v. b && finite_of v) b g
finite_from b [] = refl
finite_from b (x ∷ g) = ap (λ (c : Bool). foldl (λ b v. b && finite_of v) (b && c) (map neg g)) (neg_finite x) ∙ finite_from (b && finite_of x) g

pub negation_finite : (g : List Float) → all_finite (negation g) ≡ all_finite g
unfolding all_finite negation
negation_finite g = finite_from true g
