-- What digits fed one by one add up to. Assumes nothing.
use Prim.Native.Nat.{ℕ, ◌+◌, ◌*◌, ◌^◌, ◌≤◌, ◌<◌}
use mathlib.Core.Path.{◌≡◌, refl, sym, ◌∙◌}
use mathlib.Core.Bool.{Bool, true, false, ◌&&◌, cond, true≢false}
use mathlib.Core.List.{List, [], ◌∷◌}
use native.Mathlib.Omega.{arith}
use native.Mathlib.Nat.{mul-le-mul_left, mul-le-mul_right, pow-zero, pow-succ', mul_assoc}
use lib.ListN.{length}
use lib.Dec.{leb, ltb}
use borrow.Author.Tests.{ltb-true, leb-false, leb-true, le-ltb, le-leb, lt-leb}
use Rattle.std.specs.Prelude.{Option, None, Some, unwrap_or}
use Rattle.float.proofs.Tests.{by, and_false}
use Rattle.lines_field.specs.Shapes.{most, digit_in, digit_of, below, spelt}
use Rattle.lines_field.specs.Fields.{grow_of}

pub never : {P : Type 0} (b : Bool) → b ≡ true → b ≡ false → P
never b t f = absurd (true≢false (sym t ∙ f))

grow_plain : (base : ℕ) (v d : Option ℕ) → base ≤ 99 → grow_of base v d ≡ grow_of base v (Some (unwrap_or d 99))
unfolding grow_of
grow_plain base v (Some d) h = refl
grow_plain base None None h = refl
grow_plain base (Some v) None h = rw (le-ltb 99 base h)

-- a byte that is no digit makes what the digit 99 makes
pub grow_digit : (base : ℕ) (v : Option ℕ) (b : ℕ) → base ≤ 99 → grow_of base v (digit_in b) ≡ grow_of base v (Some (digit_of b))
unfolding digit_of
grow_digit base v b h = grow_plain base v (digit_in b) h

-- the digits ds fed to v
unfoldable pub sums : ℕ → Option ℕ → List ℕ → Option ℕ
sums base v [] = v
sums base v (d ∷ ds) = sums base (grow_of base v (Some d)) ds

sums_none : (base : ℕ) (ds : List ℕ) → sums base None ds ≡ None
unfolding sums grow_of
sums_none base [] = refl
sums_none base (d ∷ ds) = sums_none base ds

grown : (base v d : ℕ) → 0 < base → v ≤ v * base + d
grown base v d h = let m : v * 1 ≤ v * base = mul-le-mul_left v h in omega arith

pub spelt_ge : (base v : ℕ) (ds : List ℕ) → 0 < base → v ≤ spelt base v ds
unfolding spelt
spelt_ge base v [] h = omega arith
spelt_ge base v (d ∷ ds) h = omega (arith, spelt_ge base (v * base + d) ds h, grown base v d h)

-- whether digits are of the base, and their number after v is no larger than the largest
abbrev pub fit : ℕ → ℕ → List ℕ → Bool
fit base v ds = below base ds && leb (spelt base v ds) most

pub sums_is : (base v : ℕ) (ds : List ℕ) → 0 < base → v ≤ most → sums base (Some v) ds ≡ cond (fit base v ds) (Some (spelt base v ds)) None
unfolding sums spelt below grow_of
sums_is base v [] h l = rw (le-leb v most l)
sums_is base v (d ∷ ds) h l =
    by (ltb d base)
    (λ p. by (leb (v * base + d) most)
    (λ q. rw (p, q) (sums_is base (v * base + d) ds h (leb-true (v * base + d) most q)))
    (λ q.
    let big : most < spelt base (v * base + d) ds = omega (arith, leb-false (v * base + d) most q, spelt_ge base (v * base + d) ds h) in
    rw (p, q, lt-leb (spelt base (v * base + d) ds) most big, and_false (below base ds)) (sums_none base ds)))
    (λ p. rw p (sums_none base ds))

-- digits of a base, so many, spell a number below that power of it
pub spelt_lt : (base v : ℕ) (ds : List ℕ) → below base ds ≡ true → spelt base v ds < (v + 1) * base ^ length ds
unfolding spelt below
spelt_lt base v [] e = rw (pow-zero) (omega arith)
spelt_lt base v (d ∷ ds) e =
    by (ltb d base)
    (λ p.
    let h : d < base = ltb-true d base p in
    let i = spelt_lt base (v * base + d) ds (rw p at e) in
    let w : v * base + d + 1 ≤ (v + 1) * base = omega arith in
    let m : (v * base + d + 1) * base ^ length ds ≤ (v + 1) * base * base ^ length ds = mul-le-mul_right (base ^ length ds) w in
    rw (pow-succ', ← mul_assoc (v + 1) base (base ^ length ds)) (omega arith))
    (λ p. absurd (true≢false (sym (rw p at e))))
