-- Keys compared as i64 decide IEEE 754's total order: `keys_decide`. Assumes nothing.
use mathlib.Core.Path.{◌≡◌, refl, sym, ap, ap₂, ◌∙◌, subst}
use mathlib.Core.Logic.{◌⊎◌, inl, inr}
use Prim.Native.Nat.{ℕ, ◌+◌, ◌-◌, ◌^◌, ◌≤◌}
use native.Mathlib.Omega.{arith}
use mathlib.Core.Bool.{Bool, true, false, not, ◌||◌, cond, true≢false}
use lib.IntN.{ℤ, pos, pos-ne-negsuc}
use lib.Dec.{T, ltb, T_not, not_T}
use lib.Signed.{lt_z}
use lib.Ieee.{Float, nan, inf, fin, binary64, below, lt, eq, le, is_nan, to_bits}
use lib.Ieee.Bits.{is_true, is_false}
use borrow.Author.Tests.{lt-ltb, le-ltb, ltb-true}
use Rattle.float.specs.Binary64.{F64, Number, negative, plus_zero, minus_zero}
use Rattle.float.specs.Values.{abs_of}
use Rattle.float.specs.Order.{total_order, precedes_of, keyed, key_of, KeysDecide}
use Rattle.float.proofs.Bits.{parted, abs_most}
use Rattle.float.proofs.Order.{lt→le, lt_not_le, not_lt→le, lt_number_l, lt_number_r}
use Rattle.float.proofs.Ranks.{one_value, below_parts}

pub key_parts : (x : Float) → Number x → key_of x ≡ keyed (negative x) (to_bits binary64 (abs_of x))
unfolding key_of abs_of is_nan
key_parts nan h = absurd h
key_parts (inf s) h = refl
key_parts (fin s m e) h = refl

-- ---- the order, from what `<` says of two numbers either way
abbrev ordered : Bool → Bool → Bool → Bool → Bool
ordered back forth s t = not (cond back true (cond forth false (t || not s)))

-- with neither sign, and with both signs after the numbers are exchanged, it is a test of two magnitudes
by_magnitudes : (a b : ℕ) → ltb a b ≡ ordered (ltb b a) (ltb a b) false false
by_magnitudes a b = go (ltb a b) (ltb b a) refl refl
  where
    go : (p q : Bool) → ltb a b ≡ p → ltb b a ≡ q → p ≡ not (cond q true (cond p false true))
    go true true h k = absurd (omega (arith, ltb-true a b h, ltb-true b a k))
    go true false h k = refl
    go false true h k = refl
    go false false h k = refl

cond_same : (b c : Bool) → cond b c c ≡ c
cond_same true c = refl
cond_same false c = refl

keyed_order : (s : Bool) (a : ℕ) (t : Bool) (b : ℕ) → lt_z (keyed s a) (keyed t b) ≡ ordered (below t b s a) (below s a t b) s t
keyed_order false a false b = by_magnitudes a b
keyed_order false a true b = sym (ap not (cond_same (ltb 0 (b + a)) true))
keyed_order true a false b = sym (ap not (cond_same (ltb 0 (a + b)) false))
keyed_order true a true b = by_magnitudes b a

precedes_parts : (x y : Float) → Number x → Number y → precedes_of x y ≡ ordered (lt y x) (lt x y) (negative x) (negative y)
unfolding precedes_of total_order
precedes_parts x y h k = rw (is_false (is_nan x) h, is_false (is_nan y) k)

numbers : (x y : Float) → F64 x → F64 y → Number x → Number y → lt_z (key_of x) (key_of y) ≡ precedes_of x y
numbers x y f g h k =
    ap₂ lt_z (key_parts x h) (key_parts y k)
    ∙ keyed_order (negative x) (to_bits binary64 (abs_of x)) (negative y) (to_bits binary64 (abs_of y))
    ∙ ap₂ (λ p q. ordered p q (negative x) (negative y)) (below_parts y x g f k h) (below_parts x y f g h k)
    ∙ sym (precedes_parts x y h k)

-- ---- a NaN's key is above every other
under_nan : (s : Bool) (n : ℕ) → n ≤ 0x7ff0_0000_0000_0000 → (lt_z (keyed s n) (pos (2 ^ 63 - 1)) ≡ true) × (lt_z (pos (2 ^ 63 - 1)) (keyed s n) ≡ false)
under_nan true n h = (refl, refl)
under_nan false n h = (lt-ltb n (2 ^ 63 - 1) (omega arith), le-ltb (2 ^ 63 - 1) n (omega arith))

key_under : (x : Float) → F64 x → Number x → (lt_z (key_of x) (pos (2 ^ 63 - 1)) ≡ true) × (lt_z (pos (2 ^ 63 - 1)) (key_of x) ≡ false)
key_under x f h = rw (key_parts x h) (under_nan (negative x) (to_bits binary64 (abs_of x)) (abs_most x f h))

nan_or_number : (x : Float) → (x ≡ nan) ⊎ Number x
unfolding is_nan
nan_or_number nan = inl refl
nan_or_number (inf s) = inr tt
nan_or_number (fin s m e) = inr tt

nan_last : (x : Float) → F64 x → Number x → lt_z (key_of x) (key_of nan) ≡ precedes_of x nan
unfolding key_of precedes_of total_order is_nan
nan_last x f h = rw (is_false (is_nan x) h) (key_under x f h).0

nan_first : (y : Float) → F64 y → Number y → lt_z (key_of nan) (key_of y) ≡ precedes_of nan y
unfolding key_of precedes_of total_order is_nan
nan_first y g k = (key_under y g k).1

nan_nan : lt_z (key_of nan) (key_of nan) ≡ precedes_of nan nan
unfolding key_of precedes_of total_order is_nan
nan_nan = refl

order : (x y : Float) → F64 x → F64 y → lt_z (key_of x) (key_of y) ≡ precedes_of x y
order x y f g = elim (nan_or_number x) [
  | inl p ↦ elim (nan_or_number y) [
    | inl q ↦ rw (p, q) nan_nan
    | inr k ↦ rw p (nan_first y g k)
  ]
  | inr h ↦ elim (nan_or_number y) [
    | inl q ↦ rw q (nan_last x f h)
    | inr k ↦ numbers x y f g h k
  ]
]

-- ---- `<` where two numbers differ
or_right : (a b : Bool) → T (not a) → b ≡ false → T (a || b) → ⊥
or_right true b n e t = n
or_right false b n e t = T_not b (subst (λ (z : Bool). T (not z)) (sym e) tt) t

differ : (x y : Float) → F64 x → F64 y → Number x → Number y → eq x y ≡ false → lt_z (key_of x) (key_of y) ≡ lt x y
differ x y f g h k e = numbers x y f g h k ∙ precedes_parts x y h k ∙ go (lt x y) (lt y x) refl refl
  where
    go : (p q : Bool) → lt x y ≡ p → lt y x ≡ q → ordered q p (negative x) (negative y) ≡ p
    go true true a b = absurd (lt_not_le x y (subst T (sym a) tt) (lt→le y x (subst T (sym b) tt)))
    go true false a b = refl
    go false true a b = refl
    go false false a b =
        absurd (or_right (lt x y) (eq x y) (subst (λ (z : Bool). T (not z)) (sym a) tt) e (unfold le in not_lt→le y x k h (subst (λ (z : Bool). T (not z)) (sym b) tt)))

monotone : (x y : Float) → F64 x → F64 y → T (lt x y) → T (lt_z (key_of x) (key_of y))
monotone x y f g t =
    let h = lt_number_l x y t in
    let k = lt_number_r x y t in
    let back : lt y x ≡ false = is_false (lt y x) (not_T (lt y x) (λ u. lt_not_le x y t (lt→le y x u))) in
    let yes : ordered (lt y x) (lt x y) (negative x) (negative y) ≡ true = rw (back, is_true (lt x y) t) in
    subst T (sym (numbers x y f g h k ∙ precedes_parts x y h k ∙ yes)) tt

-- ---- one key to one value
keyed_one : (s : Bool) (a : ℕ) (t : Bool) (b : ℕ) → keyed s a ≡ keyed t b → (s ≡ t) × (a ≡ b)
keyed_one false a false b q = (refl, cc)
keyed_one false a true b q = absurd (pos-ne-negsuc a b q)
keyed_one true a false b q = absurd (pos-ne-negsuc b a (sym q))
keyed_one true a true b q = (refl, cc)

clash : (z : ℤ) → (lt_z (key_of nan) z ≡ false) → (lt_z z (key_of nan) ≡ true) → key_of nan ≡ z → ⊥
clash z a b q = true≢false (sym b ∙ ap (λ (w : ℤ). lt_z z w) q ∙ ap (λ (w : ℤ). lt_z w z) (sym q) ∙ a)

key_of_nan : (x : Float) → F64 x → Number x → key_of nan ≡ key_of x → ⊥
key_of_nan x f h q = let u = key_under x f h in clash (key_of x) (unfold key_of in u.1) (unfold key_of in u.0) q

injective : (x y : Float) → F64 x → F64 y → key_of x ≡ key_of y → x ≡ y
injective x y f g q = elim (nan_or_number x) [
  | inl p ↦ elim (nan_or_number y) [
    | inl r ↦ p ∙ sym r
    | inr k ↦ absurd (key_of_nan y g k (ap key_of (sym p) ∙ q))
  ]
  | inr h ↦ elim (nan_or_number y) [
    | inl r ↦ absurd (key_of_nan x f h (ap key_of (sym r) ∙ sym q))
    | inr k ↦
        let same = keyed_one (negative x) (to_bits binary64 (abs_of x)) (negative y) (to_bits binary64 (abs_of y)) (sym (key_parts x h) ∙ q ∙ key_parts y k) in
        one_value x y f g (parted x h ∙ ap₂ (λ (s : Bool) (n : ℕ). cond s (2 ^ 63) 0 + n) same.0 same.1 ∙ sym (parted y k))
  ]
]

zeros : lt_z (key_of minus_zero) (key_of plus_zero) ≡ true
unfolding key_of
zeros = refl

pub keys_decide : KeysDecide
keys_decide = record { order = order; differ = differ; zeros = zeros; monotone = monotone; injective = injective }
