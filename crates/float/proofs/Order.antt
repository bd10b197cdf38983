-- `lt` and `le` of lib.Ieee order the values that are no NaN: `order_laws`. Assumes nothing.
use mathlib.Core.Path.{◌≡◌, refl}
use mathlib.Core.Logic.{◌⊎◌, inl, inr}
use Prim.Native.Nat.{ℕ, ◌*◌}
use mathlib.Core.Bool.{Bool, true, false, not}
use lib.IntN.{ℤ}
use lib.Dec.{T, not_T}
use lib.Ieee.{Float, nan, inf, fin, up, down, lt, le, neg, is_nan}
use lib.Ieee.Fits.{down_pos}
use Rattle.float.specs.Binary64.{Number, NotAbove}
use Rattle.float.specs.Laws.{OrderLaws}
use Rattle.float.proofs.Tests.{or_l}
use Rattle.float.proofs.Signed.{Le, le→Le, Le→le, Le_trans, Le_neg, not_below, below_not}

-- two finite values, by their fractions
pub le_fin : (s : Bool) (m : ℕ) (e : ℤ) (t : Bool) (n : ℕ) (d : ℤ) → T (le (fin s m e) (fin t n d)) → Le s (m * up e * down d) t (n * up d * down e)
unfolding le
le_fin s m e t n d h = le→Le s (m * up e * down d) t (n * up d * down e) h

pub fin_le : (s : Bool) (m : ℕ) (e : ℤ) (t : Bool) (n : ℕ) (d : ℤ) → Le s (m * up e * down d) t (n * up d * down e) → T (le (fin s m e) (fin t n d))
unfolding le
fin_le s m e t n d h = Le→le s (m * up e * down d) t (n * up d * down e) h

-- a NaN is below nothing and above nothing
pub no_le_nan : (x : Float) → T (le x nan) → ⊥
unfolding le
no_le_nan nan h = h
no_le_nan (inf s) h = h
no_le_nan (fin s m e) h = h

pub no_nan_le : (y : Float) → T (le nan y) → ⊥
unfolding le
no_nan_le y h = h

pub no_lt_nan : (x : Float) → lt x nan ≡ false
unfolding lt
no_lt_nan nan = refl
no_lt_nan (inf s) = refl
no_lt_nan (fin s m e) = refl

pub no_nan_lt : (x : Float) → lt nan x ≡ false
unfolding lt
no_nan_lt x = refl

fins : (s : Bool) (m : ℕ) (e : ℤ) (t : Bool) (n : ℕ) (d : ℤ) (u : Bool) (k : ℕ) (j : ℤ) → T (le (fin s m e) (fin t n d)) → T (le (fin t n d) (fin u k j)) → T (le (fin s m e) (fin u k j))
fins s m e t n d u k j p q =
    fin_le s m e u k j (Le_trans s (m * up e) t (n * up d) u (k * up j) (down e) (down d) (down j) (down_pos e) (down_pos d) (down_pos j) (le_fin s m e t n d p) (le_fin t n d u k j q))

pub le_trans : (x y z : Float) → T (le x y) → T (le y z) → T (le x z)
unfolding le
le_trans nan y z p q = absurd p
le_trans (inf true) y nan p q = absurd (no_le_nan y q)
le_trans (inf true) y (inf true) p q = tt
le_trans (inf true) y (inf false) p q = tt
le_trans (inf true) y (fin u k j) p q = tt
le_trans (inf false) nan z p q = absurd p
le_trans (inf false) (inf true) z p q = absurd p
le_trans (inf false) (inf false) z p q = q
le_trans (inf false) (fin t n d) z p q = absurd p
le_trans (fin s m e) nan z p q = absurd p
le_trans (fin s m e) (inf true) z p q = absurd p
le_trans (fin s m e) (inf false) nan p q = absurd q
le_trans (fin s m e) (inf false) (inf true) p q = absurd q
le_trans (fin s m e) (inf false) (inf false) p q = tt
le_trans (fin s m e) (inf false) (fin u k j) p q = absurd q
le_trans (fin s m e) (fin t n d) nan p q = absurd q
le_trans (fin s m e) (fin t n d) (inf true) p q = absurd q
le_trans (fin s m e) (fin t n d) (inf false) p q = tt
le_trans (fin s m e) (fin t n d) (fin u k j) p q = fins s m e t n d u k j p q

-- of two that are no NaN, one is at most the other; and not both of x < y and y ≤ x
pub not_lt→le : (x y : Float) → Number x → Number y → T (not (lt x y)) → T (le y x)
unfolding is_nan lt le
not_lt→le nan y a b h = absurd a
not_lt→le (inf s) nan a b h = absurd b
not_lt→le (inf true) (inf true) a b h = tt
not_lt→le (inf true) (inf false) a b h = absurd h
not_lt→le (inf false) (inf true) a b h = tt
not_lt→le (inf false) (inf false) a b h = tt
not_lt→le (inf true) (fin t n d) a b h = absurd h
not_lt→le (inf false) (fin t n d) a b h = tt
not_lt→le (fin s m e) nan a b h = absurd b
not_lt→le (fin s m e) (inf true) a b h = tt
not_lt→le (fin s m e) (inf false) a b h = absurd h
not_lt→le (fin s m e) (fin t n d) a b h = fin_le t n d s m e (not_below s (m * up e * down d) t (n * up d * down e) h)

pub lt_not_le : (x y : Float) → T (lt x y) → T (le y x) → ⊥
unfolding lt le
lt_not_le nan y h k = h
lt_not_le (inf s) nan h k = h
lt_not_le (inf true) (inf true) h k = h
lt_not_le (inf true) (inf false) h k = k
lt_not_le (inf false) (inf true) h k = h
lt_not_le (inf false) (inf false) h k = h
lt_not_le (inf true) (fin t n d) h k = k
lt_not_le (inf false) (fin t n d) h k = h
lt_not_le (fin s m e) nan h k = h
lt_not_le (fin s m e) (inf true) h k = h
lt_not_le (fin s m e) (inf false) h k = k
lt_not_le (fin s m e) (fin t n d) h k = below_not s (m * up e * down d) t (n * up d * down e) h (le_fin t n d s m e k)

-- ---- what follows, with no cases on the two values
pub lt→le : (x y : Float) → T (lt x y) → T (le x y)
unfolding le
lt→le x y h = or_l (lt x y) _ h

pub lt_number_l : (x y : Float) → T (lt x y) → Number x
unfolding lt is_nan
lt_number_l nan y h = absurd h
lt_number_l (inf s) y h = tt
lt_number_l (fin s m e) y h = tt

pub le_number_r : (x y : Float) → T (le x y) → Number y
unfolding is_nan
le_number_r x nan h = absurd (no_le_nan x h)
le_number_r x (inf s) h = tt
le_number_r x (fin s m e) h = tt

pub le_number_l : (x y : Float) → T (le x y) → Number x
unfolding le is_nan
le_number_l nan y h = absurd h
le_number_l (inf s) y h = tt
le_number_l (fin s m e) y h = tt

pub lt_number_r : (x y : Float) → T (lt x y) → Number y
lt_number_r x y h = le_number_r x y (lt→le x y h)

pub lt_irrefl : (x : Float) → T (lt x x) → ⊥
lt_irrefl x h = lt_not_le x x h (lt→le x x h)

-- a test and both its outcomes
pub by_test : (b : Bool) {P : Type 0} → (T b → P) → (T (not b) → P) → P
by_test true f g = f tt
by_test false f g = g tt

pub lt_le_trans : (x y z : Float) → T (lt x y) → T (le y z) → T (lt x z)
lt_le_trans x y z h k = by_test (lt x z) (λ t. t) (λ n. absurd (lt_not_le x y h (le_trans y z x k (not_lt→le x z (lt_number_l x y h) (le_number_r y z k) n))))

pub le_lt_trans : (x y z : Float) → T (le x y) → T (lt y z) → T (lt x z)
le_lt_trans x y z h k =
    by_test (lt x z) (λ t. t)
    (λ n. absurd (lt_not_le y z k (le_trans z x y (not_lt→le x z (le_number_l x y h) (lt_number_r y z k) n) h)))

pub lt_trans : (x y z : Float) → T (lt x y) → T (lt y z) → T (lt x z)
lt_trans x y z h k = lt_le_trans x y z h (lt→le y z k)

pub total : (x y : Float) → Number x → Number y → T (lt x y) ⊎ T (le y x)
total x y a b = by_test (lt x y) (λ t. inl t) (λ n. inr (not_lt→le x y a b n))

pub not_above_trans : (x y z : Float) → Number y → NotAbove x y → NotAbove y z → NotAbove x z
not_above_trans x y z n h k =
    not_T (lt z x)
    (λ t.
    let below : T (le x y) = not_lt→le y x n (lt_number_r z x t) h in
    let above : T (le y z) = not_lt→le z y (lt_number_l z x t) n k in
    lt_not_le z x t (le_trans x y z below above))

pub le→not_above : (x y : Float) → T (le x y) → NotAbove x y
le→not_above x y h = not_T (lt y x) (λ t. lt_not_le y x t h)

pub order_laws : OrderLaws
order_laws =
    record {
      le_trans = le_trans;
      lt_trans = lt_trans;
      lt_le_trans = lt_le_trans;
      le_lt_trans = le_lt_trans;
      lt_irreflexive = lt_irrefl;
      lt_excludes = lt_not_le;
      total = total;
      not_above_trans = not_above_trans;
    }

-- the sign turned round
pub le_neg : (x y : Float) → T (le x y) → T (le (neg y) (neg x))
unfolding le neg
le_neg nan y h = absurd h
le_neg (inf s) nan h = absurd h
le_neg (inf true) (inf true) h = tt
le_neg (inf true) (inf false) h = tt
le_neg (inf false) (inf true) h = absurd h
le_neg (inf false) (inf false) h = tt
le_neg (inf true) (fin t n d) h = tt
le_neg (inf false) (fin t n d) h = absurd h
le_neg (fin s m e) nan h = absurd h
le_neg (fin s m e) (inf true) h = absurd h
le_neg (fin s m e) (inf false) h = tt
le_neg (fin s m e) (fin t n d) h = fin_le (not t) n d (not s) m e (Le_neg s (m * up e * down d) t (n * up d * down e) (le_fin s m e t n d h))
