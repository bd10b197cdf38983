-- Value order, written from IEEE 754-2019, 5.10, and the keys that decide it. Definitions and statements only.
use Rattle.std.specs.Prelude.{ℕ, ◌-◌, ◌^◌, ◌≡◌, Bool, true, false, not, ◌||◌, cond, T, ℤ, pos, negsuc, neg_ℤ, Float}
use Rattle.std.specs.Int.Signed.{lt_z}
use Rattle.std.specs.Float.{nan, inf, fin, binary64}
use Rattle.std.specs.Float.Ieee.{lt, eq, is_nan, to_bits}
use Rattle.float.specs.Binary64.{F64, Number, negative, plus_zero, minus_zero}

-- totalOrder(x, y), by the standard's cases in its order:
--   d) of NaNs. The logic has one, whose sign is clear: such a NaN follows every number, and totalOrder holds of it and itself;
--   a) true where x < y;   b) false where x > y;
--   c) where x = y: true of (-0, +0), false of (+0, -0), and true where x and y are one datum.
unfoldable pub total_order : Float → Float → Bool
total_order x y = cond (is_nan y) true (cond (is_nan x) false (cond (lt x y) true (cond (lt y x) false (negative x || not (negative y)))))

-- x stands before y, and is another datum
unfoldable pub precedes_of : Float → Float → Bool
unfolding total_order
precedes_of x y = not (total_order y x)

-- n with the sign s
abbrev pub signed : Bool → ℕ → ℤ
signed false n = pos n
signed true n = neg_ℤ (pos n)

-- The bits of |x| as a whole number, with the sign of x: `<` on numbers goes by it. A NaN's is above all.
unfoldable pub rank_of : Float → ℤ
rank_of nan = pos (2 ^ 63 - 1)
rank_of (inf s) = signed s (to_bits binary64 (inf false))
rank_of (fin s m e) = signed s (to_bits binary64 (fin false m e))

-- n, or -1 - n where s is a minus
abbrev pub keyed : Bool → ℕ → ℤ
keyed false n = pos n
keyed true n = negsuc n

-- The key of Rust's `total_cmp`, as an i64: the rank, with every negative value one place lower, so that -0 comes before +0
unfoldable pub key_of : Float → ℤ
key_of nan = pos (2 ^ 63 - 1)
key_of (inf s) = keyed s (to_bits binary64 (inf false))
key_of (fin s m e) = keyed s (to_bits binary64 (fin false m e))

-- What keys compared as i64 decide: exactly the order above
pub record KeysDecide : Type 0 where
  pub order : (x y : Float) → F64 x → F64 y → lt_z (key_of x) (key_of y) ≡ precedes_of x y
  -- `<` where two numbers differ, and -0 before +0 where they do not
  pub differ : (x y : Float) → F64 x → F64 y → Number x → Number y → eq x y ≡ false → lt_z (key_of x) (key_of y) ≡ lt x y
  pub zeros : lt_z (key_of minus_zero) (key_of plus_zero) ≡ true
  -- monotone, and one key to one value
  pub monotone : (x y : Float) → F64 x → F64 y → T (lt x y) → T (lt_z (key_of x) (key_of y))
  pub injective : (x y : Float) → F64 x → F64 y → key_of x ≡ key_of y → x ≡ y
