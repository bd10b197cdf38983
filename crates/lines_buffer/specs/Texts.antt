-- Numbers and values as lists of bytes, and what a text put into a buffer leaves. Definitions only.
use Rattle.std.specs.Prelude.{ℕ, zero, suc, ◌+◌, ◌/◌, ◌%◌, ◌≡◌, cond, List, [], ◌∷◌, ◌++◌, length, take, drop, ltb, Float}
use Rattle.std.specs.Float.Ieee.{to_bits}
use Rattle.std.specs.Float.{binary64}

-- ---- a buffer

-- the buffer with a text at its start: its other bytes stand
abbrev pub filled : List ℕ → List ℕ → List ℕ
filled before text = text ++ drop (length text) before

-- text is put at a place of a buffer, `next` is the place after it, and the bytes before and past it stand
pub record Written (before : List ℕ) (at : ℕ) (after : List ℕ) (next : ℕ) (text : List ℕ) : Type 0 where
  pub long : length after ≡ length before
  pub place : next ≡ at + length text
  pub bytes : take next after ≡ take at before ++ text
  pub rest : drop next after ≡ drop next before

-- ---- numbers

-- the byte of a digit: `0` to `9`, then `A` to `F`
abbrev pub glyph_of : ℕ → ℕ
glyph_of d = cond (ltb d 10) (48 + d) (55 + d)

-- the last k digits of n to the base, the most significant first
unfoldable pub numeral : ℕ → ℕ → ℕ → List ℕ
numeral base zero n = []
numeral base (suc k) n = numeral base k (n / base) ++ (glyph_of (n % base) ∷ [])

-- how many decimal digits n has, if it has no more than k + 1
unfoldable pub places_from : ℕ → ℕ → ℕ
places_from zero n = 1
places_from (suc k) n = cond (ltb n 10) 1 (places_from k (n / 10) + 1)

-- of a u64
abbrev pub places_of : ℕ → ℕ
places_of n = places_from 19 n

-- "other numbers are decimal", with no leading zero
unfoldable pub decimal_text : ℕ → List ℕ
decimal_text n = numeral 10 (places_of n) n

-- "f64 bits are shown as 16 hexadecimal digits"; `to_bits` of a NaN is 7FF8000000000000
unfoldable pub value_text : Float → List ℕ
value_text x = numeral 16 16 (to_bits binary64 x)

-- each value with a space before it
unfoldable pub values_text : List Float → List ℕ
values_text [] = []
values_text (x ∷ xs) = 32 ∷ (value_text x ++ values_text xs)
