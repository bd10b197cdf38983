-- Digits that are put from the last to the first, how many there are, and values one behind another. Assumes nothing.
use Rattle.std.proofs.Common.{◌≡◌, ℕ, zero, suc, ◌+◌, ◌-◌, ◌*◌, ◌/◌, ◌%◌, ◌^◌, ◌≤◌, ◌<◌, List, [], ◌∷◌, ◌++◌, Option, Some, None, length, drop, set, refl, sym, ap, ◌∙◌, arith, append_assoc, append-nil, length-append, take, get_or}
use Rattle.std.specs.Prelude.{IfNone, IfSome, MatchOption}
use Rattle.std.proofs.lemmas.List.{drop-set, take_more}
use Rattle.std.proofs.Math.Nat.{pow-suc, one-le-pow}
use native.Mathlib.Numerals.{add-one, sub-one}
use lib.Seq.{append_snoc}
use lib.Ieee.{Float}
use borrow.Author.Tests.{lt-ltb, le-ltb}
use Rattle.lines_buffer.specs.Texts.{glyph_of, numeral, places_from, places_of, value_text, values_text}

-- ---- digits

pub length_numeral : (base k n : ℕ) → length (numeral base k n) ≡ k
unfolding numeral
length_numeral base zero n = refl
length_numeral base (suc k) n = omega (arith, length-append (numeral base k (n / base)) (glyph_of (n % base) ∷ []), length_numeral base k (n / base))

-- a digit more stands before those that stand
pub digit_more : (base i rest g : ℕ) (out : List ℕ) → 0 < i → i ≤ length out → g ≡ glyph_of (rest % base)
    → numeral base (i - 1) (rest / base) ++ drop (i - 1) (set out (i - 1) g) ≡ numeral base i rest ++ drop i out
unfolding numeral
digit_more base zero rest g out some room e = absurd (omega arith)
digit_more base (suc j) rest g out some room e =
    let todo = numeral base j (rest / base) in
    rw (sub-one (suc j), drop-set out j g (omega arith), e, add-one j) (sym (append_snoc todo (glyph_of (rest % base)) (drop (suc j) out)))

-- ---- how many digits

powers : (m k n : ℕ) → k ≤ m → 10 ^ k ≤ n → n < 10 * 10 ^ k → places_from m n ≡ k + 1
unfolding places_from
powers zero k n few low high = omega arith
powers (suc m) zero n few low high = rw (lt-ltb n 10 high)
powers (suc m) (suc k) n few low high =
    let more : 10 ^ suc k ≡ 10 ^ k * 10 = pow-suc 10 k in
    let some : 10 ^ k ≤ n / 10 = omega arith in
    let last : n / 10 < 10 * 10 ^ k = omega arith in
    rw (le-ltb n 10 (omega (arith, one-le-pow k 10 (omega arith)))) (ap (λ (p : ℕ). p + 1) (powers m k (n / 10) (omega arith) some last) ∙ ap (λ (p : ℕ). p + 1) (add-one k))

-- what a logarithm to the base ten tells
pub counted : (n : ℕ) (o : Option ℕ) (r : ℕ) → IfNone o (n ≡ 0) → IfSome o (λ k. 10 ^ k ≤ n) → IfSome o (λ k. n < 10 * 10 ^ k) → IfSome o (λ k. k < 20)
    → MatchOption o (r ≡ 1) (λ k. r ≡ k + 1) → (r ≡ places_of n) × (r ≤ 20)
unfolding places_from
counted n None r none low high few e = (e ∙ rw none, omega arith)
counted n (Some k) r none low high few e = (e ∙ sym (powers 19 k n (omega arith) low high), omega arith)

-- ---- values

values_snoc : (xs : List Float) (x : Float) → values_text (xs ++ (x ∷ [])) ≡ values_text xs ++ (32 ∷ value_text x)
unfolding values_text
values_snoc [] x = ap (λ (l : List ℕ). 32 ∷ l) (append-nil (value_text x))
values_snoc (v ∷ xs) x = ap (λ (l : List ℕ). 32 ∷ (value_text v ++ l)) (values_snoc xs x) ∙ sym (ap (λ (l : List ℕ). 32 ∷ l) (append_assoc (value_text v) (values_text xs) (32 ∷ value_text x)))

-- before the first value
pub values_none : (before : List ℕ) → before ≡ before ++ values_text []
unfolding values_text
values_none before = sym (append-nil before)

-- a value more
pub values_more : (before : List ℕ) (xs : List Float) (i : ℕ) (d : Float) → i < length xs
    → (before ++ values_text (take i xs)) ++ (32 ∷ value_text (get_or xs i d)) ≡ before ++ values_text (take (i + 1) xs)
values_more before xs i d h =
    append_assoc before (values_text (take i xs)) (32 ∷ value_text (get_or xs i d))
    ∙ ap (λ (l : List ℕ). before ++ l) (sym (ap values_text (take_more xs i d h) ∙ values_snoc (take i xs) (get_or xs i d)))
