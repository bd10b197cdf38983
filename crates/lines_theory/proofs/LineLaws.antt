-- What the code makes of a line that was read is what the line says. Assumes nothing.
use Prim.Native.Nat.{ℕ, zero, suc, ◌+◌, ◌-◌, ◌%◌, ◌≤◌, ◌<◌}
use mathlib.Core.Path.{◌≡◌, refl, sym, ap, ◌∙◌}
use mathlib.Core.Bool.{Bool, true, false, ◌&&◌}
use mathlib.Core.List.{List, [], ◌∷◌, map}
use Rattle.std.specs.Prelude.{min, Some, option_map}
use native.Mathlib.Omega.{arith}
use lib.ListN.{length, get_or, drop, length-drop, length-map}
use lib.Seq.{get_or-drop}
use lib.Dec.{eqb, ltb, leb}
use lib.Ieee.{of_bits}
use borrow.Author.Tests.{ltb-true, ltb-false, le-leb, lt-leb}
use Rattle.float.specs.Binary64.{plus_zero}
use Rattle.float.proofs.Tests.{by}
use Rattle.float.proofs.Bits.{zero_is}
use Rattle.vector.proofs.First.{upto_same}
use Rattle.lines_field.specs.declared.Reading.{Reading}
use Rattle.lines_reader.specs.declared.Form.{Form}
use Rattle.lines_reader.specs.declared.Form.TheVariants.{Line1, SimplexLine2, GradientLine2, Line3, Answers}
use Rattle.lines_forms.specs.declared.FirstLine.{FirstLine}
use Rattle.lines_field.specs.Shapes.{most, malformed, number_in, same, digits, below, word_field, letter_field, field_as}
use Rattle.lines_reader.specs.Forms.{shape_at_of, fields_from, readings_from, readings, all_ok, firsts, capped, empty, line_of}
use Rattle.lines_forms.specs.Lines.{number_at, value_in, value_at, some_if, has_form, first_line, point_line, answer_line, words_of, whole_of, first_line_of, point_holds_of, point_line_of, answer_holds_of, answer_line_of, seventeen}
use Rattle.lines_options.specs.Options.{simplex_line, gradient_line, simplex_line_of, gradient_line_of}
use Rattle.lines_theory.specs.Laws.{kept_answer, LineLaws}
use Rattle.lines_theory.proofs.Whole.{capped_is}

-- ---- the fields that are kept, and how many there are

at_first : (k i : ℕ) (vs : List Reading) → i < k → get_or (firsts k vs) i malformed ≡ get_or vs i malformed
unfolding firsts
at_first zero i vs h = absurd (omega arith)
at_first (suc k) zero [] h = refl
at_first (suc k) (suc i) [] h = at_first k i [] (omega arith)
at_first (suc k) zero (v ∷ vs) h = refl
at_first (suc k) (suc i) (v ∷ vs) h = at_first k i vs (omega arith)

number_first : (i : ℕ) (vs : List Reading) → i < 20 → number_at (firsts 20 vs) i ≡ number_at vs i
number_first i vs h = ap (λ (v : Reading). number_in v) (at_first 20 i vs h)

whole_is : (form : Form) (n : ℕ) (bs : List ℕ) → n < most → whole_of (line_of form bs) n ≡ has_form form n bs
unfolding whole_of line_of
whole_is form n bs h = rw (capped_is (length (readings form bs)) n h)

map_given : {A B : Type 0} (f : A → B) (b : Bool) (x : A) → option_map f (some_if b x) ≡ some_if b (f x)
map_given f true x = refl
map_given f false x = refl

first_is : (bs : List ℕ) → option_map (λ (f : FirstLine). (f.job, f.n)) (first_line_of (line_of Line1 bs)) ≡ first_line bs
unfolding first_line_of first_line line_of
first_is bs =
    let vs = readings Line1 bs in
    map_given (λ (f : FirstLine). (f.job, f.n)) (whole_of (line_of Line1 bs) 2) _
    ∙ rw (whole_is Line1 2 bs (omega arith), at_first 20 0 vs (omega arith), at_first 20 1 vs (omega arith))

simplex_is : (bs : List ℕ) → simplex_line_of (line_of SimplexLine2 bs) ≡ simplex_line bs
unfolding simplex_line_of simplex_line line_of
simplex_is bs =
    let vs = readings SimplexLine2 bs in
    rw (
      whole_is SimplexLine2 7 bs (omega arith),
      at_first 20 0 vs (omega arith),
      at_first 20 1 vs (omega arith),
      at_first 20 2 vs (omega arith),
      at_first 20 3 vs (omega arith),
      at_first 20 4 vs (omega arith),
      number_first 5 vs (omega arith),
      number_first 6 vs (omega arith),
    )

gradient_is : (bs : List ℕ) → gradient_line_of (line_of GradientLine2 bs) ≡ gradient_line bs
unfolding gradient_line_of gradient_line line_of
gradient_is bs =
    let vs = readings GradientLine2 bs in
    rw (
      whole_is GradientLine2 11 bs (omega arith),
      at_first 20 0 vs (omega arith),
      at_first 20 1 vs (omega arith),
      at_first 20 2 vs (omega arith),
      at_first 20 3 vs (omega arith),
      at_first 20 4 vs (omega arith),
      at_first 20 5 vs (omega arith),
      at_first 20 6 vs (omega arith),
      at_first 20 7 vs (omega arith),
      number_first 8 vs (omega arith),
      number_first 9 vs (omega arith),
      number_first 10 vs (omega arith),
    )

-- ---- words

value_at_lem : (vs : List Reading) (k : ℕ) → get_or (map value_in vs) k plus_zero ≡ value_in (get_or vs k malformed)
value_at_lem [] k = sym zero_is
value_at_lem (v ∷ vs) zero = refl
value_at_lem (v ∷ vs) (suc k) = value_at_lem vs k

words_is : (from : ℕ) (vs : List Reading) → from ≤ 3 → words_of (firsts 20 vs) from 17 ≡ seventeen (map value_in (drop from vs))
unfolding words_of
words_is from vs h =
    upto_same (λ i. value_at (firsts 20 vs) (from + i)) (λ i. get_or (map value_in (drop from vs)) i plus_zero) 17
    (λ k l. ap value_in (at_first 20 (from + k) vs (omega arith) ∙ sym (get_or-drop from vs k malformed)) ∙ sym (value_at_lem (drop from vs) k))

when : {A : Type 0} (b : Bool) (x y : A) → (b ≡ true → x ≡ y) → some_if b x ≡ some_if b y
when true x y e = ap (λ z. some_if true z) (e refl)
when false x y e = refl

empty_words : words_of (firsts 20 (readings Line3 [])) 0 17 ≡ seventeen []
unfolding fields_from readings_from field_as shape_at_of word_field digits below of_bits
empty_words = words_is 0 (readings Line3 []) (omega arith)

empty_point : (bs : List ℕ) → some_if (empty bs) (words_of (firsts 20 (readings Line3 bs)) 0 17) ≡ option_map seventeen (some_if (empty bs) [])
unfolding empty
empty_point [] = ap (λ x. Some x) empty_words
empty_point (b ∷ bs) = refl

point_is : (n : ℕ) (bs : List ℕ) → point_line_of (line_of Line3 bs) n ≡ option_map seventeen (point_line n bs)
unfolding point_line_of point_holds_of whole_of point_line line_of
point_is n bs =
    let vs = readings Line3 bs in
    by (eqb n 0)
    (λ p. rw p (empty_point bs))
    (λ p.
    rw p
    (when (eqb (capped (length vs)) n && all_ok vs) _ _ (λ e. words_is 0 vs (omega arith))
    ∙ sym (map_given seventeen (eqb (capped (length vs)) n && all_ok vs) (map value_in vs))))

-- ---- answers

two_is : (m : ℕ) → leb 2 (capped m) ≡ ltb 1 m
two_is m =
    by (ltb 1 m)
    (λ p. rw p (le-leb 2 (capped m) (omega (arith, ltb-true 1 m p))))
    (λ p. rw p (lt-leb 2 (capped m) (omega (arith, ltb-false 1 m p))))

letter_small : (f : List ℕ) → number_in (letter_field f) < 256
unfolding letter_field
letter_small f =
    by (same f (86 ∷ []))
    (λ p. rw p (omega arith))
    (λ p. by (same f (71 ∷ [])) (λ q. rw (p, q) (omega arith)) (λ q. rw (p, q) (omega arith)))

kind_small : (fs : List (List ℕ)) → number_at (readings_from Answers 0 fs) 1 < 256
unfolding readings_from field_as shape_at_of
kind_small [] = omega arith
kind_small (f ∷ []) = omega arith
kind_small (f ∷ g ∷ fs) = letter_small g

answer_is : (bs : List ℕ) → answer_line_of (line_of Answers bs) ≡ option_map kept_answer (answer_line bs)
unfolding answer_line_of answer_holds_of answer_line line_of
answer_is bs =
    let vs = readings Answers bs in
    let kind : number_at vs 1 % 256 ≡ number_at vs 1 = omega (arith, kind_small (fields_from [] bs)) in
    let long : length (map value_in (drop 2 vs)) ≡ length vs - 2 = length-map (drop 2 vs) value_in ∙ length-drop 2 vs in
    let count : min (capped (length vs) - 2) 17 ≡ min (length vs - 2) 17 = omega arith in
    rw (two_is (length vs), number_first 0 vs (omega arith), number_first 1 vs (omega arith), kind, count, words_is 2 vs (omega arith))
    (when (ltb 1 (length vs) && all_ok vs) _ _ (λ e. rw (long))
    ∙ sym (map_given kept_answer (ltb 1 (length vs) && all_ok vs) (record { number = number_at vs 0; kind = number_at vs 1; words = map value_in (drop 2 vs) })))

pub line_laws : LineLaws
line_laws = record { first_is = first_is; simplex_is = simplex_is; gradient_is = gradient_is; point_is = point_is; answer_is = answer_is }
