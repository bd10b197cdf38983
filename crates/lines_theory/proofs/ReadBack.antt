-- Numbers, values, answers and results are read back from what is printed of them. Assumes nothing.
use Prim.Native.Nat.{ℕ, zero, suc, ◌+◌, ◌*◌, ◌/◌, ◌%◌, ◌^◌, ◌≤◌, ◌<◌}
use mathlib.Core.Path.{◌≡◌, refl, sym, ap, ap₂, ◌∙◌}
use mathlib.Core.Bool.{Bool, true, false, cond, true≢false}
use mathlib.Core.List.{List, [], ◌∷◌, ◌++◌, map, append_assoc, append-nil}
use Rattle.std.specs.Prelude.{Some}
use native.Mathlib.Omega.{arith}
use native.Mathlib.Numerals.{add-one}
use native.Mathlib.Nat.{div-add-mod', mod-lt, div-lt_iff_lt-mul, pow-zero, pow-suc}
use lib.ListN.{length}
use lib.Dec.{eqb, ltb}
use lib.Ieee.{Float, binary64, to_bits}
use lib.Ieee.Bits.{of_bits-to_bits, to_bits-lt}
use borrow.Author.Tests.{ltb-true, ltb-false, lt-ltb, le-ltb, le-leb, lt-leb, ne_eqb, eq-eqb}
use Rattle.float.specs.Binary64.{F64}
use Rattle.float.proofs.Tests.{by}
use Rattle.protocol.specs.declared.Kind.{Kind}
use Rattle.protocol.specs.declared.Kind.TheVariants.{Value, Gradient}
use Rattle.protocol.specs.declared.Termination.{Termination}
use Rattle.protocol.specs.declared.Termination.TheVariants.{GradientTolerance, SimplexTolerance, StepTolerance, FunctionTolerance, MaxIterations, MaxFevals, LineSearchFailed, GradientFailed, ObjectiveResolution}
use Rattle.protocol.specs.Protocol.{letter, Question, Answer, Result}
use Rattle.lines_field.specs.Shapes.{most, digit_of, digits, below, spelt, same, formed, word_field, decimal_field, letter_field, field_as}
use Rattle.lines_reader.specs.declared.Form.TheVariants.{Answers}
use Rattle.lines_reader.specs.Forms.{shape_at_of, fields_from, fields, readings_from, readings, all_ok}
use Rattle.lines_forms.specs.Lines.{value_in, answer_line}
use Rattle.lines_theory.proofs.Pieces.{same_self}
use Rattle.lines_buffer.specs.Texts.{glyph_of, numeral, places_from, places_of, decimal_text, value_text, values_text}
use Rattle.lines_print.specs.Reasons.{reason_text, flag_text}
use Rattle.lines_print.specs.Print.{answer_text, ask_text, end_before, end_text}
use Rattle.lines_theory.specs.ReadBack.{reason_among, reason_field, yes_field, result_in, end_fields, end_line, AllF64, Printable, echo_of, ReadBackLaws}
use Rattle.lines_buffer.proofs.Digits.{length_numeral}

never_true : false ≡ true → ⊥
never_true e = true≢false (sym e)

-- ---- fields

-- no space
unfoldable clean : List ℕ → Bool
clean [] = true
clean (b ∷ bs) = cond (eqb b 32) false (clean bs)

fields_on : (g f rest : List ℕ) → clean f ≡ true → fields_from g (f ++ rest) ≡ fields_from (g ++ f) rest
unfolding fields_from clean
fields_on g [] rest e = ap (λ (l : List ℕ). fields_from l rest) (sym (append-nil g))
fields_on g (b ∷ f) rest e =
    by (eqb b 32)
    (λ p. absurd (never_true (rw p at e)))
    (λ p. rw p (fields_on (g ++ (b ∷ [])) f rest (rw p at e) ∙ ap (λ (l : List ℕ). fields_from l rest) (append_assoc g (b ∷ []) f)))

clean_snoc : (f : List ℕ) (b : ℕ) → clean f ≡ true → eqb b 32 ≡ false → clean (f ++ (b ∷ [])) ≡ true
unfolding clean
clean_snoc [] b e p = rw p
clean_snoc (a ∷ f) b e p =
    by (eqb a 32)
    (λ q. absurd (never_true (rw q at e)))
    (λ q. rw q (clean_snoc f b (rw q at e) p))

-- ---- digits

glyph_clean : (d : ℕ) → eqb (glyph_of d) 32 ≡ false
glyph_clean d =
    by (ltb d 10)
    (λ p. rw p (ne_eqb (48 + d) 32 (λ e. omega arith)))
    (λ p. rw p (ne_eqb (55 + d) 32 (λ e. omega arith)))

glyph_digit : (d : ℕ) → d < 16 → digit_of (glyph_of d) ≡ d
unfolding digit_of
glyph_digit d h =
    by (ltb d 10)
    (λ p.
    let l : d < 10 = ltb-true d 10 p in
    rw (p, le-ltb (48 + d) 48 (omega arith), le-leb (48 + d) 57 (omega arith)) (omega arith))
    (λ p.
    let l : 10 ≤ d = ltb-false d 10 p in
    rw (p, le-ltb (55 + d) 48 (omega arith), lt-leb (55 + d) 57 (omega arith), le-ltb (55 + d) 65 (omega arith), le-leb (55 + d) 70 (omega arith)) (omega arith))

digits_snoc : (f : List ℕ) (b : ℕ) → digits (f ++ (b ∷ [])) ≡ digits f ++ (digit_of b ∷ [])
unfolding digits
digits_snoc [] b = refl
digits_snoc (a ∷ f) b = ap (λ (l : List ℕ). digit_of a ∷ l) (digits_snoc f b)

spelt_snoc : (base v : ℕ) (ds : List ℕ) (d : ℕ) → spelt base v (ds ++ (d ∷ [])) ≡ spelt base v ds * base + d
unfolding spelt
spelt_snoc base v [] d = refl
spelt_snoc base v (a ∷ ds) d = spelt_snoc base (v * base + a) ds d

below_snoc : (base : ℕ) (ds : List ℕ) (d : ℕ) → below base ds ≡ true → ltb d base ≡ true → below base (ds ++ (d ∷ [])) ≡ true
unfolding below
below_snoc base [] d e p = rw p
below_snoc base (a ∷ ds) d e p =
    by (ltb a base)
    (λ q. rw q (below_snoc base ds d (rw q at e) p))
    (λ q. absurd (never_true (rw q at e)))

module _ (base : ℕ) (some : 0 < base) (few : base ≤ 16) where
  last_digit : (n : ℕ) → digit_of (glyph_of (n % base)) ≡ n % base
  last_digit n = glyph_digit (n % base) (omega (arith, mod-lt n some))

  numeral_clean : (k n : ℕ) → clean (numeral base k n) ≡ true
  unfolding numeral clean
  numeral_clean zero n = refl
  numeral_clean (suc k) n = clean_snoc (numeral base k (n / base)) (glyph_of (n % base)) (numeral_clean k (n / base)) (glyph_clean (n % base))

  numeral_below : (k n : ℕ) → below base (digits (numeral base k n)) ≡ true
  unfolding numeral digits below
  numeral_below zero n = refl
  numeral_below (suc k) n =
      rw (digits_snoc (numeral base k (n / base)) (glyph_of (n % base)), last_digit n)
      (below_snoc base (digits (numeral base k (n / base))) (n % base) (numeral_below k (n / base)) (lt-ltb (n % base) base (mod-lt n some)))

  numeral_spelt : (k n : ℕ) → n < base ^ k → spelt base 0 (digits (numeral base k n)) ≡ n
  unfolding numeral digits spelt
  numeral_spelt zero n h = let one : base ^ 0 ≡ 1 = pow-zero base in omega arith
  numeral_spelt (suc k) n h =
      let part : n / base < base ^ k = (div-lt_iff_lt-mul some).1 (rw (pow-suc base k) at h) in
      rw (digits_snoc (numeral base k (n / base)) (glyph_of (n % base)), last_digit n)
      (spelt_snoc base 0 (digits (numeral base k (n / base))) (n % base)
      ∙ ap (λ (m : ℕ). m * base + n % base) (numeral_spelt k (n / base) part)
      ∙ div-add-mod' n base)

-- ---- decimals and values

places_hold : (k n : ℕ) → n < 10 ^ (k + 1) → n < 10 ^ places_from k n
unfolding places_from
places_hold zero n h = h
places_hold (suc k) n h =
    by (ltb n 10)
    (λ p. rw p (ltb-true n 10 p))
    (λ p.
    let s : suc k + 1 ≡ suc (k + 1) = omega arith in
    let part : n / 10 < 10 ^ (k + 1) = (div-lt_iff_lt-mul {k = 10} (omega arith)).1 (rw (s, pow-suc 10 (k + 1)) at h) in
    let rest : n < 10 ^ places_from k (n / 10) * 10 = (div-lt_iff_lt-mul {k = 10} (omega arith)).0 (places_hold k (n / 10) part) in
    rw (p, add-one (places_from k (n / 10)), pow-suc 10 (places_from k (n / 10))) rest)

places_some : (k n : ℕ) → 0 < places_from k n
unfolding places_from
places_some zero n = omega arith
places_some (suc k) n = by (ltb n 10) (λ p. rw p (omega arith)) (λ p. rw p (omega arith))

decimal_back : (n : ℕ) → n ≤ most → decimal_field (decimal_text n) ≡ formed n
unfolding decimal_field decimal_text
decimal_back n h =
    let k = places_of n in
    let small : n < 10 ^ (19 + 1) = omega arith in
    let is : spelt 10 0 (digits (numeral 10 k n)) ≡ n = numeral_spelt 10 (omega arith) (omega arith) k n (places_hold 19 n small) in
    let good : below 10 (digits (numeral 10 k n)) ≡ true = numeral_below 10 (omega arith) (omega arith) k n in
    let some : eqb (length (numeral 10 k n)) 0 ≡ false = ne_eqb (length (numeral 10 k n)) 0 (λ e. omega (arith, length_numeral 10 k n, places_some 19 n)) in
    rw (some, good, is, le-leb n most h)

decimal_clean : (n : ℕ) → clean (decimal_text n) ≡ true
unfolding decimal_text
decimal_clean n = numeral_clean 10 (omega arith) (omega arith) (places_of n) n

value_clean : (x : Float) → clean (value_text x) ≡ true
unfolding value_text
value_clean x = numeral_clean 16 (omega arith) (omega arith) 16 (to_bits binary64 x)

value_back : (x : Float) → F64 x → word_field (value_text x) ≡ formed (to_bits binary64 x)
unfolding word_field value_text
value_back x h =
    let w = to_bits binary64 x in
    let small : w < 16 ^ 16 = omega (arith, to_bits-lt binary64 x h) in
    rw (eq-eqb (length (numeral 16 16 w)) 16 (length_numeral 16 16 w), numeral_below 16 (omega arith) (omega arith) 16 w, numeral_spelt 16 (omega arith) (omega arith) 16 w small)

value_is : (x : Float) → F64 x → value_in (word_field (value_text x)) ≡ x
value_is x h = ap value_in (value_back x h) ∙ of_bits-to_bits binary64 x h

values_split : (f : List ℕ) (xs : List Float) → fields_from f (values_text xs) ≡ f ∷ map value_text xs
unfolding fields_from values_text
values_split f [] = refl
values_split f (x ∷ xs) = ap (λ (l : List (List ℕ)). f ∷ l) (fields_on [] (value_text x) (values_text xs) (value_clean x) ∙ values_split (value_text x) xs)

-- the values are words, and are read as they were
values_ok : (xs : List Float) → AllF64 xs → all_ok (map word_field (map value_text xs)) ≡ true
unfolding AllF64 all_ok
values_ok [] h = refl
values_ok (x ∷ xs) h = rw (value_back x h.0) (values_ok xs h.1)

values_are : (xs : List Float) → AllF64 xs → map value_in (map word_field (map value_text xs)) ≡ xs
unfolding AllF64
values_are [] h = refl
values_are (x ∷ xs) h = ap₂ (λ (y : Float) (ys : List Float). y ∷ ys) (value_is x h.0) (values_are xs h.1)

-- ---- answers

words_read : (i : ℕ) (fs : List (List ℕ)) → 2 ≤ i → readings_from Answers i fs ≡ map word_field fs
unfolding readings_from field_as shape_at_of
words_read i [] h = refl
words_read i (f ∷ fs) h = rw (le-ltb i 2 h, words_read (suc i) fs (omega arith))

letter_back : (k : Kind) → letter_field (letter k ∷ []) ≡ formed (letter k)
unfolding letter_field same
letter_back Value = refl
letter_back Gradient = refl

letter_clean : (k : Kind) → eqb (letter k) 32 ≡ false
letter_clean Value = refl
letter_clean Gradient = refl

answer_fields : (number : ℕ) (k : Kind) (xs : List Float) → fields (decimal_text number ++ (32 ∷ letter k ∷ values_text xs)) ≡ decimal_text number ∷ (letter k ∷ []) ∷ map value_text xs
unfolding fields_from
answer_fields number k xs =
    fields_on [] (decimal_text number) (32 ∷ letter k ∷ values_text xs) (decimal_clean number)
    ∙ ap (λ (l : List (List ℕ)). decimal_text number ∷ l) (rw (letter_clean k) (values_split (letter k ∷ []) xs))

answer_readings : (number : ℕ) (k : Kind) (xs : List Float) → number ≤ most
    → readings Answers (decimal_text number ++ (32 ∷ letter k ∷ values_text xs)) ≡ formed number ∷ formed (letter k) ∷ map word_field (map value_text xs)
unfolding readings_from field_as shape_at_of
answer_readings number k xs h =
    ap (λ (fs : List (List ℕ)). readings_from Answers 0 fs) (answer_fields number k xs)
    ∙ rw (decimal_back number h, letter_back k, words_read 2 (map value_text xs) (omega arith))

answer_kind : (number : ℕ) (k : Kind) (xs : List Float) → number ≤ most → AllF64 xs
    → answer_line (decimal_text number ++ (32 ∷ letter k ∷ values_text xs)) ≡ Some (record { number = number; kind = letter k; words = xs })
unfolding answer_line all_ok
answer_kind number k xs h a =
    rw (answer_readings number k xs h, lt-ltb 1 (suc (suc (length (map word_field (map value_text xs))))) (omega arith), values_ok xs a, values_are xs a)

answer_back : (a : Answer) (k : Kind) → a.kind ≡ letter k → a.number ≤ most → AllF64 a.words → answer_line (answer_text a) ≡ Some a
unfolding answer_text
answer_back a k e h w = rw e (answer_kind a.number k a.words h w)

ask_is : (q : Question) → ask_text q ≡ (97 ∷ 115 ∷ 107 ∷ 32 ∷ []) ++ (answer_text (echo_of q) ++ (10 ∷ []))
unfolding ask_text answer_text
ask_is q = ap (λ (l : List ℕ). (97 ∷ 115 ∷ 107 ∷ 32 ∷ []) ++ l) (sym (append_assoc (decimal_text q.number) (32 ∷ letter q.kind ∷ values_text q.point) (10 ∷ [])))

-- ---- results

next_split : (f t rest : List ℕ) → clean t ≡ true → fields_from f ((32 ∷ t) ++ rest) ≡ f ∷ fields_from t rest
unfolding fields_from
next_split f t rest e = ap (λ (l : List (List ℕ)). f ∷ l) (fields_on [] t rest e)

flag_clean : (b : Bool) → clean (flag_text b) ≡ true
unfolding clean
flag_clean true = refl
flag_clean false = refl

reason_clean : (r : Termination) → clean (reason_text r) ≡ true
unfolding clean reason_text
reason_clean GradientTolerance = refl
reason_clean SimplexTolerance = refl
reason_clean StepTolerance = refl
reason_clean FunctionTolerance = refl
reason_clean MaxIterations = refl
reason_clean MaxFevals = refl
reason_clean LineSearchFailed = refl
reason_clean GradientFailed = refl
reason_clean ObjectiveResolution = refl

reason_back : (r : Termination) → reason_field (reason_text r) ≡ Some r
unfolding reason_among reason_text same
reason_back GradientTolerance = refl
reason_back SimplexTolerance = refl
reason_back StepTolerance = refl
reason_back FunctionTolerance = refl
reason_back MaxIterations = refl
reason_back MaxFevals = refl
reason_back LineSearchFailed = refl
reason_back GradientFailed = refl
reason_back ObjectiveResolution = refl

flag_back : (b : Bool) → yes_field (flag_text b) ≡ Some b
unfolding yes_field same
flag_back true = refl
flag_back false = refl

end_split : (r : Result)
    → fields (end_before r []) ≡ (101 ∷ 110 ∷ 100 ∷ []) ∷ reason_text r.reason ∷ flag_text r.converged ∷ decimal_text r.iterations ∷ decimal_text r.fevals ∷ decimal_text r.gevals ∷ value_text r.f ∷ map value_text r.x
unfolding fields_from end_before
end_split r =
    let x = values_text r.x ++ [] in
    let f = (32 ∷ value_text r.f) ++ x in
    let ge = (32 ∷ decimal_text r.gevals) ++ f in
    let fe = (32 ∷ decimal_text r.fevals) ++ ge in
    let it = (32 ∷ decimal_text r.iterations) ++ fe in
    let c = flag_text r.converged ++ it in
    ap (λ (l : List (List ℕ)). (101 ∷ 110 ∷ 100 ∷ []) ∷ l)
    (fields_on [] (reason_text r.reason) ((32 ∷ []) ++ c) (reason_clean r.reason)
    ∙ next_split (reason_text r.reason) (flag_text r.converged) it (flag_clean r.converged)
    ∙ ap (λ (l : List (List ℕ)). reason_text r.reason ∷ l)
    (next_split (flag_text r.converged) (decimal_text r.iterations) fe (decimal_clean r.iterations)
    ∙ ap (λ (l : List (List ℕ)). flag_text r.converged ∷ l)
    (next_split (decimal_text r.iterations) (decimal_text r.fevals) ge (decimal_clean r.fevals)
    ∙ ap (λ (l : List (List ℕ)). decimal_text r.iterations ∷ l)
    (next_split (decimal_text r.fevals) (decimal_text r.gevals) f (decimal_clean r.gevals)
    ∙ ap (λ (l : List (List ℕ)). decimal_text r.fevals ∷ l)
    (next_split (decimal_text r.gevals) (value_text r.f) x (value_clean r.f)
    ∙ ap (λ (l : List (List ℕ)). decimal_text r.gevals ∷ l)
    (ap (λ (l : List ℕ). fields_from (value_text r.f) l) (append-nil (values_text r.x)) ∙ values_split (value_text r.f) r.x))))))

end_back : (r : Result) → Printable r → end_line (end_before r []) ≡ Some r
unfolding end_fields result_in
end_back r p =
    ap end_fields (end_split r)
    ∙ rw (
      same_self (101 ∷ 110 ∷ 100 ∷ []),
      reason_back r.reason,
      flag_back r.converged,
      decimal_back r.iterations p.iterations,
      decimal_back r.fevals p.fevals,
      decimal_back r.gevals p.gevals,
      value_back r.f p.value,
      values_ok r.x p.point,
      values_are r.x p.point,
      of_bits-to_bits binary64 r.f p.value,
    )

end_is : (r : Result) → end_text r ≡ end_before r [] ++ (10 ∷ [])
unfolding end_text end_before
end_is r = simp (append_assoc)

pub read_back_laws : ReadBackLaws
read_back_laws = record { answer_back = answer_back; ask_is = ask_is; end_back = end_back; end_is = end_is }
