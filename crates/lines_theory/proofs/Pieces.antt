-- A field fed byte by byte is read as its definition says, whatever its kind. Assumes nothing.
use Prim.Native.Nat.{ℕ, suc, ◌+◌, ◌*◌, ◌^◌, ◌≤◌, ◌<◌}
use mathlib.Core.Path.{◌≡◌, refl, sym, ap, ◌∙◌}
use mathlib.Core.Bool.{true, cond, true≢false}
use mathlib.Core.List.{List, [], ◌∷◌, ◌++◌}
use native.Mathlib.Omega.{arith}
use native.Mathlib.Nat.{pow-le-pow_right}
use lib.ListN.{length}
use lib.Dec.{eqb, leb, ltb}
use borrow.Author.Tests.{ltb-true, ltb-false, eqb-true, eqb-false, le-leb, lt-ltb, eq-eqb, ne_eqb}
use Rattle.std.specs.Prelude.{None, Some}
use Rattle.float.proofs.Tests.{by}
use Rattle.lines_field.specs.declared.Shape.{Shape}
use Rattle.lines_field.specs.declared.Shape.TheVariants.{Word, Decimal, Maybe, Flag, Letter, Job, Nothing}
use Rattle.lines_field.specs.declared.Field.{Field}
use Rattle.lines_field.specs.Shapes.{most, digits, below, spelt, same, word_field, decimal_field, maybe_field, flag_field, letter_field, job_field, field_as}
use Rattle.lines_field.specs.Fields.{blank_field_of, lengthened_of, added_of, spells_of, word_of, decimal_of, maybe_of, flag_of, letter_of, job_of, judged_of}
use Rattle.lines_theory.proofs.Sums.{never, grow_digit, sums, fit, sums_is, spelt_lt}

-- ---- a field's parts

unfoldable pub added_all : Field → List ℕ → Field
added_all f [] = f
added_all f (b ∷ bs) = added_all (added_of f b) bs

-- what a whole field's bytes make
abbrev pub field_of : List ℕ → Field
field_of bs = added_all blank_field_of bs

pub added_snoc : (f : Field) (bs : List ℕ) (b : ℕ) → added_all f (bs ++ (b ∷ [])) ≡ added_of (added_all f bs) b
unfolding added_all
added_snoc f [] b = refl
added_snoc f (a ∷ bs) b = added_snoc (added_of f a) bs b

unfoldable sized : ℕ → List ℕ → ℕ
sized n [] = n
sized n (b ∷ bs) = sized (lengthened_of n) bs

parts : (f : Field) (bs : List ℕ) → added_all f bs ≡ record { size = sized f.size bs; dec = sums 10 f.dec (digits bs); hex = sums 16 f.hex (digits bs); text = sums 256 f.text bs }
unfolding added_all sized sums digits added_of
parts f [] = refl
parts f (b ∷ bs) = parts (added_of f b) bs ∙ rw (grow_digit 10 f.dec b (omega arith), grow_digit 16 f.hex b (omega arith))

size_small : (n : ℕ) (bs : List ℕ) → n + length bs ≤ 17 → sized n bs ≡ n + length bs
unfolding sized
size_small n [] h = omega arith
size_small n (b ∷ bs) h = rw (lt-ltb n 17 (omega arith)) (size_small (n + 1) bs (omega arith) ∙ omega arith)

size_large : (n : ℕ) (bs : List ℕ) → n ≤ 17 → 17 ≤ n + length bs → sized n bs ≡ 17
unfolding sized
size_large n [] l h = omega arith
size_large n (b ∷ bs) l h =
    by (ltb n 17)
    (λ p. rw p (size_large (n + 1) bs (omega (arith, ltb-true n 17 p)) (omega arith)))
    (λ p. rw p (size_large n bs l (omega (arith, ltb-false n 17 p))))

-- the length up to 16 is told by the size
size_is : (bs : List ℕ) (k : ℕ) → k < 17 → eqb (sized 0 bs) k ≡ eqb (length bs) k
size_is bs k h =
    by (ltb (length bs) 17)
    (λ p.
    let small : 0 + length bs ≤ 17 = omega (arith, ltb-true (length bs) 17 p) in
    let is : sized 0 bs ≡ length bs = omega (arith, size_small 0 bs small) in
    ap (λ (n : ℕ). eqb n k) is)
    (λ p.
    let far : 17 ≤ length bs = ltb-false (length bs) 17 p in
    ap (λ (n : ℕ). eqb n k) (size_large 0 bs (omega arith) (omega arith)) ∙ ne_eqb 17 k (λ e. omega arith) ∙ sym (ne_eqb (length bs) k (λ e. omega arith)))

pub size_law : (bs : List ℕ) (k : ℕ) → k < 17 → eqb (field_of bs).size k ≡ eqb (length bs) k
size_law bs k h = ap (λ (f : Field). eqb f.size k) (parts blank_field_of bs) ∙ size_is bs k h

-- the numbers that are read
dec_is : (bs : List ℕ) → (field_of bs).dec ≡ cond (fit 10 0 (digits bs)) (Some (spelt 10 0 (digits bs))) None
dec_is bs = ap (λ (f : Field). f.dec) (parts blank_field_of bs) ∙ sums_is 10 0 (digits bs) (omega arith) (omega arith)

hex_is : (bs : List ℕ) → (field_of bs).hex ≡ cond (fit 16 0 (digits bs)) (Some (spelt 16 0 (digits bs))) None
hex_is bs = ap (λ (f : Field). f.hex) (parts blank_field_of bs) ∙ sums_is 16 0 (digits bs) (omega arith) (omega arith)

text_is : (bs : List ℕ) → (field_of bs).text ≡ cond (fit 256 0 bs) (Some (spelt 256 0 bs)) None
text_is bs = ap (λ (f : Field). f.text) (parts blank_field_of bs) ∙ sums_is 256 0 bs (omega arith) (omega arith)

length_digits : (bs : List ℕ) → length (digits bs) ≡ length bs
unfolding digits
length_digits [] = refl
length_digits (b ∷ bs) = ap suc (length_digits bs)

-- ---- words and decimals

word_fits : (bs : List ℕ) → length bs ≡ 16 → below 16 (digits bs) ≡ true → leb (spelt 16 0 (digits bs)) most ≡ true
word_fits bs l e =
    let n : length (digits bs) ≡ 16 = length_digits bs ∙ l in
    let h = rw n at (spelt_lt 16 0 (digits bs) e) in
    le-leb (spelt 16 0 (digits bs)) most (omega arith)

word_law : (bs : List ℕ) → word_of (field_of bs) ≡ word_field bs
unfolding word_of word_field
word_law bs =
    by (eqb (length bs) 16)
    (λ l. by (below 16 (digits bs))
    (λ e. rw (size_law bs 16 (omega arith), l, hex_is bs, e, word_fits bs (eqb-true (length bs) 16 l) e))
    (λ e. rw (size_law bs 16 (omega arith), l, hex_is bs, e)))
    (λ l. rw (size_law bs 16 (omega arith), l))

decimal_law : (bs : List ℕ) → decimal_of (field_of bs) ≡ decimal_field bs
unfolding decimal_of decimal_field
decimal_law bs = by (fit 10 0 (digits bs)) (λ f. rw (size_law bs 0 (omega arith), dec_is bs, f)) (λ f. rw (size_law bs 0 (omega arith), dec_is bs, f))

-- ---- texts

same_eq : (xs ys : List ℕ) → same xs ys ≡ true → xs ≡ ys
unfolding same
same_eq [] [] e = refl
same_eq [] (y ∷ ys) e = absurd (true≢false (sym e))
same_eq (x ∷ xs) [] e = absurd (true≢false (sym e))
same_eq (x ∷ xs) (y ∷ ys) e =
    by (eqb x y)
    (λ p.
    let h : x ≡ y = eqb-true x y p in
    let t : xs ≡ ys = same_eq xs ys (rw p at e) in
    cc)
    (λ p. absurd (true≢false (sym (rw p at e))))

pub same_self : (xs : List ℕ) → same xs xs ≡ true
unfolding same
same_self [] = refl
same_self (x ∷ xs) = rw (eq-eqb x x refl) (same_self xs)

record Both (v w : ℕ) (xs ys : List ℕ) : Type 0 where
  pub start : v ≡ w
  pub rest : xs ≡ ys

apart : (v w a b : ℕ) → a < 256 → b < 256 → v * 256 + a ≡ w * 256 + b → v ≡ w
apart v w a b h k e = omega arith

spelt_one : (v w : ℕ) (xs ys : List ℕ) → length xs ≡ length ys → below 256 xs ≡ true → below 256 ys ≡ true → spelt 256 v xs ≡ spelt 256 w ys → Both v w xs ys
unfolding spelt below
spelt_one v w [] [] l e f s = record { start = s; rest = refl }
spelt_one v w [] (y ∷ ys) l e f s = absurd (omega arith)
spelt_one v w (x ∷ xs) [] l e f s = absurd (omega arith)
spelt_one v w (x ∷ xs) (y ∷ ys) l e f s =
    by (ltb x 256)
    (λ p. by (ltb y 256)
    (λ q.
    let i = spelt_one (v * 256 + x) (w * 256 + y) xs ys (omega arith) (rw p at e) (rw q at f) s in
    let hx : x < 256 = ltb-true x 256 p in
    let hy : y < 256 = ltb-true y 256 q in
    let start : v ≡ w = apart v w x y hx hy i.start in
    let here : x ≡ y = omega (arith, i.start) in
    let rest : xs ≡ ys = i.rest in
    record { start = start; rest = cc })
    (λ q. absurd (true≢false (sym (rw q at f)))))
    (λ p. absurd (true≢false (sym (rw p at e))))

text_fits : (bs : List ℕ) → length bs ≤ 8 → below 256 bs ≡ true → leb (spelt 256 0 bs) most ≡ true
text_fits bs l e =
    let m : 256 ^ length bs ≤ 256 ^ 8 = pow-le-pow_right {n = 256} (omega arith) {i = length bs} {j = 8} l in
    le-leb (spelt 256 0 bs) most (omega (arith, spelt_lt 256 0 bs e))

spells_law : (bs lit : List ℕ) (k t : ℕ) → length lit ≡ k → spelt 256 0 lit ≡ t → k ≤ 8 → below 256 lit ≡ true → spells_of (field_of bs) k t ≡ same bs lit
unfolding spells_of
spells_law bs lit k t l s h b =
    by (eqb (length bs) k)
    (λ p.
    let len : length bs ≡ k = eqb-true (length bs) k p in
    by (below 256 bs)
    (λ e.
    rw (size_law bs k (omega arith), p, text_is bs, e, text_fits bs (omega arith) e)
    (by (eqb (spelt 256 0 bs) t)
    (λ q.
    let one : bs ≡ lit = (spelt_one 0 0 bs lit (len ∙ sym l) e b (eqb-true (spelt 256 0 bs) t q ∙ sym s)).rest in
    q ∙ sym (ap (λ (x : List ℕ). same bs x) (sym one) ∙ same_self bs))
    (λ q. q ∙ sym (by (same bs lit)
    (λ y. absurd (eqb-false (spelt 256 0 bs) t q (ap (λ (x : List ℕ). spelt 256 0 x) (same_eq bs lit y) ∙ s)))
    (λ y. y)))))
    (λ e.
    rw (size_law bs k (omega arith), p, text_is bs, e)
    (sym (by (same bs lit)
    (λ y. never (below 256 lit) b (ap (λ (x : List ℕ). below 256 x) (sym (same_eq bs lit y)) ∙ e))
    (λ y. y)))))
    (λ p.
    rw (size_law bs k (omega arith), p)
    (sym (by (same bs lit)
    (λ y. absurd (eqb-false (length bs) k p (ap (λ (x : List ℕ). length x) (same_eq bs lit y) ∙ l)))
    (λ y. y))))

one_law : (bs : List ℕ) (b : ℕ) → b < 256 → spells_of (field_of bs) 1 b ≡ same bs (b ∷ [])
unfolding spelt below
one_law bs b h = spells_law bs (b ∷ []) 1 b refl (omega arith) (omega arith) (rw (lt-ltb b 256 h))

maybe_law : (bs : List ℕ) → maybe_of (field_of bs) ≡ maybe_field bs
unfolding maybe_of maybe_field
maybe_law bs = rw (one_law bs 45 (omega arith), decimal_law bs)

flag_law : (bs : List ℕ) → flag_of (field_of bs) ≡ flag_field bs
unfolding flag_of flag_field
flag_law bs = rw (one_law bs 48 (omega arith), one_law bs 49 (omega arith))

letter_law : (bs : List ℕ) → letter_of (field_of bs) ≡ letter_field bs
unfolding letter_of letter_field
letter_law bs = rw (one_law bs 86 (omega arith), one_law bs 71 (omega arith))

simplex_law : (bs : List ℕ) → spells_of (field_of bs) 7 0x73696d706c6578 ≡ same bs (115 ∷ 105 ∷ 109 ∷ 112 ∷ 108 ∷ 101 ∷ 120 ∷ [])
unfolding spelt below
simplex_law bs = spells_law bs (115 ∷ 105 ∷ 109 ∷ 112 ∷ 108 ∷ 101 ∷ 120 ∷ []) 7 0x73696d706c6578 refl refl (omega arith) refl

bfgs_law : (bs : List ℕ) → spells_of (field_of bs) 4 0x62666773 ≡ same bs (98 ∷ 102 ∷ 103 ∷ 115 ∷ [])
unfolding spelt below
bfgs_law bs = spells_law bs (98 ∷ 102 ∷ 103 ∷ 115 ∷ []) 4 0x62666773 refl refl (omega arith) refl

lbfgs_law : (bs : List ℕ) → spells_of (field_of bs) 5 0x6c62666773 ≡ same bs (108 ∷ 98 ∷ 102 ∷ 103 ∷ 115 ∷ [])
unfolding spelt below
lbfgs_law bs = spells_law bs (108 ∷ 98 ∷ 102 ∷ 103 ∷ 115 ∷ []) 5 0x6c62666773 refl refl (omega arith) refl

job_law : (bs : List ℕ) → job_of (field_of bs) ≡ job_field bs
unfolding job_of job_field
job_law bs = rw (simplex_law bs, bfgs_law bs, lbfgs_law bs)

-- a field of any kind
pub judged_law : (k : Shape) (bs : List ℕ) → judged_of k (field_of bs) ≡ field_as k bs
unfolding field_as
judged_law Word bs = word_law bs
judged_law Decimal bs = decimal_law bs
judged_law Maybe bs = maybe_law bs
judged_law Flag bs = flag_law bs
judged_law Letter bs = letter_law bs
judged_law Job bs = job_law bs
judged_law Nothing bs = refl
