-- The reader and the forms agree: a line's bytes, fed one by one, give what the definition says of the whole line. Assumes nothing.
use Prim.Native.Nat.{ℕ, zero, suc, min, ◌+◌, ◌≤◌, ◌<◌}
use mathlib.Core.Path.{◌≡◌, refl, sym, ap, ◌∙◌}
use mathlib.Core.Bool.{Bool, true, false, ◌&&◌, ◌||◌, not}
use mathlib.Core.List.{List, [], ◌∷◌, ◌++◌, append_assoc, append-nil}
use native.Mathlib.Omega.{arith}
use native.Mathlib.Numerals.{add-one}
use lib.ListN.{length, set, get_or, length-append, get_or-eq_default}
use lib.Dec.{eqb, ltb}
use borrow.Author.Tests.{ltb-true, ltb-false, le-ltb, ne_eqb}
use Rattle.float.proofs.Tests.{by}
use Rattle.lines_field.specs.declared.Field.{Field}
use Rattle.lines_field.specs.declared.Reading.{Reading}
use Rattle.lines_field.specs.declared.Shape.{Shape}
use Rattle.lines_field.specs.declared.Shape.TheVariants.{Word, Decimal, Maybe, Flag, Job, Nothing}
use Rattle.lines_reader.specs.declared.Form.{Form}
use Rattle.lines_reader.specs.declared.Form.TheVariants.{Stopped, Line1, SimplexLine2, GradientLine2, Line3, Answers, Other}
use Rattle.lines_reader.specs.declared.LineRead.{LineRead}
use Rattle.lines_reader.specs.declared.Reader.{Reader}
use Rattle.lines_field.specs.Shapes.{most, fits, field_as}
use Rattle.lines_reader.specs.Forms.{shape_at_of, fields_from, fields, readings_from, all_ok, firsts, capped, empty, line_of}
use Rattle.lines_field.specs.Fields.{blank_field_of, lengthened_of, judged_of, added_of}
use Rattle.lines_reader.specs.Reader.{one_more_of, kept_of, alone_of, taken_of, started_of, fed_of, fed_all, finished_of, begun_of}
use Rattle.lines_theory.specs.Laws.{ReaderLaws}
use Rattle.lines_theory.proofs.Pieces.{added_all, field_of, added_snoc, size_law, judged_law}

-- ---- bytes to fields

unfoldable takes : LineRead → List (List ℕ) → LineRead
takes l [] = l
takes l (f ∷ fs) = takes (taken_of l (field_of f)) fs

at_space : (l : LineRead) (f : Field) (b : ℕ) → eqb b 32 ≡ true → fed_of (record { field = f; line = l }) b ≡ record { field = field_of []; line = taken_of l f }
unfolding fed_of added_all
at_space l f b p = rw p

at_byte : (l : LineRead) (f : List ℕ) (b : ℕ) → eqb b 32 ≡ false → fed_of (record { field = field_of f; line = l }) b ≡ record { field = field_of (f ++ (b ∷ [])); line = l }
unfolding fed_of
at_byte l f b p = rw (p, added_snoc blank_field_of f b)

split : (l : LineRead) (f bs : List ℕ) → finished_of (fed_all (record { field = field_of f; line = l }) bs) ≡ takes l (fields_from f bs)
unfolding fed_all fields_from takes
split l f [] = refl
split l f (b ∷ bs) =
    by (eqb b 32)
    (λ p. ap (λ (r : Reader). finished_of (fed_all r bs)) (at_space l (field_of f) b p) ∙ split (taken_of l (field_of f)) [] bs ∙ rw p)
    (λ p. ap (λ (r : Reader). finished_of (fed_all r bs)) (at_byte l f b p) ∙ split l (f ++ (b ∷ [])) bs ∙ rw p)

and_true : (b : Bool) → b ≡ (b && true)
and_true true = refl
and_true false = refl

and_assoc : (a b c : Bool) → ((a && b) && c) ≡ (a && (b && c))
and_assoc true b c = refl
and_assoc false b c = refl

-- ---- what the fields leave in the line

abbrev held : Form → List Reading → Bool → LineRead
held form vs e = record { form = form; count = capped (length vs); ok = all_ok vs; empty = e; fields = firsts 20 vs }

one_more_is : (n : ℕ) → n ≤ most → one_more_of n ≡ min (n + 1) most
one_more_is n h =
    by (ltb n most)
    (λ p. rw p (omega (arith, ltb-true n most p)))
    (λ p. rw p (omega (arith, h, ltb-false n most p)))

more_capped : (n : ℕ) → one_more_of (capped n) ≡ capped (n + 1)
more_capped n = one_more_is (capped n) (omega arith) ∙ omega arith

-- counts that are told apart are told apart below the largest u64
pub capped_is : (m n : ℕ) → n < most → eqb (capped m) n ≡ eqb m n
capped_is m n h =
    by (ltb m most)
    (λ p. let e : capped m ≡ m = omega (arith, ltb-true m most p) in rw e)
    (λ p.
    let far : most ≤ m = ltb-false m most p in
    ne_eqb (capped m) n (λ e. omega arith) ∙ sym (ne_eqb m n (λ e. omega arith)))

far : (xs : List Shape) (i j : ℕ) → length xs ≤ i → length xs ≤ j → get_or xs i Nothing ≡ get_or xs j Nothing
far xs i j h k = get_or-eq_default xs Nothing {n = i} h ∙ sym (get_or-eq_default xs Nothing {n = j} k)

far_kind : (form : Form) (i j : ℕ) → 11 ≤ i → 11 ≤ j → shape_at_of form i ≡ shape_at_of form j
unfolding shape_at_of
far_kind Stopped i j h k = refl
far_kind (Other m) i j h k = refl
far_kind Line1 i j h k = far (Job ∷ Decimal ∷ []) i j (omega arith) (omega arith)
far_kind SimplexLine2 i j h k = far (Word ∷ Word ∷ Word ∷ Maybe ∷ Maybe ∷ Decimal ∷ Flag ∷ []) i j (omega arith) (omega arith)
far_kind GradientLine2 i j h k = far (Word ∷ Word ∷ Word ∷ Word ∷ Word ∷ Word ∷ Maybe ∷ Maybe ∷ Decimal ∷ Decimal ∷ Flag ∷ []) i j (omega arith) (omega arith)
far_kind Line3 i j h k = refl
far_kind Answers i j h k = rw (le-ltb i 2 (omega arith), le-ltb j 2 (omega arith))

kind_capped : (form : Form) (i : ℕ) → shape_at_of form (capped i) ≡ shape_at_of form i
kind_capped form i =
    by (ltb i most)
    (λ p. let e : capped i ≡ i = omega (arith, ltb-true i most p) in ap (λ (n : ℕ). shape_at_of form n) e)
    (λ p.
    let h : most ≤ i = ltb-false i most p in
    far_kind form (capped i) i (omega arith) (omega arith))

lone_capped : (i : ℕ) (f : List ℕ) → alone_of (capped i) (field_of f).size ≡ alone_of i (length f)
lone_capped i f = rw (capped_is i 0 (omega arith), size_law f 0 (omega arith))

ok_more : (vs : List Reading) (v : Reading) → (all_ok vs && fits v) ≡ all_ok (vs ++ (v ∷ []))
unfolding all_ok
ok_more [] v = and_true (fits v)
ok_more (w ∷ vs) v = and_assoc (fits w) (all_ok vs) (fits v) ∙ ap (λ (b : Bool). fits w && b) (ok_more vs v)

firsts_more : (k : ℕ) (vs : List Reading) (v : Reading) → length vs < k → set (firsts k vs) (length vs) v ≡ firsts k (vs ++ (v ∷ []))
unfolding firsts
firsts_more zero vs v h = absurd (omega arith)
firsts_more (suc k) [] v h = refl
firsts_more (suc k) (w ∷ vs) v h = ap (λ (l : List Reading). w ∷ l) (firsts_more k vs v (omega arith))

firsts_full : (k : ℕ) (vs : List Reading) (v : Reading) → k ≤ length vs → firsts k vs ≡ firsts k (vs ++ (v ∷ []))
unfolding firsts
firsts_full zero vs v h = refl
firsts_full (suc k) [] v h = absurd (omega arith)
firsts_full (suc k) (w ∷ vs) v h = ap (λ (l : List Reading). w ∷ l) (firsts_full k vs v (omega arith))

kept_capped : (vs : List Reading) (v : Reading) → kept_of (firsts 20 vs) (capped (length vs)) v ≡ firsts 20 (vs ++ (v ∷ []))
unfolding kept_of
kept_capped vs v =
    by (ltb (length vs) 20)
    (λ p.
    let h : length vs < 20 = ltb-true (length vs) 20 p in
    let e : capped (length vs) ≡ length vs = omega arith in
    rw (e, p) (firsts_more 20 vs v h))
    (λ p.
    let h : 20 ≤ length vs = ltb-false (length vs) 20 p in
    rw (le-ltb (capped (length vs)) 20 (omega arith)) (firsts_full 20 vs v h))

length_snoc : (vs : List Reading) (v : Reading) → length (vs ++ (v ∷ [])) ≡ length vs + 1
length_snoc vs v = length-append vs (v ∷ [])

take_one : (form : Form) (vs : List Reading) (e : Bool) (f : List ℕ) → taken_of (held form vs e) (field_of f) ≡ held form (vs ++ (field_as (shape_at_of form (length vs)) f ∷ [])) (alone_of (length vs) (length f))
unfolding taken_of
take_one form vs e f =
    let v = field_as (shape_at_of form (length vs)) f in
    let is : judged_of (shape_at_of form (capped (length vs))) (field_of f) ≡ v = judged_law (shape_at_of form (capped (length vs))) f ∙ ap (λ (k : Shape). field_as k f) (kind_capped form (length vs)) in
    rw (is, more_capped (length vs), lone_capped (length vs) f, kept_capped vs v, ok_more vs v, length_snoc vs v)

-- whether the last of some fields, the first at i, stands alone and is empty
unfoldable emptied : ℕ → List (List ℕ) → Bool → Bool
emptied i [] e = e
emptied i (f ∷ fs) e = emptied (i + 1) fs (alone_of i (length f))

take_all : (form : Form) (vs : List Reading) (e : Bool) (fs : List (List ℕ)) → takes (held form vs e) fs ≡ held form (vs ++ readings_from form (length vs) fs) (emptied (length vs) fs e)
unfolding takes readings_from emptied
take_all form vs e [] = rw (append-nil vs)
take_all form vs e (f ∷ fs) =
    let v = field_as (shape_at_of form (length vs)) f in
    ap (λ (l : LineRead). takes l fs) (take_one form vs e f)
    ∙ take_all form (vs ++ (v ∷ [])) (alone_of (length vs) (length f)) fs
    ∙ rw (length_snoc vs v, append_assoc vs (v ∷ []) (readings_from form (length vs + 1) fs), add-one (length vs))

-- ---- the empty line

empty_later : (i : ℕ) (f bs : List ℕ) (e : Bool) → 0 < i → emptied i (fields_from f bs) e ≡ false
unfolding emptied fields_from
empty_later i f [] e h = rw (ne_eqb i 0 (λ z. omega arith))
empty_later i f (b ∷ bs) e h =
    by (eqb b 32)
    (λ p. rw p (empty_later (i + 1) [] bs (alone_of i (length f)) (omega arith)))
    (λ p. rw p (empty_later i (f ++ (b ∷ [])) bs e h))

none_some : (f : List ℕ) (b : ℕ) (bs : List ℕ) → empty (f ++ (b ∷ bs)) ≡ false
unfolding empty
none_some [] b bs = refl
none_some (a ∷ f) b bs = refl

none_length : (f : List ℕ) → eqb (length f) 0 ≡ empty f
unfolding empty
none_length [] = refl
none_length (a ∷ f) = ne_eqb (suc (length f)) 0 (λ e. omega arith)

empty_is : (f bs : List ℕ) (e : Bool) → emptied 0 (fields_from f bs) e ≡ empty (f ++ bs)
unfolding emptied fields_from
empty_is f [] e = none_length f ∙ ap (λ (l : List ℕ). empty l) (sym (append-nil f))
empty_is f (b ∷ bs) e =
    by (eqb b 32)
    (λ p. rw p (empty_later 1 [] bs (alone_of 0 (length f)) (omega arith) ∙ sym (none_some f b bs)))
    (λ p. rw p (empty_is (f ++ (b ∷ [])) bs e ∙ rw (append_assoc f (b ∷ []) bs)))

fresh_is : (form : Form) → started_of form ≡ record { field = field_of []; line = held form [] false }
unfolding added_all all_ok firsts
fresh_is form = refl

-- any line, fed to the reader, is what `line_of` says
read_is : (form : Form) (bs : List ℕ) → finished_of (fed_all (started_of form) bs) ≡ line_of form bs
unfolding line_of
read_is form bs =
    ap (λ (r : Reader). finished_of (fed_all r bs)) (fresh_is form)
    ∙ split (held form [] false) [] bs
    ∙ take_all form [] false (fields bs)
    ∙ ap (λ (e : Bool). held form (readings_from form 0 (fields bs)) e) (empty_is [] bs false)

-- ---- whether a line is begun

or_true : (b : Bool) → (b || true) ≡ true
or_true true = refl
or_true false = refl

-- one byte more, and a line that was begun
begun_more : (r : Reader) (b : ℕ) → begun_of (fed_of r b) ≡ true
unfolding fed_of begun_of taken_of added_of
begun_more r b =
    by (eqb b 32)
    (λ p.
    let some : one_more_of r.line.count ≡ 0 → ⊥ = λ e. by (ltb r.line.count most) (λ s. omega (arith, rw s at e)) (λ s. omega (arith, rw s at e, ltb-false r.line.count most s)) in
    rw (p, ne_eqb (one_more_of r.line.count) 0 some))
    (λ p.
    let some : lengthened_of r.field.size ≡ 0 → ⊥ = λ e. by (ltb r.field.size 17) (λ s. omega (arith, rw s at e)) (λ s. omega (arith, rw s at e, ltb-false r.field.size 17 s)) in
    rw (p, ne_eqb (lengthened_of r.field.size) 0 some) (or_true (not (eqb r.line.count 0))))

begun_on : (r : Reader) (bs : List ℕ) → begun_of r ≡ true → begun_of (fed_all r bs) ≡ true
unfolding fed_all
begun_on r [] e = e
begun_on r (b ∷ bs) e = begun_on (fed_of r b) bs (begun_more r b)

begun_is : (form : Form) (bs : List ℕ) → begun_of (fed_all (started_of form) bs) ≡ not (empty bs)
unfolding fed_all empty begun_of
begun_is form [] = refl
begun_is form (b ∷ bs) = begun_on (fed_of (started_of form) b) bs (begun_more (started_of form) b)

pub reader_laws : ReaderLaws
reader_laws = record { read_is = read_is; begun_is = begun_is }
