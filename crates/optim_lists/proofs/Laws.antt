-- Lists and records are two forms of one thing: `lists_laws`. Assumes nothing.
use Prim.Native.Nat.{ℕ, zero, suc, ◌+◌, ◌-◌, ◌≤◌}
use mathlib.Core.Path.{◌≡◌, refl, sym, ap, ◌∙◌, subst}
use mathlib.Core.Bool.{Bool, true, false, not, ◌&&◌, true≢false}
use mathlib.Core.List.{List, [], ◌∷◌}
use native.Mathlib.Nat.{add-sub_of_le}
use native.Mathlib.Omega.{arith}
use lib.Dec.{eqb, leb}
use lib.ListN.{length, get_or, drop}
use lib.Seq.{get_or-drop}
use lib.Ieee.{Float, nan}
use borrow.Author.Tests.{leb-true}
use Rattle.quasinewton_limited.specs.declared.Pair.{Pair}
use Rattle.neldermead_vertices.specs.declared.Vertex.{Vertex}
use Rattle.optim_record.specs.declared.Record.{Record}
use Rattle.optim_lists.specs.Layout as place
use Rattle.optim_lists.specs.Lists.{Lists, mark, flag, vertices_from, pairs_from, record_of, flag_of, marks_of, numbers_of, points_of, values_of, steps_of, changes_of, factors_of, lists_of, flags_only, formed_of}
use Rattle.optim_lists.specs.Laws.{Long, ListsLaws}
use Rattle.optim_lists.proofs.Places.{read_places}

-- ---- flags

flag_read : (b : Bool) → not (eqb (flag_of b) 0) ≡ b
flag_read true = refl
flag_read false = refl

flag_known : (b : Bool) → leb (flag_of b) 1 ≡ true
flag_known true = refl
flag_known false = refl

flag_back : (k : ℕ) → k ≤ 1 → flag_of (not (eqb k 0)) ≡ k
flag_back zero h = refl
flag_back (suc zero) h = refl
flag_back (suc (suc k)) h = absurd (omega (arith, h))

both : (a b : Bool) → a && b ≡ true → (a ≡ true) × (b ≡ true)
both true b e = (refl, e)
both false b e = absurd (true≢false (sym e))

flags_small : (ks : List ℕ) → flags_only ks ≡ true → (i : ℕ) → get_or ks i 0 ≤ 1
flags_small [] e i = omega arith
flags_small (k ∷ ks) e zero = leb-true k 1 (both (leb k 1) (flags_only ks) e).0
flags_small (k ∷ ks) e (suc i) = flags_small ks (both (leb k 1) (flags_only ks) e).1 i

-- a flag that is a known mark is the flag of its Bool
flag_lies : (l : Lists) → formed_of l ≡ true → (i : ℕ) → place.flags ≤ i → flag_of (flag l.marks i) ≡ mark l.marks i
unfolding formed_of
flag_lies l e i h =
    let j = i - place.flags in
    subst (λ k. flag_of (flag l.marks k) ≡ mark l.marks k) (add-sub_of_le h)
    (flag_back (mark l.marks (place.flags + j)) (subst (λ k. k ≤ 1) (get_or-drop place.flags l.marks j 0) (flags_small (drop place.flags l.marks) e j)))

-- ---- vertices and pairs

vertices_back : (v : List Vertex) → vertices_from (points_of v) (values_of v) ≡ v
unfolding vertices_from
vertices_back [] = refl
vertices_back (a ∷ v) = ap (λ (w : List Vertex). a ∷ w) (vertices_back v)

pairs_back : (p : List Pair) → pairs_from (steps_of p) (changes_of p) (factors_of p) ≡ p
unfolding pairs_from
pairs_back [] = refl
pairs_back (a ∷ p) = ap (λ (q : List Pair). a ∷ q) (pairs_back p)

points_back : (xs : List (List Float)) (fs : List Float) → length xs ≡ length fs → points_of (vertices_from xs fs) ≡ xs
unfolding vertices_from
points_back [] fs e = refl
points_back (x ∷ xs) [] e = absurd (omega (arith, e))
points_back (x ∷ xs) (f ∷ fs) e = ap (λ (l : List (List Float)). x ∷ l) (points_back xs fs (omega (arith, e)))

values_back : (xs : List (List Float)) (fs : List Float) → length xs ≡ length fs → values_of (vertices_from xs fs) ≡ fs
unfolding vertices_from
values_back [] [] e = refl
values_back [] (f ∷ fs) e = absurd (omega (arith, e))
values_back (x ∷ xs) [] e = absurd (omega (arith, e))
values_back (x ∷ xs) (f ∷ fs) e = ap (λ (l : List Float). f ∷ l) (values_back xs fs (omega (arith, e)))

-- the three lists of pairs, each from the pairs that they are
record Threefold (ss ys : List (List Float)) (rs : List Float) : Type 0 where
  steps : steps_of (pairs_from ss ys rs) ≡ ss
  changes : changes_of (pairs_from ss ys rs) ≡ ys
  factors : factors_of (pairs_from ss ys rs) ≡ rs

threefold : (ss ys : List (List Float)) (rs : List Float) → length ss ≡ length ys → length ys ≡ length rs → Threefold ss ys rs
unfolding pairs_from
threefold [] [] [] d e = record { steps = refl; changes = refl; factors = refl }
threefold [] [] (r ∷ rs) d e = absurd (omega (arith, e))
threefold [] (y ∷ ys) rs d e = absurd (omega (arith, d))
threefold (s ∷ ss) [] rs d e = absurd (omega (arith, d))
threefold (s ∷ ss) (y ∷ ys) [] d e = absurd (omega (arith, e))
threefold (s ∷ ss) (y ∷ ys) (r ∷ rs) d e =
    let t = threefold ss ys rs (omega (arith, d)) (omega (arith, e)) in
    record { steps = ap (λ (l : List (List Float)). s ∷ l) t.steps; changes = ap (λ (l : List (List Float)). y ∷ l) t.changes; factors = ap (λ (l : List Float). r ∷ l) t.factors }

-- ---- a record's one form is read back

pub record_back : (r : Record) → record_of (lists_of r) ≡ r
unfolding record_of lists_of marks_of numbers_of
record_back r =
    let s = r.descent.search in
    rw (flag_read r.options.adaptive, flag_read r.gradient.gradients, flag_read r.diff.forward, flag_read r.descent.first, flag_read s.zooming, flag_read s.previous, flag_read s.kept, flag_read s.diff.forward, flag_read r.descent.diff.forward, flag_read r.model.limited, flag_read r.model.dense.fresh, vertices_back r.simplex.v, pairs_back r.model.pairs.pairs)

-- ---- lists in form are the one form of their record

marks_back : (l : Lists) → length l.marks ≡ place.mark_count → formed_of l ≡ true → marks_of (record_of l) ≡ l.marks
unfolding marks_of record_of
marks_back l h e =
    let f = flag_lies l e in
    rw (f place.adaptive (omega arith), f place.gradients (omega arith), f place.forward (omega arith), f place.first (omega arith), f place.zooming (omega arith), f place.previous (omega arith), f place.kept (omega arith), f place.search_forward (omega arith), f place.first_forward (omega arith), f place.limited (omega arith), f place.fresh (omega arith)) (read_places 0 l.marks place.mark_count h)

numbers_back : (l : Lists) → length l.numbers ≡ place.number_count → numbers_of (record_of l) ≡ l.numbers
unfolding numbers_of record_of
numbers_back l h = read_places nan l.numbers place.number_count h

-- the lists that are read place by place, and the others as they are
abbrev with_read : Lists → List ℕ → List Float → List (List Float) → List Float → List (List Float) → List (List Float) → List Float → Lists
with_read l ms ws xs fs ss ys rs =
    record {
      marks = ms;
      numbers = ws;
      diff_x = l.diff_x;
      diff_g = l.diff_g;
      simplex_x = l.simplex_x;
      best_x = l.best_x;
      centroid = l.centroid;
      reflected_x = l.reflected_x;
      points = xs;
      values = fs;
      line_x = l.line_x;
      line_g = l.line_g;
      line_d = l.line_d;
      trial_x = l.trial_x;
      trial_g = l.trial_g;
      search_diff_x = l.search_diff_x;
      search_diff_g = l.search_diff_g;
      first_diff_x = l.first_diff_x;
      first_diff_g = l.first_diff_g;
      hessian = l.hessian;
      steps = ss;
      changes = ys;
      factors = rs;
    }

reads : (l : Lists) → (v : List Vertex) → v ≡ vertices_from l.points l.values → (p : List Pair) → p ≡ pairs_from l.steps l.changes l.factors
    → lists_of (record_of l) ≡ with_read l (marks_of (record_of l)) (numbers_of (record_of l)) (points_of v) (values_of v) (steps_of p) (changes_of p) (factors_of p)
unfolding lists_of record_of
reads l v e p f = rw (e, f)

pub lists_back : (l : Lists) → Long l → formed_of l ≡ true → lists_of (record_of l) ≡ l
lists_back l h e =
    let t = threefold l.steps l.changes l.factors (h.steps ∙ sym h.changes) (h.changes ∙ sym h.factors) in
    let even = h.points ∙ sym h.values in
    reads l (vertices_from l.points l.values) refl (pairs_from l.steps l.changes l.factors) refl
    ∙ rw (marks_back l h.marks e, numbers_back l h.numbers, points_back l.points l.values even, values_back l.points l.values even, t.steps, t.changes, t.factors)

same_lists : (l k : Lists) → Long l → Long k → formed_of l ≡ true → formed_of k ≡ true → record_of l ≡ record_of k → l ≡ k
same_lists l k a b e f h = sym (lists_back l a e) ∙ ap lists_of h ∙ lists_back k b f

-- the flags of a record's one form are known marks
pub formed : (r : Record) → formed_of (lists_of r) ≡ true
unfolding formed_of lists_of marks_of
formed r =
    let s = r.descent.search in
    rw (flag_known r.options.adaptive, flag_known r.gradient.gradients, flag_known r.diff.forward, flag_known r.descent.first, flag_known s.zooming, flag_known s.previous, flag_known s.kept, flag_known s.diff.forward, flag_known r.descent.diff.forward, flag_known r.model.limited, flag_known r.model.dense.fresh)

pub lists_laws : ListsLaws
lists_laws = record { record_back = record_back; formed = formed; lists_back = lists_back; same_lists = same_lists }
