-- Steps over the lines of a part go further each time, and come to where the part comes to. Assumes nothing.
use Prim.Native.Nat.{ℕ, suc, ◌+◌, ◌-◌, ◌≤◌, ◌<◌}
use mathlib.Core.Path.{◌≡◌, sym, ap, ◌∙◌}
use mathlib.Core.Bool.{true, false}
use mathlib.Core.List.{List, [], ◌∷◌}
use native.Mathlib.Omega.{arith}
use lib.Dec.{eqb}
use lib.ListN.{length, drop, get_or, drop_of_length-le}
use lib.Seq.{drop-cons, drop-drop}
use Rattle.float.proofs.Tests.{by}
use Rattle.lines_reader.specs.declared.Reader.{Reader}
use Rattle.lines_reader.specs.Reader.{fed_of, finished_of}
use Rattle.fit_state.specs.States.{scanned_of}
use Rattle.fit_dialogue.specs.declared.Place.{Place}
use Rattle.fit_dialogue.specs.Talk.{decided_of}
use Rattle.fit_dialogue.specs.Program.{place_of, after_line, and_then, passed_of, turned_of, scanned_then, step_of}

pub pass_line : (p : Place) (b : ℕ) (bs : List ℕ) → eqb b 10 ≡ true →
    passed_of p (b ∷ bs) ≡ (let t = after_line (decided_of p.state (finished_of p.reader)) in and_then t.0 (passed_of t.1 bs))
unfolding passed_of
pass_line p b bs e = rw e

pub pass_rest : (p : Place) (b : ℕ) (bs : List ℕ) → eqb b 10 ≡ false → passed_of p (b ∷ bs) ≡ passed_of (place_of p.state (fed_of p.reader b)) bs
unfolding passed_of
pass_rest p b bs e = rw e

scan_at : (i : ℕ) (bs : List ℕ) (r : Reader) → i ≤ (scanned_of i bs r).at
unfolding scanned_of
scan_at i [] r = omega arith
scan_at i (b ∷ bs) r =
    by (eqb b 10)
    (λ p. rw p (omega arith))
    (λ p. rw p (omega (arith, scan_at (i + 1) bs (fed_of r b))))

pub step_goes : (p : Place) (i : ℕ) (bs : List ℕ) → passed_of p bs ≡ scanned_then p i bs (scanned_of i bs p.reader)
unfolding scanned_of turned_of passed_of
step_goes p i [] = let none : i - i ≡ 0 = omega arith in rw none
step_goes p i (b ∷ bs) =
    by (eqb b 10)
    (λ e. let one : i + 1 - i ≡ 1 = omega arith in pass_line p b bs e ∙ rw (e, one))
    (λ e.
    let r = fed_of p.reader b in
    let q = scanned_of (i + 1) bs r in
    let next : q.at - i ≡ suc (q.at - (i + 1)) = omega (arith, scan_at (i + 1) bs r) in
    pass_rest p b bs e ∙ step_goes (place_of p.state r) (i + 1) bs ∙ rw (e, next))

scan_further : (i b : ℕ) (bs : List ℕ) (r : Reader) → i < (scanned_of i (b ∷ bs) r).at
unfolding scanned_of
scan_further i b bs r = by (eqb b 10) (λ p. rw p (omega arith)) (λ p. rw p (omega (arith, scan_at (i + 1) bs (fed_of r b))))

pub step_further : (p : Place) (s : List ℕ) (i : ℕ) → i < length s → i < (step_of p i (drop i s)).at
step_further p s i h = rw (drop-cons s i 0 h) (scan_further i (get_or s i 0) (drop (suc i) s) p.reader)

pub step_rest : (p : Place) (s : List ℕ) (i : ℕ) → let q = step_of p i (drop i s) in (passed_of q.place (drop q.at s)).1 ≡ (passed_of p (drop i s)).1
step_rest p s i =
    let q = step_of p i (drop i s) in
    let back : i + (q.at - i) ≡ q.at = omega (arith, scan_at i (drop i s) p.reader) in
    sym
    (ap (λ (t : List ℕ × Place). t.1) (step_goes p i (drop i s))
    ∙ ap (λ (l : List ℕ). (passed_of q.place l).1) (drop-drop (q.at - i) i s)
    ∙ ap (λ (k : ℕ). (passed_of q.place (drop k s)).1) back)

pub part_done : (p : Place) (s : List ℕ) (i : ℕ) → length s ≤ i → p ≡ (passed_of p (drop i s)).1
unfolding passed_of
part_done p s i h = sym (ap (λ (l : List ℕ). (passed_of p l).1) (drop_of_length-le s h))
