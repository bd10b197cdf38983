-- Lines of a part, and parts of an input, one after the other. Assumes nothing.
use Rattle.std.proofs.Common.{◌≡◌, ℕ, ◌+◌, ◌-◌, ◌<◌, ◌≤◌, List, [], ◌∷◌, ◌++◌, length, drop, refl, sym, ap, ◌∙◌, append_assoc, arith, drop_of_length-le, inl, inr}
use Rattle.std.proofs.lemmas.Bool.{cases_Bool}
use lib.Dec.{eqb}
use lib.Seq.{drop-drop}
use Rattle.lines_reader.specs.Reader.{fed_of, finished_of}
use Rattle.fit_state.specs.States.{scanned_of}
use Rattle.fit_dialogue.specs.declared.Place.{Place}
use Rattle.fit_dialogue.specs.Program.{place_of, after_line, and_then, passed_of, turned_of, step_of}
use Rattle.fit_dialogue.specs.Talk.{decided_of}
use Rattle.fit_dialogue.proofs.Steps.{pass_line, pass_rest, step_goes, step_further}

-- a line of a part, and then the rest
pub line_goes : (p : Place) (s : List ℕ) (i : ℕ) → i < length s →
    let q = step_of p i (drop i s) in passed_of p (drop i s) ≡ and_then (turned_of p (scanned_of i (drop i s) p.reader)).0 (passed_of q.place (drop q.at s))
line_goes p s i h =
    let q = step_of p i (drop i s) in
    let t = turned_of p (scanned_of i (drop i s) p.reader) in
    let back : i + (q.at - i) ≡ q.at = omega (arith, step_further p s i h) in
    step_goes p i (drop i s)
    ∙ ap (λ (l : List ℕ). and_then t.0 (passed_of q.place l)) (drop-drop (q.at - i) i s)
    ∙ ap (λ (k : ℕ). and_then t.0 (passed_of q.place (drop k s))) back

pub then_then : (t u : List ℕ) (q : List ℕ × Place) → and_then (t ++ u) q ≡ and_then t (and_then u q)
then_then t u q = ap (λ (l : List ℕ). let r : List ℕ × Place = (l, q.1) in r) (append_assoc t u q.0)

-- a part, and then the next
pub part_goes : (p : Place) (bs cs : List ℕ) → passed_of p (bs ++ cs) ≡ and_then (passed_of p bs).0 (passed_of (passed_of p bs).1 cs)
unfolding passed_of
part_goes p [] cs = refl
part_goes p (b ∷ bs) cs =
    elim (cases_Bool (eqb b 10)) [
      | inl e ↦
          let t = after_line (decided_of p.state (finished_of p.reader)) in
          pass_line p b (bs ++ cs) e
          ∙ ap (and_then t.0) (part_goes t.1 bs cs)
          ∙ sym (then_then t.0 (passed_of t.1 bs).0 (passed_of (passed_of t.1 bs).1 cs))
          ∙ sym (ap (λ (q : List ℕ × Place). and_then q.0 (passed_of q.1 cs)) (pass_line p b bs e))
      | inr e ↦
          pass_rest p b (bs ++ cs) e
          ∙ part_goes (place_of p.state (fed_of p.reader b)) bs cs
          ∙ sym (ap (λ (q : List ℕ × Place). and_then q.0 (passed_of q.1 cs)) (pass_rest p b bs e))
    ]

-- no byte of the part is left
pub part_ends : (p : Place) (s : List ℕ) (i : ℕ) → length s ≤ i → passed_of p (drop i s) ≡ ([], p)
unfolding passed_of
part_ends p s i h = ap (λ (l : List ℕ). passed_of p l) (drop_of_length-le s h)
