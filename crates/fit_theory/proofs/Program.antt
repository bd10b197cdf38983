-- The program by bytes prints what it prints by lines, and parts and steps go on as the bytes do. Assumes nothing.
use Prim.Native.Nat.{ℕ}
use mathlib.Core.Path.{◌≡◌, refl, sym, ap, ◌∙◌}
use mathlib.Core.Bool.{Bool, true, false, not, cond}
use mathlib.Core.List.{List, [], ◌∷◌, ◌++◌, append-nil, append_assoc}
use lib.Dec.{eqb}
use Rattle.float.proofs.Tests.{by}
use Rattle.lines_reader.specs.declared.Form.TheVariants.{Stopped}
use Rattle.lines_reader.specs.declared.LineRead.{LineRead}
use Rattle.lines_reader.specs.declared.Reader.{Reader}
use Rattle.lines_reader.specs.Forms.{empty, line_of}
use Rattle.lines_reader.specs.Reader.{started_of, fed_of, fed_all, finished_of, begun_of as line_begun}
use Rattle.lines_theory.proofs.Whole.{reader_laws}
use Rattle.fit_dialogue.specs.declared.Place.{Place}
use Rattle.fit_state.specs.declared.State.{State}
use Rattle.fit_state.specs.States.{begun_of}
use Rattle.fit_dialogue.specs.Talk.{decided_of}
use Rattle.fit_dialogue.specs.Program.{last_line, lines_from, printed, output_of, by_bytes, place_of, first_place, after_line, passed_of}
use Rattle.fit_dialogue.proofs.Steps.{pass_line, pass_rest, step_goes}
use Rattle.fit_theory.specs.Laws.{from, ProgramLaws}
use Rattle.fit_theory.proofs.Jobs.{jobs}

fed_snoc : (r : Reader) (bs : List ℕ) (b : ℕ) → fed_all r (bs ++ (b ∷ [])) ≡ fed_of (fed_all r bs) b
unfolding fed_all
fed_snoc r [] b = refl
fed_snoc r (a ∷ bs) b = fed_snoc (fed_of r a) bs b

-- the line that is due in a state, of which p is read
abbrev reading : State → List ℕ → Reader
reading s p = fed_all (started_of s.due) p

last : (s : State) (p : List ℕ) → cond (not (empty p)) (decided_of s (line_of s.due p)).0 [] ≡ printed s (last_line p)
unfolding empty last_line printed
last s [] = refl
last s (b ∷ bs) = sym (append-nil _)

at_end : (s : State) (p : List ℕ) → by_bytes s (reading s p) [] ≡ printed s (last_line p)
unfolding by_bytes
at_end s p =
    ap (λ (c : Bool). cond c (decided_of s (finished_of (reading s p))).0 []) (reader_laws.begun_is s.due p)
    ∙ ap (λ (l : LineRead). cond (not (empty p)) (decided_of s l).0 []) (reader_laws.read_is s.due p)
    ∙ last s p

-- what follows a line
abbrev after : List ℕ → List ℕ × State → List ℕ
after bs t = t.0 ++ by_bytes t.1 (started_of t.1.due) bs

to_line : (s : State) (r : Reader) (b : ℕ) (bs : List ℕ) → eqb b 10 ≡ true → by_bytes s r (b ∷ bs) ≡ after bs (decided_of s (finished_of r))
unfolding by_bytes
to_line s r b bs p = rw p

to_rest : (s : State) (r : Reader) (b : ℕ) (bs : List ℕ) → eqb b 10 ≡ false → by_bytes s r (b ∷ bs) ≡ by_bytes s (fed_of r b) bs
unfolding by_bytes
to_rest s r b bs p = rw p

lines_end : (p : List ℕ) (b : ℕ) (bs : List ℕ) → eqb b 10 ≡ true → lines_from p (b ∷ bs) ≡ p ∷ lines_from [] bs
unfolding lines_from
lines_end p b bs e = rw e

lines_on : (p : List ℕ) (b : ℕ) (bs : List ℕ) → eqb b 10 ≡ false → lines_from p (b ∷ bs) ≡ lines_from (p ++ (b ∷ [])) bs
unfolding lines_from
lines_on p b bs e = rw e

-- from a state on, with p of the line read already
by_lines : (s : State) (p bs : List ℕ) → by_bytes s (reading s p) bs ≡ printed s (lines_from p bs)
unfolding lines_from printed fed_all
by_lines s p [] = at_end s p
by_lines s p (b ∷ bs) =
    by (eqb b 10)
    (λ e.
    let t : List ℕ × State = decided_of s (line_of s.due p) in
    to_line s (reading s p) b bs e
    ∙ ap (λ (l : LineRead). after bs (decided_of s l)) (reader_laws.read_is s.due p)
    ∙ ap (λ (o : List ℕ). t.0 ++ o) (by_lines t.1 [] bs)
    ∙ sym (ap (printed s) (lines_end p b bs e)))
    (λ e.
    to_rest s (reading s p) b bs e
    ∙ ap (λ (r : Reader). by_bytes s r bs) (sym (fed_snoc (started_of s.due) p b))
    ∙ by_lines s (p ++ (b ∷ [])) bs
    ∙ sym (ap (printed s) (lines_on p b bs e)))

whole : (bs : List ℕ) → by_bytes begun_of (started_of begun_of.due) bs ≡ output_of bs
unfolding output_of fed_all
whole bs = by_lines begun_of [] bs

-- ---- a part of the input at a time

part_goes : (p : Place) (bs cs : List ℕ) → from p (bs ++ cs) ≡ (passed_of p bs).0 ++ from (passed_of p bs).1 cs
unfolding passed_of
part_goes p [] cs = refl
part_goes p (b ∷ bs) cs =
    by (eqb b 10)
    (λ e.
    let t = after_line (decided_of p.state (finished_of p.reader)) in
    to_line p.state p.reader b (bs ++ cs) e
    ∙ ap (λ (o : List ℕ). t.0 ++ o) (part_goes t.1 bs cs)
    ∙ sym (append_assoc t.0 (passed_of t.1 bs).0 (from (passed_of t.1 bs).1 cs))
    ∙ sym (ap (λ (q : List ℕ × Place). q.0 ++ from q.1 cs) (pass_line p b bs e)))
    (λ e.
    to_rest p.state p.reader b (bs ++ cs) e
    ∙ part_goes (place_of p.state (fed_of p.reader b)) bs cs
    ∙ sym (ap (λ (q : List ℕ × Place). q.0 ++ from q.1 cs) (pass_rest p b bs e)))

-- ---- after the stop

decided_stopped : (s : State) (l : LineRead) → s.due ≡ Stopped → decided_of s l ≡ ([], s)
unfolding decided_of
decided_stopped s l e = rw e

silent : (s : State) (r : Reader) (bs : List ℕ) → s.due ≡ Stopped → by_bytes s r bs ≡ []
unfolding by_bytes
silent s r [] e = by (line_begun r) (λ p. rw (p, decided_stopped s (finished_of r) e)) (λ p. rw p)
silent s r (b ∷ bs) e =
    by (eqb b 10)
    (λ p. to_line s r b bs p ∙ ap (after bs) (decided_stopped s (finished_of r) e) ∙ silent s (started_of s.due) bs e)
    (λ p. to_rest s r b bs p ∙ silent s (fed_of r b) bs e)

first_whole : (bs : List ℕ) → from first_place bs ≡ output_of bs
unfolding first_place
first_whole bs = whole bs

pub program_laws : ProgramLaws
program_laws = record { whole = first_whole; part_goes = part_goes; step_goes = step_goes; silent = silent; jobs = jobs }
