-- What the fit program prints for a whole input: by lines, as 01 has it, and by bytes, as the program goes. Definitions only.
use Rattle.std.specs.Prelude.{ℕ, ◌-◌, ◌≡◌, cond, List, [], ◌∷◌, ◌++◌, eqb, length, drop}
use Rattle.lines_reader.specs.declared.Reader.{Reader}
use Rattle.lines_reader.specs.Forms.{line_of}
use Rattle.lines_reader.specs.Reader.{started_of, fed_of, finished_of, begun_of as line_begun}
use Rattle.lines_buffer.specs.Texts.{filled}
use Rattle.fit_state.specs.declared.Scan.{Scan}
use Rattle.fit_state.specs.declared.State.{State}
use Rattle.fit_state.specs.States.{begun_of, scanned_of}
use Rattle.fit_dialogue.specs.declared.Place.{Place}
use Rattle.fit_dialogue.specs.declared.Step.{Step}
use Rattle.fit_dialogue.specs.Talk.{decided_of}

-- ---- by lines

-- a line that the end of the input ends: none where it has no byte
unfoldable pub last_line : List ℕ → List (List ℕ)
last_line [] = []
last_line (b ∷ bs) = (b ∷ bs) ∷ []

-- the lines of an input, of which p is begun: each ends at a line feed
unfoldable pub lines_from : List ℕ → List ℕ → List (List ℕ)
lines_from p [] = last_line p
lines_from p (b ∷ bs) = cond (eqb b 10) (p ∷ lines_from [] bs) (lines_from (p ++ (b ∷ [])) bs)

-- what is printed for lines, from a state on
unfoldable pub printed : State → List (List ℕ) → List ℕ
printed s [] = []
printed s (l ∷ ls) = let t = decided_of s (line_of s.due l) in t.0 ++ printed t.1 ls

-- what is printed for a whole input
unfoldable pub output_of : List ℕ → List ℕ
unfolding begun_of
output_of bs = printed begun_of (lines_from [] bs)

-- ---- by bytes

-- what is printed for bytes, from a state and a line as far as it has come
unfoldable pub by_bytes : State → Reader → List ℕ → List ℕ
by_bytes s r [] = cond (line_begun r) (decided_of s (finished_of r)).0 []
by_bytes s r (b ∷ bs) =
    cond (eqb b 10)
    (let t = decided_of s (finished_of r) in t.0 ++ by_bytes t.1 (started_of t.1.due) bs)
    (by_bytes s (fed_of r b) bs)

-- ---- by parts: what is printed for a part of the input, and the place after it

abbrev pub place_of : State → Reader → Place
place_of s r = record { state = s; reader = r }

-- before the first byte
unfoldable pub first_place : Place
unfolding begun_of
first_place = place_of begun_of (started_of begun_of.due)

-- after a line: the next one is due
abbrev pub after_line : List ℕ × State → List ℕ × Place
after_line t = (t.0, place_of t.1 (started_of t.1.due))

-- a text, and then what is printed from there on
abbrev pub and_then : List ℕ → List ℕ × Place → List ℕ × Place
and_then o q = (o ++ q.0, q.1)

unfoldable pub passed_of : Place → List ℕ → List ℕ × Place
passed_of p [] = ([], p)
passed_of p (b ∷ bs) =
    cond (eqb b 10)
    (let t = after_line (decided_of p.state (finished_of p.reader)) in and_then t.0 (passed_of t.1 bs))
    (passed_of (place_of p.state (fed_of p.reader b)) bs)

-- what a scan brings: where its line goes on past the bytes, nothing is printed
unfoldable pub turned_of : Place → Scan → List ℕ × Place
turned_of p q = cond q.ended (after_line (decided_of p.state (finished_of q.reader))) ([], place_of p.state q.reader)

-- what is printed after a scan that began at i: what it brings, and then the rest
abbrev pub scanned_then : Place → ℕ → List ℕ → Scan → List ℕ × Place
scanned_then p i bs q = let t = turned_of p q in and_then t.0 (passed_of t.1 (drop (q.at - i) bs))

-- a step over one line of the bytes from a place on
abbrev pub step_of : Place → ℕ → List ℕ → Step
step_of p from bs =
    let q = scanned_of from bs p.reader in
    let t = turned_of p q in
    record { at = q.at; count = length t.0; place = t.1 }

-- the code's step: the text stands at the start of the buffer, whose other bytes are as they were
abbrev pub Stepped : Place → ℕ → List ℕ → List ℕ → List ℕ → Step → Type 0
Stepped p from bs before after r = (r ≡ step_of p from bs) × (after ≡ filled before (turned_of p (scanned_of from bs p.reader)).0)
