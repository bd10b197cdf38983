-- No function but `From<u64>` makes a form that is no line's: where the forms that a function of the fit program is given are of the six, so is
-- what it hands on. Definitions and statements only.
use Rattle.std.specs.Prelude.{ℕ, ◌≡◌, List, []}
use Rattle.lines_reader.specs.declared.Form.{Form}
use Rattle.lines_reader.specs.declared.Form.TheVariants.{Stopped, Line1, SimplexLine2, GradientLine2, Line3, Answers, Other}
use Rattle.lines_reader.specs.declared.LineRead.{LineRead}
use Rattle.lines_reader.specs.declared.Reader.{Reader}
use Rattle.lines_reader.specs.Reader.{started_of, fed_of, finished_of}
use Rattle.fit_state.specs.declared.State.{State}
use Rattle.fit_state.specs.States.{begun_of, onward_of, bad_of, form_after, scanned_of}
use Rattle.fit_line.specs.Turns.{first_of, second_of, second_gradient_of, third_of, heard_of}
use Rattle.fit_dialogue.specs.declared.Place.{Place}
use Rattle.fit_dialogue.specs.Talk.{decided_of}
use Rattle.fit_dialogue.specs.Program.{first_place, passed_of, step_of}

-- one of the six: no line is due, or one of 01's
abbrev pub KnownForm : Form → Type 0
KnownForm Stopped = Unit {0}
KnownForm Line1 = Unit {0}
KnownForm SimplexLine2 = Unit {0}
KnownForm GradientLine2 = Unit {0}
KnownForm Line3 = Unit {0}
KnownForm Answers = Unit {0}
KnownForm (Other k) = ⊥

-- a place: what is due, and the form by which its line is read
abbrev pub KnownPlace : Place → Type 0
KnownPlace p = KnownForm p.state.due × KnownForm p.reader.line.form

-- after a line, where one of the six was due, one of the six is
abbrev pub KeepsForms : (State → LineRead → List ℕ × State) → Type 0
KeepsForms turn = (s : State) (l : LineRead) → KnownForm s.due → KnownForm (turn s l).1.due

-- of each function that hands a form on, by its name
pub record FormLaws : Type 0 where
  pub started : (form : Form) → (started_of form).line.form ≡ form
  pub fed : (r : Reader) (b : ℕ) → (fed_of r b).line.form ≡ r.line.form
  pub finished : (r : Reader) → (finished_of r).form ≡ r.line.form
  pub scanned : (i : ℕ) (bs : List ℕ) (r : Reader) → (scanned_of i bs r).reader.line.form ≡ r.line.form
  pub begun : KnownForm begun_of.due
  pub onward : (s : State) (form : Form) → (onward_of s form).due ≡ form
  pub form_after : (job : ℕ) → KnownForm (form_after job)
  pub bad : KeepsForms (λ s l. bad_of s)
  pub first : KeepsForms first_of
  pub second : KeepsForms second_of
  pub second_gradient : KeepsForms second_gradient_of
  pub third : KeepsForms third_of
  pub heard : KeepsForms heard_of
  pub decided : KeepsForms decided_of
  pub opened : KnownPlace first_place
  pub stepped : (p : Place) (from : ℕ) (bs : List ℕ) → KnownPlace p → KnownPlace (step_of p from bs).place
  -- and so after every part of the input
  pub passed : (p : Place) (bs : List ℕ) → KnownPlace p → KnownPlace (passed_of p bs).1
  -- the statement refuses a program that lets a seventh be due
  pub strays : KeepsForms (λ s l. ([], onward_of s (Other 6))) → ⊥
