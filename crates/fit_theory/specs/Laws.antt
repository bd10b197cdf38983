-- What the program prints, part by part and step by step, is what 01 says of its lines. Statements only.
use Rattle.std.specs.Prelude.{ℕ, ◌≤◌, ◌≡◌, List, [], ◌++◌, IfSome}
use Rattle.protocol.specs.Protocol.{simplex_mark, lbfgs_mark}
use Rattle.lines_reader.specs.declared.Form.TheVariants.{Stopped, Line1}
use Rattle.lines_reader.specs.declared.Reader.{Reader}
use Rattle.lines_reader.specs.Forms.{line_of}
use Rattle.lines_forms.specs.Lines.{first_line_of}
use Rattle.fit_dialogue.specs.declared.Place.{Place}
use Rattle.fit_state.specs.declared.State.{State}
use Rattle.fit_state.specs.States.{scanned_of}
use Rattle.fit_dialogue.specs.Program.{output_of, by_bytes, first_place, passed_of, scanned_then}

-- what is printed for bytes from a place on, to the end of the input
abbrev pub from : Place → List ℕ → List ℕ
from p bs = by_bytes p.state p.reader bs

-- the mark of simplex, bfgs or lbfgs
abbrev pub FitMark : ℕ → Type 0
FitMark job = (simplex_mark ≤ job) × (job ≤ lbfgs_mark)

-- of every input, and of every part of it at every place
pub record ProgramLaws : Type 0 where
  pub whole : (bs : List ℕ) → from first_place bs ≡ output_of bs
  -- a part, and then the rest
  pub part_goes : (p : Place) (bs cs : List ℕ) → from p (bs ++ cs) ≡ (passed_of p bs).0 ++ from (passed_of p bs).1 cs
  -- a step, and then the rest of the part
  pub step_goes : (p : Place) (i : ℕ) (bs : List ℕ) → passed_of p bs ≡ scanned_then p i bs (scanned_of i bs p.reader)
  -- "It stops after `bad`, a refused start": nothing more is printed
  pub silent : (s : State) (r : Reader) (bs : List ℕ) → s.due ≡ Stopped → by_bytes s r bs ≡ []
  -- line 1 has one of three jobs: what is neither simplex nor bfgs is lbfgs
  pub jobs : (bs : List ℕ) → IfSome (first_line_of (line_of Line1 bs)) (λ f. FitMark f.job)
