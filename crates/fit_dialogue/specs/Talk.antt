-- What the fit program makes of one line: what is printed, and the next state. Definitions only.
use Rattle.std.specs.Prelude.{ℕ, List, []}
use Rattle.lines_reader.specs.declared.Form.{Form}
use Rattle.lines_reader.specs.declared.Form.TheVariants.{Stopped, Line1, SimplexLine2, GradientLine2, Line3, Answers, Other}
use Rattle.lines_reader.specs.declared.LineRead.{LineRead}
use Rattle.fit_state.specs.declared.State.{State}
use Rattle.fit_line.specs.Turns.{first_of, second_of, second_gradient_of, third_of, heard_of}

-- a line, as it has been read, where one of this form is due; once the program has stopped, or where the number is no form's, nothing is printed
abbrev pub brought_of : Form → State → LineRead → List ℕ × State
brought_of Stopped s l = ([], s)
brought_of (Other k) s l = ([], s)
brought_of Line1 s l = first_of s l
brought_of SimplexLine2 s l = second_of s l
brought_of GradientLine2 s l = second_gradient_of s l
brought_of Line3 s l = third_of s l
brought_of Answers s l = heard_of s l

-- and in any state
unfoldable pub decided_of : State → LineRead → List ℕ × State
decided_of s l = brought_of s.due s l
