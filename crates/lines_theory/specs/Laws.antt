-- What the reader reads is what the forms say, and what is made of a line is what the line says. Statements only.
use Rattle.std.specs.Prelude.{ℕ, ◌≡◌, not, List, length, min, option_map}
use Rattle.protocol.specs.Protocol.{Answer}
use Rattle.lines_forms.specs.declared.AnswerLine.{AnswerLine}
use Rattle.lines_reader.specs.declared.Form.{Form}
use Rattle.lines_reader.specs.declared.Form.TheVariants.{Line1, SimplexLine2, GradientLine2, Line3, Answers}
use Rattle.lines_reader.specs.Forms.{empty, line_of}
use Rattle.lines_reader.specs.Reader.{started_of, fed_all, finished_of, begun_of}
use Rattle.lines_forms.specs.Lines.{first_line, point_line, answer_line, first_line_of, point_line_of, answer_line_of, seventeen}
use Rattle.lines_options.specs.Options.{simplex_line, gradient_line, simplex_line_of, gradient_line_of}

-- Of every line of every form, whatever its length: READINGS 7, "A line of any length is read".
pub record ReaderLaws : Type 0 where
  pub read_is : (form : Form) (bs : List ℕ) → finished_of (fed_all (started_of form) bs) ≡ line_of form bs
  pub begun_is : (form : Form) (bs : List ℕ) → begun_of (fed_all (started_of form) bs) ≡ not (empty bs)

-- what is kept of an answer, as of line 3: "words past the seventeenth are checked for form and counted, not kept"
abbrev pub kept_answer : Answer → AnswerLine
kept_answer a = record { number = a.number; kind = a.kind; count = min (length a.words) 17; words = seventeen a.words }

-- Of every line: where it has not the form of 01 nothing is made of it, and where it has, what the form's definition says.
pub record LineLaws : Type 0 where
  pub first_is : (bs : List ℕ) → option_map (λ f. (f.job, f.n)) (first_line_of (line_of Line1 bs)) ≡ first_line bs
  pub simplex_is : (bs : List ℕ) → simplex_line_of (line_of SimplexLine2 bs) ≡ simplex_line bs
  pub gradient_is : (bs : List ℕ) → gradient_line_of (line_of GradientLine2 bs) ≡ gradient_line bs
  pub point_is : (n : ℕ) (bs : List ℕ) → point_line_of (line_of Line3 bs) n ≡ option_map seventeen (point_line n bs)
  pub answer_is : (bs : List ℕ) → answer_line_of (line_of Answers bs) ≡ option_map kept_answer (answer_line bs)
