-- The state of the fit program between two lines, and what several lines share. Definitions only.
use Rattle.std.specs.Prelude.{ℕ, ◌+◌, ◌≡◌, true, false, cond, List, [], ◌∷◌, length, min, eqb, ltb, None, Float}
use Rattle.protocol.specs.Protocol.{Reply, simplex_mark, bfgs_mark}
use Rattle.optim_record.specs.declared.Record.{Record}
use Rattle.optim_record.specs.Record.{blank_of, no_options, wolfe_options_of, no_gradient_options}
use Rattle.optim_start.specs.Start.{simplex_of, bfgs_of, lbfgs_of}
use Rattle.lines_field.specs.Shapes.{most}
use Rattle.lines_reader.specs.declared.Form.{Form}
use Rattle.lines_reader.specs.declared.Form.TheVariants.{Stopped, Line1, SimplexLine2, GradientLine2}
use Rattle.lines_reader.specs.declared.Reader.{Reader}
use Rattle.lines_reader.specs.Reader.{fed_of}
use Rattle.lines_buffer.specs.Texts.{filled}
use Rattle.lines_print.specs.Print.{bad_text}
use Rattle.fit_state.specs.declared.Scan.{Scan}
use Rattle.fit_state.specs.declared.State.{State}
use Rattle.fit_state.specs.declared.Turn.{Turn}

-- ---- states

-- before line 1
unfoldable pub begun_of : State
unfolding blank_of wolfe_options_of
begun_of =
    record {
      due = Line1;
      number = 1;
      job = 0;
      n = 0;
      options = no_options;
      gradient = no_gradient_options;
      allowances = record { iter = None; fevals = None };
      engine = blank_of;
    }

-- the number of the next line; an input of 2^64 lines is not to be had, and the number stays there
abbrev pub following_of : ℕ → ℕ
following_of number = cond (ltb number most) (number + 1) number

-- after a line that is not bad: a line of another form is due, the next in number
abbrev pub onward_of : State → Form → State
onward_of s due = record { due = due; number = following_of s.number; job = s.job; n = s.n; options = s.options; gradient = s.gradient; allowances = s.allowances; engine = s.engine }

-- ---- a turn: what is printed, and the next state

-- the code's turn: the text stands at the start of the buffer, whose other bytes are as they were
abbrev pub Turned : List ℕ × State → List ℕ → List ℕ → Turn → Type 0
Turned t before after r = (r ≡ record { count = length t.0; state = t.1 }) × (after ≡ filled before t.0)

-- "`bad` and the line number for a line of another form. It stops after `bad`"
unfoldable pub bad_of : State → List ℕ × State
bad_of s = (bad_text s.number, record { due = Stopped; number = s.number; job = s.job; n = s.n; options = s.options; gradient = s.gradient; allowances = s.allowances; engine = s.engine })

-- the form of line 2, by the job that line 1 said
unfoldable pub form_after : ℕ → Form
form_after job = cond (eqb job simplex_mark) SimplexLine2 GradientLine2

-- ---- a start

-- the engine's reply to the start of the job at x
unfoldable pub start_of : State → List Float → Reply × Record
start_of s x =
    cond (eqb s.job simplex_mark) (simplex_of x s.options s.allowances)
    (cond (eqb s.job bfgs_mark) (bfgs_of x s.gradient s.allowances)
    (lbfgs_of x s.gradient s.allowances))

-- seventeen words of a longer point: a list of more than sixteen is refused with 2, whatever it holds
abbrev pub kept_of : ℕ → ℕ
kept_of n = min n 17

-- ---- a scan

-- bytes of which the first stands at i, fed to a line up to the first line feed, or to their end
unfoldable pub scanned_of : ℕ → List ℕ → Reader → Scan
scanned_of i [] r = record { at = i; ended = false; reader = r }
scanned_of i (b ∷ bs) r = cond (eqb b 10) (record { at = i + 1; ended = true; reader = r }) (scanned_of (i + 1) bs (fed_of r b))
