-- What each line of the fit program brings: what is printed, and the next state. Definitions only.
use Rattle.std.specs.Prelude.{ℕ, ◌≤◌, List, [], take, Float}
use Rattle.std.specs.Option.{option_map_or}
use Rattle.protocol.specs.Protocol.{fitted, searched, differenced, Reply, ask, ended, refused}
use Rattle.optim.specs.Answer.{answer_of}
use Rattle.lines_reader.specs.declared.Form.{Form}
use Rattle.lines_reader.specs.declared.Form.TheVariants.{Stopped, Line3, Answers}
use Rattle.lines_reader.specs.declared.LineRead.{LineRead}
use Rattle.lines_forms.specs.Lines.{first_line_of, point_line_of, answer_line_of}
use Rattle.lines_options.specs.Options.{simplex_line_of, gradient_line_of}
use Rattle.lines_print.specs.Print.{ask_text, end_text, no_text}
use Rattle.fit_state.specs.declared.State.{State}
use Rattle.fit_state.specs.States.{following_of, bad_of, form_after, start_of, kept_of}

-- ---- replies

-- "It prints questions, `no` number detail for a refusal (one that ends a fit too)", and `end` for a result. The bare jobs, which no line starts, have no line.
unfoldable pub reply_text : Reply → List ℕ
reply_text (ask q) = ask_text q
reply_text (ended (fitted r)) = end_text r
reply_text (ended (searched r)) = []
reply_text (ended (differenced g)) = []
reply_text (refused number detail) = no_text number detail

-- a reply but for a refusal speaks of sixteen coordinates at most
abbrev pub Few : Reply → ℕ → Type 0
Few (ask q) n = n ≤ 16
Few (ended o) n = n ≤ 16
Few (refused number detail) n = Unit {0}

-- ---- lines: what was read, or bad

-- Line 1
unfoldable pub first_of : State → LineRead → List ℕ × State
first_of s l =
    option_map_or
    (λ f. ([], record { due = form_after f.job; number = following_of s.number; job = f.job; n = f.n; options = s.options; gradient = s.gradient; allowances = s.allowances; engine = s.engine }))
    (first_line_of l)
    (bad_of s)

-- Line 2 of simplex
unfoldable pub second_of : State → LineRead → List ℕ × State
second_of s l =
    option_map_or
    (λ f. ([], record { due = Line3; number = following_of s.number; job = s.job; n = s.n; options = f.0; gradient = s.gradient; allowances = f.1; engine = s.engine }))
    (simplex_line_of l)
    (bad_of s)

-- Line 2 of bfgs and lbfgs
unfoldable pub second_gradient_of : State → LineRead → List ℕ × State
second_gradient_of s l =
    option_map_or
    (λ f. ([], record { due = Line3; number = following_of s.number; job = s.job; n = s.n; options = s.options; gradient = f.0; allowances = f.1; engine = s.engine }))
    (gradient_line_of l)
    (bad_of s)

-- "It stops after .. a refused start"
unfoldable pub due_after : Reply → Form
due_after (ask q) = Answers
due_after (ended o) = Answers
due_after (refused number detail) = Stopped

-- a start at x
unfoldable pub started_of : State → List Float → List ℕ × State
started_of s x =
    let o = start_of s x in
    (reply_text o.0, record { due = due_after o.0; number = following_of s.number; job = s.job; n = s.n; options = s.options; gradient = s.gradient; allowances = s.allowances; engine = o.1 })

-- Line 3
unfoldable pub third_of : State → LineRead → List ℕ × State
third_of s l = option_map_or (λ x. started_of s (take (kept_of s.n) x)) (point_line_of l s.n) (bad_of s)

-- "after a refused answer or an ended fit it reads on, printing each reply"
unfoldable pub told_of : State → ℕ → ℕ → List Float → List ℕ × State
told_of s number kind words =
    let o = answer_of s.engine number kind words in
    (reply_text o.0, record { due = s.due; number = following_of s.number; job = s.job; n = s.n; options = s.options; gradient = s.gradient; allowances = s.allowances; engine = o.1 })

-- an answer
unfoldable pub heard_of : State → LineRead → List ℕ × State
heard_of s l = option_map_or (λ f. told_of s f.number f.kind (take f.count f.words)) (answer_line_of l) (bad_of s)
