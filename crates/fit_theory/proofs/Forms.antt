-- What is due after a line is one of the six forms, by the line that it was. Assumes nothing.
use Prim.Native.Nat.{ℕ, ◌+◌}
use mathlib.Core.Path.{◌≡◌, refl, ◌∙◌, sym, subst}
use mathlib.Core.Bool.{Bool, true, false, cond}
use mathlib.Core.List.{List, [], ◌∷◌}
use lib.Dec.{eqb}
use Rattle.std.specs.Prelude.{Option, None, Some, take}
use Rattle.std.specs.Option.{option_map_or}
use Rattle.float.proofs.Tests.{by}
use Rattle.protocol.specs.Protocol.{Reply, ask, ended, refused, simplex_mark}
use Rattle.lines_reader.specs.declared.Form.{Form}
use Rattle.lines_reader.specs.declared.Form.TheVariants.{Stopped, Line1, SimplexLine2, GradientLine2, Line3, Answers, Other}
use Rattle.lines_reader.specs.declared.LineRead.{LineRead}
use Rattle.lines_reader.specs.declared.Reader.{Reader}
use Rattle.lines_reader.specs.Reader.{started_of, fed_of, finished_of, taken_of}
use Rattle.lines_forms.specs.Lines.{first_line_of, point_line_of, answer_line_of}
use Rattle.lines_options.specs.Options.{simplex_line_of, gradient_line_of}
use Rattle.fit_state.specs.declared.State.{State}
use Rattle.fit_state.specs.States.{begun_of, bad_of, form_after, start_of, kept_of, scanned_of}
use Rattle.fit_line.specs.Turns.{first_of, second_of, second_gradient_of, due_after, third_of, heard_of}
use Rattle.fit_line.specs.Turns as turn
use Rattle.fit_dialogue.specs.declared.Place.{Place}
use Rattle.fit_dialogue.specs.Talk.{brought_of, decided_of}
use Rattle.fit_dialogue.specs.Program.{place_of, after_line, first_place, passed_of, step_of, turned_of}
use Rattle.fit_theory.specs.Forms.{KnownForm, KnownPlace, KeepsForms, FormLaws}

-- ---- the reader

taken_keeps : (l : LineRead) (r : Reader) → (taken_of l r.field).form ≡ l.form
unfolding taken_of
taken_keeps l r = refl

fed_keeps : (r : Reader) (b : ℕ) → (fed_of r b).line.form ≡ r.line.form
unfolding fed_of taken_of
fed_keeps r b = by (eqb b 32) (λ p. rw p refl) (λ p. rw p refl)

scan_keeps : (i : ℕ) (bs : List ℕ) (r : Reader) → (scanned_of i bs r).reader.line.form ≡ r.line.form
unfolding scanned_of
scan_keeps i [] r = refl
scan_keeps i (b ∷ bs) r = by (eqb b 10) (λ p. rw p refl) (λ p. rw p (scan_keeps (i + 1) bs (fed_of r b) ∙ fed_keeps r b))

-- ---- lines

line2_known : (b : Bool) → KnownForm (cond b SimplexLine2 GradientLine2)
line2_known true = tt
line2_known false = tt

form_after_known : (job : ℕ) → KnownForm (form_after job)
unfolding form_after
form_after_known job = line2_known (eqb job simplex_mark)

bad_known : (s : State) → KnownForm (bad_of s).1.due
unfolding bad_of
bad_known s = tt

reply_known : (r : Reply) → KnownForm (due_after r)
unfolding due_after
reply_known (ask q) = tt
reply_known (ended o) = tt
reply_known (refused number detail) = tt

-- a line that was read, or bad
read_known : {A : Type 0} → (f : A → List ℕ × State) (o : Option A) (d : List ℕ × State) → ((a : A) → KnownForm (f a).1.due) → KnownForm d.1.due
    → KnownForm (option_map_or f o d).1.due
read_known f None d h k = k
read_known f (Some a) d h k = h a

first_known : (s : State) (l : LineRead) → KnownForm (first_of s l).1.due
unfolding first_of
first_known s l = read_known _ (first_line_of l) _ (λ f. form_after_known f.job) (bad_known s)

second_known : (s : State) (l : LineRead) → KnownForm (second_of s l).1.due
unfolding second_of
second_known s l = read_known _ (simplex_line_of l) _ (λ f. tt) (bad_known s)

second_gradient_known : (s : State) (l : LineRead) → KnownForm (second_gradient_of s l).1.due
unfolding second_gradient_of
second_gradient_known s l = read_known _ (gradient_line_of l) _ (λ f. tt) (bad_known s)

third_known : (s : State) (l : LineRead) → KnownForm (third_of s l).1.due
unfolding third_of turn.started_of
third_known s l = read_known _ (point_line_of l s.n) _ (λ x. reply_known (start_of s (take (kept_of s.n) x)).0) (bad_known s)

heard_keeps : KeepsForms heard_of
unfolding heard_of turn.told_of
heard_keeps s l h = read_known _ (answer_line_of l) _ (λ f. h) (bad_known s)

brought_keeps : (f : Form) (s : State) (l : LineRead) → KnownForm f → KnownForm s.due → KnownForm (brought_of f s l).1.due
brought_keeps Stopped s l h k = k
brought_keeps Line1 s l h k = first_known s l
brought_keeps SimplexLine2 s l h k = second_known s l
brought_keeps GradientLine2 s l h k = second_gradient_known s l
brought_keeps Line3 s l h k = third_known s l
brought_keeps Answers s l h k = heard_keeps s l k
brought_keeps (Other n) s l h k = absurd h

decided_keeps : KeepsForms decided_of
unfolding decided_of
decided_keeps s l h = brought_keeps s.due s l h h

-- ---- steps

opened_known : KnownPlace first_place
unfolding first_place begun_of
opened_known = (tt, tt)

-- after a line its next is read by the form that is due; within it nothing changes
stepped_keeps : (p : Place) (i : ℕ) (bs : List ℕ) → KnownPlace p → KnownPlace (step_of p i bs).place
unfolding turned_of
stepped_keeps p i bs h =
    let q = scanned_of i bs p.reader in
    by q.ended
    (λ e. let due = decided_keeps p.state (finished_of q.reader) h.0 in rw e (due, due))
    (λ e. rw e (h.0, subst KnownForm (sym (scan_keeps i bs p.reader)) h.1))

passed_keeps : (p : Place) (bs : List ℕ) → KnownPlace p → KnownPlace (passed_of p bs).1
unfolding passed_of
passed_keeps p [] h = h
passed_keeps p (b ∷ bs) h =
    by (eqb b 10)
    (λ e.
    let due = decided_keeps p.state (finished_of p.reader) h.0 in
    rw e (passed_keeps (after_line (decided_of p.state (finished_of p.reader))).1 bs (due, due)))
    (λ e. rw e (passed_keeps (place_of p.state (fed_of p.reader b)) bs (h.0, subst KnownForm (sym (fed_keeps p.reader b)) h.1)))

pub form_laws : FormLaws
unfolding begun_of
form_laws =
    record {
      started = λ form. refl;
      fed = fed_keeps;
      finished = λ r. taken_keeps r.line r;
      scanned = scan_keeps;
      begun = tt;
      onward = λ s form. refl;
      form_after = form_after_known;
      bad = λ s l h. bad_known s;
      first = λ s l h. first_known s l;
      second = λ s l h. second_known s l;
      second_gradient = λ s l h. second_gradient_known s l;
      third = λ s l h. third_known s l;
      heard = heard_keeps;
      decided = decided_keeps;
      opened = opened_known;
      stepped = stepped_keeps;
      passed = passed_keeps;
      strays = λ k. k begun_of (finished_of (started_of Line1)) tt;
    }
