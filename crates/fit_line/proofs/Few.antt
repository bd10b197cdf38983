-- Each reply of the engine but a refusal speaks of sixteen coordinates at most. Assumes nothing.
use Prim.Native.Nat.{ℕ, ◌+◌, ◌≤◌}
use mathlib.Core.Path.{◌≡◌, sym, subst}
use mathlib.Core.Bool.{Bool, true, false, cond}
use mathlib.Core.List.{List}
use lib.Dec.{eqb}
use lib.ListN.{length, get_or}
use lib.Ieee.{Float, nan}
use borrow.Author.Tests.{eqb-true}
use Rattle.float.proofs.Tests.{by}
use Rattle.vector.specs.Points.{from_slice_of, all_finite_of}
use Rattle.protocol.specs.declared.Allowances.{Allowances}
use Rattle.protocol.specs.declared.GradientOptions.{GradientOptions}
use Rattle.protocol.specs.declared.SimplexOptions.{SimplexOptions}
use Rattle.protocol.specs.Protocol.{Reply, ask, ended, refused, simplex_mark, bfgs_mark, search_mark}
use Rattle.optim_record.specs.declared.Record.{Record}
use Rattle.optim_record.specs.Record.{gradient_job_of, valid_of}
use Rattle.optim_reply.specs.Standing.{standing_of, over_of, gradient_due_of}
use Rattle.optim_reply.proofs.Says.{stands_keeps}
use Rattle.optim_first_record.specs.Starts.{simplex_refusal_of, simplex_record_of, gradient_refusal_of, gradient_record_of}
use Rattle.optim_first_record.proofs.Limits.{simplex_limits, gradient_limits}
use Rattle.optim_rules.specs.Rules.{repeats_of, suits_of}
use Rattle.optim.specs.Answer.{stepped_of, graded_of, taken_of, taken_gradient_of, heard_of, answer_of}
use Rattle.optim_start.specs.Start.{simplex_of, gradient_of, bfgs_of, lbfgs_of}
use Rattle.optim_rules.proofs.Ranges.{ranges}
use Rattle.fit_state.specs.declared.State.{State}
use Rattle.fit_state.specs.States.{start_of}
use Rattle.fit_line.specs.Turns.{Few}

-- of a reply with its record
abbrev FewIn : Reply × Record → Type 0
FewIn o = Few o.0 o.1.n

few_of : (p : Reply) (n : ℕ) → n ≤ 16 → Few p n
few_of (ask q) n h = h
few_of (ended o) n h = h
few_of (refused k d) n h = tt

standing_few : (r : Record) → r.n ≤ 16 → FewIn (standing_of r)
standing_few r h = few_of (standing_of r).0 (standing_of r).1.n (subst (λ (q : Record). q.n ≤ 16) (sym (stands_keeps r)) h)

-- ---- answers

stepped_n : (r : Record) (v : Float) → (stepped_of r v).n ≡ r.n
unfolding stepped_of
stepped_n r v =
    by (eqb r.job simplex_mark)
    (λ p. rw p)
    (λ p. rw p (by (eqb r.job search_mark) (λ q. rw q) (λ q. rw q (by (gradient_job_of r.job) (λ t. rw t) (λ t. rw t)))))

graded_n : (r : Record) (g : List Float) → (graded_of r g).n ≡ r.n
unfolding graded_of
graded_n r g = by (eqb r.job search_mark) (λ p. rw p) (λ p. rw p)

taken_few : (r : Record) (v : Float) → r.n ≤ 16 → FewIn (taken_of r v)
unfolding taken_of
taken_few r v h = standing_few (stepped_of r v) (subst (λ (n : ℕ). n ≤ 16) (sym (stepped_n r v)) h)

taken_gradient_few : (r : Record) (g : List Float) → r.n ≤ 16 → FewIn (taken_gradient_of r g)
unfolding taken_gradient_of
taken_gradient_few r g h = standing_few (graded_of r g) (subst (λ (n : ℕ). n ≤ 16) (sym (graded_n r g)) h)

heard_few : (r : Record) (number kind : ℕ) (words : List Float) → r.n ≤ 16 → FewIn (heard_of r number kind words)
unfolding heard_of
heard_few r number kind words h =
    by (repeats_of r.accepted number)
    (λ p. rw p (standing_few r h))
    (λ p. rw p (
    by (over_of r)
    (λ q. rw q tt)
    (λ q. rw q (
    by (eqb number (r.accepted + 1))
    (λ t. rw t (by (suits_of r kind (length words)) (λ u. rw u suited) (λ u. rw u tt)))
    (λ t. rw t tt)))))
  where
    suited : FewIn (cond (gradient_due_of r) (taken_gradient_of r (from_slice_of words r.n)) (taken_of r (get_or words 0 nan)))
    suited =
        by (gradient_due_of r)
        (λ p. rw p (taken_gradient_few r (from_slice_of words r.n) h))
        (λ p. rw p (taken_few r (get_or words 0 nan) h))

pub answer_few : (r : Record) (number kind : ℕ) (words : List Float) → Few (answer_of r number kind words).0 (answer_of r number kind words).1.n
unfolding answer_of
answer_few r number kind words = by (valid_of r) (λ p. rw p (heard_few r number kind words (ranges r p).few)) (λ p. rw p tt)

-- ---- starts

simplex_few : (x : List Float) (o : SimplexOptions) (a : Allowances) → FewIn (simplex_of x o a)
unfolding simplex_of simplex_record_of
simplex_few x o a =
    by (eqb (simplex_refusal_of (length x) o a).number 0)
    (λ p. rw p (
    by (all_finite_of (from_slice_of x (length x)) (length x))
    (λ q. rw q (standing_few (simplex_record_of (from_slice_of x (length x)) (length x) o a) (simplex_limits (length x) o a (eqb-true _ _ p)).0))
    (λ q. rw q tt)))
    (λ p. rw p tt)

gradient_few : (x : List Float) (o : GradientOptions) (a : Allowances) (limited : Bool) → FewIn (gradient_of x o a limited)
unfolding gradient_of gradient_record_of
gradient_few x o a limited =
    by (eqb (gradient_refusal_of (length x) o a limited).number 0)
    (λ p. rw p (
    by (all_finite_of (from_slice_of x (length x)) (length x))
    (λ q. rw q (standing_few (gradient_record_of (from_slice_of x (length x)) (length x) o a limited) (gradient_limits (length x) o a limited (eqb-true _ _ p))))
    (λ q. rw q tt)))
    (λ p. rw p tt)

pub start_few : (s : State) (x : List Float) → Few (start_of s x).0 (start_of s x).1.n
unfolding start_of bfgs_of lbfgs_of
start_few s x =
    by (eqb s.job simplex_mark)
    (λ p. rw p (simplex_few x s.options s.allowances))
    (λ p. rw p (
    by (eqb s.job bfgs_mark)
    (λ q. rw q (gradient_few x s.gradient s.allowances false))
    (λ q. rw q (gradient_few x s.gradient s.allowances true))))
