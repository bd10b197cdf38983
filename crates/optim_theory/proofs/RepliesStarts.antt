-- The first demand, of starts: each meets the refusals that concern it, with their details, and a refused one hands back the blank record (`starts`). Assumes nothing.
use Prim.Native.Nat.{ℕ}
use mathlib.Core.Path.{◌≡◌, refl, subst}
use mathlib.Core.Bool.{Bool, true, false, not, cond}
use mathlib.Core.List.{List}
use lib.Dec.{T, eqb, ltb}
use lib.ListN.{length}
use lib.Ieee.{Float, lt, le}
use Rattle.float.specs.Binary64.{plus_zero}
use Rattle.float.specs.Values.{finite_of, tolerance_of, positive_of}
use Rattle.vector.specs.Points.{from_slice_of, all_finite_of}
use Rattle.protocol.specs.declared.SimplexOptions.{SimplexOptions}
use Rattle.protocol.specs.declared.GradientOptions.{GradientOptions}
use Rattle.protocol.specs.declared.Allowances.{Allowances}
use Rattle.protocol.specs.declared.WolfeOptions.{WolfeOptions}
use Rattle.protocol.specs.declared.Refusal.{Refusal}
use Rattle.protocol.specs.Protocol.{Question, Outcome, Reply, ask, ended, no_refusal}
use Rattle.linesearch_trials.specs.declared.Line.{Line}
use Rattle.linesearch_trials.specs.Trials.{one}
use Rattle.linesearch_trials.specs.Start.{line_from_of, options_refusal_of, counts_refusal_of, line_refusal_of}
use Rattle.linesearch.specs.Step.{asks_gradient, asks_difference}
use Rattle.quasinewton.specs.Step as quasinewton
use Rattle.neldermead.specs.Step.{start_of}
use Rattle.optim_record.specs.declared.Record.{Record}
use Rattle.optim_record.specs.Record.{blank_of, gradient_job_of}
use Rattle.optim_reply.specs.Standing.{refused_of, standing_simplex_of, standing_search_of, standing_descent_of, standing_differences_of, standing_of}
use Rattle.optim_first_record.specs.Starts.{begun_record_of, past_limits_of, simplex_refusal_of, simplex_record_of, search_past_limits_of, search_refusal_of, search_record_of, gradient_past_limits_of, ordered_of, no_memory_of, gradient_refusal_of, gradient_mark_of, gradient_record_of}
use Rattle.optim_start.specs.Start.{differences_of, simplex_of, search_of, gradient_of, bfgs_of, lbfgs_of}
use Rattle.optim_theory.specs.Replies.{refuses_simplex, refuses_bfgs, refuses_lbfgs, refuses_search, refuses_differences, StartReplies, Starts}
use Rattle.protocol.proofs.Replies.{ask≢refused, ended≢refused}

-- one of those refusals, or none
record Meets (these : ℕ → ℕ → Bool) (why : Refusal) : Type 0 where
  met : eqb why.number 0 ≡ false → T (these why.number why.detail)

test : {these : ℕ → ℕ → Bool} (b : Bool) {x y : Refusal} → Meets these x → Meets these y → Meets these (cond b x y)
test true p q = p
test false p q = q

module _ (these : ℕ → ℕ → Bool) where
  none_met : Meets these no_refusal
  none_met = record { met = λ e. absurd (subst T e tt) }

  either : (b : Bool) {y z : Reply × Record} → StartReplies these y → StartReplies these z → StartReplies these (cond b y z)
  either true h k = h
  either false h k = k

  refuses : (k d : ℕ) → T (these k d) → StartReplies these (refused_of blank_of k d)
  refuses k d t = record { in_scope = t; no_record = λ j c e. refl }

  asks : (q : Question) (r : Record) → StartReplies these (ask q, r)
  asks q r = record { in_scope = tt; no_record = λ k d e. absurd (ask≢refused e) }

  ends : (o : Outcome) (r : Record) → StartReplies these (ended o, r)
  ends o r = record { in_scope = tt; no_record = λ k d e. absurd (ended≢refused e) }

  -- a refusal that is met, or what comes after it
  decide : (why : Refusal) {y : Reply × Record} → Meets these why → StartReplies these y → StartReplies these (cond (not (eqb why.number 0)) (refused_of blank_of why.number why.detail) y)
  decide why {y} m h = go (eqb why.number 0) refl
    where
      go : (b : Bool) → eqb why.number 0 ≡ b → StartReplies these (cond (not b) (refused_of blank_of why.number why.detail) y)
      go true e = h
      go false e = refuses why.number why.detail (m.met e)

-- ---- simplex

simplex_met : (count : ℕ) (o : SimplexOptions) (a : Allowances) → Meets refuses_simplex (simplex_refusal_of count o a)
unfolding simplex_refusal_of
simplex_met count o a =
    test (past_limits_of count o a) (record { met = λ e. tt })
    (test (not (tolerance_of o.xtol)) (record { met = λ e. tt })
    (test (not (tolerance_of o.ftol)) (record { met = λ e. tt })
    (test (not (positive_of o.step)) (record { met = λ e. tt }) (test (eqb count 0) (record { met = λ e. tt }) (none_met refuses_simplex)))))

simplex_stands : (p : List Float) (n : ℕ) (o : SimplexOptions) (a : Allowances) → StartReplies refuses_simplex (standing_of (simplex_record_of p n o a))
unfolding standing_of standing_simplex_of simplex_record_of start_of
simplex_stands p n o a = asks refuses_simplex _ _

simplex_opens : (x : List Float) (o : SimplexOptions) (a : Allowances) → StartReplies refuses_simplex (simplex_of x o a)
unfolding simplex_of
simplex_opens x o a =
    let n = length x in
    let p = from_slice_of x n in
    decide refuses_simplex (simplex_refusal_of n o a) (simplex_met n o a)
    (either refuses_simplex (not (all_finite_of p n)) (refuses refuses_simplex 12 1 tt) (simplex_stands p n o a))

-- ---- bfgs and lbfgs

bfgs_met : (count : ℕ) (o : GradientOptions) (a : Allowances) → Meets refuses_bfgs (gradient_refusal_of count o a false)
unfolding gradient_refusal_of no_memory_of
bfgs_met count o a =
    test (gradient_past_limits_of count o a false) (record { met = λ e. tt })
    (test (not (tolerance_of o.gradtol)) (record { met = λ e. tt })
    (test (not (tolerance_of o.ftol)) (record { met = λ e. tt })
    (test (not (tolerance_of o.xtol)) (record { met = λ e. tt })
    (test (not (ordered_of o.wolfe)) (record { met = λ e. tt }) (test (eqb count 0) (record { met = λ e. tt }) (none_met refuses_bfgs))))))

lbfgs_met : (count : ℕ) (o : GradientOptions) (a : Allowances) → Meets refuses_lbfgs (gradient_refusal_of count o a true)
unfolding gradient_refusal_of
lbfgs_met count o a =
    test (gradient_past_limits_of count o a true) (record { met = λ e. tt })
    (test (no_memory_of o true) (record { met = λ e. tt })
    (test (not (tolerance_of o.gradtol)) (record { met = λ e. tt })
    (test (not (tolerance_of o.ftol)) (record { met = λ e. tt })
    (test (not (tolerance_of o.xtol)) (record { met = λ e. tt })
    (test (not (ordered_of o.wolfe)) (record { met = λ e. tt }) (test (eqb count 0) (record { met = λ e. tt }) (none_met refuses_lbfgs)))))))

gradient_stands : (these : ℕ → ℕ → Bool) (p : List Float) (n : ℕ) (o : GradientOptions) (a : Allowances) (limited : Bool) → StartReplies these (standing_of (gradient_record_of p n o a limited))
unfolding standing_of standing_descent_of gradient_record_of gradient_mark_of gradient_job_of quasinewton.start_of quasinewton.asks_of quasinewton.gradient_due_of
gradient_stands these p n o a true = asks these _ _
gradient_stands these p n o a false = asks these _ _

bfgs_opens : (x : List Float) (o : GradientOptions) (a : Allowances) → StartReplies refuses_bfgs (bfgs_of x o a)
unfolding bfgs_of gradient_of
bfgs_opens x o a =
    let n = length x in
    let p = from_slice_of x n in
    decide refuses_bfgs (gradient_refusal_of n o a false) (bfgs_met n o a)
    (either refuses_bfgs (not (all_finite_of p n)) (refuses refuses_bfgs 12 1 tt) (gradient_stands refuses_bfgs p n o a false))

lbfgs_opens : (x : List Float) (o : GradientOptions) (a : Allowances) → StartReplies refuses_lbfgs (lbfgs_of x o a)
unfolding lbfgs_of gradient_of
lbfgs_opens x o a =
    let n = length x in
    let p = from_slice_of x n in
    decide refuses_lbfgs (gradient_refusal_of n o a true) (lbfgs_met n o a)
    (either refuses_lbfgs (not (all_finite_of p n)) (refuses refuses_lbfgs 12 1 tt) (gradient_stands refuses_lbfgs p n o a true))

-- ---- search

options_met : (o : WolfeOptions) → Meets refuses_search (options_refusal_of o)
unfolding options_refusal_of
options_met o =
    test (not (lt plus_zero o.c1)) (record { met = λ e. tt })
    (test (not (lt o.c1 one)) (record { met = λ e. tt })
    (test (not (lt o.c1 o.c2)) (record { met = λ e. tt })
    (test (not (lt o.c2 one)) (record { met = λ e. tt })
    (test (eqb o.evals 0) (record { met = λ e. tt }) (test (not (positive_of o.stepmax)) (record { met = λ e. tt }) (none_met refuses_search))))))

counts_met : (n dcount gcount : ℕ) → Meets refuses_search (counts_refusal_of n dcount gcount)
unfolding counts_refusal_of
counts_met n dcount gcount =
    test (eqb n 0) (record { met = λ e. tt })
    (test (not (eqb dcount n)) (record { met = λ e. tt }) (test (not (eqb gcount n)) (record { met = λ e. tt }) (none_met refuses_search)))

line_met : (n : ℕ) (l : Line) (step : Float) → Meets refuses_search (line_refusal_of n l step)
unfolding line_refusal_of
line_met n l step =
    test (not (all_finite_of l.x n)) (record { met = λ e. tt })
    (test (not (all_finite_of l.d n)) (record { met = λ e. tt })
    (test (not (all_finite_of l.g n)) (record { met = λ e. tt })
    (test (not (finite_of l.f)) (record { met = λ e. tt })
    (test (not (positive_of step)) (record { met = λ e. tt }) (test (le plus_zero l.slope) (record { met = λ e. tt }) (none_met refuses_search))))))

start_met : (n dcount gcount : ℕ) (o : WolfeOptions) → Meets refuses_search (search_refusal_of n dcount gcount o)
unfolding search_refusal_of
start_met n dcount gcount o =
    test (search_past_limits_of n dcount gcount o) (record { met = λ e. tt }) (test (not (eqb (options_refusal_of o).number 0)) (options_met o) (counts_met n dcount gcount))

search_stands : (l : Line) (n : ℕ) (step : Float) (o : WolfeOptions) (gradients : Bool) → StartReplies refuses_search (standing_of (search_record_of l n step o gradients))
unfolding search_record_of standing_of standing_search_of
search_stands l n step o gradients =
    let r = search_record_of l n step o gradients in
    either refuses_search (ltb asks_difference r.descent.search.phase) (ends refuses_search _ _)
    (either refuses_search (eqb r.descent.search.phase asks_gradient) (asks refuses_search _ _) (asks refuses_search _ _))

search_opens : (x d : List Float) (f0 : Float) (g : List Float) (step : Float) (o : WolfeOptions) (gradients : Bool) → StartReplies refuses_search (search_of x d f0 g step o gradients)
unfolding search_of
search_opens x d f0 g step o gradients =
    let n = length x in
    let l = line_from_of (from_slice_of x n) (from_slice_of d n) f0 (from_slice_of g n) n in
    decide refuses_search (search_refusal_of n (length d) (length g) o) (start_met n (length d) (length g) o)
    (decide refuses_search (line_refusal_of n l step) (line_met n l step) (search_stands l n step o gradients))

-- ---- differences

differences_opens : (x : List Float) → StartReplies refuses_differences (differences_of x)
unfolding differences_of begun_record_of standing_of standing_differences_of gradient_job_of
differences_opens x =
    let r = begun_record_of x in
    either refuses_differences (ltb 16 (length x)) (refuses refuses_differences 2 0 tt) (either refuses_differences (eqb r.diff.at r.n) (ends refuses_differences _ _) (asks refuses_differences _ _))

pub starts : Starts
starts = record { simplex = simplex_opens; bfgs = bfgs_opens; lbfgs = lbfgs_opens; search = search_opens; differences = differences_opens }
