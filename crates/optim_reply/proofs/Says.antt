-- What is said of the parts of a record is what stands in it (`spoken_stands`), and all of it is decided by the reply and the record (`stands_spoken`). Assumes nothing.
use Prim.Native.Nat.{ℕ}
use mathlib.Core.Path.{◌≡◌, refl, sym, ap, ◌∙◌}
use mathlib.Core.Bool.{Bool, true, false, cond}
use lib.Dec.{eqb, ltb, leb}
use Rattle.protocol.specs.Protocol.{Reply, reply_of, simplex_mark, search_mark}
use Rattle.linesearch.specs.Step as linesearch
use Rattle.quasinewton.specs.Step as quasinewton
use Rattle.neldermead.specs.Step.{not_finite}
use Rattle.optim_record.specs.declared.Record.{Record}
use Rattle.optim_record.specs.declared.Answered.{Answered}
use Rattle.optim_record.specs.Record.{outcome_of, last_asking, search_fixed_of, gradient_fixed_of, gradient_job_of}
use Rattle.optim_reply.specs.declared.Spoken.{Spoken}
use Rattle.optim_reply.specs.Standing.{result_of, standing_simplex_of, search_result_of, standing_search_of, descent_result_of, standing_descent_of, standing_differences_of, standing_of}
use Rattle.optim_reply.specs.Spoken.{reply_with, simplex_spoken_of, search_spoken_of, descent_spoken_of, differences_spoken_of, spoken_of, spoken_from, spoken_by, spoken_in}

module _ (r : Record) where
  pub simplex_says : reply_with (simplex_spoken_of r.accepted r.counts r.simplex.phase r.simplex.rounds r.simplex.x r.simplex.best) r ≡ standing_simplex_of r
  unfolding reply_with reply_of simplex_spoken_of standing_simplex_of result_of
  simplex_says = by (leb r.simplex.phase last_asking) refl (eqb r.simplex.phase not_finite) refl
    where
      by : (b : Bool) → leb r.simplex.phase last_asking ≡ b → (c : Bool) → eqb r.simplex.phase not_finite ≡ c
          → reply_with (simplex_spoken_of r.accepted r.counts r.simplex.phase r.simplex.rounds r.simplex.x r.simplex.best) r ≡ standing_simplex_of r
      by true e c f = rw e
      by false e true f = rw (e, f)
      by false e false f = rw (e, f)

  pub search_says : reply_with (search_spoken_of r.accepted (search_fixed_of r) r.descent.line r.descent.search) r ≡ standing_search_of r
  unfolding reply_with reply_of search_spoken_of standing_search_of search_result_of
  search_says = by (ltb linesearch.asks_difference r.descent.search.phase) refl (eqb r.descent.search.phase linesearch.asks_gradient) refl
    where
      by : (b : Bool) → ltb linesearch.asks_difference r.descent.search.phase ≡ b → (c : Bool) → eqb r.descent.search.phase linesearch.asks_gradient ≡ c
          → reply_with (search_spoken_of r.accepted (search_fixed_of r) r.descent.line r.descent.search) r ≡ standing_search_of r
      by true e c f = rw e
      by false e true f = rw (e, f)
      by false e false f = rw (e, f)

  pub descent_says : reply_with (descent_spoken_of r.accepted r.counts (gradient_fixed_of r) r.descent) r ≡ standing_descent_of r
  unfolding reply_with reply_of descent_spoken_of standing_descent_of descent_result_of
  descent_says = by (quasinewton.asks_of r.descent) refl (quasinewton.gradient_due_of r.descent) refl (eqb r.descent.phase quasinewton.by_refusal) refl
    where
      by : (b : Bool) → quasinewton.asks_of r.descent ≡ b → (c : Bool) → quasinewton.gradient_due_of r.descent ≡ c → (d : Bool) → eqb r.descent.phase quasinewton.by_refusal ≡ d
          → reply_with (descent_spoken_of r.accepted r.counts (gradient_fixed_of r) r.descent) r ≡ standing_descent_of r
      by true e true f d g = rw (e, f)
      by true e false f d g = rw (e, f)
      by false e c f true g = rw (e, g)
      by false e c f false g = rw (e, g)

  pub differences_say : reply_with (differences_spoken_of r.accepted r.n r.diff) r ≡ standing_differences_of r
  unfolding reply_with reply_of differences_spoken_of standing_differences_of
  differences_say = by (eqb r.diff.at r.n) refl
    where
      by : (b : Bool) → eqb r.diff.at r.n ≡ b → reply_with (differences_spoken_of r.accepted r.n r.diff) r ≡ standing_differences_of r
      by true e = rw e
      by false e = rw e

pub spoken_stands : (r : Record) → reply_with (spoken_of r) r ≡ standing_of r
unfolding standing_of spoken_of
spoken_stands r = go (eqb r.job simplex_mark) refl (eqb r.job search_mark) refl (gradient_job_of r.job) refl
  where
    go : (a : Bool) → eqb r.job simplex_mark ≡ a → (b : Bool) → eqb r.job search_mark ≡ b → (c : Bool) → gradient_job_of r.job ≡ c → reply_with (spoken_of r) r ≡ standing_of r
    go true e b f c g = rw e (simplex_says r)
    go false e true f c g = rw (e, f) (search_says r)
    go false e false f true g = rw (e, f, g) (descent_says r)
    go false e false f false g = rw (e, f, g) (differences_say r)

-- it is said of the record itself
pub stands_keeps : (r : Record) → (standing_of r).1 ≡ r
unfolding reply_with
stands_keeps r = ap (λ (y : Reply × Record). y.1) (sym (spoken_stands r))

-- of a refusal nothing is said but its number and detail
abbrev Decided : Spoken → Type 0
Decided s = (n : ℕ) → spoken_from s (reply_of s.said n s.x s.g) ≡ s

either : (b : Bool) (s t : Spoken) → Decided s → Decided t → Decided (cond b s t)
either true s t p q = p
either false s t p q = q

decided : (r : Record) → Decided (spoken_of r)
unfolding spoken_of simplex_spoken_of search_spoken_of descent_spoken_of differences_spoken_of reply_of
decided r =
    either (eqb r.job simplex_mark) _ _
    (either (leb r.simplex.phase last_asking) _ _ (λ n. refl) (either (eqb r.simplex.phase not_finite) _ _ (λ n. refl) (λ n. refl)))
    (either (eqb r.job search_mark) _ _
    (either (ltb linesearch.asks_difference r.descent.search.phase) _ _ (λ n. refl) (either (eqb r.descent.search.phase linesearch.asks_gradient) _ _ (λ n. refl) (λ n. refl)))
    (either (gradient_job_of r.job) _ _
    (either (quasinewton.asks_of r.descent) _ _ (either (quasinewton.gradient_due_of r.descent) _ _ (λ n. refl) (λ n. refl)) (either (eqb r.descent.phase quasinewton.by_refusal) _ _ (λ n. refl) (λ n. refl)))
    (either (eqb r.diff.at r.n) _ _ (λ n. refl) (λ n. refl))))

pub stands_spoken : (r : Record) → spoken_of r ≡ spoken_by (standing_of r)
unfolding reply_with
stands_spoken r = sym (decided r r.n) ∙ ap spoken_by (spoken_stands r)

-- a call that says all that stands in a record
pub says : (a : Answered) (s : Spoken) (r : Record) → (outcome_of a ≡ reply_with s r) × (spoken_in a ≡ s) → s ≡ spoken_of r → (outcome_of a ≡ standing_of r) × (spoken_in a ≡ spoken_by (standing_of r))
says a s r e h = (e.0 ∙ ap (λ (t : Spoken). reply_with t r) h ∙ spoken_stands r, e.1 ∙ h ∙ stands_spoken r)

-- and one that says y says z, which is y
pub says_also : (a : Answered) (y z : Reply × Record) → (outcome_of a ≡ y) × (spoken_in a ≡ spoken_by y) → y ≡ z → record { outcome : outcome_of a ≡ z; spoken : spoken_in a ≡ spoken_by z }
says_also a y z e h = record { outcome = e.0 ∙ h; spoken = e.1 ∙ ap spoken_by h }
