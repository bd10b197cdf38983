-- What is said at a start: a fit asks for the value at its first point; and that what is said of a first record can stand. Assumes nothing.
use Prim.Native.Nat.{ℕ, ◌≤◌, zero-le}
use mathlib.Core.Path.{◌≡◌, refl}
use mathlib.Core.Bool.{Bool, true, false, true≢false}
use mathlib.Core.List.{List}
use lib.ListN.{length}
use lib.Ieee.{Float}
use Rattle.protocol.specs.declared.SimplexOptions.{SimplexOptions}
use Rattle.protocol.specs.declared.WolfeOptions.{WolfeOptions}
use Rattle.protocol.specs.declared.GradientOptions.{GradientOptions}
use Rattle.protocol.specs.declared.Allowances.{Allowances}
use Rattle.protocol.specs.declared.Kind.TheVariants.{Value}
use Rattle.objective.specs.Step.{begun_of}
use Rattle.linesearch_trials.specs.declared.Line.{Line}
use Rattle.neldermead.specs.Step.{start_of}
use Rattle.quasinewton.specs.Step as quasinewton
use Rattle.optim_record.specs.Record.{gradient_job_of, Stands}
use Rattle.optim_reply.specs.Spoken.{asked_of, simplex_spoken_of, descent_spoken_of, spoken_of}
use Rattle.optim_first_record.specs.Starts.{begun_record_of, simplex_record_of, search_record_of, gradient_mark_of, gradient_record_of}

pub simplex_speaks : (x : List Float) (n : ℕ) (o : SimplexOptions) (a : Allowances) → asked_of (simplex_record_of x n o a).accepted Value x ≡ spoken_of (simplex_record_of x n o a)
unfolding spoken_of simplex_spoken_of simplex_record_of start_of
simplex_speaks x n o a = refl

pub gradient_speaks : (x : List Float) (n : ℕ) (o : GradientOptions) (a : Allowances) (limited : Bool)
    → asked_of (gradient_record_of x n o a limited).accepted Value x ≡ spoken_of (gradient_record_of x n o a limited)
unfolding spoken_of descent_spoken_of gradient_record_of gradient_mark_of gradient_job_of quasinewton.start_of quasinewton.asks_of quasinewton.gradient_due_of quasinewton.probe_of
gradient_speaks x n o a true = refl
gradient_speaks x n o a false = refl

pub begun_stands : (x : List Float) → length x ≤ 16 → Stands (begun_record_of x)
unfolding begun_record_of begun_of
begun_stands x h = record { few = h; numbers = zero-le; coordinate = λ o. zero-le }

pub simplex_stands : (point : List Float) (n : ℕ) (o : SimplexOptions) (a : Allowances) → n ≤ 16 → Stands (simplex_record_of point n o a)
unfolding simplex_record_of
simplex_stands point n o a h = record { few = h; numbers = zero-le; coordinate = λ o. absurd (o.simplex refl) }

pub search_stands : (l : Line) (n : ℕ) (step : Float) (o : WolfeOptions) (gradients : Bool) → n ≤ 16 → Stands (search_record_of l n step o gradients)
unfolding search_record_of
search_stands l n step o gradients h = record { few = h; numbers = zero-le; coordinate = λ o. absurd (o.search refl) }

pub gradient_stands : (point : List Float) (n : ℕ) (o : GradientOptions) (a : Allowances) (limited : Bool) → n ≤ 16 → Stands (gradient_record_of point n o a limited)
unfolding gradient_record_of gradient_mark_of gradient_job_of
gradient_stands point n o a limited h = record { few = h; numbers = zero-le; coordinate = λ p. absurd (marked limited p.gradient) }
  where
    marked : (b : Bool) → gradient_job_of (gradient_mark_of b) ≡ false → ⊥
    marked true e = true≢false e
    marked false e = true≢false e
