-- The engine of fits as the code computes it, and what is claimed of it: the mission's 3, how many questions it puts, and that no record made by a start and answers is out of
-- range. Definitions and statements only.
use Rattle.std.specs.Prelude.{ℕ, ◌≤◌, ◌≡◌, true, false, length, Float}
use mathlib.Core.List.{List, Memᴰ}
use Rattle.vector.specs.Ties.{ZeroFrom}
use Rattle.protocol.specs.declared.Allowances.{Allowances}
use Rattle.protocol.specs.declared.Kind.{Kind}
use Rattle.protocol.specs.declared.SimplexOptions.{SimplexOptions}
use Rattle.protocol.specs.declared.GradientOptions.{GradientOptions}
use Rattle.protocol.specs.Protocol.{Answer, Reply, Job, simplex, bfgs, lbfgs, Fit, Engine}
use Rattle.protocol.specs.Dialogue.{GivenF64s, run, Started}
use Rattle.protocol.specs.Claim.{limit, iter_allowance, fevals_allowance, Claim}
use Rattle.protocol.specs.Bounds.{questions_of}
use Rattle.neldermead_theory.specs.Counts.{by_fevals, by_iterations}
use Rattle.neldermead_theory.specs.Follows.{EveryPoint}
use Rattle.quasinewton_model_theory.specs.Ties.{ModelZeroPast}
use Rattle.quasinewton_theory.specs.Counts.{with_gradients, without_gradients, GradientJob}
use Rattle.quasinewton_theory.specs.Follows.{DescentZeroPast}
use Rattle.optim_fits_theory.specs.Fits.{reference}
use Rattle.optim_fits_theory.specs.Refusals.{EndedBy, Replied}
use Rattle.optim_record.specs.declared.Record.{Record}
use Rattle.optim_record.specs.Record.{valid_of}
use Rattle.optim.specs.Answer.{answer_of}
use Rattle.optim_start.specs.Start.{simplex_of, bfgs_of, lbfgs_of}

-- the start of a job
abbrev pub start_by : Job → List Float → Allowances → Reply × Record
start_by (simplex o) x a = simplex_of x o a
start_by (bfgs o) x a = bfgs_of x o a
start_by (lbfgs o) x a = lbfgs_of x o a

abbrev pub start_code : Fit → Reply × Record
start_code f = start_by f.job f.x0 f.allowances

abbrev pub answer_code : Record → Answer → Reply × Record
answer_code r a = answer_of r a.number a.kind a.words

-- the engine of fits that the code is
abbrev pub code : Engine
code = record { Record = Record; start = start_code; answer = answer_code }

-- the mission's 3
abbrev pub CodeClaim : Type 0
CodeClaim = Claim code

-- "Simplex: at most M+(R+1)(n+1), and at most (R+1)(n+1)+I(n+2). Gradient fits: with gradients 1+I·E of each kind, without (1+2n)(1+I·E)" questions, whatever is answered
pub record CodeAtMost : Type 0 where
  pub by_fevals_lem : (f : Fit) (o : SimplexOptions) (M : ℕ) → f.job ≡ simplex o → fevals_allowance f ≡ limit M → Started code f
      → (l : List Answer) → GivenF64s l → length (run code f l).questions ≤ by_fevals M o f.x0
  pub by_iterations_lem : (f : Fit) (o : SimplexOptions) (I : ℕ) → f.job ≡ simplex o → iter_allowance f ≡ limit I → Started code f
      → (l : List Answer) → GivenF64s l → length (run code f l).questions ≤ by_iterations I o f.x0
  pub with_gradients_lem : (κ : Kind) (f : Fit) (o : GradientOptions) (I : ℕ) → GradientJob f.job o → o.gradients ≡ true → iter_allowance f ≡ limit I → Started code f
      → (l : List Answer) → GivenF64s l → questions_of κ (run code f l).questions ≤ with_gradients I o
  pub without_gradients_lem : (f : Fit) (o : GradientOptions) (I : ℕ) → GradientJob f.job o → o.gradients ≡ false → iter_allowance f ≡ limit I → Started code f
      → (l : List Answer) → GivenF64s l → length (run code f l).questions ≤ without_gradients I o f.x0

-- no record made by a start and answers ever meets refusal 1
abbrev pub CodeInRange : Type 0
CodeInRange = (f : Fit) (l : List Answer) → Started code f → valid_of (run code f l).record_now ≡ true

-- the coordinates past n are +0.0 in a gradient fit's point, gradient and direction, in its best trial and its differences, and in every row and pair of its model
pub record GradientZeros (n : ℕ) (r : Record) : Type 0 where
  pub descent : DescentZeroPast n r.descent
  pub model : ModelZeroPast n r.model

-- and in every vertex and every other point of a simplex fit
abbrev pub ZerosOf : Job → ℕ → Record → Type 0
ZerosOf (simplex o) n r = EveryPoint (ZeroFrom n) r.simplex
ZerosOf (bfgs o) n r = GradientZeros n r
ZerosOf (lbfgs o) n r = GradientZeros n r

-- "its sixteen coordinates (those past n are zero)": of every point that a fit keeps, along every list, and the zero is +0.0
abbrev pub Zeros : Type 0
Zeros = (f : Fit) (l : List Answer) → Started code f → ZerosOf f.job (length f.x0) (run code f l).record_now

-- along every list the code puts the Algorithm's questions, takes the same answers and gives its replies, results and refusals among them; a start is refused alike
pub record AsAlgorithm : Type 0 where
  pub start_reply : (f : Fit) → (code.start f).0 ≡ (reference.start f).0
  pub questions : (f : Fit) (l : List Answer) → Started code f → GivenF64s l → (run code f l).questions ≡ (run reference f l).questions
  pub exchanges : (f : Fit) (l : List Answer) → Started code f → GivenF64s l → (run code f l).exchanges ≡ (run reference f l).exchanges
  pub replies : (f : Fit) (l : List Answer) → Started code f → GivenF64s l → (run code f l).replies ≡ (run reference f l).replies

-- a reply to a fit that was started is refused with 15, 16 or 17, or with what can end a fit: a simplex fit 20 alone, a gradient fit 6, 7, 12 for x, 18 or 19 alone
abbrev pub CodeRefusals : Type 0
CodeRefusals = (f : Fit) (l : List Answer) → Started code f → GivenF64s l → (y : Reply) → Memᴰ y (run code f l).replies → Replied EndedBy f.job y
