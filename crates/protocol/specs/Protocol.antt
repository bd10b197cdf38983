-- Questions, answers, replies, results and fits, in 01's words. Definitions only.
-- Points and words are lists of `Float`s, of which one is `nan`: those that differ only in NaN bits are equal here.
use Rattle.std.specs.Prelude.{ℕ, Bool, true, false, cond, List, eqb, Float, Ok, Err, Result as OkOrErr}
use Rattle.std.proofs.Math.Option.{Option, none, some}
use Rattle.std.specs.Float.{inf}
use Rattle.float.specs.Values.{finite_of}
use Rattle.vector.specs.Lists.{first}
use Rattle.protocol.specs.declared.Kind.{Kind}
use Rattle.protocol.specs.declared.Kind.TheVariants.{Value, Gradient}
use Rattle.protocol.specs.declared.Termination.{Termination}
use Rattle.protocol.specs.declared.Termination.TheVariants.{GradientTolerance, SimplexTolerance, StepTolerance, FunctionTolerance, MaxIterations, MaxFevals, LineSearchFailed, GradientFailed, ObjectiveResolution}
use Rattle.protocol.specs.declared.Allowances.{Allowances}
use Rattle.protocol.specs.declared.SimplexOptions.{SimplexOptions}
use Rattle.protocol.specs.declared.GradientOptions.{GradientOptions}
use Rattle.protocol.specs.declared.Refusal.{Refusal}
use Rattle.protocol.specs.declared.Said.{Said}
use Rattle.protocol.specs.declared.Said.TheVariants.{Ask, Fitted, Searched, Differenced, Refused}

-- "A job is simplex, bfgs, lbfgs, search or differences": the marks of the jobs
abbrev pub simplex_mark : ℕ
simplex_mark = 1

abbrev pub bfgs_mark : ℕ
bfgs_mark = 2

abbrev pub lbfgs_mark : ℕ
lbfgs_mark = 3

abbrev pub search_mark : ℕ
search_mark = 4

abbrev pub differences_mark : ℕ
differences_mark = 5

-- "a kind (V for a value, G for a gradient)", as the byte of its letter
abbrev pub letter : Kind → ℕ
letter Value = 86
letter Gradient = 71

-- "A question has a number (1, 2, 3, ..), a kind (V for a value, G for a gradient) and a point of n coordinates."
pub record Question : Type 0 where
  pub number : ℕ
  pub kind : Kind
  pub point : List Float

-- An answer's kind is its letter, any byte: one that is neither V nor G suits no question.
pub record Answer : Type 0 where
  pub number : ℕ
  pub kind : ℕ
  pub words : List Float

-- `converged` of result.rs: "converged only for the four that `converged` names"
abbrev pub converges : Termination → Bool
converges GradientTolerance = true
converges SimplexTolerance = true
converges StepTolerance = true
converges FunctionTolerance = true
converges MaxIterations = false
converges MaxFevals = false
converges LineSearchFailed = false
converges GradientFailed = false
converges ObjectiveResolution = false

-- "A result is all that the `end` line prints": reason, converged, iterations, fevals, gevals, f, x
pub record Result : Type 0 where
  pub reason : Termination
  pub converged : Bool
  pub iterations : ℕ
  pub fevals : ℕ
  pub gevals : ℕ
  pub f : Float
  pub x : List Float

-- a bare search's outcome: `WolfeResult` of linesearch.rs
pub record SearchResult : Type 0 where
  pub success : Bool
  pub step : Float
  pub f : Float
  pub x : List Float
  pub gradient : List Float
  pub trials : ℕ

-- how a job can end, but for a refusal: a fit, a bare search, bare differences
pub data Outcome : Type 0 where
  fitted : Result → Outcome
  searched : SearchResult → Outcome
  differenced : List Float → Outcome

-- the mission's 1: "a question, a result or a refusal"; "A refusal is a number and a detail, 0 unless said."
pub data Reply : Type 0 where
  ask : Question → Reply
  ended : Outcome → Reply
  refused : ℕ → ℕ → Reply

-- a refusal as the code hands it about; no refusal of 01 has the number 0
abbrev pub refusal : ℕ → ℕ → Refusal
refusal number detail = record { number = number; detail = detail }

abbrev pub no_refusal : Refusal
no_refusal = refusal 0 0

-- the tests of a start, as the code makes them: Ok where none is failed
unfoldable pub as_result : Refusal → OkOrErr (Unit {0}) Refusal
as_result r = cond (eqb r.number 0) (Ok tt) (Err r)

-- What the code says, with its point x and gradient g of which the first n coordinates count, as a reply.
unfoldable pub reply_of : Said → ℕ → List Float → List Float → Reply
reply_of (Ask k κ) n x g = ask (record { number = k; kind = κ; point = first n x })
reply_of (Fitted s) n x g =
    ended (fitted (record { reason = s.reason; converged = s.converged; iterations = s.iterations; fevals = s.fevals; gevals = s.gevals; f = s.f; x = first n x }))
reply_of (Searched s) n x g = ended (searched (record { success = s.success; step = s.step; f = s.f; x = first n x; gradient = first n g; trials = s.trials }))
reply_of Differenced n x g = ended (differenced (first n g))
reply_of (Refused r) n x g = refused r.number r.detail

-- "In fits `Counted` reads any non-finite value as +infinity."
unfoldable pub read_of : Float → Float
read_of v = cond (finite_of v) v (inf false)

-- ---- fits

pub data Job : Type 0 where
  simplex : SimplexOptions → Job
  bfgs : GradientOptions → Job
  lbfgs : GradientOptions → Job

-- A fit as it is started: the job with its options, and what else a start is lent.
pub record Fit : Type 0 where
  pub job : Job
  pub allowances : Allowances
  pub x0 : List Float

-- An engine of fits: its two calls. Each returns a reply and a record; of a refused start the record means nothing.
pub record Engine : Type 1 where
  pub Record : Type 0
  pub start : Fit → Reply × Record
  pub answer : Record → Answer → Reply × Record
