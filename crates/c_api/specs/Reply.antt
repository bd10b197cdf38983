-- A reply as the numbers that cross to C: a field that a reply has no use for is zero. Its point, and a bare job's gradient, stand in `point` and `slopes`. Definitions only.
use Rattle.std.specs.Prelude.{ℕ, false}
use Rattle.float.specs.Binary64.{plus_zero}
use Rattle.protocol.specs.declared.Termination.{Termination}
use Rattle.protocol.specs.declared.Termination.TheVariants.{GradientTolerance, SimplexTolerance, StepTolerance, FunctionTolerance, MaxIterations, MaxFevals, LineSearchFailed, GradientFailed, ObjectiveResolution}
use Rattle.protocol.specs.Protocol as protocol
use Rattle.protocol.specs.Protocol.{letter, ask, ended, refused, fitted, searched, differenced}
use Rattle.c_api.specs.declared.reply.Reply.{Reply}

-- "Nine reasons as spelled in `Termination`": a reason as its place there, from 1
abbrev pub reason_of : Termination → ℕ
reason_of GradientTolerance = 1
reason_of SimplexTolerance = 2
reason_of StepTolerance = 3
reason_of FunctionTolerance = 4
reason_of MaxIterations = 5
reason_of MaxFevals = 6
reason_of LineSearchFailed = 7
reason_of GradientFailed = 8
reason_of ObjectiveResolution = 9

abbrev pub ended_as : protocol.Outcome → Reply
ended_as (fitted r) = record { what = 2; number = 0; reason = reason_of r.reason; iterations = r.iterations; fevals = r.fevals; gevals = r.gevals; trials = 0; refusal = 0; detail = 0; f = r.f; step = plus_zero; kind = 0; converged = r.converged; success = false }
ended_as (searched r) = record { what = 3; number = 0; reason = 0; iterations = 0; fevals = 0; gevals = 0; trials = r.trials; refusal = 0; detail = 0; f = r.f; step = r.step; kind = 0; converged = false; success = r.success }
ended_as (differenced g) = record { what = 4; number = 0; reason = 0; iterations = 0; fevals = 0; gevals = 0; trials = 0; refusal = 0; detail = 0; f = plus_zero; step = plus_zero; kind = 0; converged = false; success = false }

-- "a question, a result or a refusal"
unfoldable pub reply_as : protocol.Reply → Reply
reply_as (ask q) = record { what = 1; number = q.number; reason = 0; iterations = 0; fevals = 0; gevals = 0; trials = 0; refusal = 0; detail = 0; f = plus_zero; step = plus_zero; kind = letter q.kind; converged = false; success = false }
reply_as (ended o) = ended_as o
reply_as (refused k d) = record { what = 5; number = 0; reason = 0; iterations = 0; fevals = 0; gevals = 0; trials = 0; refusal = k; detail = d; f = plus_zero; step = plus_zero; kind = 0; converged = false; success = false }
