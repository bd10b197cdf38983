-- The engine of fits over lent lists, and what is claimed of it: along every list of calls it comes to what the engine of records comes to, so the mission's 3 and the bounds hold of it, and
-- no lists that a start and answers have made meet refusal 1. Definitions and statements only.
use Rattle.std.specs.Prelude.{ℕ, ◌≤◌, ◌≡◌, true, false, List, length}
use Rattle.protocol.specs.declared.Kind.{Kind}
use Rattle.protocol.specs.declared.SimplexOptions.{SimplexOptions}
use Rattle.protocol.specs.declared.GradientOptions.{GradientOptions}
use Rattle.protocol.specs.Protocol.{Answer, Reply, simplex, Fit, Engine}
use Rattle.protocol.specs.Dialogue.{GivenF64s, Dialogue, run, Started}
use Rattle.protocol.specs.Claim.{limit, iter_allowance, fevals_allowance, Claim}
use Rattle.protocol.specs.Bounds.{questions_of}
use Rattle.neldermead_theory.specs.Counts.{by_fevals, by_iterations}
use Rattle.quasinewton_theory.specs.Counts.{with_gradients, without_gradients, GradientJob}
use Rattle.optim_record.specs.declared.Record.{Record}
use Rattle.optim_record.specs.Record.{valid_of}
use Rattle.optim_theory.specs.Engine.{start_code, code}
use Rattle.optim_lists.specs.Lists.{Lists, record_of, lists_of, formed_of}
use Rattle.optim_lists.specs.Answered.{answered_of, started_of}

abbrev pub start_lists : Fit → Reply × Lists
start_lists f = started_of (start_code f)

abbrev pub answer_lists : Lists → Answer → Reply × Lists
answer_lists l a = answered_of l a.number a.kind a.words

-- the engine of fits whose record is lent as lists
abbrev pub lent : Engine
lent = record { Record = Lists; start = start_lists; answer = answer_lists }

-- what a list of answers has come to, with the one form of its record
abbrev pub in_lists : Dialogue Record → Dialogue Lists
in_lists d = record { standing = d.standing; record_now = lists_of d.record_now; questions = d.questions; exchanges = d.exchanges; replies = d.replies }

pub record LentClaim : Type 0 where
  -- along every list of answers: the same questions, answers taken and replies, and the one form of the same record
  pub as_records : (f : Fit) (l : List Answer) → run lent f l ≡ in_lists (run code f l)
  -- the mission's 3
  pub claim : Claim lent
  -- no lists made by a start and answers ever meet refusal 1
  pub formed : (f : Fit) (l : List Answer) → formed_of (run lent f l).record_now ≡ true
  pub in_range : (f : Fit) (l : List Answer) → Started lent f → valid_of (record_of (run lent f l).record_now) ≡ true

-- "Simplex: at most M+(R+1)(n+1), and at most (R+1)(n+1)+I(n+2). Gradient fits: with gradients 1+I·E of each kind, without (1+2n)(1+I·E)" questions, whatever is answered
pub record LentAtMost : Type 0 where
  pub by_fevals_lem : (f : Fit) (o : SimplexOptions) (M : ℕ) → f.job ≡ simplex o → fevals_allowance f ≡ limit M → Started lent f
      → (l : List Answer) → GivenF64s l → length (run lent f l).questions ≤ by_fevals M o f.x0
  pub by_iterations_lem : (f : Fit) (o : SimplexOptions) (I : ℕ) → f.job ≡ simplex o → iter_allowance f ≡ limit I → Started lent f
      → (l : List Answer) → GivenF64s l → length (run lent f l).questions ≤ by_iterations I o f.x0
  pub with_gradients_lem : (κ : Kind) (f : Fit) (o : GradientOptions) (I : ℕ) → GradientJob f.job o → o.gradients ≡ true → iter_allowance f ≡ limit I → Started lent f
      → (l : List Answer) → GivenF64s l → questions_of κ (run lent f l).questions ≤ with_gradients I o
  pub without_gradients_lem : (f : Fit) (o : GradientOptions) (I : ℕ) → GradientJob f.job o → o.gradients ≡ false → iter_allowance f ≡ limit I → Started lent f
      → (l : List Answer) → GivenF64s l → length (run lent f l).questions ≤ without_gradients I o f.x0
