-- The reply to an answer, for every record and every answer. Definitions only.
use Rattle.std.specs.Prelude.{ℕ, ◌+◌, cond, not, List, eqb, length, get_or, Float}
use Rattle.std.specs.Float.{nan}
use Rattle.vector.specs.Points.{from_slice_of}
use Rattle.protocol.specs.Protocol.{Reply, read_of, simplex_mark, search_mark}
use Rattle.objective.specs.declared.Differences.{Differences}
use Rattle.objective.specs.Step.{told_of}
use Rattle.linesearch.specs.Step as linesearch
use Rattle.quasinewton_model.specs.declared.Model.{Model}
use Rattle.quasinewton_record.specs.declared.Descent.{Descent}
use Rattle.quasinewton.specs.Step as quasinewton
use Rattle.neldermead.specs.declared.Simplex.{Simplex}
use Rattle.neldermead.specs.Step.{told_of as simplex_told}
use Rattle.optim_record.specs.declared.Record.{Record}
use Rattle.optim_record.specs.Record.{fixed_of, search_fixed_of, gradient_fixed_of, gradient_job_of, valid_of}
use Rattle.optim_reply.specs.Standing.{refused_of, over_of, gradient_due_of, standing_of}
use Rattle.optim_rules.specs.Rules.{repeats_of, suits_of}

-- one V answer accepted more, and the parts that it moves
abbrev pub valued_of : Record → Differences → Simplex → Descent → Model → Record
valued_of r d q s m =
    record {
      accepted = r.accepted + 1;
      job = r.job;
      n = r.n;
      counts = record { fevals = r.counts.fevals + 1; gevals = r.counts.gevals };
      limits = r.limits;
      options = r.options;
      gradient = r.gradient;
      diff = d;
      simplex = q;
      descent = s;
      model = m;
    }

-- the record after the value v that was asked for: "In fits `Counted` reads any non-finite value as +infinity. Bare `strong_wolfe` does so for trials only, not for its difference
-- values. Bare differences never do."
unfoldable pub stepped_of : Record → Float → Record
stepped_of r v =
    let d = r.descent in
    let q = quasinewton.settled_of (gradient_fixed_of r) (quasinewton.told_of (gradient_fixed_of r) d (read_of v)) r.model (r.counts.fevals + 1) in
    cond (eqb r.job simplex_mark) (valued_of r r.diff (simplex_told (fixed_of r) r.simplex (read_of v) (r.counts.fevals + 1)) d r.model)
    (cond (eqb r.job search_mark) (valued_of r r.diff r.simplex (quasinewton.with_search d (linesearch.told_of (search_fixed_of r) d.line d.search (read_of v) v)) r.model)
    (cond (gradient_job_of r.job) (valued_of r r.diff r.simplex q.descent q.model)
    (valued_of r (told_of r.diff v) r.simplex d r.model)))

-- one G answer accepted more, and the parts that it moves
abbrev pub sloped_of : Record → Descent → Model → Record
sloped_of r d m =
    record {
      accepted = r.accepted + 1;
      job = r.job;
      n = r.n;
      counts = record { fevals = r.counts.fevals; gevals = r.counts.gevals + 1 };
      limits = r.limits;
      options = r.options;
      gradient = r.gradient;
      diff = r.diff;
      simplex = r.simplex;
      descent = d;
      model = m;
    }

-- the record after the gradient g that was asked for, by a search or by a gradient fit
unfoldable pub graded_of : Record → List Float → Record
graded_of r g =
    let d = r.descent in
    let q = quasinewton.settled_of (gradient_fixed_of r) (quasinewton.told_gradient_of (gradient_fixed_of r) d g) r.model r.counts.fevals in
    cond (eqb r.job search_mark) (sloped_of r (quasinewton.with_search d (linesearch.told_gradient_of (search_fixed_of r) d.line d.search g)) r.model)
    (sloped_of r q.descent q.model)

-- the reply to that value, and to that gradient
unfoldable pub taken_of : Record → Float → Reply × Record
taken_of r v = standing_of (stepped_of r v)

unfoldable pub taken_gradient_of : Record → List Float → Reply × Record
taken_gradient_of r g = standing_of (graded_of r g)

-- over a record in range: the repeat rule, then 15, 16, 17, else the answer is accepted
unfoldable pub heard_of : Record → ℕ → ℕ → List Float → Reply × Record
heard_of r number kind words =
    cond (repeats_of r.accepted number) (standing_of r)
    (cond (over_of r) (refused_of r 15 0)
    (cond (not (eqb number (r.accepted + 1))) (refused_of r 16 0)
    (cond (not (suits_of r kind (length words))) (refused_of r 17 0)
    (cond (gradient_due_of r) (taken_gradient_of r (from_slice_of words r.n)) (taken_of r (get_or words 0 nan))))))

-- 01: "an answer 1, then the repeat rule, then 15 to 17"
unfoldable pub answer_of : Record → ℕ → ℕ → List Float → Reply × Record
answer_of r number kind words = cond (valid_of r) (heard_of r number kind words) (refused_of r 1 0)
