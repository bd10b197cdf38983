-- `quasinewton_round::searched` meets its contract: the search begins where the tests are passed. Assumes nothing.
use mathlib.Core.Path.{◌≡◌, refl, sym, ◌∙◌}
use mathlib.Core.Bool.{Bool, true, false, cond, not}
use mathlib.Core.List.{List}
use lib.Dec.{eqb}
use lib.Ieee.{Float}
use Rattle.protocol.proofs.Refusals.{passed, failed}
use Rattle.linesearch_trials.specs.Start.{line_from_of, options_refusal_of, counts_refusal_of}
use Rattle.quasinewton_record.specs.declared.Fixed.{Fixed}
use Rattle.quasinewton_record.specs.declared.Descent.{Descent}
use Rattle.quasinewton_record.specs.Formulas.{initial_step_of}
use Rattle.quasinewton_record.specs.Descents.{refused_by}
use Rattle.quasinewton_round.specs.Rounds.{tested_of, sought_of, searched_of}
use Rattle.quasinewton_round.proofs.searched.Goals as goal

-- one test of all three
at_once : (fixed : Fixed) (q : Descent) (d : List Float) → let l = line_from_of q.line.x d q.line.f q.line.g fixed.n in
    let step = initial_step_of q.first d fixed.n in
    let why = tested_of fixed l step in
    cond (not (eqb why.number 0)) (refused_by q why) (sought_of fixed q l step) ≡ searched_of fixed q d
unfolding tested_of searched_of
at_once fixed q d = by (eqb (options_refusal_of fixed.options.wolfe).number 0) refl (eqb (counts_refusal_of fixed.n fixed.n fixed.n).number 0) refl
  where
    by : (a : Bool) → eqb (options_refusal_of fixed.options.wolfe).number 0 ≡ a → (b : Bool) → eqb (counts_refusal_of fixed.n fixed.n fixed.n).number 0 ≡ b
        → let l = line_from_of q.line.x d q.line.f q.line.g fixed.n in
        let step = initial_step_of q.first d fixed.n in
        let why = tested_of fixed l step in
        cond (not (eqb why.number 0)) (refused_by q why) (sought_of fixed q l step) ≡ searched_of fixed q d
    by false e b f = rw (e, e)
    by true e false f = rw (e, f, f)
    by true e true f = rw (e, f)

pub returns-in-Ok : goal.returns-in-Ok
returns-in-Ok c =
    rw (c.sought.ensures, ← at_once c.args.fixed c.args.q c.args.d, ← c.line_from-l.ensures, ← c.initial_step-step.ensures, passed _ c.in-Ok.ensures)

pub returns-in-Err : goal.returns-in-Err
returns-in-Err c =
    let h = failed _ _ c.in-Err.ensures in
    rw (c.refused_by.ensures, ← at_once c.args.fixed c.args.q c.args.d, ← c.line_from-l.ensures, ← c.initial_step-step.ensures, h.0, h.1)
