-- Starts. Definitions only.
use Rattle.std.specs.Prelude.{Bool, true, false, not, cond, List, ltb, eqb, length, Float, Ok, Err, Result as OkOrErr}
use Rattle.vector.specs.Points.{from_slice_of, all_finite_of}
use Rattle.protocol.specs.declared.Allowances.{Allowances}
use Rattle.protocol.specs.declared.SimplexOptions.{SimplexOptions}
use Rattle.protocol.specs.declared.WolfeOptions.{WolfeOptions}
use Rattle.protocol.specs.declared.GradientOptions.{GradientOptions}
use Rattle.protocol.specs.declared.Refusal.{Refusal}
use Rattle.protocol.specs.Protocol.{Reply}
use Rattle.linesearch_trials.specs.Start.{line_from_of, line_refusal_of}
use Rattle.optim_record.specs.declared.Record.{Record}
use Rattle.optim_record.specs.Record.{blank_of}
use Rattle.optim_reply.specs.Standing.{refused_of, standing_of}
use Rattle.optim_first_record.specs.Starts.{begun_record_of, simplex_refusal_of, simplex_record_of, search_refusal_of, search_record_of, gradient_refusal_of, gradient_record_of}

-- what a start says, whose first record is `first` of what it is given once that is tested: what stands in it, or the refusal that was met
abbrev pub started_of : {A : Type 0} → (A → Record) → OkOrErr A Refusal → Reply × Record
started_of first (Ok x) = standing_of (first x)
started_of first (Err why) = refused_of blank_of why.number why.detail

-- differences meet 2 alone: "A lent list .. is above 16"
unfoldable pub differences_of : List Float → Reply × Record
differences_of x = cond (ltb 16 (length x)) (refused_of blank_of 2 0) (standing_of (begun_record_of x))

-- a simplex fit meets 2, 4, 8, 9, 12, in that order
unfoldable pub simplex_of : List Float → SimplexOptions → Allowances → Reply × Record
simplex_of x o a =
    let n = length x in
    let why = simplex_refusal_of n o a in
    let point = from_slice_of x n in
    cond (not (eqb why.number 0)) (refused_of blank_of why.number why.detail)
    (cond (not (all_finite_of point n)) (refused_of blank_of 12 1) (standing_of (simplex_record_of point n o a)))

-- a search meets 2, 5, 6, 7, 9, 10, 11, 12, 13, 14, in that order
unfoldable pub search_of : List Float → List Float → Float → List Float → Float → WolfeOptions → Bool → Reply × Record
search_of x d f0 g step o gradients =
    let n = length x in
    let why = search_refusal_of n (length d) (length g) o in
    let l = line_from_of (from_slice_of x n) (from_slice_of d n) f0 (from_slice_of g n) n in
    let lent = line_refusal_of n l step in
    cond (not (eqb why.number 0)) (refused_of blank_of why.number why.detail)
    (cond (not (eqb lent.number 0)) (refused_of blank_of lent.number lent.detail) (standing_of (search_record_of l n step o gradients)))

-- a gradient fit meets 2, 3, 4, 5, 9, 12, in that order
unfoldable pub gradient_of : List Float → GradientOptions → Allowances → Bool → Reply × Record
gradient_of x o a limited =
    let n = length x in
    let why = gradient_refusal_of n o a limited in
    let point = from_slice_of x n in
    cond (not (eqb why.number 0)) (refused_of blank_of why.number why.detail)
    (cond (not (all_finite_of point n)) (refused_of blank_of 12 1) (standing_of (gradient_record_of point n o a limited)))

unfoldable pub bfgs_of : List Float → GradientOptions → Allowances → Reply × Record
unfolding gradient_of
bfgs_of x o a = gradient_of x o a false

unfoldable pub lbfgs_of : List Float → GradientOptions → Allowances → Reply × Record
unfolding gradient_of
lbfgs_of x o a = gradient_of x o a true
