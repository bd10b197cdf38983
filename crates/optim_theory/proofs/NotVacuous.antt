-- The code's definitions compute the lists of specs/Examples to their results (`computed`), and these meet every hypothesis of both parts of the mission's 3 (`not_vacuous`). Assumes nothing.
use mathlib.Core.Path.{refl}
use mathlib.Core.List.{List, [], ◌∷◌, ◌++◌}
use Prim.Native.Nat.{ℕ, zero-le}
use lib.Ieee.{Float, to_bits, of_bits, of_fields, of_int, span, climb, size, odd, units, round, neg, is_nan, sum, add, sub, mul, div, lt, le, eq}
use Rattle.float.specs.Binary64.{◌⊕◌, ◌⊗◌}
use Rattle.protocol.specs.declared.Kind.{Kind}
use Rattle.protocol.specs.declared.Kind.TheVariants.{Value, Gradient}
use Rattle.protocol.specs.Dialogue.{run, Started}
use Rattle.std.specs.Prelude.{None, Some}
use Rattle.protocol.specs.Example.{Reaches, Pair}
use Rattle.protocol.proofs.NotVacuous.{of_one, of_two_lem, AnsweredBy, one_objective, third, fifth, word}
use Rattle.float.specs.Values as values
use Rattle.vector.specs.Points as points
use Rattle.vector.specs.Lists as lists
use Rattle.protocol.specs.Protocol as protocol
use Rattle.linesearch_trials.specs.Trials as trials
use Rattle.linesearch_trials.specs.Start as lines
use Rattle.linesearch.specs.Step as linesearch
use Rattle.quasinewton_model.specs.Step as hessian
use Rattle.quasinewton.specs.Step as quasinewton
use Rattle.neldermead_vertices.specs.Order as vertex_order
use Rattle.neldermead_vertices.specs.Method as method
use Rattle.neldermead_vertices.specs.Vertices as vertices
use Rattle.neldermead.specs.Step as neldermead
use Rattle.optim_record.specs.Record as records
use Rattle.optim_reply.specs.Standing as stands
use Rattle.optim_first_record.specs.Starts as firsts
use Rattle.optim_rules.specs.Rules as rules
use Rattle.optim.specs.Answer as answers
use Rattle.optim_start.specs.Start as starts
use Rattle.float.specs.Order as order
use Rattle.optim_theory.specs.Engine.{code}
use Rattle.optim_theory.specs.Examples.{zero, one, two, a_na_n, minus_infinity, sample, sample_answers, sample_result, non_finite_answers, non_finite_result, dense, limited, opening_answers, whole_answers, stopped_result, whole_result, Computed, NotVacuous}
use Rattle.optim_theory.proofs.Engine.{code_claim}

-- ---- one objective

-- x² of one coordinate, with its gradient
abbrev square_at : Kind → Float → Float
square_at Value x = x ⊗ x
square_at Gradient x = x ⊕ x

abbrev square : Kind → List Float → List Float
square k [] = []
square k (x ∷ xs) = square_at k x ∷ []

-- ---- what is computed

-- the runs, that their starts are not refused, and that the runs of bfgs are told x²
record Facts : Type 0 where
  runs : Computed
  simplex_starts : Started code sample
  bfgs_starts : Started code (dense None)
  lbfgs_starts : Started code limited
  stopped_starts : Started code (dense (Some 0))
  squares : AnsweredBy square ((run code (dense (Some 0)) opening_answers).exchanges ++ (run code (dense None) whole_answers).exchanges)

facts : Facts
unfolding to_bits of_bits of_fields of_int span climb size odd units round neg is_nan sum add sub mul div lt le eq values.abs_of values.finite_of
    values.tolerance_of values.positive_of values.max_of values.min_of points.from_slice_of points.dot_of points.inf_norm_of points.all_finite_of
    points.plus_scaled_of points.minus_scaled_of points.difference_of points.addition_of points.quotient_of points.scaled_of points.negation_of
    points.towards_of points.row_dot_of points.mat_vec_of lists.first protocol.read_of records.wolfe_options_of records.idle_of records.blank_of
    records.gradient_job_of records.valid_simplex_of records.valid_search_part_of records.known_refusal_of records.valid_ending_of records.valid_options_of
    records.valid_model_of records.valid_descent_of records.valid_part_of records.valid_of stands.over_of stands.gradient_due_of stands.termination_of stands.result_of
    stands.standing_simplex_of stands.descent_termination_of stands.descent_converged_of stands.descent_result_of stands.standing_descent_of stands.standing_of
    firsts.past_limits_of firsts.simplex_refusal_of firsts.simplex_limits_of firsts.simplex_record_of
    firsts.gradient_past_limits_of firsts.ordered_of firsts.no_memory_of firsts.gradient_refusal_of firsts.gradient_limits_of firsts.kept_options_of
    firsts.gradient_mark_of firsts.gradient_record_of rules.repeats_of answers.stepped_of answers.graded_of answers.taken_of answers.taken_gradient_of
    rules.suits_of answers.heard_of answers.answer_of starts.simplex_of starts.gradient_of starts.bfgs_of starts.lbfgs_of vertex_order.in_order method.beta
    method.gamma method.delta method.displaced method.resolution method.better vertices.put_of vertices.inserted_of vertices.sorted_of vertices.summed_of
    vertices.centroid_of vertices.corner_of vertices.size_of vertices.any_finite_of vertices.flat_of vertices.converged_of neldermead.ordered_of
    neldermead.trial_of neldermead.reflect_of neldermead.reason_of neldermead.done_of neldermead.tested_of neldermead.headed_of neldermead.build_of
    neldermead.settled_of neldermead.built_of neldermead.replaced_of neldermead.reflected_of neldermead.inside_of neldermead.told_of neldermead.start_of
    order.precedes_of order.key_of trials.start_of trials.armijo_of trials.curvature_of lines.line_from_of lines.options_refusal_of lines.counts_refusal_of
    lines.line_refusal_of linesearch.point_at_of linesearch.evaluated_of linesearch.preceding_of linesearch.risen_of linesearch.lower_of linesearch.keep_of
    linesearch.success_of linesearch.eval_of linesearch.bracket_of linesearch.bracketed_of linesearch.decided_of linesearch.graded_of
    linesearch.eval_gradient_of linesearch.valued_of linesearch.begun_of linesearch.probe_of linesearch.told_of linesearch.told_gradient_of hessian.diagonal_of
    hessian.update_row_of hessian.update_rows_of hessian.prepared_of hessian.dense_update_of hessian.dense_direction_of hessian.down_of hessian.down_from
    hessian.all_down_of hessian.up_of hessian.all_up_of hessian.limited_direction_of hessian.room_of hessian.gamma_of hessian.limited_update_of hessian.no_pairs_of
    hessian.blank_of hessian.new_model_of hessian.direction_of hessian.update_of quasinewton.stores_of quasinewton.small_decrease_of quasinewton.small_step_of
    quasinewton.initial_step_of quasinewton.not_descending_of quasinewton.sought_of quasinewton.searched_of quasinewton.directed_of quasinewton.headed_of
    quasinewton.stored_of quasinewton.stepped_of quasinewton.succeeded_of quasinewton.settled_of quasinewton.asks_of quasinewton.gradient_due_of
    quasinewton.graded_of quasinewton.valued_of quasinewton.probe_of quasinewton.told_of quasinewton.told_gradient_of quasinewton.idle_of quasinewton.start_of
facts =
    record {
      runs = record { simplex_run = refl; non_finite_run = refl; bfgs_run = refl; lbfgs_run = refl; stopped_run = refl };
      simplex_starts = tt;
      bfgs_starts = tt;
      lbfgs_starts = tt;
      stopped_starts = tt;
      squares = (refl, (refl, (refl, (refl, (refl, (refl, tt))))));
    }

pub computed : Computed
computed = facts.runs

-- ---- the hypotheses

simplex_reaches : Reaches code sample sample_answers sample_result
simplex_reaches =
    record { started = facts.simplex_starts; given = (word two, (word one, tt)); brings = rw computed.simplex_run third }

non_finite_reaches : Reaches code sample non_finite_answers non_finite_result
non_finite_reaches =
    record {
      started = facts.simplex_starts;
      given = (word a_na_n, (word one, (word minus_infinity, (word one, tt))));
      brings = rw computed.non_finite_run fifth;
    }

bfgs_reaches : Reaches code (dense None) whole_answers whole_result
bfgs_reaches =
    record {
      started = facts.bfgs_starts;
      given = (word one, (word two, (word zero, (word zero, tt))));
      brings = rw computed.bfgs_run fifth;
    }

lbfgs_reaches : Reaches code limited whole_answers whole_result
lbfgs_reaches =
    record {
      started = facts.lbfgs_starts;
      given = (word one, (word two, (word zero, (word zero, tt))));
      brings = rw computed.lbfgs_run fifth;
    }

stopped_reaches : Reaches code (dense (Some 0)) opening_answers stopped_result
stopped_reaches =
    record { started = facts.stopped_starts; given = (word one, (word two, tt)); brings = rw computed.stopped_run third }

-- the first stops for an allowance that is then raised
raised : Pair code (dense (Some 0)) (dense None) opening_answers whole_answers stopped_result whole_result
raised =
    record {
      first = stopped_reaches;
      second = bfgs_reaches;
      again = record { job = refl; x0 = refl; iter = zero-le; fevals = tt };
      by_point = one_objective square _ facts.squares;
    }

-- ---- both parts hold of them

pub not_vacuous : NotVacuous
not_vacuous =
    record {
      simplex_reaches = simplex_reaches;
      non_finite_reaches = non_finite_reaches;
      bfgs_reaches = bfgs_reaches;
      lbfgs_reaches = lbfgs_reaches;
      raised = raised;
      simplex_one = of_one code_claim simplex_reaches;
      non_finite_one = of_one code_claim non_finite_reaches;
      raised_two = of_two_lem code_claim raised;
    }
