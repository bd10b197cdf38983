-- The code's definitions compute the lists of specs/JobExamples to their replies: `jobs_computed`. Assumes nothing.
use mathlib.Core.Path.{refl}
use lib.Ieee.{to_bits, of_bits, of_fields, of_int, span, climb, size, odd, units, round, neg, is_nan, sum, add, sub, mul, div, lt, le, eq}
use Rattle.float.specs.Values as values
use Rattle.float.specs.Order as order
use Rattle.vector.specs.Points as points
use Rattle.vector.specs.Lists as lists
use Rattle.protocol.specs.Protocol as protocol
use Rattle.protocol.proofs.NotVacuous.{word}
use Rattle.objective.specs.Algorithm as differences
use Rattle.objective.specs.Step as objective
use Rattle.linesearch_trials.specs.Trials as trials
use Rattle.linesearch_trials.specs.Start as lines
use Rattle.linesearch.specs.Step as linesearch
use Rattle.neldermead_vertices.specs.Order as vertex_order
use Rattle.neldermead_vertices.specs.Method as method
use Rattle.neldermead_vertices.specs.Vertices as vertices
use Rattle.neldermead.specs.Step as neldermead
use Rattle.optim_record.specs.Record as records
use Rattle.optim_reply.specs.Standing as stands
use Rattle.optim_first_record.specs.Starts as firsts
use Rattle.optim_rules.specs.Rules as rules
use Rattle.optim.specs.Answer as answers
use Rattle.optim_start.specs.Start as starts
use Rattle.optim_theory.specs.Examples.{zero, one, two}
use Rattle.optim_theory.specs.JobExamples.{infinity, JobsComputed}

pub jobs_computed : JobsComputed
unfolding to_bits of_bits of_fields of_int span climb size odd units round neg is_nan sum add sub mul div lt le eq values.abs_of values.finite_of
    values.tolerance_of values.positive_of values.max_of values.min_of order.precedes_of order.key_of points.from_slice_of points.inf_norm_of points.all_finite_of
    points.plus_scaled_of points.difference_of points.addition_of points.scaled_of points.dot_of lists.first protocol.read_of differences.difference_step differences.forward_of
    differences.backward_of differences.slope_at objective.begun_of objective.probe_of objective.told_of records.gradient_job_of records.valid_simplex_of records.valid_part_of records.valid_of
    stands.over_of stands.gradient_due_of stands.standing_simplex_of stands.standing_differences_of stands.standing_of firsts.begun_record_of
    firsts.past_limits_of firsts.simplex_refusal_of firsts.simplex_limits_of firsts.simplex_record_of rules.repeats_of rules.suits_of answers.stepped_of
    answers.taken_of answers.heard_of answers.answer_of starts.differences_of starts.simplex_of vertex_order.in_order method.beta method.gamma method.delta
    method.displaced method.resolution method.better vertices.put_of vertices.inserted_of vertices.sorted_of vertices.corner_of vertices.any_finite_of
    trials.start_of trials.armijo_of trials.curvature_of lines.line_from_of lines.options_refusal_of lines.counts_refusal_of lines.line_refusal_of linesearch.point_at_of
    linesearch.evaluated_of linesearch.preceding_of linesearch.risen_of linesearch.lower_of linesearch.keep_of linesearch.success_of linesearch.eval_of
    linesearch.bracket_of linesearch.bracketed_of linesearch.decided_of linesearch.graded_of linesearch.eval_gradient_of linesearch.valued_of linesearch.begun_of
    linesearch.probe_of linesearch.told_of linesearch.told_gradient_of records.wolfe_options_of records.valid_search_part_of records.valid_search_of stands.search_result_of
    stands.standing_search_of firsts.search_past_limits_of firsts.search_refusal_of firsts.begun_search_of firsts.search_record_of answers.graded_of answers.taken_gradient_of
    starts.search_of neldermead.ordered_of neldermead.build_of neldermead.settled_of neldermead.built_of neldermead.told_of neldermead.start_of
jobs_computed =
    record {
      differences_starts = tt;
      differences_given = (word two, (word one, tt));
      differences_run_lem = refl;
      search_starts = tt;
      search_given = (word zero, (word zero, tt));
      search_run = refl;
      infinite_given = (word infinity, (word infinity, (word one, tt)));
      infinite_run = refl;
    }
