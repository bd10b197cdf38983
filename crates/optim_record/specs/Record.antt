-- The record: the blank one, what is in range (refusal 1), and a reply with its record in 01's words. Definitions only.
use Rattle.std.specs.Prelude.{ℕ, ◌+◌, ◌≤◌, ◌<◌, ◌≡◌, Bool, true, false, not, cond, leb, ltb, eqb, replicate}
use Rattle.float.specs.Binary64.{plus_zero}
use Rattle.protocol.specs.declared.SimplexOptions.{SimplexOptions}
use Rattle.protocol.specs.declared.WolfeOptions.{WolfeOptions}
use Rattle.protocol.specs.declared.GradientOptions.{GradientOptions}
use Rattle.protocol.specs.Protocol.{Reply, reply_of, simplex_mark, bfgs_mark, lbfgs_mark, search_mark, differences_mark}
use Rattle.objective.specs.Step.{begun_of}
use Rattle.linesearch_trials.specs.declared.Fixed as linesearch_fixed
use Rattle.linesearch.specs.Step.{failed}
use Rattle.quasinewton_model.specs.declared.Model.{Model}
use Rattle.quasinewton_model.specs.Step.{ModelInRange, blank_of as blank_model}
use Rattle.quasinewton_record.specs.declared.Descent.{Descent}
use Rattle.quasinewton_record.specs.declared.Fixed as quasinewton_fixed
use Rattle.quasinewton.specs.Step.{searching, by_refusal, idle_of as idle_descent}
use Rattle.neldermead_vertices.specs.declared.Vertex.{Vertex}
use Rattle.neldermead.specs.declared.Fixed.{Fixed}
use Rattle.neldermead.specs.declared.Simplex.{Simplex}
use Rattle.optim_record.specs.declared.Record.{Record}
use Rattle.optim_record.specs.declared.Answered.{Answered}

-- a reply in 01's words, and the record that comes back
unfoldable pub outcome_of : Answered → Reply × Record
unfolding reply_of
outcome_of a = (reply_of a.said a.next.n a.x a.g, a.next)

-- what an unused part of a record holds
abbrev pub no_options : SimplexOptions
no_options = record { xtol = plus_zero; ftol = plus_zero; step = plus_zero; restarts = 0; adaptive = false }

-- the options of a search, and of no job at all
unfoldable pub wolfe_options_of : WolfeOptions → Bool → GradientOptions
wolfe_options_of o gradients = record { gradtol = plus_zero; ftol = plus_zero; xtol = plus_zero; wolfe = o; memory = 0; gradients = gradients }

abbrev pub no_gradient_options : GradientOptions
no_gradient_options = wolfe_options_of (record { c1 = plus_zero; c2 = plus_zero; stepmax = plus_zero; evals = 0 }) false

abbrev pub no_vertex : Vertex
no_vertex = record { x = replicate 16 plus_zero; f = plus_zero }

unfoldable pub idle_of : Simplex
idle_of =
    record { phase = 0; at = 0; rounds = 0; runs = 0; x = replicate 16 plus_zero; best = no_vertex; cen = replicate 16 plus_zero; refl = no_vertex; v = replicate 17 no_vertex }

-- the record of a refused start
unfoldable pub blank_of : Record
unfolding begun_of idle_of idle_descent
blank_of =
    record {
      accepted = 0;
      job = 0;
      n = 0;
      counts = record { fevals = 0; gevals = 0 };
      limits = record { iter = 0; fevals = 0 };
      options = no_options;
      gradient = no_gradient_options;
      diff = begun_of (replicate 16 plus_zero);
      simplex = idle_of;
      descent = idle_descent;
      model = blank_model;
    }

-- "any count above 4·10^10"
abbrev pub most : ℕ
most = 40000000000

-- 2's limits, of allowances, of restarts and of max_evals
abbrev pub most_allowed : ℕ
most_allowed = 1000000

abbrev pub most_restarts : ℕ
most_restarts = 100

abbrev pub most_evals : ℕ
most_evals = 1000

-- an absent max_fevals of a gradient fit, as the Rust has it: usize::MAX
abbrev pub no_limit : ℕ
no_limit = 0xffff_ffff_ffff_ffff

-- the last phase of a simplex fit with an open question, and the last of all
abbrev pub last_asking : ℕ
last_asking = 6

abbrev pub last_phase : ℕ
last_phase = 11

-- what the start of a simplex fit fixed
abbrev pub fixed_of : Record → Fixed
fixed_of r = record { n = r.n; options = r.options; iter = r.limits.iter; fevals = r.limits.fevals }

-- what the start of a search fixed
abbrev pub search_fixed_of : Record → linesearch_fixed.Fixed
search_fixed_of r = record { n = r.n; gradients = r.gradient.gradients; options = r.gradient.wolfe }

-- what the start of a gradient fit fixed
abbrev pub gradient_fixed_of : Record → quasinewton_fixed.Fixed
gradient_fixed_of r = record { n = r.n; options = r.gradient; iter = r.limits.iter; fevals = r.limits.fevals }

unfoldable pub gradient_job_of : ℕ → Bool
gradient_job_of job = cond (eqb job bfgs_mark) true (eqb job lbfgs_mark)

-- of the simplex part: n 0, a position above n, an unknown mark, a count above 4·10^10, an option past 2's limits
unfoldable pub valid_simplex_of : Record → Bool
valid_simplex_of r =
    cond (eqb r.n 0) false
    (cond (ltb r.n r.simplex.at) false
    (cond (eqb r.simplex.phase 0) false
    (cond (ltb last_phase r.simplex.phase) false
    (cond (ltb most r.simplex.rounds) false
    (cond (ltb most r.simplex.runs) false
    (cond (ltb most_allowed r.limits.iter) false
    (cond (ltb most_allowed r.limits.fevals) false
    (leb r.options.restarts most_restarts))))))))

-- of the search part: an unknown mark, an option past 2's limits, a trial count above max_evals, a position above n
unfoldable pub valid_search_part_of : Record → Bool
valid_search_part_of r =
    cond (eqb r.descent.search.phase 0) false
    (cond (ltb failed r.descent.search.phase) false
    (cond (ltb most_evals r.gradient.wolfe.evals) false
    (cond (ltb r.gradient.wolfe.evals r.descent.search.trials) false
    (leb r.descent.search.diff.at r.n))))

-- of a bare search: n 0, and the one mark that its descent has
unfoldable pub valid_search_of : Record → Bool
valid_search_of r = cond (eqb r.n 0) false (cond (not (eqb r.descent.phase searching)) false (valid_search_part_of r))

-- the refusals that `strong_wolfe` makes, 18 and 19, each with its details: the marks of a gradient fit that a refusal ended
unfoldable pub known_refusal_of : ℕ → ℕ → Bool
known_refusal_of number detail =
    cond (eqb number 5) (cond (eqb detail 1) true (eqb detail 2))
    (cond (eqb number 12) (cond (eqb detail 0) false (leb detail 4))
    (cond (not (eqb detail 0)) false
    (cond (ltb number 6) false
    (cond (leb number 14) (not (eqb number 8))
    (cond (eqb number 18) true (eqb number 19))))))

unfoldable pub valid_ending_of : Descent → Bool
valid_ending_of d = cond (eqb d.phase by_refusal) (known_refusal_of d.number d.detail) true

-- of a gradient fit's options: 2's limits
unfoldable pub valid_options_of : Record → Bool
valid_options_of r =
    cond (ltb most_allowed r.limits.iter) false
    (cond (ltb 16 r.gradient.memory) false
    (cond (eqb r.limits.fevals no_limit) true (leb r.limits.fevals most_allowed)))

-- "more pairs than memory"
unfoldable pub valid_model_of : Model → Bool
valid_model_of m = cond (ltb 16 m.memory) false (leb m.pairs.count m.memory)

-- of a gradient fit: n 0, an unknown mark, a count above 4·10^10, a position above n, and its options, model and search
unfoldable pub valid_descent_of : Record → Bool
valid_descent_of r =
    cond (eqb r.n 0) false
    (cond (eqb r.descent.phase 0) false
    (cond (ltb by_refusal r.descent.phase) false
    (cond (not (valid_ending_of r.descent)) false
    (cond (ltb most r.descent.rounds) false
    (cond (ltb r.n r.descent.diff.at) false
    (cond (not (valid_options_of r)) false
    (cond (not (valid_model_of r.model)) false (valid_search_part_of r))))))))

-- of the part that the job uses
unfoldable pub valid_part_of : Record → Bool
valid_part_of r =
    cond (eqb r.job simplex_mark) (valid_simplex_of r)
    (cond (eqb r.job search_mark) (valid_search_of r)
    (cond (gradient_job_of r.job) (valid_descent_of r)
    (cond (eqb r.job differences_mark) (leb r.diff.at r.n) false)))

-- Refusal 1, for the parts that are there: "The record has n above 16 (or 0, other than for differences), a position above n, .. an option past 2's limits, an unknown mark
-- or any count above 4·10^10." A part that the job does not use is not looked at, but memory and pairs of bfgs are.
unfoldable pub valid_of : Record → Bool
unfolding valid_simplex_of valid_search_of valid_descent_of
valid_of r =
    cond (ltb 16 r.n) false
    (cond (ltb most r.accepted) false
    (cond (ltb most r.counts.fevals) false
    (cond (ltb most r.counts.gevals) false (valid_part_of r))))

-- differences: none of the jobs that are asked for first
pub record Other (r : Record) : Type 0 where
  pub simplex : r.job ≡ simplex_mark → ⊥
  pub search : r.job ≡ search_mark → ⊥
  pub gradient : gradient_job_of r.job ≡ false

-- what the numbers of a valid record keep to
pub record Ranges (r : Record) : Type 0 where
  pub few : r.n ≤ 16
  pub numbers : r.accepted ≤ most
  pub values : r.counts.fevals ≤ most
  pub gradients : r.counts.gevals ≤ most
  pub some : r.job ≡ simplex_mark → 0 < r.n
  pub vertex : r.job ≡ simplex_mark → r.simplex.at ≤ r.n
  pub model : gradient_job_of r.job ≡ true → ModelInRange r.model
  pub coordinate : Other r → r.diff.at ≤ r.n

-- a question stands open, so that differences have a coordinate to come
pub record Open (r : Record) : Type 0 where
  pub next : Other r → r.diff.at < r.n

-- what the reply that stands asks of a record: the number of its question may be one above the counts' bound
pub record Stands (r : Record) : Type 0 where
  pub few : r.n ≤ 16
  pub numbers : r.accepted ≤ most + 1
  pub coordinate : Other r → r.diff.at ≤ r.n
