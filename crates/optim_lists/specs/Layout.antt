-- Where each part of a record lies in the arrays that a caller lends: the place of every mark and of every single number, by name. Every place is read by one field, and every field
-- from one place: none is spare (`record_back`, `lists_back`). Definitions only.
--
-- | array | in the code | type | holds | jobs |
-- |---|---|---|---|---|
-- | marks | m | [u64; 36] | counts, phases and positions, then the flags, each 0 or 1: by the names below | all |
-- | numbers | w | [f64; 28] | what is a single f64: by the names below | all |
-- | diff_x, diff_g | dx, dg | [f64; 16] | the point of bare differences, and their gradient | differences |
-- | simplex_x | sx | [f64; 16] | the point asked for | simplex |
-- | best_x | best | [f64; 16] | the best point of all runs | simplex |
-- | centroid, reflected_x | centroid, reflected | [f64; 16] | the centroid, the reflected point | simplex |
-- | points, values | points, values | [[f64; 16]; 17], [f64; 17] | the vertices, and the value at each | simplex |
-- | line_x, line_g, line_d | lx, lg, ld | [f64; 16] | the point that a search starts from, its gradient, the direction | search, bfgs, lbfgs |
-- | trial_x, trial_g | tx, tg | [f64; 16] | the best trial's point and gradient | search, bfgs, lbfgs |
-- | search_diff_x, search_diff_g | ex, eg | [f64; 16] | the differences at a trial | search, bfgs, lbfgs |
-- | first_diff_x, first_diff_g | ix, ig | [f64; 16] | the differences at x0 | bfgs, lbfgs |
-- | hessian | h | [f64; 256] | the inverse Hessian, row by row | bfgs |
-- | steps, changes, factors | steps, changes, factors | [[f64; 16]; 16] twice, [f64; 16] | s, y and rho of each pair, oldest first | lbfgs |
use Rattle.std.specs.Prelude.{ℕ}

-- ---- marks

-- all jobs: the number last accepted, the job, the count of coordinates, the answers accepted of each kind
abbrev pub accepted : ℕ
accepted = 0

abbrev pub job : ℕ
job = 1

abbrev pub n : ℕ
n = 2

abbrev pub fevals : ℕ
fevals = 3

abbrev pub gevals : ℕ
gevals = 4

-- what a fit's start fixed: max_iter and max_fevals, restarts, max_evals, memory
abbrev pub iter_limit : ℕ
iter_limit = 5

abbrev pub fevals_limit : ℕ
fevals_limit = 6

abbrev pub restarts : ℕ
restarts = 7

abbrev pub max_evals : ℕ
max_evals = 8

abbrev pub memory : ℕ
memory = 9

-- differences: coordinates done
abbrev pub diff_at : ℕ
diff_at = 10

-- simplex: what the open question is for, the vertex that it is for, rounds and runs done
abbrev pub simplex_phase : ℕ
simplex_phase = 11

abbrev pub simplex_at : ℕ
simplex_at = 12

abbrev pub simplex_rounds : ℕ
simplex_rounds = 13

abbrev pub runs : ℕ
runs = 14

-- a gradient fit: what the open question is for or how it ended, the refusal that ended it, rounds done
abbrev pub descent_phase : ℕ
descent_phase = 15

abbrev pub refusal_number : ℕ
refusal_number = 16

abbrev pub refusal_detail : ℕ
refusal_detail = 17

abbrev pub descent_rounds : ℕ
descent_rounds = 18

-- its search, or a bare one: what the open question is for or how it ended, trials made; coordinates done of its differences, and of those at x0
abbrev pub search_phase : ℕ
search_phase = 19

abbrev pub trials : ℕ
trials = 20

abbrev pub search_diff_at : ℕ
search_diff_at = 21

abbrev pub first_diff_at : ℕ
first_diff_at = 22

-- the model: how many pairs it may hold, and holds
abbrev pub model_memory : ℕ
model_memory = 23

abbrev pub pair_count : ℕ
pair_count = 24

-- the flags stand last
abbrev pub flags : ℕ
flags = 25

-- options: adaptive; whether the objective gives gradients
abbrev pub adaptive : ℕ
adaptive = 25

abbrev pub gradients : ℕ
gradients = 26

-- bare differences: whether x+h has been told
abbrev pub forward : ℕ
forward = 27

-- whether no step has been made; of the search, whether it zooms, has a trial before the one in hand, keeps a best one
abbrev pub first : ℕ
first = 28

abbrev pub zooming : ℕ
zooming = 29

abbrev pub previous : ℕ
previous = 30

abbrev pub kept : ℕ
kept = 31

-- whether x+h has been told in the differences at a trial, and in those at x0
abbrev pub search_forward : ℕ
search_forward = 32

abbrev pub first_forward : ℕ
first_forward = 33

-- the model: whether it is of limited memory, whether the dense one has had no update
abbrev pub limited : ℕ
limited = 34

abbrev pub fresh : ℕ
fresh = 35

abbrev pub mark_count : ℕ
mark_count = 36

-- ---- numbers

-- simplex options: x_tol, f_tol, initial_step
abbrev pub simplex_xtol : ℕ
simplex_xtol = 0

abbrev pub simplex_ftol : ℕ
simplex_ftol = 1

abbrev pub simplex_step : ℕ
simplex_step = 2

-- gradient options: grad_tol, f_tol, x_tol, c1, c2, step_max
abbrev pub gradtol : ℕ
gradtol = 3

abbrev pub ftol : ℕ
ftol = 4

abbrev pub xtol : ℕ
xtol = 5

abbrev pub c1 : ℕ
c1 = 6

abbrev pub c2 : ℕ
c2 = 7

abbrev pub stepmax : ℕ
stepmax = 8

-- differences: the value at x+h
abbrev pub diff_value : ℕ
diff_value = 9

-- simplex: the values at the best point and at the reflected one
abbrev pub best_f : ℕ
best_f = 10

abbrev pub reflected_f : ℕ
reflected_f = 11

-- the line: its value and slope at the start
abbrev pub line_f : ℕ
line_f = 12

abbrev pub line_slope : ℕ
line_slope = 13

-- the search: its low and high ends, the trial in hand, the best one
abbrev pub lo_step : ℕ
lo_step = 14

abbrev pub lo_value : ℕ
lo_value = 15

abbrev pub lo_slope : ℕ
lo_slope = 16

abbrev pub hi_step : ℕ
hi_step = 17

abbrev pub hi_value : ℕ
hi_value = 18

abbrev pub hi_slope : ℕ
hi_slope = 19

abbrev pub trial_step : ℕ
trial_step = 20

abbrev pub trial_value : ℕ
trial_value = 21

abbrev pub best_step : ℕ
best_step = 22

abbrev pub best_value : ℕ
best_value = 23

abbrev pub best_slope : ℕ
best_slope = 24

-- the values at x+h of the differences at a trial, and of those at x0
abbrev pub search_diff_value : ℕ
search_diff_value = 25

abbrev pub first_diff_value : ℕ
first_diff_value = 26

-- limited memory: gamma
abbrev pub gamma : ℕ
gamma = 27

abbrev pub number_count : ℕ
number_count = 28
