-- A record as the arrays that its caller holds and lends to each call: `record_of` is the record that they are, `lists_of` the one form of a record, `formed_of` whether their flags are known
-- marks. The engine's definitions and theorems speak of records, and of lists through these. Definitions only.
use Rattle.std.specs.Prelude.{ℕ, Bool, true, not, ◌&&◌, cond, List, [], ◌∷◌, map, eqb, leb, get_or, drop, Float}
use Rattle.vector.specs.Loops.{at}
use Rattle.protocol.specs.declared.SimplexOptions.{SimplexOptions}
use Rattle.protocol.specs.declared.GradientOptions.{GradientOptions}
use Rattle.objective.specs.declared.Differences.{Differences}
use Rattle.linesearch_trials.specs.declared.Line.{Line}
use Rattle.linesearch_trials.specs.declared.Trial.{Trial}
use Rattle.linesearch_trials.specs.declared.Evaluation.{Evaluation}
use Rattle.linesearch_moves.specs.declared.Search.{Search}
use Rattle.quasinewton_limited.specs.declared.Pair.{Pair}
use Rattle.quasinewton_model.specs.declared.Model.{Model}
use Rattle.quasinewton_record.specs.declared.Descent.{Descent}
use Rattle.neldermead_vertices.specs.declared.Vertex.{Vertex}
use Rattle.neldermead.specs.declared.Simplex.{Simplex}
use Rattle.optim_record.specs.declared.Record.{Record}
use Rattle.optim_lists.specs.Layout as place

-- the arrays, in the order of the layout's table
pub record Lists : Type 0 where
  pub marks : List ℕ
  pub numbers : List Float
  pub diff_x : List Float
  pub diff_g : List Float
  pub simplex_x : List Float
  pub best_x : List Float
  pub centroid : List Float
  pub reflected_x : List Float
  pub points : List (List Float)
  pub values : List Float
  pub line_x : List Float
  pub line_g : List Float
  pub line_d : List Float
  pub trial_x : List Float
  pub trial_g : List Float
  pub search_diff_x : List Float
  pub search_diff_g : List Float
  pub first_diff_x : List Float
  pub first_diff_g : List Float
  pub hessian : List Float
  pub steps : List (List Float)
  pub changes : List (List Float)
  pub factors : List Float

-- the arrays as a call is lent them
abbrev pub lists : List ℕ → List Float → List Float → List Float → List Float → List Float → List Float → List Float → List (List Float) → List Float → List Float → List Float → List Float → List Float → List Float → List Float → List Float → List Float → List Float → List Float → List (List Float) → List (List Float) → List Float → Lists
lists marks numbers diff_x diff_g simplex_x best_x centroid reflected_x points values line_x line_g line_d trial_x trial_g search_diff_x search_diff_g first_diff_x first_diff_g hessian steps changes factors =
    record {
      marks = marks;
      numbers = numbers;
      diff_x = diff_x;
      diff_g = diff_g;
      simplex_x = simplex_x;
      best_x = best_x;
      centroid = centroid;
      reflected_x = reflected_x;
      points = points;
      values = values;
      line_x = line_x;
      line_g = line_g;
      line_d = line_d;
      trial_x = trial_x;
      trial_g = trial_g;
      search_diff_x = search_diff_x;
      search_diff_g = search_diff_g;
      first_diff_x = first_diff_x;
      first_diff_g = first_diff_g;
      hessian = hessian;
      steps = steps;
      changes = changes;
      factors = factors;
    }

-- ---- the record that lists are

abbrev pub mark : List ℕ → ℕ → ℕ
mark ms i = get_or ms i 0

abbrev pub flag : List ℕ → ℕ → Bool
flag ms i = not (eqb (mark ms i) 0)

-- the vertex and the pair of one place
abbrev pub vertex_of : List (List Float) → List Float → ℕ → Vertex
vertex_of xs fs i = record { x = get_or xs i []; f = at fs i }

abbrev pub pair_of : List (List Float) → List (List Float) → List Float → ℕ → Pair
pair_of ss ys rs i = record { s = get_or ss i []; y = get_or ys i []; rho = at rs i }

-- "each with its sixteen coordinates .. and its value": point and value of one place are a vertex
unfoldable pub vertices_from : List (List Float) → List Float → List Vertex
vertices_from [] fs = []
vertices_from (x ∷ xs) [] = []
vertices_from (x ∷ xs) (f ∷ fs) = record { x = x; f = f } ∷ vertices_from xs fs

-- step, change and factor of one place are a pair
unfoldable pub pairs_from : List (List Float) → List (List Float) → List Float → List Pair
pairs_from [] ys rs = []
pairs_from (s ∷ ss) [] rs = []
pairs_from (s ∷ ss) (y ∷ ys) [] = []
pairs_from (s ∷ ss) (y ∷ ys) (r ∷ rs) = record { s = s; y = y; rho = r } ∷ pairs_from ss ys rs

-- each part, from the marks, the numbers and its own arrays
abbrev pub options_from : List ℕ → List Float → SimplexOptions
options_from ms ws =
    record {
      xtol = at ws place.simplex_xtol;
      ftol = at ws place.simplex_ftol;
      step = at ws place.simplex_step;
      restarts = mark ms place.restarts;
      adaptive = flag ms place.adaptive;
    }

abbrev pub gradient_options_from : List ℕ → List Float → GradientOptions
gradient_options_from ms ws =
    record {
      gradtol = at ws place.gradtol;
      ftol = at ws place.ftol;
      xtol = at ws place.xtol;
      wolfe = record { c1 = at ws place.c1; c2 = at ws place.c2; stepmax = at ws place.stepmax; evals = mark ms place.max_evals };
      memory = mark ms place.memory;
      gradients = flag ms place.gradients;
    }

abbrev pub differences_from : List ℕ → List Float → List Float → List Float → Differences
differences_from ms ws x g = record { at = mark ms place.diff_at; forward = flag ms place.forward; value = at ws place.diff_value; x = x; g = g }

abbrev pub simplex_from : List ℕ → List Float → List Float → List Float → List Float → List Float → List Vertex → Simplex
simplex_from ms ws x best cen reflected v =
    record {
      phase = mark ms place.simplex_phase;
      at = mark ms place.simplex_at;
      rounds = mark ms place.simplex_rounds;
      runs = mark ms place.runs;
      x = x;
      best = record { x = best; f = at ws place.best_f };
      cen = cen;
      refl = record { x = reflected; f = at ws place.reflected_f };
      v = v;
    }

abbrev pub line_from : List Float → List Float → List Float → List Float → Line
line_from ws x g d = record { x = x; g = g; d = d; f = at ws place.line_f; slope = at ws place.line_slope }

-- the ends of a search's interval, and the best trial with its point and gradient
abbrev pub low_from : List Float → Trial
low_from ws = record { step = at ws place.lo_step; value = at ws place.lo_value; slope = at ws place.lo_slope }

abbrev pub high_from : List Float → Trial
high_from ws = record { step = at ws place.hi_step; value = at ws place.hi_value; slope = at ws place.hi_slope }

abbrev pub best_from : List Float → List Float → List Float → Evaluation
best_from ws x g = record { trial = record { step = at ws place.best_step; value = at ws place.best_value; slope = at ws place.best_slope }; x = x; g = g }

abbrev pub search_differences_from : List ℕ → List Float → List Float → List Float → Differences
search_differences_from ms ws x g = record { at = mark ms place.search_diff_at; forward = flag ms place.search_forward; value = at ws place.search_diff_value; x = x; g = g }

abbrev pub search_from : List ℕ → List Float → Trial → Trial → Evaluation → Differences → Search
search_from ms ws lo hi best diff =
    record {
      phase = mark ms place.search_phase;
      zooming = flag ms place.zooming;
      trials = mark ms place.trials;
      previous = flag ms place.previous;
      lo = lo;
      hi = hi;
      step = at ws place.trial_step;
      value = at ws place.trial_value;
      kept = flag ms place.kept;
      best = best;
      diff = diff;
    }

abbrev pub first_differences_from : List ℕ → List Float → List Float → List Float → Differences
first_differences_from ms ws x g = record { at = mark ms place.first_diff_at; forward = flag ms place.first_forward; value = at ws place.first_diff_value; x = x; g = g }

abbrev pub descent_from : List ℕ → Line → Search → Differences → Descent
descent_from ms line search diff =
    record {
      phase = mark ms place.descent_phase;
      number = mark ms place.refusal_number;
      detail = mark ms place.refusal_detail;
      first = flag ms place.first;
      rounds = mark ms place.descent_rounds;
      line = line;
      search = search;
      diff = diff;
    }

abbrev pub model_from : List ℕ → List Float → List Float → List Pair → Model
model_from ms ws h p =
    record {
      limited = flag ms place.limited;
      memory = mark ms place.model_memory;
      dense = record { fresh = flag ms place.fresh; h = h };
      pairs = record { count = mark ms place.pair_count; gamma = at ws place.gamma; pairs = p };
    }

-- and from all of them
abbrev pub differences_in : Lists → Differences
differences_in l = differences_from l.marks l.numbers l.diff_x l.diff_g

abbrev pub simplex_in : Lists → Simplex
simplex_in l = simplex_from l.marks l.numbers l.simplex_x l.best_x l.centroid l.reflected_x (vertices_from l.points l.values)

abbrev pub line_in : Lists → Line
line_in l = line_from l.numbers l.line_x l.line_g l.line_d

abbrev pub best_in : Lists → Evaluation
best_in l = best_from l.numbers l.trial_x l.trial_g

abbrev pub search_differences_in : Lists → Differences
search_differences_in l = search_differences_from l.marks l.numbers l.search_diff_x l.search_diff_g

abbrev pub search_in : Lists → Search
search_in l = search_from l.marks l.numbers (low_from l.numbers) (high_from l.numbers) (best_in l) (search_differences_in l)

abbrev pub first_differences_in : Lists → Differences
first_differences_in l = first_differences_from l.marks l.numbers l.first_diff_x l.first_diff_g

abbrev pub descent_in : Lists → Descent
descent_in l = descent_from l.marks (line_in l) (search_in l) (first_differences_in l)

abbrev pub model_in : Lists → Model
model_in l = model_from l.marks l.numbers l.hessian (pairs_from l.steps l.changes l.factors)

unfoldable pub record_of : Lists → Record
record_of l =
    let ms = l.marks in
    record {
      accepted = mark ms place.accepted;
      job = mark ms place.job;
      n = mark ms place.n;
      counts = record { fevals = mark ms place.fevals; gevals = mark ms place.gevals };
      limits = record { iter = mark ms place.iter_limit; fevals = mark ms place.fevals_limit };
      options = options_from ms l.numbers;
      gradient = gradient_options_from ms l.numbers;
      diff = differences_in l;
      simplex = simplex_in l;
      descent = descent_in l;
      model = model_in l;
    }

-- ---- the one form of a record

abbrev pub flag_of : Bool → ℕ
flag_of b = cond b 1 0

-- in the order of the places
unfoldable pub marks_of : Record → List ℕ
marks_of r =
    r.accepted ∷ r.job ∷ r.n ∷ r.counts.fevals ∷ r.counts.gevals
    ∷ r.limits.iter ∷ r.limits.fevals ∷ r.options.restarts ∷ r.gradient.wolfe.evals ∷ r.gradient.memory
    ∷ r.diff.at
    ∷ r.simplex.phase ∷ r.simplex.at ∷ r.simplex.rounds ∷ r.simplex.runs
    ∷ r.descent.phase ∷ r.descent.number ∷ r.descent.detail ∷ r.descent.rounds
    ∷ r.descent.search.phase ∷ r.descent.search.trials ∷ r.descent.search.diff.at ∷ r.descent.diff.at
    ∷ r.model.memory ∷ r.model.pairs.count
    ∷ flag_of r.options.adaptive ∷ flag_of r.gradient.gradients
    ∷ flag_of r.diff.forward
    ∷ flag_of r.descent.first ∷ flag_of r.descent.search.zooming ∷ flag_of r.descent.search.previous ∷ flag_of r.descent.search.kept
    ∷ flag_of r.descent.search.diff.forward ∷ flag_of r.descent.diff.forward
    ∷ flag_of r.model.limited ∷ flag_of r.model.dense.fresh
    ∷ []

unfoldable pub numbers_of : Record → List Float
numbers_of r =
    r.options.xtol ∷ r.options.ftol ∷ r.options.step
    ∷ r.gradient.gradtol ∷ r.gradient.ftol ∷ r.gradient.xtol ∷ r.gradient.wolfe.c1 ∷ r.gradient.wolfe.c2 ∷ r.gradient.wolfe.stepmax
    ∷ r.diff.value
    ∷ r.simplex.best.f ∷ r.simplex.refl.f
    ∷ r.descent.line.f ∷ r.descent.line.slope
    ∷ r.descent.search.lo.step ∷ r.descent.search.lo.value ∷ r.descent.search.lo.slope
    ∷ r.descent.search.hi.step ∷ r.descent.search.hi.value ∷ r.descent.search.hi.slope
    ∷ r.descent.search.step ∷ r.descent.search.value
    ∷ r.descent.search.best.trial.step ∷ r.descent.search.best.trial.value ∷ r.descent.search.best.trial.slope
    ∷ r.descent.search.diff.value ∷ r.descent.diff.value
    ∷ r.model.pairs.gamma
    ∷ []

abbrev pub points_of : List Vertex → List (List Float)
points_of v = map (λ (a : Vertex). a.x) v

abbrev pub values_of : List Vertex → List Float
values_of v = map (λ (a : Vertex). a.f) v

abbrev pub steps_of : List Pair → List (List Float)
steps_of p = map (λ (a : Pair). a.s) p

abbrev pub changes_of : List Pair → List (List Float)
changes_of p = map (λ (a : Pair). a.y) p

abbrev pub factors_of : List Pair → List Float
factors_of p = map (λ (a : Pair). a.rho) p

unfoldable pub lists_of : Record → Lists
lists_of r =
    record {
      marks = marks_of r;
      numbers = numbers_of r;
      diff_x = r.diff.x;
      diff_g = r.diff.g;
      simplex_x = r.simplex.x;
      best_x = r.simplex.best.x;
      centroid = r.simplex.cen;
      reflected_x = r.simplex.refl.x;
      points = points_of r.simplex.v;
      values = values_of r.simplex.v;
      line_x = r.descent.line.x;
      line_g = r.descent.line.g;
      line_d = r.descent.line.d;
      trial_x = r.descent.search.best.x;
      trial_g = r.descent.search.best.g;
      search_diff_x = r.descent.search.diff.x;
      search_diff_g = r.descent.search.diff.g;
      first_diff_x = r.descent.diff.x;
      first_diff_g = r.descent.diff.g;
      hessian = r.model.dense.h;
      steps = steps_of r.model.pairs.pairs;
      changes = changes_of r.model.pairs.pairs;
      factors = factors_of r.model.pairs.pairs;
    }

-- ---- the flags

-- whether every mark of a list is 0 or 1
abbrev pub flags_only : List ℕ → Bool
flags_only [] = true
flags_only (k ∷ ks) = leb k 1 && flags_only ks

-- 1: "an unknown mark". A flag whose mark is neither 0 nor 1 is one, in any part: it is looked at before a Bool is read of it.
unfoldable pub formed_of : Lists → Bool
formed_of l = flags_only (drop place.flags l.marks)
