-- The strong Wolfe search in direct style: `strong_wolfe` of linesearch.rs, over lists of n coordinates. Nocedal and Wright, Numerical Optimization (2006), Algorithms 3.5 and
-- 3.6, whose lines stand as comments behind these numbers (phi is the objective along the line, a the step), and 01's choices, each named where it is made. Definitions only.
use Prim.Native.Nat.{ℕ, zero, suc, ◌-◌}
use Rattle.std.specs.Prelude.{Bool, true, false, ◌&&◌, ◌||◌, List, map, eqb, length, Float}
use Rattle.std.proofs.Math.Bool.{not, cond}
use Rattle.std.proofs.Math.Option.{Option, none, some}
use Rattle.std.specs.Float.{nan}
use Rattle.std.specs.Float.Ieee.{lt, le}
use Rattle.float.specs.Binary64.{◌⊖◌, ◌⊗◌, plus_zero}
use Rattle.float.specs.Values.{finite_of, positive_of, min_of}
use Rattle.vector.specs.Lists.{dot, plus_scaled, all_finite}
use Rattle.protocol.specs.declared.WolfeOptions.{WolfeOptions}
use Rattle.protocol.specs.declared.Refusal.{Refusal}
use Rattle.protocol.specs.Protocol.{read_of, refusal, no_refusal}
use Rattle.protocol.specs.Ask.{Ask, finish, ask_value, ◌>>=◌}
use Rattle.objective.specs.Algorithm.{eval_gradient}
use Rattle.linesearch_trials.specs.declared.Trial.{Trial}
use Rattle.linesearch_trials.specs.declared.Evaluation.{Evaluation}
use Rattle.linesearch_trials.specs.declared.Line.{Line}
use Rattle.linesearch_trials.specs.Cubic.{interpolate_of}
use Rattle.linesearch_trials.specs.Trials.{one, two, start_of, armijo_of, curvature_of, narrow_of}

-- `WolfeResult`: whether both conditions hold, the trial that is given, and how many were made
pub record WolfeResult : Type 0 where
  pub success : Bool
  pub at : Evaluation
  pub trials : ℕ

-- `gradients`: the objective gives them, or else differences do, whose values are read by `read`: in a fit as +infinity where not finite, in a bare search as they are
module _ (read : Float → Float) (gradients : Bool) (o : WolfeOptions) (l : Line) where
  -- x0 + a d
  abbrev pub point_at : Float → List Float
  point_at a = plus_scaled l.x a l.d

  abbrev pub evaluated : Float → Float → List Float → Float → Evaluation
  evaluated a v g slope = record { trial = record { step = a; value = v; slope = slope }; x = point_at a; g = g }

  -- `eval`: phi(a) and phi'(a). A value that is not finite is +infinity, and its gradient is not asked for.
  abbrev pub eval : Float → Ask Evaluation
  eval a =
      ask_value read_of (point_at a) >>= λ v.
      cond (finite_of v) (eval_gradient read gradients (point_at a) >>= λ g. finish (evaluated a v g (dot g l.d))) (finish (evaluated a v (map (λ y. nan) (point_at a)) nan))

  -- fv.is_finite() && best.is_none_or(|b| fv < b.f): the best finite trial, first on ties
  abbrev pub lower : Evaluation → Option Evaluation → Bool
  lower t none = true
  lower t (some b) = lt t.trial.value b.trial.value

  abbrev pub keep : Evaluation → Option Evaluation → Option Evaluation
  keep t best = cond (finite_of t.trial.value) (cond (lower t best) (some t) best) best

  abbrev pub start : Evaluation
  start = record { trial = start_of l; x = l.x; g = l.g }

  -- 01: "the best finite trial below f0, first on ties, else step 0 and the start"
  abbrev pub best_or_start : Option Evaluation → Evaluation
  best_or_start none = start
  best_or_start (some b) = cond (lt b.trial.value l.f) b start

  -- `take_failure`, with k trials left
  abbrev pub failure : ℕ → Option Evaluation → Ask WolfeResult
  failure k best = finish (record { success = false; at = best_or_start best; trials = o.evals - k })

  abbrev pub success : ℕ → Evaluation → Ask WolfeResult
  success k t = finish (record { success = true; at = t; trials = o.evals - k })

  -- ---- Algorithm 3.6 (zoom), with k trials left

  -- 01: zoom fails "when the trial count reaches max_evals; .. then also if width <= 1e-14 × max(|lo|, |hi|, 1)"
  unfoldable pub zoom : ℕ → Trial → Trial → Option Evaluation → Ask WolfeResult
  zoom zero lo hi best = failure 0 best
  zoom (suc k) lo hi best =
      cond (narrow_of lo hi) (failure (suc k) best)
      -- 3.6: interpolate .. to find a trial step length a between a_lo and a_hi; evaluate phi(a);
      (eval (interpolate_of lo hi) >>= λ t.
      -- 3.6: if phi(a) > phi(0) + c1 a phi'(0) or phi(a) >= phi(a_lo): a_hi <- a;
      cond (not (armijo_of o l t.trial) || le lo.value t.trial.value) (zoom k lo t.trial (keep t best))
      -- 3.6: else evaluate phi'(a); if |phi'(a)| <= -c2 phi'(0): set a* <- a and stop;
      (cond (curvature_of o l t.trial) (success k t)
      -- 01: "A trial that meets Armijo with a slope not finite: .. in zoom it is the high end."
      (cond (not (finite_of t.trial.slope)) (zoom k lo t.trial (keep t best))
      -- 3.6: if phi'(a)(a_hi - a_lo) >= 0: a_hi <- a_lo; a_lo <- a;
      (cond (le plus_zero (t.trial.slope ⊗ (hi.step ⊖ lo.step))) (zoom k t.trial lo (keep t best)) (zoom k t.trial hi (keep t best))))))

  -- ---- Algorithm 3.5 (line search), with k trials left

  -- a_{i-1}: the trial before, or step 0
  abbrev pub before : Option Trial → Trial
  before none = start_of l
  before (some p) = p

  -- 3.5: phi(a_i) >= phi(a_{i-1}) and i > 1
  abbrev pub risen : Option Trial → Trial → Bool
  risen none t = false
  risen (some p) t = le p.value t.value

  unfoldable pub bracket : ℕ → Float → Option Trial → Option Evaluation → Ask WolfeResult
  unfolding zoom
  bracket zero a prev best = failure 0 best
  bracket (suc k) a prev best =
      -- 3.5: evaluate phi(a_i);
      eval a >>= λ t.
      -- 3.5: if phi(a_i) > phi(0) + c1 a_i phi'(0) or [phi(a_i) >= phi(a_{i-1}) and i > 1]: a* <- zoom(a_{i-1}, a_i) and stop;
      cond (not (armijo_of o l t.trial) || risen prev t.trial) (zoom k (before prev) t.trial (keep t best))
      -- 3.5: evaluate phi'(a_i); if |phi'(a_i)| <= -c2 phi'(0): set a* <- a_i and stop;
      (cond (curvature_of o l t.trial) (success k t)
      -- 3.5: if phi'(a_i) >= 0: set a* <- zoom(a_i, a_{i-1}) and stop; 01: with a slope not finite too "it is the low end and the previous point the high end"
      (cond (not (finite_of t.trial.slope) || le plus_zero t.trial.slope) (zoom k t.trial (before prev) (keep t best))
      -- 01: "at step_max, still descending, the search fails"
      (cond (le o.stepmax a) (failure k (keep t best))
      -- 3.5: choose a_{i+1} in (a_i, a_max); i <- i + 1; 01: the step "doubles up to step_max"
      (bracket k (min_of (two ⊗ a) o.stepmax) (some t.trial) (keep t best)))))

  -- 3.5: set a_0 <- 0, choose a_max > 0 and a_1 in (0, a_max); i <- 1; 01: "the step starts at min(initial_step, step_max)"
  abbrev pub search : Float → Ask WolfeResult
  search initial = bracket o.evals (min_of initial o.stepmax) none none

-- ---- `strong_wolfe` whole: its tests in order, by 01's numbers and details, then the search

unfoldable pub wolfe_refusal : WolfeOptions → List Float → List Float → Float → List Float → Float → Refusal
wolfe_refusal o x d f g step =
    cond (not (lt plus_zero o.c1 && lt o.c1 one)) (refusal 5 1)
    (cond (not (lt o.c1 o.c2 && lt o.c2 one)) (refusal 5 2)
    (cond (eqb o.evals 0) (refusal 6 0)
    (cond (not (positive_of o.stepmax)) (refusal 7 0)
    (cond (eqb (length x) 0) (refusal 9 0)
    (cond (not (eqb (length d) (length x))) (refusal 10 0)
    (cond (not (eqb (length g) (length x))) (refusal 11 0)
    (cond (not (all_finite x)) (refusal 12 1)
    (cond (not (all_finite d)) (refusal 12 2)
    (cond (not (all_finite g)) (refusal 12 3)
    (cond (not (finite_of f)) (refusal 12 4)
    (cond (not (positive_of step)) (refusal 13 0)
    -- 01: "a NaN or -infinity slope is not refused"
    (cond (le plus_zero (dot g d)) (refusal 14 0) no_refusal))))))))))))

pub data Searched : Type 0 where
  refuses : Refusal → Searched
  gives : WolfeResult → Searched

abbrev pub line_from : List Float → List Float → Float → List Float → Line
line_from x d f g = record { x = x; g = g; d = d; f = f; slope = dot g d }

-- strong_wolfe(f, x0, d, f0, g0, initial_step, opts)
unfoldable pub strong_wolfe : (Float → Float) → Bool → WolfeOptions → List Float → List Float → Float → List Float → Float → Ask Searched
unfolding wolfe_refusal
strong_wolfe read gradients o x d f g step =
    let why = wolfe_refusal o x d f g step in
    cond (eqb why.number 0) (search read gradients o (line_from x d f g) step >>= λ r. finish (gives r)) (finish (refuses why))
