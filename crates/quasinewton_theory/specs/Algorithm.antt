-- The gradient fits bfgs and lbfgs in direct style: `quasi_newton_drive` of quasinewton.rs, over lists of n coordinates. Nocedal and Wright (2006), Algorithms 6.1 and 7.5. The
-- Rust's lines stand as comments, `..` for what is left out of them. Definitions only.
use Rattle.std.specs.Prelude.{ℕ, suc, Bool, true, false, not, ◌&&◌, ◌||◌, cond, List, eqb, length, Float}
use Rattle.std.specs.Float.Ieee.{neg, lt, le}
use Rattle.float.specs.Binary64.{◌⊖◌, ◌⊗◌, ◌⊘◌, bits, plus_zero}
use Rattle.float.specs.Values.{abs_of, finite_of, tolerance_of, max_of, min_of}
use Rattle.vector.specs.Lists.{dot, inf_norm, all_finite, difference, negation}
use Rattle.protocol.specs.declared.GradientOptions.{GradientOptions}
use Rattle.protocol.specs.declared.Termination.{Termination}
use Rattle.protocol.specs.declared.Termination.TheVariants.{GradientTolerance, StepTolerance, FunctionTolerance, LineSearchFailed, GradientFailed}
use Rattle.protocol.specs.Protocol.{read_of}
use Rattle.protocol.specs.Ask.{Ask, finish, ask_value, ◌>>=◌}
use Rattle.protocol.specs.Rounds.{Ending, at_head, stops, fails, Verdict, go_on, stop, Rounds}
use Rattle.objective.specs.Algorithm.{eval_gradient}
use Rattle.quasinewton_model_theory.specs.Algorithm.{one, InvHessian, new_hessian, direction, update}
use Rattle.linesearch_trials.specs.declared.Evaluation.{Evaluation}
use Rattle.linesearch_theory.specs.Algorithm.{Searched, refuses, gives, strong_wolfe}

-- ---- the head of a round

pub record GradientPosition : Type 0 where
  pub options : GradientOptions
  pub x : List Float
  -- fx
  pub f : Float
  pub g : List Float
  pub hess : InvHessian
  pub iterations : ℕ
  -- first_step
  pub first : Bool

-- x = res.x; fx = res.f
abbrev pub moved_to : GradientPosition → Evaluation → GradientPosition
moved_to p t = record { options = p.options; x = t.x; f = t.trial.value; g = p.g; hess = p.hess; iterations = p.iterations; first = p.first }

-- ---- after a line search

-- if sy > 1e-12 * inf_norm(&s) * inf_norm(&y) { hess.update(&s, &y); } Nocedal and Wright, section 6.1: no update where rounding voids sy > 0
unfoldable pub stored : InvHessian → List Float → List Float → InvHessian
stored h s y = cond (lt (bits 0x3d71_9799_812d_ea11 ⊗ inf_norm s ⊗ inf_norm y) (dot s y)) (update h s y) h

-- s is res.x less x, y is res.g less g; .. first_step = false; .. x = res.x; fx = res.f; g = res.g;
unfoldable pub stepped : GradientPosition → Evaluation → GradientPosition
unfolding stored
stepped p t =
    let s = difference t.x p.x in
    let y = difference t.g p.g in
    record { options = p.options; x = t.x; f = t.trial.value; g = t.g; hess = stored p.hess s y; iterations = p.iterations; first = false }

-- f_tol > 0.0 && f_prev - fx <= f_tol * fx.abs().max(1.0)
unfoldable pub small_decrease : Float → Float → Float → Bool
small_decrease ftol before now = lt plus_zero ftol && le (before ⊖ now) (ftol ⊗ max_of (abs_of now) one)

-- x_tol > 0.0 && inf_norm(&s) <= x_tol * inf_norm(&x).max(1.0)
unfoldable pub small_step : Float → List Float → List Float → Bool
small_step xtol before now = lt plus_zero xtol && le (inf_norm (difference now before)) (xtol ⊗ max_of (inf_norm now) one)

-- "keep any improvement, then stop"
abbrev pub stops_lower : Termination → GradientPosition → Evaluation → Bool → Ending GradientPosition
stops_lower why p t lower = cond lower (stops why (moved_to p t)) (stops why p)

abbrev pub succeeded : GradientPosition → Evaluation → Ending GradientPosition
succeeded p t =
    cond (not (all_finite t.g)) (stops_lower GradientFailed p t (lt t.trial.value p.f))
    (cond (small_decrease p.options.ftol p.f t.trial.value) (stops FunctionTolerance (stepped p t))
    (cond (small_step p.options.xtol p.x t.x) (stops StepTolerance (stepped p t)) (at_head (stepped p t))))

-- if !res.success { if res.step > 0.0 && res.f < fx .. }
abbrev pub concluded : GradientPosition → Searched → Ending GradientPosition
concluded p (refuses why) = fails why.number why.detail
concluded p (gives r) =
    let t = r.at in
    cond r.success (succeeded p t) (stops_lower LineSearchFailed p t (lt plus_zero t.trial.step && lt t.trial.value p.f))

-- ---- a round

-- Nocedal and Wright, p. 142: let a0 = if first_step { (1.0 / inf_norm(&d).max(1e-30)).min(1.0) } else { 1.0 };
unfoldable pub initial_step : Bool → List Float → Float
initial_step first d = cond first (min_of (one ⊘ max_of (inf_norm d) (bits 0x39b4_484b_feeb_c2a0)) one) one

-- let res = strong_wolfe(&mut c, &x, &d, fx, &g, a0, ls)?;
abbrev pub searched : GradientPosition → List Float → Ask (Ending GradientPosition)
searched p d = strong_wolfe read_of p.options.gradients p.options.wolfe p.x d p.f p.g (initial_step p.first d) >>= λ r. finish (concluded p r)

-- dphi0 >= 0.0 || !dphi0.is_finite()
unfoldable pub not_descending : Float → Bool
not_descending slope = le plus_zero slope || not (finite_of slope)

-- "Curvature model broke down; fall back to steepest descent.": d = g.iter().map(|&v| -v).collect(); dphi0 = -dot(&g, &g);
abbrev pub directed : GradientPosition → List Float → Ask (Ending GradientPosition)
directed p d =
    cond (not_descending (dot p.g d) || not (all_finite d))
    (cond (not_descending (neg (dot p.g p.g))) (finish (stops LineSearchFailed p)) (searched p (negation p.g)))
    (searched p d)

-- iterations += 1
abbrev pub iterated : GradientPosition → GradientPosition
iterated p = record { options = p.options; x = p.x; f = p.f; g = p.g; hess = p.hess; iterations = suc p.iterations; first = p.first }

-- let mut d = hess.direction(&g);
abbrev pub round : GradientPosition → Ask (Ending GradientPosition)
round p = directed (iterated p) (direction p.hess p.g)

-- inf_norm(&g) <= grad_tol; the tests of max_iter and max_fevals are `headed` of the engine
abbrev pub tests : GradientPosition → Verdict GradientPosition
tests p = cond (le (inf_norm p.g) p.options.gradtol) (stop GradientTolerance) go_on

-- ---- the opening

abbrev pub with_gradient : Bool → GradientOptions → List Float → Float → List Float → Ending GradientPosition
with_gradient limited o x v g =
    cond (not (all_finite g)) (fails 19 0)
    (at_head (record { options = o; x = x; f = v; g = g; hess = new_hessian limited o.memory (length x); iterations = 0; first = true }))

abbrev pub with_value : Bool → GradientOptions → List Float → Float → Ask (Ending GradientPosition)
with_value limited o x v = cond (not (finite_of v)) (finish (fails 18 0)) (eval_gradient read_of o.gradients x >>= λ g. finish (with_gradient limited o x v g))

abbrev pub opened : Bool → GradientOptions → List Float → Ask (Ending GradientPosition)
opened limited o x = ask_value read_of x >>= with_value limited o x

-- after 2: 3 for lbfgs alone, 4, 5, 9, 12
abbrev pub opening : Bool → GradientOptions → List Float → Ask (Ending GradientPosition)
opening limited o x =
    cond (limited && eqb o.memory 0) (finish (fails 3 0))
    (cond (not (tolerance_of o.gradtol)) (finish (fails 4 1))
    (cond (not (tolerance_of o.ftol)) (finish (fails 4 2))
    (cond (not (tolerance_of o.xtol)) (finish (fails 4 3))
    (cond (not (lt plus_zero o.wolfe.c1 && lt o.wolfe.c1 o.wolfe.c2 && lt o.wolfe.c2 one)) (finish (fails 5 1))
    (cond (eqb (length x) 0) (finish (fails 9 0))
    (cond (not (all_finite x)) (finish (fails 12 1)) (opened limited o x)))))))

-- "bfgs ignores memory": its fit is begun with a memory of 0, so that no position of it holds what was given
abbrev pub begun_with : Bool → GradientOptions → GradientOptions
begun_with limited o = record { gradtol = o.gradtol; ftol = o.ftol; xtol = o.xtol; wolfe = o.wolfe; memory = cond limited o.memory 0; gradients = o.gradients }

-- a start: whether memory is limited (lbfgs), and the options
abbrev pub quasi_newton : Rounds (Bool × GradientOptions)
quasi_newton =
    record { Position = GradientPosition; x = λ p. p.x; f = λ p. p.f; iterations = λ p. p.iterations; opening = λ s x. opening s.0 (begun_with s.0 s.1) x; tests = tests; round = round }
