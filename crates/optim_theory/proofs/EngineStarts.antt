-- A start of a simplex fit gets the reply of the start of the places, and where it is not refused their records are tied: `simplex_starts`. Assumes nothing.
use Prim.Native.Nat.{ℕ, ◌+◌, ◌*◌, ◌≤◌, zero-le}
use native.Mathlib.Nat.{le_trans, mul-le-mul_left, mul-le-mul_right}
use native.Mathlib.Omega.{arith}
use mathlib.Core.Path.{◌≡◌, refl, sym, ◌∙◌, ap, subst}
use mathlib.Core.Bool.{Bool, true, false, not, ◌||◌, cond}
use mathlib.Core.Logic.{inl}
use mathlib.Core.List.{List}
use borrow.Author.Tests.{ltb-false, eqb-false}
use lib.Dec.{eqb, ltb}
use lib.ListN.{length}
use lib.Ieee.{Float, le, lt}
use Rattle.float.proofs.Tests.{cond_and}
use Rattle.float.specs.Binary64.{plus_zero}
use Rattle.float.specs.Values.{finite_of, tolerance_of, positive_of}
use Rattle.vector.specs.Loops.{at}
use Rattle.vector.specs.Lists.{first, all_finite}
use Rattle.vector.specs.Points.{from_slice_of, all_finite_of}
use Rattle.vector.proofs.First.{point_laws, ties}
use Rattle.vector.proofs.Stores.{first_whole}
use Rattle.std.specs.Prelude.{Option, None, Some, unwrap_or}
use Rattle.protocol.specs.declared.Allowances.{Allowances}
use Rattle.protocol.specs.declared.SimplexOptions.{SimplexOptions}
use Rattle.protocol.specs.declared.Refusal.{Refusal}
use Rattle.protocol.specs.Protocol.{refusal, Reply, simplex, Fit}
use Rattle.protocol.specs.Dialogue.{NotRefused}
use Rattle.protocol.specs.Claim.{limit, or_default}
use Rattle.protocol.specs.PastLimits.{excess}
use Rattle.protocol.specs.Rounds.{fails, FitLimits, limits_of}
use Rattle.protocol.specs.Places.{ends, Placed, put_turn, map_turn, start_at}
use Rattle.neldermead_theory.specs.Algorithm.{nowhere, tolerance, positive_finite}
use Rattle.neldermead_theory.specs.Phases.{Move, build_at, opening_move}
use Rattle.neldermead_theory.specs.Follows.{RelatedMove, SimplexAllows}
use Rattle.optim_fits_theory.specs.Fits.{all_fits}
use Rattle.neldermead_theory.proofs.Follows.{simplex_follows}
use Rattle.optim_record.specs.declared.Record.{Record}
use Rattle.optim_record.specs.Record.{most_allowed, blank_of, fixed_of}
use Rattle.optim_reply.specs.Standing.{refused_of, standing_of}
use Rattle.optim_reply.proofs.Says.{stands_keeps}
use Rattle.optim_first_record.specs.Starts.{past_limits_of, simplex_refusal_of, simplex_limits_of, simplex_record_of}
use Rattle.optim_start.specs.Start.{simplex_of}
use Rattle.optim_theory.proofs.EngineBounded.{start_within, opening_keeps}
use Rattle.optim_theory.proofs.EngineRelated.{all_steps, Place, put_move, Sound, Relates, put_related}

-- the same reply, and records that are tied unless it is a refusal
abbrev pub Begun : Reply × Record → Reply × Placed Place → Type 0
Begun y z = (y.0 ≡ z.0) × (NotRefused y.0 → Relates y.1 z.1)

-- ---- the tests of a start, one after another

-- a refusal that is met, or what comes after it
abbrev pub decide : Refusal → Reply × Record → Reply × Record
decide why y = cond (not (eqb why.number 0)) (refused_of blank_of why.number why.detail) y

module _ (l : FitLimits) where
  -- one test
  refuse : (b c : Bool) (k d : ℕ) (why : Refusal) (y : Reply × Record) (t : Move) → b ≡ c → eqb k 0 ≡ false → (c ≡ false → Begun (decide why y) (put_move l 0 t))
      → Begun (decide (cond b (refusal k d) why) y) (put_move l 0 (cond c (ends (fails k d)) t))
  refuse b c k d why y t e z h = subst (λ (a : Bool). Begun (decide (cond a (refusal k d) why) y) (put_move l 0 (cond c (ends (fails k d)) t))) (sym e) (go c h)
    where
      go : (a : Bool) → (a ≡ false → Begun (decide why y) (put_move l 0 t)) → Begun (decide (cond a (refusal k d) why) y) (put_move l 0 (cond a (ends (fails k d)) t))
      go true g = rw z (refl, λ n. absurd n)
      go false g = g refl

  -- those of refusal 2
  refuse_two : (a b c d : Bool) (why : Refusal) (y : Reply × Record) (t : Move)
      → (a ≡ false → b ≡ false → c ≡ false → d ≡ false → Begun (decide why y) (put_move l 0 t))
      → Begun (decide (cond (cond a true (cond b true (cond c true d))) (refusal 2 0) why) y)
      (put_turn all_fits all_steps l 0 0 0 (cond (a || (b || (c || d))) (ends (fails 2 0)) (map_turn inl inl t)))
  refuse_two true b c d why y t h = (refl, λ n. absurd n)
  refuse_two false true c d why y t h = (refl, λ n. absurd n)
  refuse_two false false true d why y t h = (refl, λ n. absurd n)
  refuse_two false false false true why y t h = (refl, λ n. absurd n)
  refuse_two false false false false why y t h = h refl refl refl refl

  -- the last one
  refuse_point : (b c : Bool) (y : Reply × Record) (t : Move) → b ≡ c → (c ≡ true → Begun y (put_move l 0 t))
      → Begun (cond (not b) (refused_of blank_of 12 1) y) (put_move l 0 (cond (not c) (ends (fails 12 1)) t))
  refuse_point b c y t e h = subst (λ (a : Bool). Begun (cond (not a) (refused_of blank_of 12 1) y) (put_move l 0 (cond (not c) (ends (fails 12 1)) t))) (sym e) (go c h)
    where
      go : (a : Bool) → (a ≡ true → Begun y (put_move l 0 t)) → Begun (cond (not a) (refused_of blank_of 12 1) y) (put_move l 0 (cond (not a) (ends (fails 12 1)) t))
      go true g = g refl
      go false g = (refl, λ n. absurd n)

-- ---- each test is that of the Algorithm

tolerance_as : (t : Float) → not (tolerance_of t) ≡ not (tolerance t)
unfolding tolerance_of
tolerance_as t = ap not (cond_and (le plus_zero t) (finite_of t))

positive_as : (t : Float) → not (positive_of t) ≡ not (positive_finite t)
unfolding positive_of
positive_as t = ap not (cond_and (lt plus_zero t) (finite_of t))

-- a limit is the allowance, or its default d
pub limit_as : (d : ℕ) (a : Option ℕ) → or_default a (limit d) ≡ limit (unwrap_or a d)
limit_as d None = refl
limit_as d (Some k) = refl

-- the point of sixteen coordinates is the list
pub whole : (x : List Float) → first (length x) (from_slice_of x (length x)) ≡ x
whole x = ties.from_slice x (length x) ∙ first_whole x

pub finite_as : (x : List Float) → all_finite_of (from_slice_of x (length x)) (length x) ≡ all_finite x
finite_as x = ties.all_finite_lem (from_slice_of x (length x)) (length x) ∙ ap all_finite (whole x)

-- an allowance that is not refused, or its default, is low
limit_low : (n restarts : ℕ) → n ≤ 16 → restarts ≤ 100 → (a : Option ℕ) → excess a ≡ false → unwrap_or a (200 * n * (1 + restarts)) ≤ most_allowed
limit_low n restarts h j (Some k) e = ltb-false most_allowed k e
limit_low n restarts h j None e = low (200 * n * (1 + restarts)) (le_trans (mul-le-mul_right (1 + restarts) small) (mul-le-mul_left 3200 more))
  where
    small : 200 * n ≤ 3200
    small = omega arith

    more : 1 + restarts ≤ 101
    more = omega arith

    low : (m : ℕ) → m ≤ 3200 * 101 → m ≤ most_allowed
    low m i = omega arith

-- ---- a simplex fit

module _ (o : SimplexOptions) (a : Allowances) (x : List Float) where
  abbrev fit : Fit
  fit = record { job = simplex o; allowances = a; x0 = x }

  abbrev n : ℕ
  n = length x

  abbrev point : List Float
  point = from_slice_of x n

  abbrev made : Record
  made = simplex_record_of point n o a

  allows : SimplexAllows (fixed_of made) (limits_of fit)
  unfolding simplex_record_of simplex_limits_of
  allows = let default = 200 * n * (1 + o.restarts) in record { iter = limit_as default a.iter; fevals = limit_as default a.fevals }

  made_sound : n ≤ 16 → 1 ≤ n → o.restarts ≤ 100 → excess a.iter ≡ false → excess a.fevals ≡ false → Sound made
  unfolding simplex_record_of simplex_limits_of from_slice_of
  made_sound small above few p q =
      record {
        job = refl;
        numbers = zero-le;
        values = refl;
        gradients = refl;
        shape = simplex_follows.start_shaped n point above small (point_laws.width (at x) n small);
        zeros = simplex_follows.start_zeros n point (λ k. point_laws.past (at x) n k);
        within = start_within (fixed_of made) point;
        iter = limit_low n o.restarts small few a.iter p;
        fevals = limit_low n o.restarts small few a.fevals q;
        restarts = few;
      }

  moves : RelatedMove (fixed_of made) made.simplex (build_at (nowhere o x) x)
  unfolding simplex_record_of
  moves = subst (λ (z : List Float). RelatedMove (fixed_of made) made.simplex (build_at (nowhere o z) z)) (whole x) (simplex_follows.starts (fixed_of made) point)

  begins : Sound made → opening_move o x ≡ build_at (nowhere o x) x → Begun (standing_of made) (put_move (limits_of fit) 0 (build_at (nowhere o x) x))
  unfolding simplex_record_of
  begins S opened =
      let b = opening_keeps made.limits.fevals o x (limits_of fit) allows.fevals in
      let t = put_related made S (limits_of fit) allows x refl (build_at (nowhere o x) x) moves (rw opened at b) in
      (t.0, λ m. subst (λ (z : Record). Relates z (put_move (limits_of fit) 0 (build_at (nowhere o x) x)).1) (sym (stands_keeps made)) t.1)

  pub simplex_starts : Begun (simplex_of x o a) (start_at all_fits all_steps fit)
  unfolding simplex_of simplex_refusal_of past_limits_of
  simplex_starts =
      refuse_two l (ltb 16 n) (excess a.iter) (excess a.fevals) (ltb 100 o.restarts) _ _ (opening_move o x)
      (λ long p q many.
      refuse l (not (tolerance_of o.xtol)) (not (tolerance o.xtol)) 4 1 _ _ _ (tolerance_as o.xtol) refl
      (λ xtol. refuse l (not (tolerance_of o.ftol)) (not (tolerance o.ftol)) 4 2 _ _ _ (tolerance_as o.ftol) refl
      (λ ftol. refuse l (not (positive_of o.step)) (not (positive_finite o.step)) 8 0 _ _ _ (positive_as o.step) refl
      (λ step. refuse l (eqb n 0) (eqb n 0) 9 0 (refusal 0 0) _ _ refl refl
      (λ unknowns. refuse_point l (all_finite_of point n) (all_finite x) _ _ (finite_as x)
      (λ finite. begins
      (made_sound (ltb-false 16 n long) (above n (eqb-false n 0 unknowns)) (ltb-false 100 o.restarts many) p q)
      (rw (xtol, ftol, step, unknowns, finite))))))))
    where
      l : FitLimits
      l = limits_of fit

      above : (k : ℕ) → (k ≡ 0 → ⊥) → 1 ≤ k
      above k d = omega arith
