-- What ties a record of a simplex fit to the engine of the places of Nelder and Mead's text (`Relates`): such a record is in range (`valid`), and shows what the place shows
-- (`put_related`). Assumes nothing.
use Prim.Native.Nat.{ℕ, suc, ◌+◌, ◌*◌, ◌≤◌, ◌<◌}
use native.Mathlib.Nat.{le_trans, mul-le-mul_left, mul-le-mul_right}
use native.Mathlib.Numerals.{add-one}
use native.Mathlib.Omega.{arith}
use mathlib.Core.Path.{◌≡◌, refl, sym, ap}
use mathlib.Core.Bool.{true}
use mathlib.Core.Logic.{inl, inr}
use mathlib.Core.List.{List}
use borrow.Author.Tests.{le-leb, lt-leb, ne_eqb, eq-eqb}
use lib.Dec.{eqb}
use lib.ListN.{length}
use lib.Ieee.{Float}
use Rattle.vector.specs.Ties.{ZeroFrom}
use Rattle.protocol.specs.declared.SimplexOptions.{SimplexOptions}
use Rattle.protocol.specs.declared.Termination.{Termination}
use Rattle.protocol.specs.declared.Termination.TheVariants.{GradientTolerance, SimplexTolerance, StepTolerance, FunctionTolerance, MaxIterations, MaxFevals, LineSearchFailed, GradientFailed, ObjectiveResolution}
use Rattle.protocol.specs.Protocol.{converges, Result, fitted, Reply, ask, ended, refused, simplex_mark}
use Rattle.protocol.specs.Rounds.{at_head, stops, fails, FitLimits, result_at, question_at}
use Rattle.protocol.specs.Places.{still, ends, Steps, Held, at, closed, Placed, placed, put_turn, map_turn, Places, fits_steps}
use Rattle.neldermead_theory.specs.Algorithm.{SimplexPosition, nelder_mead}
use Rattle.quasinewton_theory.specs.Algorithm.{quasi_newton}
use Rattle.optim_fits_theory.specs.Fits.{all_fits}
use Rattle.neldermead_theory.specs.Phases.{Phase, building, reflecting, expanding, outside, inside, shrinking, point_of, Move, simplex_steps}
use Rattle.neldermead.specs.Step.{by_tolerance, by_resolution, by_simplex_iterations, by_simplex_fevals, not_finite}
use Rattle.neldermead_theory.specs.Counts.{by_fevals}
use Rattle.neldermead_theory.specs.Ties.{lowered}
use Rattle.neldermead_theory.specs.Follows.{EveryPoint, SimplexShaped, mark_of, Related, Stopped, RelatedMove, SimplexAllows}
use Rattle.optim_record.specs.declared.Record.{Record}
use Rattle.optim_record.specs.Record.{most, most_allowed, most_restarts, last_asking, last_phase, fixed_of, valid_of}
use Rattle.optim_record.proofs.Refusal1.{simplex_valid}
use Rattle.optim_reply.specs.Standing.{termination_of, result_of, standing_simplex_of, standing_of}
use Rattle.optim_theory.proofs.Textual.{textual}
use Rattle.optim_theory.proofs.EngineBounded.{Within, Budget}

-- ---- the engine that is followed

-- the gradient fits' places are their texts
abbrev pub gradient_steps : Steps quasi_newton
gradient_steps = textual quasi_newton

abbrev pub all_steps : Steps all_fits
all_steps = fits_steps nelder_mead quasi_newton simplex_steps gradient_steps

abbrev pub Place : Type 0
Place = Places nelder_mead quasi_newton simplex_steps gradient_steps

-- the reply and the record of a turn of the simplex, after n accepted answers, all of them values
abbrev pub put_move : FitLimits → ℕ → Move → Reply × Placed Place
put_move l n t = put_turn all_fits all_steps l n n 0 (map_turn inl inl t)

-- ---- what ties the records

-- what holds of the record itself
pub record Sound (r : Record) : Type 0 where
  pub job : r.job ≡ simplex_mark
  pub numbers : r.accepted ≤ most
  pub values : r.counts.fevals ≡ r.accepted
  pub gradients : r.counts.gevals ≡ 0
  pub shape : SimplexShaped r.n r.simplex
  pub zeros : EveryPoint (ZeroFrom r.n) r.simplex
  pub within : Within (fixed_of r) r.simplex
  pub iter : r.limits.iter ≤ most_allowed
  pub fevals : r.limits.fevals ≤ most_allowed
  pub restarts : r.options.restarts ≤ most_restarts

-- the questions that the turn has still to put are within the bound of a start at x
abbrev pub Left : (r : Record) (l : FitLimits) → SimplexAllows (fixed_of r) l → List Float → Move → Type 0
Left r l A x t = Budget r.limits.fevals r.options x l A.fevals r.accepted t

-- the fit has ended, and y is its outcome
pub record Closed (r : Record) (y : Reply) : Type 0 where
  pub shown : y ≡ (standing_of r).0
  pub past : last_asking < r.simplex.phase
  pub known : r.simplex.phase ≤ last_phase

-- the record is at the place, with questions left, or has ended
abbrev pub HeldBy : (r : Record) (l : FitLimits) → SimplexAllows (fixed_of r) l → List Float → Held Place → Type 0
HeldBy r l A x (at (inl ph)) = Related (fixed_of r) r.simplex ph × Left r l A x (still ph)
HeldBy r l A x (at (inr s)) = ⊥
HeldBy r l A x (closed y) = Closed r y

-- the record r stands for s
pub record Relates (r : Record) (s : Placed Place) : Type 0 where
  pub limits : FitLimits
  pub held : Held Place
  pub x0 : List Float
  pub long : length x0 ≡ r.n
  pub allows : SimplexAllows (fixed_of r) limits
  pub sound : Sound r
  pub holds : HeldBy r limits allows x0 held
  pub is : placed all_fits all_steps limits r.accepted r.accepted 0 held ≡ s

-- ---- it is in range

-- the bound on the questions of a fit within 2's limits
pub bound_low : (M : ℕ) (o : SimplexOptions) (x : List Float) → M ≤ most_allowed → o.restarts ≤ most_restarts → length x ≤ 16 → by_fevals M o x ≤ most
bound_low M o x m r n = low (suc o.restarts * suc (length x)) (le_trans (mul-le-mul_right (suc (length x)) few) (mul-le-mul_left 101 short))
  where
    few : suc o.restarts ≤ 101
    few = omega arith

    short : suc (length x) ≤ 17
    short = omega arith

    low : (k : ℕ) → k ≤ 101 * 17 → M + k ≤ most
    low k h = omega arith

-- the marks of phases are those with an open question
mark_low : (ph : Phase) → 1 ≤ mark_of ph
mark_low (building p us x xs) = omega arith
mark_low (reflecting p) = omega arith
mark_low (expanding p w) = omega arith
mark_low (outside p w) = omega arith
mark_low (inside p) = omega arith
mark_low (shrinking p us x xs) = omega arith

pub mark_asks : (ph : Phase) → mark_of ph ≤ last_asking
mark_asks (building p us x xs) = omega arith
mark_asks (reflecting p) = omega arith
mark_asks (expanding p w) = omega arith
mark_asks (outside p w) = omega arith
mark_asks (inside p) = omega arith
mark_asks (shrinking p us x xs) = omega arith

module _ (r : Record) (S : Sound r) where
  in_range : 1 ≤ r.simplex.phase → r.simplex.phase ≤ last_phase → valid_of r ≡ true
  in_range low high =
      simplex_valid r S.job
      (record { few = S.shape.small; accepted = S.numbers; fevals = rw S.values S.numbers; gevals = omega (arith, S.gradients) })
      (record {
        some_n = S.shape.positive;
        vertex = S.shape.within;
        phase_low = low;
        phase_high = high;
        rounds = omega (arith, S.within.rounds, S.iter);
        runs = omega (arith, S.within.runs, S.restarts);
        iter = S.iter;
        fevals = S.fevals;
        restarts = S.restarts;
      })

  pub valid : (l : FitLimits) (A : SimplexAllows (fixed_of r) l) (x : List Float) (h : Held Place) → HeldBy r l A x h → valid_of r ≡ true
  valid l A x (at (inl ph)) h = in_range (rw h.0.mark (mark_low ph)) (omega (arith, h.0.mark, mark_asks ph))
  valid l A x (at (inr s)) h = absurd h
  valid l A x (closed y) h = in_range (omega (arith, h.past)) h.known

  -- ---- it shows what the place shows

  asks_as : (ph : Phase) → Related (fixed_of r) r.simplex ph → (standing_of r).0 ≡ ask (question_at all_fits r.accepted (all_steps.kind (inl ph)) (point_of ph))
  unfolding standing_of standing_simplex_of
  asks_as ph h =
      rw (eq-eqb r.job simplex_mark S.job, le-leb r.simplex.phase last_asking (rw h.mark (mark_asks ph)), add-one r.accepted, h.point)

  fails_as : r.simplex.phase ≡ not_finite → (standing_of r).0 ≡ refused 20 0
  unfolding standing_of standing_simplex_of
  fails_as e = rw (eq-eqb r.job simplex_mark S.job, e)

  -- the result of a fit that has stopped is the one at the position
  result_as : (k : ℕ) (y : Termination) (p : SimplexPosition) → r.simplex.phase ≡ k → termination_of k ≡ y → eqb k by_tolerance ≡ converges y
      → p.iterations ≡ r.simplex.rounds → p.best ≡ lowered r.n r.simplex.best → result_of r ≡ result_at all_fits y r.accepted 0 (inl p)
  unfolding result_of
  result_as k y p e t c i b = rw (e, t, c, S.values, S.gradients, i, b)

  -- it shows this result, and no question
  abbrev Shows : Termination → SimplexPosition → Type 0
  Shows y p = ((standing_of r).0 ≡ ended (fitted (result_at all_fits y r.accepted 0 (inl p)))) × (last_asking < r.simplex.phase) × (r.simplex.phase ≤ last_phase)

  shows : (k : ℕ) (y : Termination) (p : SimplexPosition) → r.simplex.phase ≡ k → last_asking < k → k < not_finite → termination_of k ≡ y → eqb k by_tolerance ≡ converges y
      → p.iterations ≡ r.simplex.rounds → p.best ≡ lowered r.n r.simplex.best → Shows y p
  unfolding standing_of standing_simplex_of
  shows k y p e past known t c i b = (
    rw (eq-eqb r.job simplex_mark S.job, lt-leb r.simplex.phase last_asking (rw e past), ne_eqb r.simplex.phase not_finite (λ m. omega arith))
        (ap (λ (z : Result). ended (fitted z)) (result_as k y p e t c i b)),
    rw e past,
    omega arith,
  )

  stops_as : (y : Termination) (p : SimplexPosition) → Stopped (fixed_of r) r.simplex y p → Shows y p
  unfolding termination_of
  stops_as SimplexTolerance p h = shows by_tolerance _ p h.mark (omega arith) (omega arith) refl refl h.iterations h.best
  stops_as ObjectiveResolution p h = shows by_resolution _ p h.mark (omega arith) (omega arith) refl refl h.iterations h.best
  stops_as MaxIterations p h = shows by_simplex_iterations _ p h.mark (omega arith) (omega arith) refl refl h.iterations h.best
  stops_as MaxFevals p h = shows by_simplex_fevals _ p h.mark (omega arith) (omega arith) refl refl h.iterations h.best
  stops_as GradientTolerance p h = absurd h.mark
  stops_as StepTolerance p h = absurd h.mark
  stops_as FunctionTolerance p h = absurd h.mark
  stops_as LineSearchFailed p h = absurd h.mark
  stops_as GradientFailed p h = absurd h.mark

  module _ (l : FitLimits) (A : SimplexAllows (fixed_of r) l) (x : List Float) (long : length x ≡ r.n) where
    related : (h : Held Place) → HeldBy r l A x h → Relates r (placed all_fits all_steps l r.accepted r.accepted 0 h)
    related h held = record { limits = l; held = h; x0 = x; long = long; allows = A; sound = S; holds = held; is = refl }

    -- a record at a turn shows what the turn shows, and stands for its record
    pub put_related : (t : Move) → RelatedMove (fixed_of r) r.simplex t → Left r l A x t
        → ((standing_of r).0 ≡ (put_move l r.accepted t).0) × Relates r (put_move l r.accepted t).1
    put_related (still ph) h b = (asks_as ph h, related (at (inl ph)) (h, b))
    put_related (ends (at_head p)) h b = absurd h
    put_related (ends (stops y p)) h b =
        let e = stops_as y p h in
        (e.0, related (closed _) (record { shown = sym e.0; past = e.1; known = e.2 }))
    put_related (ends (fails k d)) h b = (shows, related (closed _) (record { shown = sym shows; past = rw h.mark (omega arith); known = rw h.mark (omega arith) }))
      where
        shows : (standing_of r).0 ≡ refused k d
        shows = rw (h.refusal, h.detail) (fails_as h.mark)
