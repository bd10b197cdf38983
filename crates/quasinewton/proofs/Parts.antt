-- `settled_of` in parts: the model after the search, and the record on with that model. Assumes nothing.
use Prim.Native.Nat.{ℕ}
use mathlib.Core.Path.{◌≡◌, refl, sym, ap}
use mathlib.Core.Bool.{Bool, true, false, not, cond}
use lib.Dec.{eqb}
use lib.Ieee.{lt}
use borrow.Author.Tests.{eqb-true}
use Rattle.float.specs.Binary64.{plus_zero}
use Rattle.vector.specs.Points.{all_finite_of}
use Rattle.linesearch_trials.specs.declared.Evaluation.{Evaluation}
use Rattle.linesearch.specs.Step as linesearch
use Rattle.quasinewton_model.specs.declared.Model.{Model}
use Rattle.quasinewton_record.specs.declared.Fixed.{Fixed}
use Rattle.quasinewton_record.specs.declared.Descent.{Descent}
use Rattle.quasinewton_record.specs.Descents.{searching, by_function, by_step, by_search, by_gradient_failed, at_head, in_phase, with_line, valued_at}
use Rattle.quasinewton_record.specs.Formulas.{stores_of, small_decrease_of, small_step_of}
use Rattle.quasinewton_round.specs.Rounds.{headed_of}
use Rattle.quasinewton.specs.Step.{moved, stored_of, succeeded_of, settled_of, stores_pair_of, updated_of, model_after_of, arrived_of, onward_of}
use Rattle.quasinewton_record.specs.Outcomes.{lower_of, missed_of, stepped_of, pair_step_of, pair_change_of, tested_of}

module _ (fixed : Fixed) (fevals : ℕ) where
  -- on through the head, where the record is at one
  abbrev through : Descent → Model → Descent
  through w h = cond (eqb w.phase at_head) (headed_of fixed w h fevals) w

  -- ---- an ended fit is at no head

  module _ (q : Descent) (t : Evaluation) (h : Model) where
    lower_stays : (why : ℕ) → eqb why at_head ≡ false → through (lower_of q why t) h ≡ lower_of q why t
    unfolding lower_of
    lower_stays why e = go (lt t.trial.value q.line.f)
      where
        ended : Bool → Descent
        ended b = cond b (with_line q why (valued_at q t.x t.trial.value)) (in_phase q why)

        go : (b : Bool) → through (ended b) h ≡ ended b
        go true = rw e
        go false = rw e

    missed_stays : through (missed_of q t) h ≡ missed_of q t
    unfolding missed_of
    missed_stays = go (lt plus_zero t.trial.step)
      where
        go : (b : Bool) → through (cond b (lower_of q by_search t) (in_phase q by_search)) h ≡ cond b (lower_of q by_search t) (in_phase q by_search)
        go true = lower_stays by_search refl
        go false = refl

  -- ---- a search that has met both conditions

  module _ (q : Descent) (m : Model) where
    abbrev t : Evaluation
    t = q.search.best

    abbrev stores : Bool
    stores = stores_of (pair_step_of q fixed.n) (pair_change_of q fixed.n) fixed.n

    -- the model, by whether the gradient is finite
    abbrev after : Bool → Model
    after finite = cond (cond (not finite) false stores) (updated_of fixed q m) m

    succeeded_parts : succeeded_of fixed q m t fevals ≡ moved (through (tested_of fixed q t) (after (all_finite_of t.g fixed.n))) (after (all_finite_of t.g fixed.n))
    unfolding succeeded_of tested_of stored_of updated_of stepped_of
    succeeded_parts = go (all_finite_of t.g fixed.n) (small_decrease_of fixed.options.ftol q.line.f t.trial.value) (small_step_of fixed.options.xtol q.line.x t.x fixed.n)
      where
        p : Descent
        p = stepped_of q t

        go : (finite small short : Bool)
            → cond (not finite) (moved (lower_of q by_gradient_failed t) m)
            (cond small (moved (in_phase p by_function) (after true)) (cond short (moved (in_phase p by_step) (after true)) (moved (headed_of fixed p (after true) fevals) (after true))))
            ≡ moved (through (cond (not finite) (lower_of q by_gradient_failed t) (cond small (in_phase p by_function) (cond short (in_phase p by_step) p))) (after finite)) (after finite)
        go false small short = ap (λ (w : Descent). moved w m) (sym (lower_stays q t m by_gradient_failed refl))
        go true true short = refl
        go true false true = refl
        go true false false = refl

  -- ---- from each place

  -- what is claimed of a record and a model
  abbrev Parts : Descent → Model → Type 0
  Parts q m = settled_of fixed q m fevals ≡ moved (onward_of fixed q (model_after_of fixed q m) fevals) (model_after_of fixed q m)

  from_head : (q : Descent) (m : Model) (p : ℕ) → p ≡ at_head → Parts (in_phase q p) m
  unfolding settled_of model_after_of stores_pair_of onward_of arrived_of
  from_head q m p e = rw e

  from_search : (q : Descent) (m : Model) (p : ℕ) → p ≡ searching → Parts (in_phase q p) m
  unfolding settled_of model_after_of stores_pair_of onward_of arrived_of
  from_search q m p e = rw e (go (eqb q.search.phase linesearch.found) (eqb q.search.phase linesearch.failed))
    where
      now : Descent
      now = in_phase q searching

      finite : Bool
      finite = all_finite_of q.search.best.g fixed.n

      arrived : Bool → Bool → Descent
      arrived met missed = cond met (tested_of fixed now q.search.best) (cond missed (missed_of now q.search.best) now)

      kept : Bool → Model
      kept met = cond (cond (not met) false (cond (not finite) false (stores now m))) (updated_of fixed now m) m

      go : (met missed : Bool)
          → cond met (succeeded_of fixed now m q.search.best fevals) (cond missed (moved (missed_of now q.search.best) m) (moved now m))
          ≡ moved (through (arrived met missed) (kept met)) (kept met)
      go true missed = succeeded_parts now m
      go false true = ap (λ (w : Descent). moved w m) (sym (missed_stays now q.search.best m))
      go false false = refl

  elsewhere : (q : Descent) (m : Model) → eqb q.phase at_head ≡ false → eqb q.phase searching ≡ false → Parts q m
  unfolding settled_of model_after_of stores_pair_of onward_of arrived_of
  elsewhere q m e f = rw (f, e)

pub settled_parts : (fixed : Fixed) (q : Descent) (m : Model) (fevals : ℕ) → settled_of fixed q m fevals ≡ moved (onward_of fixed q (model_after_of fixed q m) fevals) (model_after_of fixed q m)
settled_parts fixed q m fevals = go (eqb q.phase at_head) refl (eqb q.phase searching) refl
  where
    go : (b : Bool) → eqb q.phase at_head ≡ b → (c : Bool) → eqb q.phase searching ≡ c → Parts fixed fevals q m
    go true e c f = from_head fixed fevals q m q.phase (eqb-true _ _ e)
    go false e true f = from_search fixed fevals q m q.phase (eqb-true _ _ f)
    go false e false f = elsewhere fixed fevals q m e f
