-- A gradient fit that still asks after an answer: its model and its record stay as they are. Assumes nothing.
use Prim.Native.Nat.{ℕ, ◌≤◌, ◌<◌}
use mathlib.Core.Path.{◌≡◌, refl}
use mathlib.Core.Bool.{Bool, true, false}
use native.Mathlib.Omega.{arith}
use lib.Dec.{eqb}
use borrow.Author.Tests.{leb-true, eqb-true, ne_eqb}
use Rattle.quasinewton_model.specs.declared.Model.{Model}
use Rattle.quasinewton_record.specs.declared.Descent.{Descent}
use Rattle.quasinewton_record.specs.declared.Fixed.{Fixed}
use Rattle.quasinewton.specs.Step.{searching, asks_of, stores_pair_of, model_after_of, arrived_of, onward_of}

-- no phase that asks is a later one
earlier : (p k : ℕ) → p ≤ 3 → 3 < k → eqb p k ≡ false
earlier p k l m = ne_eqb p k (λ (e : p ≡ k). omega (arith, l, m, e))

module _ (fixed : Fixed) (q : Descent) (asks : asks_of q ≡ true) where
  pub asking_model : (m : Model) → model_after_of fixed q m ≡ m
  unfolding asks_of model_after_of stores_pair_of
  asking_model m = go (eqb q.phase searching) refl
    where
      go : (b : Bool) → eqb q.phase searching ≡ b → model_after_of fixed q m ≡ m
      go false e = rw e
      go true e = rw (e, earlier q.search.phase 4 (leb-true _ _ (rw e at asks)) (omega arith))

  pub asking_rests : (m : Model) (fevals : ℕ) → onward_of fixed q m fevals ≡ q
  unfolding asks_of onward_of arrived_of
  asking_rests m fevals = go (eqb q.phase searching) refl
    where
      go : (b : Bool) → eqb q.phase searching ≡ b → onward_of fixed q m fevals ≡ q
      go false e = rw (e, earlier q.phase 13 (leb-true _ _ (rw e at asks)) (omega arith))
      go true e = rw (e, earlier q.search.phase 4 (leb-true _ _ (rw e at asks)) (omega arith), earlier q.search.phase 5 (leb-true _ _ (rw e at asks)) (omega arith), at_search)
        where
          at_search : eqb q.phase 13 ≡ false
          at_search = ne_eqb _ _ (λ (p : q.phase ≡ 13). omega (arith, p, eqb-true q.phase searching e))
