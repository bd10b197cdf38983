-- The model with a pair taken in has at most sixteen pairs, and so has the model after a search. Assumes nothing.
use mathlib.Core.Bool.{Bool, true, false, cond}
use Rattle.quasinewton_model.specs.declared.Model.{Model}
use Rattle.quasinewton_model.specs.Step.{ModelInRange, FewPairs}
use Rattle.quasinewton_model.proofs.Range.{range_few, update_few}
use Rattle.quasinewton_record.specs.declared.Fixed.{Fixed}
use Rattle.quasinewton_record.specs.declared.Descent.{Descent}
use Rattle.quasinewton_record.specs.Outcomes.{pair_step_of, pair_change_of}
use Rattle.quasinewton.specs.Step.{stores_pair_of, updated_of, model_after_of}

pub updated_few : (fixed : Fixed) (q : Descent) (m : Model) → ModelInRange m → FewPairs (updated_of fixed q m)
unfolding updated_of
updated_few fixed q m r = update_few m (pair_step_of q fixed.n) (pair_change_of q fixed.n) fixed.n r

pub after_few : (fixed : Fixed) (q : Descent) (m : Model) → ModelInRange m → FewPairs (model_after_of fixed q m)
unfolding model_after_of
after_few fixed q m r = go (stores_pair_of fixed q)
  where
    go : (b : Bool) → FewPairs (cond b (updated_of fixed q m) m)
    go true = updated_few fixed q m r
    go false = range_few m r
