-- A model in range has at most sixteen pairs, and so has what an update makes of it. Assumes nothing.
use Prim.Native.Nat.{ℕ}
use mathlib.Core.Path.{◌≡◌, refl}
use mathlib.Core.Bool.{Bool, true, false, cond}
use mathlib.Core.List.{List}
use native.Mathlib.Omega.{arith}
use lib.Ieee.{Float}
use Rattle.quasinewton_limited.specs.declared.Limited.{Limited}
use Rattle.quasinewton_model.specs.declared.Model.{Model}
use Rattle.quasinewton_model.specs.Step.{ModelInRange, FewPairs, update_of}
use Rattle.quasinewton_limited.specs.Step.{limited_update_of}
use Rattle.quasinewton_limited.proofs.Loops.{room_free}
use Rattle.quasinewton_dense.specs.Step.{dense_update_of}

pub range_few : (m : Model) → ModelInRange m → FewPairs m
range_few m r = record { few = λ e. omega (arith, r.most e, r.within e) }

pub update_few : (m : Model) (s y : List Float) (n : ℕ) → ModelInRange m → FewPairs (update_of m s y n)
unfolding update_of limited_update_of
update_few m s y n r = go m.limited refl
  where
    kept : Limited → Model
    kept l = record { limited = m.limited; memory = m.memory; dense = m.dense; pairs = l }

    go : (b : Bool) → m.limited ≡ b
        → FewPairs (cond b (kept (limited_update_of m.pairs m.memory s y n)) (record { limited = m.limited; memory = m.memory; dense = dense_update_of m.dense s y n; pairs = m.pairs }))
    go true e = record { few = λ t. omega (arith, room_free m.pairs m.memory (r.within e) (r.most e)) }
    go false e = record { few = λ t. omega (arith, r.most t, r.within t) }
