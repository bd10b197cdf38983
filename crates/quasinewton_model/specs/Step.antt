-- What each function of this crate computes: one of the two models, over sixteen coordinates. What the crates below define is passed on. Definitions only.
use Rattle.std.specs.Prelude.{ℕ, ◌≤◌, ◌≡◌, Bool, true, false, cond, List, replicate, Float}
use Rattle.float.specs.Binary64.{plus_zero}
pub use Rattle.quasinewton_dense.specs.Step.{one, change}
unfoldable pub use Rattle.quasinewton_dense.specs.Step.{diagonal_of, update_row_of, update_rows_of, prepared_of, dense_update_of, dense_direction_of}
pub use Rattle.quasinewton_limited.specs.Step.{no_pair, pair_at, blank_pair}
unfoldable pub use Rattle.quasinewton_limited.specs.Step.{down_of, down_from, all_down_of, up_of, all_up_of, limited_direction_of, shifted_of, popped_of, room_of, gamma_of, limited_update_of, no_pairs_of}
use Rattle.quasinewton_model.specs.declared.Model.{Model}

-- what `update` wants of a model; refusal 1 gives it, and a memory of 0 is none of its refusals
pub record ModelInRange (m : Model) : Type 0 where
  pub most : m.limited ≡ true → m.memory ≤ 16
  pub within : m.limited ≡ true → m.pairs.count ≤ m.memory

-- what `direction` wants: it holds after an update too, also of a memory of 0, which then has more pairs than memory
pub record FewPairs (m : Model) : Type 0 where
  pub few : m.limited ≡ true → m.pairs.count ≤ 16

unfoldable pub blank_of : Model
unfolding no_pairs_of
blank_of = record { limited = false; memory = 0; dense = record { fresh = false; h = replicate 256 plus_zero }; pairs = no_pairs_of plus_zero }

unfoldable pub new_model_of : Bool → ℕ → ℕ → Model
new_model_of limited memory n =
    cond limited
    (record { limited = true; memory = memory; dense = blank_of.dense; pairs = no_pairs_of one })
    (record { limited = false; memory = 0; dense = record { fresh = true; h = diagonal_of one n }; pairs = blank_of.pairs })

unfoldable pub direction_of : Model → List Float → ℕ → List Float
direction_of m g n = cond m.limited (limited_direction_of m.pairs g n) (dense_direction_of m.dense g n)

unfoldable pub update_of : Model → List Float → List Float → ℕ → Model
update_of m s y n =
    cond m.limited
    (record { limited = m.limited; memory = m.memory; dense = m.dense; pairs = limited_update_of m.pairs m.memory s y n })
    (record { limited = m.limited; memory = m.memory; dense = dense_update_of m.dense s y n; pairs = m.pairs })
