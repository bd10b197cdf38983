-- The models over sixteen coordinates, read as the Algorithm's over n; that sizes last, that words past n stay +0.0, and that directions are of f64s.
-- Definitions and statements only.
use Rattle.std.specs.Prelude.{ℕ, ◌+◌, ◌*◌, ◌≤◌, ◌<◌, ◌≡◌, ◌⊎◌, Bool, true, cond, List, length, Float}
use Rattle.float.specs.Binary64.{F64, plus_zero}
use Rattle.vector.specs.Loops.{upto, at}
use Rattle.vector.specs.Lists.{first, rows_of}
use Rattle.vector.specs.Ties.{ZeroFrom}
use Rattle.quasinewton_dense.specs.declared.Dense.{Dense}
use Rattle.quasinewton_limited.specs.declared.Pair.{Pair}
use Rattle.quasinewton_limited.specs.declared.Limited.{Limited}
use Rattle.quasinewton_model.specs.declared.Model.{Model}
use Rattle.quasinewton_model_theory.specs.Algorithm.{DenseInvHessian, LbfgsMemory, InvHessian, dense, limited, entry, new_hessian, direction, update}
use Rattle.quasinewton_model.specs.Step.{ModelInRange, pair_at, blank_pair, new_model_of, direction_of, update_of}

-- ---- what a model holds, over n coordinates

abbrev pub read_dense : ℕ → Dense → DenseInvHessian
read_dense n d = record { rows = rows_of n d.h; first = d.fresh }

abbrev pub read_pair : ℕ → Pair → Pair
read_pair n p = record { s = first n p.s; y = first n p.y; rho = p.rho }

-- the first k pairs
abbrev pub read_pairs : ℕ → ℕ → List Pair → List Pair
read_pairs n k pairs = upto (λ i. read_pair n (pair_at pairs i)) k

abbrev pub read_limited : ℕ → ℕ → Limited → LbfgsMemory
read_limited n memory l = record { m = memory; pairs = read_pairs n l.count l.pairs; gamma = l.gamma }

abbrev pub read_model : ℕ → Model → InvHessian
read_model n m = cond m.limited (limited (read_limited n m.memory m.pairs)) (dense (read_dense n m.dense))

-- ---- sizes

-- count <= memory <= 16, a memory of at least 1, and every array as long as the code's
pub record ModelSized (m : Model) : Type 0 where
  pub range : ModelInRange m
  pub some : m.limited ≡ true → 0 < m.memory
  pub square : length m.dense.h ≡ 256
  pub many : length m.pairs.pairs ≡ 16
  pub wide_s : (i : ℕ) → i < 16 → length (pair_at m.pairs.pairs i).s ≡ 16
  pub wide_y : (i : ℕ) → i < 16 → length (pair_at m.pairs.pairs i).y ≡ 16

-- ---- words past n

-- that of every row and column of H and of every pair; the pairs past the count are zero altogether
pub record ModelZeroPast (n : ℕ) (m : Model) : Type 0 where
  pub rows : (i j : ℕ) → i < 16 → j < 16 → (n ≤ i) ⊎ (n ≤ j) → at m.dense.h (i * 16 + j) ≡ plus_zero
  pub zero_s : (i : ℕ) → i < 16 → ZeroFrom n (pair_at m.pairs.pairs i).s
  pub zero_y : (i : ℕ) → i < 16 → ZeroFrom n (pair_at m.pairs.pairs i).y
  pub past : (i : ℕ) → m.pairs.count ≤ i → i < 16 → pair_at m.pairs.pairs i ≡ blank_pair

-- ---- f64s

-- each coordinate is an f64
abbrev pub Words : List Float → Type 0
Words x = (k : ℕ) → F64 (at x k)

-- each word of a model
abbrev pub OfF64s : InvHessian → Type 0
OfF64s (dense d) = (i j : ℕ) → F64 (entry d.rows i j)
OfF64s (limited l) = F64 l.gamma × ((i : ℕ) → Words (pair_at l.pairs i).s × Words (pair_at l.pairs i).y × F64 (pair_at l.pairs i).rho)

-- ---- what ties the two, for n ≤ 16

pub record HessianTies (n : ℕ) : Type 0 where
  -- the arrays read as lists give the Algorithm's
  pub new_of : (limits : Bool) (memory : ℕ) → read_model n (new_model_of limits memory n) ≡ new_hessian limits memory n
  pub direction_of_lem : (m : Model) (g : List Float) → ModelSized m → first n (direction_of m g n) ≡ direction (read_model n m) (first n g)
  pub update_of_lem : (m : Model) (s y : List Float) → ModelSized m → read_model n (update_of m s y n) ≡ update (read_model n m) (first n s) (first n y)
  -- sizes last
  pub new_sized : (limits : Bool) (memory : ℕ) → (limits ≡ true → 0 < memory) → (limits ≡ true → memory ≤ 16) → ModelSized (new_model_of limits memory n)
  pub update_sized : (m : Model) (s y : List Float) → ModelSized m → length s ≡ 16 → length y ≡ 16 → ModelSized (update_of m s y n)
  pub direction_wide : (m : Model) (g : List Float) → length (direction_of m g n) ≡ 16
  -- words past n stay +0.0
  pub new_zeros : (limits : Bool) (memory : ℕ) → ModelZeroPast n (new_model_of limits memory n)
  pub update_zeros : (m : Model) (s y : List Float) → ModelSized m → ZeroFrom n s → ZeroFrom n y → ModelZeroPast n m → ModelZeroPast n (update_of m s y n)
  pub direction_zeros : (m : Model) (g : List Float) → ZeroFrom n (direction_of m g n)

-- directions are of f64s whatever they are made of, and updates keep a model of f64s
pub record HessianWords : Type 0 where
  pub direction_words : (h : InvHessian) (g : List Float) → Words (direction h g)
  pub new_words : (limits : Bool) (m n : ℕ) → OfF64s (new_hessian limits m n)
  pub update_words : (h : InvHessian) (s y : List Float) → OfF64s h → Words s → Words y → OfF64s (update h s y)
