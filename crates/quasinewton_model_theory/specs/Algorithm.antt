-- The inverse Hessian models of quasinewton.rs over lists of n coordinates: `DenseInvHessian` and `LbfgsMemory`, and `InvHessian` as one of the two. Each comment is the Rust's line.
-- Equations and Algorithms are those of Nocedal and Wright, Numerical Optimization (2006), as the Rust names them. Definitions only.
use Rattle.std.specs.Prelude.{ℕ, Bool, true, false, ◌&&◌, cond, eqb, length, get_or, drop, Float}
use mathlib.Core.List.{List, [], ◌∷◌, ◌++◌, foldl, reverse}
use Rattle.std.specs.Float.Ieee.{lt, neg}
use Rattle.float.specs.Binary64.{◌⊕◌, ◌⊖◌, ◌⊗◌, ◌⊘◌, plus_zero}
use Rattle.vector.specs.Loops.{upto, at}
use Rattle.vector.specs.Lists.{dot, mat_vec, negation, scaled, plus_scaled, minus_scaled}
pub use Rattle.quasinewton_dense.specs.Step.{one}
use Rattle.quasinewton_limited.specs.declared.Pair.{Pair}

-- ---- dense: the rows of H, n lists of n

pub record DenseInvHessian : Type 0 where
  pub rows : List (List Float)
  pub first : Bool

-- h[i * n + j]
abbrev pub entry : List (List Float) → ℕ → ℕ → Float
entry rows i j = at (get_or rows i []) j

-- for i in 0..n { for j in 0..n { h[i * n + j] = f(i, j); } }
abbrev pub square : (ℕ → ℕ → Float) → ℕ → List (List Float)
square f n = upto (λ i. upto (f i) n) n

-- self.h[i * n + j] = if i == j { scale } else { 0.0 };
unfoldable pub diagonal : Float → ℕ → List (List Float)
diagonal scale = square (λ i j. cond (eqb i j) scale plus_zero)

-- let mut h = vec![0.0; n * n]; for i in 0..n { h[i * n + i] = 1.0; } Self { n, h, first: true }
unfoldable pub new_dense : ℕ → DenseInvHessian
unfolding diagonal
new_dense n = record { rows = diagonal one n; first = true }

-- let row = &self.h[i * n..(i + 1) * n]; *di = -dot(row, g);
unfoldable pub dense_direction : DenseInvHessian → List Float → List Float
unfolding negation mat_vec
dense_direction d g = negation (mat_vec d.rows g)

-- eq. 6.20, the scaling before the first update: if self.first { .. if yy > 0.0 && sy > 0.0 { let scale = sy / yy; .. } .. }
unfoldable pub prepared : DenseInvHessian → Float → Float → ℕ → List (List Float)
unfolding diagonal
prepared d sy yy n = cond (d.first && lt plus_zero yy && lt plus_zero sy) (diagonal (sy ⊘ yy) n) d.rows

-- eq. 6.17, H <- (I - rho s y') H (I - rho y s') + rho s s', multiplied out: self.h[i * n + j] += -rho * (s[i] * hy[j] + hy[i] * s[j]) + coef * s[i] * s[j];
unfoldable pub rank_two : List (List Float) → List Float → List Float → Float → Float → List (List Float)
rank_two rows s hy rho coef = square (λ i j. entry rows i j ⊕ (neg rho ⊗ (at s i ⊗ at hy j ⊕ at hy i ⊗ at s j) ⊕ coef ⊗ at s i ⊗ at s j)) (length s)

-- let rho = 1.0 / sy; .. let yhy = dot(y, &hy); let coef = rho * rho * yhy + rho;
unfoldable pub dense_update : DenseInvHessian → List Float → List Float → DenseInvHessian
unfolding dot mat_vec prepared rank_two
dense_update d s y =
    let sy = dot s y in
    let h = prepared d sy (dot y y) (length s) in
    let rho = one ⊘ sy in
    let hy = mat_vec h y in
    record { rows = rank_two h s hy rho (rho ⊗ rho ⊗ dot y hy ⊕ rho); first = false }

-- ---- limited memory: the last m pairs, oldest first

pub record LbfgsMemory : Type 0 where
  pub m : ℕ
  pub pairs : List Pair
  pub gamma : Float

-- Self { m, pairs: VecDeque::with_capacity(m), gamma: 1.0 }
unfoldable pub new_memory : ℕ → LbfgsMemory
new_memory m = record { m = m; pairs = []; gamma = one }

-- q and the alphas, which are pushed at one end and read from it: the last one first
pub record Falling : Type 0 where
  pub q : List Float
  pub alphas : List Float

-- Algorithm 7.4, one turn of the first loop: let alpha = rho * dot(s, &q); .. *qi -= alpha * yi; .. alphas.push(alpha);
unfoldable pub fall : Falling → Pair → Falling
unfolding dot minus_scaled
fall w p =
    let alpha = p.rho ⊗ dot p.s w.q in
    record { q = minus_scaled w.q alpha p.y; alphas = alpha ∷ w.alphas }

-- Algorithm 7.4, one turn of the second loop: let beta = rho * dot(y, &q); .. *qi += (alpha - beta) * si;
unfoldable pub rise : List Float → Pair → Float → List Float
unfolding dot plus_scaled
rise q p alpha = plus_scaled q (alpha ⊖ p.rho ⊗ dot p.y q) p.s

-- for ((s, y, rho), alpha) in self.pairs.iter().zip(alphas.iter().rev()) { .. }
unfoldable pub rises : List Float → List Pair → List Float → List Float
unfolding rise
rises q [] alphas = q
rises q (p ∷ ps) [] = q
rises q (p ∷ ps) (a ∷ alphas) = rises (rise q p a) ps alphas

-- Algorithm 7.4, the two-loop recursion: for (s, y, rho) in self.pairs.iter().rev() { .. } .. *qi *= self.gamma; .. *qi = -*qi;
unfoldable pub limited_direction : LbfgsMemory → List Float → List Float
unfolding fall rises scaled negation
limited_direction l g =
    let w = foldl fall (record { q = g; alphas = [] }) (reverse l.pairs) in
    negation (rises (scaled w.q l.gamma) l.pairs w.alphas)

-- eq. 7.20, gamma: if yy > 0.0 { self.gamma = sy / yy; } if self.pairs.len() == self.m { self.pairs.pop_front(); } self.pairs.push_back((s.to_vec(), y.to_vec(), 1.0 / sy));
unfoldable pub limited_update : LbfgsMemory → List Float → List Float → LbfgsMemory
unfolding dot
limited_update l s y =
    let sy = dot s y in
    let yy = dot y y in
    let p : Pair = record { s = s; y = y; rho = one ⊘ sy } in
    record {
      m = l.m;
      pairs = cond (eqb (length l.pairs) l.m) (drop 1 l.pairs) l.pairs ++ (p ∷ []);
      gamma = cond (lt plus_zero yy) (sy ⊘ yy) l.gamma;
    }

-- ---- trait InvHessian

pub data InvHessian : Type 0 where
  dense : DenseInvHessian → InvHessian
  limited : LbfgsMemory → InvHessian

-- DenseInvHessian::new(x0.len()) in bfgs, LbfgsMemory::new(opts.memory) in lbfgs
unfoldable pub new_hessian : Bool → ℕ → ℕ → InvHessian
unfolding new_dense new_memory
new_hessian limits m n = cond limits (limited (new_memory m)) (dense (new_dense n))

-- fn direction(&self, g: &[f64]) -> Vec<f64>
unfoldable pub direction : InvHessian → List Float → List Float
unfolding dense_direction limited_direction
direction (dense d) g = dense_direction d g
direction (limited l) g = limited_direction l g

-- fn update(&mut self, s: &[f64], y: &[f64])
unfoldable pub update : InvHessian → List Float → List Float → InvHessian
unfolding dense_update limited_update
update (dense d) s y = dense (dense_update d s y)
update (limited l) s y = limited (limited_update l s y)
