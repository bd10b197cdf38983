-- What ties sixteen coordinates to lists of n: each function on points, read by `first`, is the list's operation. Statements only.
use Rattle.std.specs.Prelude.{ℕ, ◌≤◌, ◌<◌, ◌≡◌, List, length, Float}
use Rattle.float.specs.Binary64.{plus_zero}
use Rattle.vector.specs.Loops.{point, at}
use Rattle.vector.specs.Points.{from_slice_of, dot_of, inf_norm_of, all_finite_of, plus_scaled_of, minus_scaled_of, difference_of, addition_of, quotient_of, scaled_of, negation_of, towards_of, shrunk_of, row_dot_of, mat_vec_of}
use Rattle.vector.specs.Lists.{dot, inf_norm, all_finite, plus_scaled, minus_scaled, difference, addition, quotient, scaled, negation, towards, shrunk, mat_vec, first, row_of, rows_of}

-- the coordinates past the first n are +0.0
abbrev pub ZeroFrom : ℕ → List Float → Type 0
ZeroFrom n x = (k : ℕ) → n ≤ k → k < 16 → at x k ≡ plus_zero

-- a point has sixteen coordinates, those past n are +0, and the first n are a list of n
pub record PointLaws : Type 0 where
  pub width : (g : ℕ → Float) (n : ℕ) → n ≤ 16 → length (point g n) ≡ 16
  pub inside : (g : ℕ → Float) (n k : ℕ) → k < n → at (point g n) k ≡ g k
  pub past : (g : ℕ → Float) (n k : ℕ) → n ≤ k → k < 16 → at (point g n) k ≡ plus_zero
  pub listed : (n : ℕ) (x : List Float) → length (first n x) ≡ n
  pub read : (n : ℕ) (x : List Float) (k : ℕ) → k < n → at (first n x) k ≡ at x k

-- one law to an operation, with no condition on a length
pub record Ties : Type 0 where
  pub from_slice : (s : List Float) (n : ℕ) → first n (from_slice_of s n) ≡ first n s
  pub dot_of_lem : (a b : List Float) (n : ℕ) → dot_of a b n ≡ dot (first n a) (first n b)
  pub inf_norm_lem : (a : List Float) (n : ℕ) → inf_norm_of a n ≡ inf_norm (first n a)
  pub all_finite_lem : (a : List Float) (n : ℕ) → all_finite_of a n ≡ all_finite (first n a)
  pub plus_scaled_lem : (x : List Float) (t : Float) (d : List Float) (n : ℕ) → first n (plus_scaled_of x t d n) ≡ plus_scaled (first n x) t (first n d)
  pub minus_scaled_lem : (x : List Float) (t : Float) (d : List Float) (n : ℕ) → first n (minus_scaled_of x t d n) ≡ minus_scaled (first n x) t (first n d)
  pub difference_of_lem : (a b : List Float) (n : ℕ) → first n (difference_of a b n) ≡ difference (first n a) (first n b)
  pub addition_of_lem : (a b : List Float) (n : ℕ) → first n (addition_of a b n) ≡ addition (first n a) (first n b)
  pub quotient_of_lem : (a : List Float) (t : Float) (n : ℕ) → first n (quotient_of a t n) ≡ quotient (first n a) t
  pub scaled_of_lem : (a : List Float) (t : Float) (n : ℕ) → first n (scaled_of a t n) ≡ scaled (first n a) t
  pub negation_of_lem : (a : List Float) (n : ℕ) → first n (negation_of a n) ≡ negation (first n a)
  pub towards_of_lem : (c w : List Float) (t : Float) (n : ℕ) → first n (towards_of c w t n) ≡ towards (first n c) (first n w) t
  pub shrunk_of_lem : (b v : List Float) (t : Float) (n : ℕ) → first n (shrunk_of b v t n) ≡ shrunk (first n b) (first n v) t
  pub row_dot : (h : List Float) (i : ℕ) (v : List Float) (n : ℕ) → row_dot_of h i v n ≡ dot (row_of n h i) (first n v)
  pub mat_vec_lem : (h v : List Float) (n : ℕ) → first n (mat_vec_of h v n n) ≡ mat_vec (rows_of n h) (first n v)
