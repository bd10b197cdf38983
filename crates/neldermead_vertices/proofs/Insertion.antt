-- Insertion in place, from the last vertex on, is the Algorithm's order. Assumes nothing.
use Prim.Native.Nat.{ℕ, zero, suc, ◌+◌, ◌-◌, ◌≤◌, ◌<◌}
use mathlib.Core.Path.{◌≡◌, refl, sym, ap, ◌∙◌}
use mathlib.Core.Bool.{Bool, true, false, cond}
use mathlib.Core.List.{List, [], ◌∷◌, ◌++◌, append_assoc}
use native.Mathlib.Numerals.{add-one}
use native.Mathlib.Omega.{arith}
use lib.ListN.{length, take, drop, set, length-append, take-append-drop}
use lib.Seq.{slice, slice-cons, slice_empty, length-slice, length-take-le, take-suc-set, take-suc, take-set-lt, append_snoc, drop-set-lt, set_split, split_at, take_at, drop_at, get_or_at, drop-append-le}
use Rattle.float.specs.Order.{precedes_of}
use Rattle.neldermead_vertices.specs.declared.Vertex.{Vertex}
use Rattle.neldermead_vertices.specs.Order.{insert, in_order}
use Rattle.neldermead_vertices.specs.Vertices.{no_vertex, vertex_at, put_of, inserted_of}

-- ---- one vertex u: the place j is free for it
module _ (u : Vertex) (w : List Vertex) (n : ℕ) (long : n < length w) where
  -- it stands behind the next, which moves up
  pub put_goes : (j : ℕ) → j < n → precedes_of (vertex_at w (j + 1)).f u.f ≡ true → put_of u (set w j (vertex_at w (j + 1))) (j + 1) n ≡ put_of u w j n
  unfolding put_of insert
  put_goes j h t =
      let p = vertex_at w (suc j) in
      let t' : precedes_of p.f u.f ≡ true = rw (add-one j) at t in
      let rest : slice (suc (suc j)) (suc n) (set w j p) ≡ slice (suc (suc j)) (suc n) w = ap (drop (suc (suc j))) (take-set-lt (suc n) w j p (omega arith)) ∙ drop-set-lt (suc (suc j)) (take (suc n) w) j p (omega arith) in
      let past : drop (suc n) (set w j p) ≡ drop (suc n) w = drop-set-lt (suc n) w j p (omega arith) in
      rw (add-one j, rest, past, take-suc-set w j p (omega arith), slice-cons (suc j) (suc n) w no_vertex (omega arith) (omega arith), t', append_snoc)

  -- it stands before the next
  pub put_stays : (j : ℕ) → j < n → precedes_of (vertex_at w (j + 1)).f u.f ≡ false → set w j u ≡ put_of u w j n
  unfolding put_of insert
  put_stays j h t =
      let t' : precedes_of (vertex_at w (suc j)).f u.f ≡ false = rw (add-one j) at t in
      let rest : drop (suc j) w ≡ slice (suc j) (suc n) w ++ drop (suc n) w =
      ap (drop (suc j)) (sym (take-append-drop (suc n) w)) ∙ drop-append-le (suc j) (take (suc n) w) (drop (suc n) w) (omega (arith, length-take-le (suc n) w (omega arith))) in
      rw (set_split w j u (omega arith), rest, slice-cons (suc j) (suc n) w no_vertex (omega arith) (omega arith), t')

  -- none is left
  pub put_ends : set w n u ≡ put_of u w n n
  unfolding put_of insert
  put_ends = rw (set_split w n u (omega arith), slice_empty (suc n) w)

-- ---- all of them: those from i on are in order
unfoldable pub sorted_from : List Vertex → ℕ → ℕ → List Vertex
sorted_from v n i = take i v ++ (in_order (slice i (suc n) v) ++ drop (suc n) v)

length_insert : (u : Vertex) (us : List Vertex) → length (insert u us) ≡ suc (length us)
unfolding insert
length_insert u [] = refl
length_insert u (w ∷ ws) = either (length_insert u ws) (precedes_of w.f u.f)
  where
    either : length (insert u ws) ≡ suc (length ws) → (b : Bool) → length (cond b (w ∷ insert u ws) (u ∷ w ∷ ws)) ≡ suc (suc (length ws))
    either e true = ap suc e
    either e false = refl

pub length_in_order : (us : List Vertex) → length (in_order us) ≡ length us
unfolding in_order
length_in_order [] = refl
length_in_order (u ∷ us) = length_insert u (in_order us) ∙ ap suc (length_in_order us)

module _ (v : List Vertex) (n : ℕ) (long : n < length v) where
  pub sorted_starts : v ≡ sorted_from v n n
  unfolding sorted_from in_order insert
  sorted_starts = split_at v n no_vertex long ∙ sym (rw (slice-cons n (suc n) v no_vertex (omega arith) (omega arith), slice_empty (suc n) v))

  sorted_back : (i : ℕ) → i < n → inserted_of (sorted_from v n (suc i)) i n ≡ sorted_from v n i
  unfolding inserted_of put_of sorted_from in_order
  sorted_back i h =
      let s = slice (suc i) (suc n) v in
      let d = drop (suc n) v in
      let w = take (suc i) v ++ (in_order s ++ d) in
      let front : length (take i v) ≡ i = length-take-le i v (omega arith) in
      let some : length (take (suc i) v) ≡ suc i = length-take-le (suc i) v (omega arith) in
      let rest : length (in_order s) ≡ suc n - suc i = length_in_order s ∙ length-slice (suc i) (suc n) v (omega arith) in
      let all : length (take (suc i) v ++ in_order s) ≡ suc n = length-append (take (suc i) v) (in_order s) ∙ omega arith in
      let opened : w ≡ take i v ++ (vertex_at v i ∷ (in_order s ++ d)) = rw (take-suc v i no_vertex (omega arith), append_snoc) in
      let parted : w ≡ (take (suc i) v ++ in_order s) ++ d = sym (append_assoc (take (suc i) v) (in_order s) d) in
      let one : take i w ≡ take i v = ap (take i) opened ∙ take_at (take i v) (vertex_at v i ∷ (in_order s ++ d)) i front in
      let two : vertex_at w i ≡ vertex_at v i = ap (λ (l : List Vertex). vertex_at l i) opened ∙ get_or_at (take i v) (vertex_at v i) (in_order s ++ d) no_vertex i front in
      let three : slice (suc i) (suc n) w ≡ in_order s = ap (slice (suc i) (suc n)) parted ∙ ap (drop (suc i)) (take_at (take (suc i) v ++ in_order s) d (suc n) all) ∙ drop_at (take (suc i) v) (in_order s) (suc i) some in
      let four : drop (suc n) w ≡ d = ap (drop (suc n)) parted ∙ drop_at (take (suc i) v ++ in_order s) d (suc n) all in
      rw (one, two, three, four, slice-cons i (suc n) v no_vertex (omega arith) (omega arith))

  pub sorted_goes : (i : ℕ) → 0 < i → i ≤ n → inserted_of (sorted_from v n i) (i - 1) n ≡ sorted_from v n (i - 1)
  sorted_goes zero p h = absurd (omega arith)
  sorted_goes (suc i) p h =
      let e : suc i - 1 ≡ i = omega arith in
      rw e (sorted_back i (omega arith))
