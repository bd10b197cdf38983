-- Which vertices are read off seventeen, their order, and what replacing one does. Assumes nothing.
use Prim.Native.Nat.{ℕ, zero, suc, ◌+◌, ◌-◌, ◌≤◌, ◌<◌}
use native.Mathlib.Omega.{arith}
use mathlib.Core.Path.{◌≡◌, refl, sym, ap, subst, ◌∙◌}
use mathlib.Core.Logic.{⊎_elim}
use mathlib.Core.Bool.{Bool, true, false, cond}
use mathlib.Core.List.Memᴰ
use mathlib.Core.List.{List, [], ◌∷◌, ◌++◌, map, map-append, Memᴰ}
use lib.ListN.{length, get_or, set, take, drop, length-map, take-append-drop}
use lib.Seq.{length-take-le, length_front, take-suc, take_at, take-set-lt, take-suc-set, get_or-append-add, get_or-drop, get_or-take}
use lib.Ieee.{lt}
use Rattle.float.specs.Order.{precedes_of}
use Rattle.neldermead_vertices.specs.declared.Vertex.{Vertex}
use Rattle.neldermead_vertices.specs.Order.{insert, in_order}
use Rattle.neldermead_vertices.specs.Method.{better}
use Rattle.neldermead_theory.specs.Algorithm.{but_last}
use Rattle.neldermead_vertices.specs.Vertices.{no_vertex, vertex_at, sorted_of}
use Rattle.neldermead_vertices.proofs.Insertion.{length_in_order}
use Rattle.neldermead_theory.specs.Ties.{lowered, lowered_to}
use Rattle.neldermead_theory.proofs.Order.{order_from}

-- ---- lists

-- what stands in for a missing element plays no part
pub get_d_map : {A B : Type 0} (f : A → B) (l : List A) (i : ℕ) (d : A) (e : B) → i < length l → get_or (map f l) i e ≡ f (get_or l i d)
get_d_map f [] i d e h = absurd (omega arith)
get_d_map f (x ∷ xs) zero d e h = refl
get_d_map f (x ∷ xs) (suc i) d e h = get_d_map f xs i d e (omega arith)

map_set : {A B : Type 0} (f : A → B) (l : List A) (i : ℕ) (x : A) → map f (set l i x) ≡ set (map f l) i (f x)
map_set f [] i x = refl
map_set f (y ∷ ys) zero x = refl
map_set f (y ∷ ys) (suc i) x = ap (λ l. f y ∷ l) (map_set f ys i x)

butlast_more : (us : List Vertex) (u : Vertex) → but_last (us ++ (u ∷ [])) ≡ us
butlast_more [] u = refl
butlast_more (w ∷ []) u = refl
butlast_more (w ∷ x ∷ xs) u = ap (λ l. w ∷ l) (butlast_more (x ∷ xs) u)

-- ---- the order is by values alone
module _ (n : ℕ) where
  lower_insert : (u : Vertex) (ws : List Vertex) → map (lowered n) (insert u ws) ≡ insert (lowered n u) (map (lowered n) ws)
  unfolding insert
  lower_insert u [] = refl
  lower_insert u (w ∷ ws) = go (precedes_of w.f u.f) (lower_insert u ws)
    where
      go : (b : Bool) → map (lowered n) (insert u ws) ≡ insert (lowered n u) (map (lowered n) ws)
          → map (lowered n) (cond b (w ∷ insert u ws) (u ∷ w ∷ ws))
          ≡ cond b (lowered n w ∷ insert (lowered n u) (map (lowered n) ws)) (lowered n u ∷ lowered n w ∷ map (lowered n) ws)
      go true e = ap (λ l. lowered n w ∷ l) e
      go false e = refl

  lower_order : (us : List Vertex) → map (lowered n) (in_order us) ≡ in_order (map (lowered n) us)
  unfolding in_order
  lower_order [] = refl
  lower_order (u ∷ us) = lower_insert u (in_order us) ∙ ap (insert (lowered n u)) (lower_order us)

  pub better_of : (u b : Vertex) → lowered n (better u b) ≡ better (lowered n u) (lowered n b)
  unfolding better
  better_of u b = go (lt u.f b.f)
    where
      go : (t : Bool) → lowered n (cond t u b) ≡ cond t (lowered n u) (lowered n b)
      go true = refl
      go false = refl

-- ---- each vertex in order is one of those that stood

in_place : (us : List Vertex) (i : ℕ) → i < length us → Memᴰ (vertex_at us i) us
in_place [] i h = absurd (omega arith)
in_place (u ∷ us) zero h = Memᴰ.head refl
in_place (u ∷ us) (suc i) h = Memᴰ.tail (in_place us i (omega arith))

place_of_lem : (us : List Vertex) (u : Vertex) → Memᴰ u us → (i : ℕ) × (i < length us) × (u ≡ vertex_at us i)
place_of_lem [] u m = absurd (Memᴰ.not-nil m)
place_of_lem (w ∷ ws) u m = ⊎_elim (λ e. (0, omega arith, e)) (λ k. let r = place_of_lem ws u k in (suc r.0, omega (arith, r.1), r.2)) (Memᴰ.cases_cons m)

stood : (v : List Vertex) (n : ℕ) (u : Vertex) → Memᴰ u (sorted_of v n) → Memᴰ u v
unfolding sorted_of
stood v n u m =
    subst (Memᴰ u) (take-append-drop (suc n) v)
    (⊎_elim (λ k. Memᴰ.append_left (drop (suc n) v) (order_from (take (suc n) v) u k)) (λ k. Memᴰ.append_right (take (suc n) v) k)
    (Memᴰ.append_cases (in_order (take (suc n) v)) m))

sorted_length : (v : List Vertex) (n : ℕ) → length (sorted_of v n) ≡ length v
unfolding sorted_of
sorted_length v n = length_front v (in_order (take (suc n) v)) (suc n) (length_in_order (take (suc n) v))

pub sorted_from_lem : (n : ℕ) (v : List Vertex) → length v ≡ 17 → (i : ℕ) → i < 17 → (j : ℕ) × (j < 17) × (vertex_at (sorted_of v n) i ≡ vertex_at v j)
sorted_from_lem n v long i h =
    let u = vertex_at (sorted_of v n) i in
    let r = place_of_lem v u (stood v n u (in_place (sorted_of v n) i (omega (arith, sorted_length v n)))) in
    (r.0, omega (arith, r.1), r.2)

-- ---- seventeen vertices
module _ (n : ℕ) (v : List Vertex) (small : n ≤ 16) (long : length v ≡ 17) where
  pub many : (k : ℕ) → k ≤ 17 → length (lowered_to n k v) ≡ k
  many k h = length-map (take k v) (lowered n) ∙ length-take-le k v (omega arith)

  pub vertex_at_lem : (d : Vertex) (i : ℕ) → i ≤ n → get_or (lowered_to n (suc n) v) i d ≡ lowered n (vertex_at v i)
  vertex_at_lem d i h =
      get_d_map (lowered n) (take (suc n) v) i no_vertex d (omega (arith, length-take-le (suc n) v (omega arith)))
      ∙ ap (lowered n) (get_or-take (suc n) v i no_vertex (omega arith))

  pub one_more : (k : ℕ) → k < 17 → lowered_to n (suc k) v ≡ lowered_to n k v ++ (lowered n (vertex_at v k) ∷ [])
  one_more k h = ap (map (lowered n)) (take-suc v k no_vertex (omega arith)) ∙ map-append (lowered n) (take k v) (vertex_at v k ∷ [])

  pub butlast_of : but_last (lowered_to n (suc n) v) ≡ lowered_to n n v
  butlast_of = ap but_last (one_more n (omega arith)) ∙ butlast_more (lowered_to n n v) (lowered n (vertex_at v n))

  pub set_inside : (k i : ℕ) (u : Vertex) → i < k → lowered_to n k (set v i u) ≡ set (lowered_to n k v) i (lowered n u)
  set_inside k i u h = ap (map (lowered n)) (take-set-lt k v i u h) ∙ map_set (lowered n) (take k v) i u

  pub set_next : (k : ℕ) (u : Vertex) → k < 17 → lowered_to n (suc k) (set v k u) ≡ lowered_to n k v ++ (lowered n u ∷ [])
  set_next k u h = ap (map (lowered n)) (take-suc-set v k u (omega arith)) ∙ map-append (lowered n) (take k v) (u ∷ [])

  pub set_last : (u : Vertex) → lowered_to n (suc n) (set v n u) ≡ but_last (lowered_to n (suc n) v) ++ (lowered n u ∷ [])
  set_last u = set_next n u (omega arith) ∙ ap (λ l. l ++ (lowered n u ∷ [])) (sym butlast_of)

  front : length (in_order (take (suc n) v)) ≡ suc n
  front = length_in_order (take (suc n) v) ∙ length-take-le (suc n) v (omega arith)

  pub sorted_of_lem : lowered_to n (suc n) (sorted_of v n) ≡ in_order (lowered_to n (suc n) v)
  unfolding sorted_of
  sorted_of_lem = ap (map (lowered n)) (take_at (in_order (take (suc n) v)) (drop (suc n) v) (suc n) front) ∙ lower_order n (take (suc n) v)

  pub sorted_many : length (sorted_of v n) ≡ 17
  sorted_many = sorted_length v n ∙ long

  pub sorted_past : (i : ℕ) → n < i → vertex_at (sorted_of v n) i ≡ vertex_at v i
  unfolding sorted_of
  sorted_past i h =
      let split : i ≡ suc n + (i - suc n) = omega arith in
      let w = in_order (take (suc n) v) ++ drop (suc n) v in
      ap (vertex_at w) (split ∙ ap (λ (m : ℕ). m + (i - suc n)) (sym front))
      ∙ get_or-append-add (in_order (take (suc n) v)) (drop (suc n) v) (i - suc n) no_vertex
      ∙ get_or-drop (suc n) v (i - suc n) no_vertex
      ∙ ap (vertex_at v) (sym split)
