-- Vertices told, what covers all that is told, and that both hold on arriving at the head of a round. Assumes nothing.
use Prim.Native.Nat.{ℕ}
use mathlib.Core.Path.{◌≡◌, refl, sym, ◌∙◌, ap, subst}
use mathlib.Core.Logic.{◌⊎◌, inl, inr, ⊎_elim}
use mathlib.Core.List.Memᴰ
use mathlib.Core.List.{List, [], ◌∷◌, ◌++◌, Memᴰ}
use mathlib.Core.Bool.{Bool, true, false, ◌||◌, cond}
use lib.Dec.{T}
use lib.ListN.{length, get_or}
use lib.Ieee.{Float, nan, inf, fin, lt, is_nan}
use Rattle.float.specs.Binary64.{Number, NotAbove}
use Rattle.float.specs.Values.{Finite, finite_of}
use Rattle.float.proofs.Order.{lt→le, le→not_above, lt_irrefl, not_above_trans}
use Rattle.float.proofs.Tests.{false_T}
use Rattle.protocol.specs.declared.Kind.TheVariants.{Value}
use Rattle.protocol.specs.Protocol.{read_of}
use Rattle.protocol.specs.Dialogue.{Exchange}
use Rattle.protocol.specs.Ask.{heard_at, Grows}
use Rattle.protocol.proofs.Replies.{true_T, not_above_self}
use Rattle.protocol.proofs.Readings.{only, read_below, read_number}
use Rattle.neldermead_vertices.specs.declared.Vertex.{Vertex}
use Rattle.neldermead_vertices.specs.Order.{in_order}
use Rattle.neldermead_vertices.specs.Method.{better}
use Rattle.neldermead_theory.specs.Algorithm.{SimplexPosition, arrive, any_finite}
use Rattle.neldermead_theory.specs.Laws.{VertexTold, All, Cover, BestTold, SimplexAtHead}
use Rattle.neldermead_theory.proofs.Order.{order_from, least_first, get_d_cases}

-- ---- values

inf_above_finite : (w : Float) → NotAbove (inf false) w → Finite w → ⊥
unfolding lt finite_of
inf_above_finite nan a f = f
inf_above_finite (inf b) a f = f
inf_above_finite (fin b m d) a f = a

pub lt_not_above : (v w : Float) → lt v w ≡ true → NotAbove v w
lt_not_above v w e = le→not_above v w (lt→le v w (true_T (lt v w) e))

pub told_number : (es : List Exchange) (u : Vertex) → VertexTold es u → Number u.f
told_number es u t = subst Number t.2 (read_number t.0)

-- ---- all of a list

pub all_cons : (P : Vertex → Type 0) (u : Vertex) (us : List Vertex) → P u → All P us → All P (u ∷ us)
all_cons P u us p h x m = ⊎_elim (λ e. subst P (sym e) p) (λ k. h x k) (Memᴰ.cases_cons m)

pub all_nil : (P : Vertex → Type 0) → All P []
all_nil P x m = absurd (Memᴰ.not-nil m)

pub all_append : (P : Vertex → Type 0) (us ws : List Vertex) → All P us → All P ws → All P (us ++ ws)
all_append P us ws h k x m = ⊎_elim (h x) (k x) (Memᴰ.append_cases us m)

-- ---- what covers

-- a wider list covers too
pub cover_by : (es : List Exchange) (b : Vertex) (us ws : List Vertex) → Cover es b us → All (λ u. Memᴰ u ws) us → Cover es b ws
cover_by es b us ws h k x v t = ⊎_elim (λ n. inl n) (λ p. inr (p.0, k p.0 p.1, p.2)) (h x v t)

-- what a vertex covers, one that is not above it covers
pub cover_swap : (es : List Exchange) (b r : Vertex) (ws : List Vertex) → Cover es b (r ∷ ws) → Number r.f → (u : Vertex) → Memᴰ u ws → NotAbove u.f r.f → Cover es b ws
cover_swap es b r ws h n u m k x v t =
    ⊎_elim (λ a. inl a)
    (λ p. ⊎_elim (λ e. inr (u, m, not_above_trans u.f r.f (read_of v) n k (subst (λ (z : Vertex). NotAbove z.f (read_of v)) e p.2)))
    (λ i. inr (p.0, i, p.2)) (Memᴰ.cases_cons p.1))
    (h x v t)

-- so does the best
pub cover_best : (es : List Exchange) (b r : Vertex) (ws : List Vertex) → Cover es b (r ∷ ws) → Number r.f → NotAbove b.f r.f → Cover es b ws
cover_best es b r ws h n k x v t =
    ⊎_elim (λ a. inl a)
    (λ p. ⊎_elim (λ e. inl (not_above_trans b.f r.f (read_of v) n k (subst (λ (z : Vertex). NotAbove z.f (read_of v)) e p.2)))
    (λ i. inr (p.0, i, p.2)) (Memᴰ.cases_cons p.1))
    (h x v t)

-- what is told is not below the best where nothing else covers
pub covered : (es : List Exchange) (b u : Vertex) → Cover es b [] → VertexTold es u → NotAbove b.f u.f
covered es b u k t = subst (λ (z : Float). NotAbove b.f z) t.2 (⊎_elim (λ n. n) (λ p. absurd (Memᴰ.not-nil p.1)) (k u.x t.0 t.1))

-- ---- one exchange more: the words w for the point y

module _ (es : List Exchange) (n : ℕ) (y w : List Float) where
  -- the exchanges with it
  abbrev more : List Exchange
  more = es ++ (heard_at n Value y w ∷ [])

  -- the vertex made of it
  abbrev new : Vertex
  new = record { x = y; f = read_of (get_or w 0 nan) }

  pub told_new : length w ≡ 1 → VertexTold more new
  told_new l = (get_or w 0 nan, (heard_at n Value y w, Memᴰ.append_right es (Memᴰ.head refl), refl, refl, only w l), refl)

  -- it covers what is newly told
  pub cover_new : (b : Vertex) (us : List Vertex) → Cover es b us → Cover more b (new ∷ us)
  cover_new b us h x v t =
      ⊎_elim (λ m. ⊎_elim (λ a. inl a) (λ p. inr (p.0, Memᴰ.tail p.1, p.2)) (h x v (t.0, m, t.2, t.3, t.4)))
      (λ m. inr (new, Memᴰ.head refl, here (Memᴰ.eq_of_singleton m)))
      (Memᴰ.append_cases es t.1)
    where
      here : t.0 ≡ heard_at n Value y w → NotAbove (read_of (get_or w 0 nan)) (read_of v)
      here e =
          let words : w ≡ v ∷ [] = sym (ap (λ (z : Exchange). z.words) e) ∙ t.4 in
          subst (λ (l : List Float). NotAbove (read_of (get_or w 0 nan)) (read_of (get_or l 0 nan))) words (not_above_self (read_of (get_or w 0 nan)))

-- what was told stays told
pub told_grows : (es fs : List Exchange) → Grows es fs → (u : Vertex) → VertexTold es u → VertexTold fs u
told_grows es fs g u t = (t.0, g u.x t.0 t.1, t.2)

pub best_grows : (es fs : List Exchange) → Grows es fs → (b : Vertex) → BestTold es b → BestTold fs b
best_grows es fs g b t = (told_grows es fs g b t.0, t.1)

-- ---- arriving at the head of a round

some_finite : (us : List Vertex) → T (any_finite us) → (u : Vertex) × Memᴰ u us × Finite u.f
some_finite [] h = absurd h
some_finite (u ∷ us) h = go (finite_of u.f) refl h (some_finite us)
  where
    go : (b : Bool) → finite_of u.f ≡ b → T (b || any_finite us) → (T (any_finite us) → (w : Vertex) × Memᴰ w us × Finite w.f) → (w : Vertex) × Memᴰ w (u ∷ us) × Finite w.f
    go true e h k = (u, Memᴰ.head refl, true_T (finite_of u.f) e)
    go false e h k = let r = k h in (r.0, Memᴰ.tail r.1, r.2)

module _ (es : List Exchange) (p : SimplexPosition) (us : List Vertex) (told : All (VertexTold es) us) (cover : Cover es p.best us)
    (found : BestTold es p.best ⊎ ((p.best.f ≡ inf false) × T (any_finite us))) where
  abbrev first : Vertex
  first = get_or (in_order us) 0 p.best

  least : (x : Vertex) → Memᴰ x us → NotAbove first.f x.f
  least = least_first us p.best

  best_number : Number p.best.f
  unfolding is_nan
  best_number = ⊎_elim (λ t. told_number es p.best t.0) (λ i. subst Number (sym i.0) tt) found

  first_is : VertexTold es first ⊎ (first ≡ p.best)
  first_is = ⊎_elim (λ m. inl (told first (order_from us first m))) (λ e. inr e) (get_d_cases (in_order us) 0 p.best)

  first_number : Number first.f
  first_number = ⊎_elim (told_number es first) (λ e. subst (λ (z : Vertex). Number z.f) (sym e) best_number) first_is

  -- the best is replaced
  new_told : lt first.f p.best.f ≡ true → BestTold es first
  new_told e =
      let less = true_T (lt first.f p.best.f) e in
      ⊎_elim (λ t. (t, subst Finite t.2 (read_below t.0 p.best.f (subst (λ (z : Float). T (lt z p.best.f)) (sym t.2) less))))
      (λ i. absurd (lt_irrefl p.best.f (subst (λ (z : Vertex). T (lt z.f p.best.f)) i less))) first_is

  new_cover : NotAbove first.f p.best.f → Cover es first []
  new_cover k x v t =
      inl (⊎_elim (λ a. not_above_trans first.f p.best.f (read_of v) best_number k a)
      (λ q. not_above_trans first.f q.0.f (read_of v) (told_number es q.0 (told q.0 q.1)) (least q.0 q.1) q.2) (cover x v t))

  -- the best stays, and is no infinity, since of the vertices one is finite
  old_told : NotAbove p.best.f first.f → BestTold es p.best
  old_told k =
      ⊎_elim (λ t. t)
      (λ i.
      let s = some_finite us i.1 in
      let above : NotAbove p.best.f s.0.f = not_above_trans p.best.f first.f s.0.f first_number k (least s.0 s.1) in
      absurd (inf_above_finite s.0.f (subst (λ (z : Float). NotAbove z s.0.f) i.0 above) s.2)) found

  old_cover : NotAbove p.best.f first.f → Cover es p.best []
  old_cover k x v t =
      inl (⊎_elim (λ a. a)
      (λ q.
      let below : NotAbove p.best.f q.0.f = not_above_trans p.best.f first.f q.0.f first_number k (least q.0 q.1) in
      not_above_trans p.best.f q.0.f (read_of v) (told_number es q.0 (told q.0 q.1)) below q.2) (cover x v t))

  pub arrives : SimplexAtHead es (arrive p us)
  unfolding arrive better
  arrives = record { vertices_told = λ u m. told u (order_from us u m); best_told = go_told (lt first.f p.best.f) refl; cover = go_cover (lt first.f p.best.f) refl }
    where
      go_told : (b : Bool) → lt first.f p.best.f ≡ b → BestTold es (cond b first p.best)
      go_told true e = new_told e
      go_told false e = old_told (false_T (lt first.f p.best.f) e)

      go_cover : (b : Bool) → lt first.f p.best.f ≡ b → Cover es (cond b first p.best) []
      go_cover true e = new_cover (lt_not_above first.f p.best.f e)
      go_cover false e = old_cover (false_T (lt first.f p.best.f) e)

-- the best never rises
pub arrive_below : (p : SimplexPosition) (us : List Vertex) → NotAbove (arrive p us).best.f p.best.f
unfolding arrive better
arrive_below p us = go (lt (get_or (in_order us) 0 p.best).f p.best.f) refl
  where
    go : (b : Bool) → lt (get_or (in_order us) 0 p.best).f p.best.f ≡ b → NotAbove (cond b (get_or (in_order us) 0 p.best) p.best).f p.best.f
    go true e = lt_not_above (get_or (in_order us) 0 p.best).f p.best.f e
    go false e = not_above_self p.best.f
