-- What the texts of a simplex fit over n unknowns ask at most, of a kind: n + 1 values a new simplex, n + 2 a round (`build_costs`, `round_costs`). Assumes nothing.
use Prim.Native.Nat.{ℕ, suc, ◌+◌, ◌*◌, ◌-◌}
use native.Mathlib.Nat.{mul-le-mul_right, suc-mul, zero-add}
use native.Mathlib.Omega.{arith}
use mathlib.Core.Path.{◌≡◌, refl, sym, ◌∙◌, ap, subst}
use mathlib.Core.Logic.{⊎_elim}
use mathlib.Core.List.Memᴰ
use mathlib.Core.List.{List, [], ◌∷◌, ◌++◌, map, Memᴰ}
use mathlib.Core.Bool.{Bool, true, false, cond}
use lib.ListN.{length, length-map, get_or}
use lib.Ieee.{Float, lt, le, neg}
use Rattle.float.specs.Binary64.{◌⊗◌}
use Rattle.vector.specs.Lists.{shrunk}
use Rattle.protocol.specs.declared.Kind.{Kind}
use Rattle.protocol.specs.declared.Kind.TheVariants.{Value}
use Rattle.protocol.specs.Dialogue.{of_kind}
use Rattle.protocol.specs.Ask.{Ask, finish, ◌>>=◌}
use Rattle.protocol.specs.Rounds.{Ending, at_head, stops, fails}
use Rattle.protocol.specs.Bounds.{Costs}
use Rattle.protocol.proofs.Bounds.{costs_more, costs_bind, cond_costs}
use Rattle.neldermead_vertices.specs.declared.Vertex.{Vertex}
use Rattle.neldermead_vertices.specs.Order.{in_order}
use Rattle.neldermead_vertices.specs.Method.{better, alpha, beta, gamma, delta}
use Rattle.neldermead_vertices.proofs.Insertion.{length_in_order}
use Rattle.neldermead_theory.specs.Algorithm.{SimplexPosition, vertex, arrive, replaced, but_last, others, ask_vertex, ask_vertices, any_finite, built, build, corners, centroid, towards, shrink, expand, contract_outside, contract_inside, reflected, iterated, round}
use Rattle.neldermead_theory.specs.Laws.{All}
use Rattle.neldermead_theory.proofs.Order.{order_from, get_d_cases, butlast_from, others_from}
use Rattle.neldermead_theory.proofs.LawsTold.{all_cons, all_nil, all_append}
use Rattle.neldermead_theory.proofs.CountsLengths.{Long, shrunk_long, vertex_long, towards_long, corners_many, corner_long, replaced_length, others_length}

-- R is how often the fit restarts
module _ (κ : Kind) (n R : ℕ) where
  -- a value counts so much
  abbrev u : ℕ
  u = of_kind κ Value

  -- ---- vertices asked for

  vertex_costs : (x : List Float) → length x ≡ n → Costs κ u (ask_vertex x) (Long n)
  unfolding ◌>>=◌
  vertex_costs x l = (0, omega arith, λ w. l)

  abbrev Made : ℕ → List Vertex → Type 0
  Made k us = All (Long n) us × (length us ≡ k)

  vertices_cost : (xs : List (List Float)) → ((x : List Float) → Memᴰ x xs → length x ≡ n) → Costs κ (length xs * u) (ask_vertices xs) (Made (length xs))
  unfolding ask_vertices
  vertices_cost [] h = (all_nil (Long n), refl)
  vertices_cost (x ∷ xs) h =
      costs_more κ (u + (length xs * u + 0)) (suc (length xs) * u) (ask_vertex x >>= λ w. ask_vertices xs >>= λ us. finish (w ∷ us)) (Made (suc (length xs)))
      (omega (arith, suc-mul (length xs) u))
      (costs_bind κ u (length xs * u + 0) (ask_vertex x) (λ w. ask_vertices xs >>= λ us. finish (w ∷ us)) (Long n) (Made (suc (length xs))) (vertex_costs x (h x (Memᴰ.head refl)))
      (λ w l. costs_bind κ (length xs * u) 0 (ask_vertices xs) (λ us. finish (w ∷ us)) (Made (length xs)) (Made (suc (length xs))) (vertices_cost xs (λ y m. h y (Memᴰ.tail m)))
      (λ us k. (all_cons (Long n) w us l k.0, ap suc k.1))))

  -- ---- heads

  -- a position whose points have n coordinates and whose simplex has n + 1 vertices
  pub record Sized (p : SimplexPosition) : Type 0 where
    pub restarts : p.options.restarts ≡ R
    pub best_long : Long n p.best
    pub vertices_long : All (Long n) p.vertices
    pub shape : length p.vertices ≡ suc n

  -- the head that a text ends at, with so many runs done and so many iterations
  abbrev pub End : ℕ → ℕ → Ending SimplexPosition → Type 0
  End r i (at_head p) = Sized p × (p.runs ≡ r) × (p.iterations ≡ i)
  End r i (stops y p) = Unit {0}
  End r i (fails k d) = Unit {0}

  module _ (p : SimplexPosition) (again : p.options.restarts ≡ R) (best : Long n p.best) where
    abbrev Q : Ending SimplexPosition → Type 0
    Q o = End p.runs p.iterations o

    either : (c : Bool) (v w : Vertex) → Long n v → Long n w → Long n (cond c v w)
    either true v w h k = h
    either false v w h k = k

    arrive_end : (us : List Vertex) → All (Long n) us → length us ≡ suc n → Q (at_head (arrive p us))
    unfolding arrive better
    arrive_end us h l = (
      record {
        restarts = again;
        best_long =
            let first = get_or (in_order us) 0 p.best in
            either (lt first.f p.best.f) first p.best (⊎_elim (λ m. h first (order_from us first m)) (λ i. subst (Long n) (sym i) best) (get_d_cases (in_order us) 0 p.best)) best;
        vertices_long = λ w m. h w (order_from us w m);
        shape = length_in_order us ∙ l;
      },
      refl,
      refl,
    )

    -- ---- a new simplex about a point

    pub build_costs : (x : List Float) → length x ≡ n → Costs κ (suc n * u) (build p x) Q
    build_costs x l =
        subst (λ (k : ℕ). Costs κ (suc k * u) (build p x) Q) many
        (costs_more κ (suc (length cs) * u + 0) (suc (length cs) * u) (build p x) Q (omega arith)
        (costs_bind κ (suc (length cs) * u) 0 (ask_vertices (x ∷ cs)) (built p) (Made (suc (length cs))) Q (vertices_cost (x ∷ cs) long)
        (λ us m. ends us m (any_finite us))))
      where
        cs : List (List Float)
        cs = corners p.options.step [] x

        many : length cs ≡ n
        many = corners_many p.options.step [] x ∙ l

        long : (y : List Float) → Memᴰ y (x ∷ cs) → length y ≡ n
        long y m = ⊎_elim (λ e. ap length e ∙ l) (λ k. corner_long p.options.step [] x y k ∙ zero-add (length x) ∙ l) (Memᴰ.cases_cons m)

        ends : (us : List Vertex) → Made (suc (length cs)) us → (c : Bool) → Q (cond c (at_head (arrive p us)) (fails 20 0))
        ends us m true = arrive_end us m.0 (m.1 ∙ ap suc many)
        ends us m false = tt

    -- ---- a round

    module _ (all : All (Long n) p.vertices) (shape : length p.vertices ≡ suc n) where
      replaced_end : (w : Vertex) → Long n w → Q (replaced p w)
      replaced_end w l =
          arrive_end (but_last p.vertices ++ (w ∷ []))
          (all_append (Long n) (but_last p.vertices) (w ∷ []) (λ v m. all v (butlast_from p.vertices v m)) (all_cons (Long n) w [] l (all_nil (Long n))))
          (replaced_length p.vertices w n shape)

      -- a vertex drawn to the best
      abbrev drawn : Vertex → List Float
      drawn w = shrunk (vertex p 0).x w.x (delta p.options p.n)

      drawn_long : (x : List Float) → Memᴰ x (map drawn (others p.vertices)) → length x ≡ n
      drawn_long x m =
          let w = Memᴰ.of_map drawn (others p.vertices) m in
          sym (ap length w.2) ∙ shrunk_long n (vertex p 0).x w.0.x (delta p.options p.n) (vertex_long n p best all 0) (all w.0 (others_from p.vertices w.0 w.1))

      shrink_costs : Costs κ (n * u) (shrink p) Q
      shrink_costs =
          subst (λ (k : ℕ). Costs κ (k * u) (shrink p) Q) count
          (costs_more κ (length points * u + 0) (length points * u) (shrink p) Q (omega arith)
          (costs_bind κ (length points * u) 0 (ask_vertices points) (λ us. finish (at_head (arrive p (vertex p 0 ∷ us)))) (Made (length points)) Q
          (vertices_cost points drawn_long)
          (λ us m. arrive_end (vertex p 0 ∷ us) (all_cons (Long n) (vertex p 0) us (vertex_long n p best all 0) m.0) (ap suc (m.1 ∙ count)))))
        where
          points : List (List Float)
          points = map drawn (others p.vertices)

          count : length points ≡ n
          count = length-map (others p.vertices) drawn ∙ others_length p.vertices n shape

      -- one vertex more, and then at most k
      then_costs : (k : ℕ) (t : Float) (f : Vertex → Ask (Ending SimplexPosition)) → ((w : Vertex) → Long n w → Costs κ (k * u) (f w) Q) → Costs κ (suc k * u) (ask_vertex (towards p t) >>= f) Q
      then_costs k t f g =
          costs_more κ (u + k * u) (suc k * u) (ask_vertex (towards p t) >>= f) Q (omega (arith, suc-mul k u))
          (costs_bind κ u (k * u) (ask_vertex (towards p t)) f (Long n) Q (vertex_costs (towards p t) (towards_long n p best all t)) g)

      contract_costs : (t : Float) (taken : Vertex → Bool) → Costs κ (suc n * u) (ask_vertex (towards p t) >>= λ c. cond (taken c) (finish (replaced p c)) (shrink p)) Q
      contract_costs t taken =
          then_costs n t (λ c. cond (taken c) (finish (replaced p c)) (shrink p)) (λ c k. cond_costs κ (n * u) (taken c) (finish (replaced p c)) (shrink p) Q (replaced_end c k) shrink_costs)

      expand_costs : (r : Vertex) → Long n r → Costs κ (suc n * u) (expand p r) Q
      expand_costs r l =
          costs_more κ (1 * u) (suc n * u) (expand p r) Q (mul-le-mul_right u (omega arith))
          (then_costs 0 (alpha ⊗ beta p.options p.n) (λ e. finish (replaced p (cond (lt e.f r.f) e r)))
          (λ e k. replaced_end (cond (lt e.f r.f) e r) (either (lt e.f r.f) e r k l)))

      pub reflected_costs : (r : Vertex) → Long n r → Costs κ (suc n * u) (reflected p r) Q
      reflected_costs r l =
          cond_costs κ (suc n * u) (lt r.f (vertex p 0).f) (expand p r) _ Q (expand_costs r l)
          (cond_costs κ (suc n * u) (lt r.f (vertex p (p.n - 1)).f) (finish (replaced p r)) _ Q (replaced_end r l)
          (cond_costs κ (suc n * u) (lt r.f (vertex p p.n).f) (contract_outside p r) (contract_inside p) Q
          (contract_costs (alpha ⊗ gamma p.options p.n) (λ c. le c.f r.f))
          (contract_costs (neg (gamma p.options p.n)) (λ c. lt c.f (vertex p p.n).f))))

  -- the reflected point is that of the position before it counts the iteration
  pub round_costs : (p : SimplexPosition) → Sized p → Costs κ (suc (suc n) * u) (round p) (End p.runs (suc p.iterations))
  unfolding centroid
  round_costs p z =
      then_costs (iterated p) z.restarts z.best_long z.vertices_long z.shape (suc n) alpha (reflected (iterated p))
      (reflected_costs (iterated p) z.restarts z.best_long z.vertices_long z.shape)
