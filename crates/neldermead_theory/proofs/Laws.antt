-- Nelder and Mead's texts satisfy the laws of rounds (`laws`): the best is told for its point, nothing told is less, and it never rises. Assumes nothing.
use Prim.Native.Nat.{ℕ, ◌-◌}
use mathlib.Core.Path.{◌≡◌, refl, sym, ◌∙◌, subst}
use mathlib.Core.Logic.{inl, inr, ⊎_elim}
use mathlib.Core.List.Memᴰ
use mathlib.Core.List.{List, [], ◌∷◌, ◌++◌, map, Memᴰ}
use mathlib.Core.Bool.{Bool, true, false, not, ◌||◌, cond, true≢false}
use lib.Dec.{T, leb, eqb}
use lib.ListN.{length}
use lib.Ieee.{Float, inf, lt, le, eq, neg}
use Rattle.float.specs.Binary64.{NotAbove, ◌⊗◌}
use Rattle.float.specs.Values.{Finite}
use Rattle.float.proofs.Order.{not_above_trans}
use Rattle.float.proofs.Tests.{false_T}
use Rattle.vector.specs.Lists.{all_finite, shrunk}
use Rattle.protocol.specs.declared.Kind.TheVariants.{Value}
use Rattle.protocol.specs.declared.SimplexOptions.{SimplexOptions}
use Rattle.protocol.specs.declared.Termination.{Termination}
use Rattle.protocol.specs.declared.Termination.TheVariants.{SimplexTolerance, ObjectiveResolution}
use Rattle.protocol.specs.Protocol.{read_of}
use Rattle.protocol.specs.Dialogue.{Exchange, Told}
use Rattle.protocol.specs.Ask.{Ask, finish, ◌>>=◌, heard_at, wp, Grows}
use Rattle.protocol.specs.Rounds.{Ending, at_head, fails, Verdict, go_on, stop, restart}
use Rattle.protocol.specs.RoundsLaws.{Known, Own, Begins, EndsAs, OpensAs, Opening}
use Rattle.protocol.proofs.Texts.{wp_bind, wp_map, grow_one}
use Rattle.protocol.proofs.Replies.{true_T}
use Rattle.protocol.proofs.Verdicts.{stop≢restart, go_on≢restart, go_on≢stop, stop_inj, restart_inj}
use Rattle.protocol.proofs.Readings.{read_own}
use Rattle.neldermead_vertices.specs.declared.Vertex.{Vertex}
use Rattle.neldermead_vertices.specs.Method.{alpha, beta, gamma, delta}
use Rattle.neldermead_theory.specs.Algorithm.{SimplexPosition, vertex, arrive, replaced, but_last, others, ask_vertex, ask_vertices, any_finite, built, build, corners, towards, shrink, expand, contract_outside, contract_inside, reflected, iterated, rerun, round, tests, converged, reason, opening, nowhere, tolerance, positive_finite, nelder_mead}
use Rattle.neldermead_theory.specs.Laws.{VertexTold, All, Cover, BestTold, SimplexAtHead, SimplexLaws}
use Rattle.neldermead_theory.proofs.Order.{get_d_cases, butlast_from}
use Rattle.neldermead_theory.proofs.LawsTold.{lt_not_above, told_number, all_cons, all_nil, all_append, cover_by, cover_swap, cover_best, covered, told_new, cover_new, told_grows, best_grows, arrives, arrive_below}

-- ---- vertices asked for: they are told, what was told stays told, and they cover what is newly told

pub record Asked (es fs : List Exchange) (us : List Vertex) : Type 0 where
  pub told : All (VertexTold fs) us
  pub grows : Grows es fs
  pub covers : (b : Vertex) (ws : List Vertex) → Cover es b ws → Cover fs b (us ++ ws)

vertex_ok : (es : List Exchange) (x : List Float) → wp es (ask_vertex x) (λ fs u. Asked es fs (u ∷ []))
unfolding ◌>>=◌
vertex_ok es x n w l i =
    let fs = es ++ (heard_at n Value x w ∷ []) in
    record {
      told = all_cons (VertexTold fs) _ [] (told_new es n x w l) (all_nil (VertexTold fs));
      grows = grow_one es (heard_at n Value x w);
      covers = λ b ws. cover_new es n x w b ws;
    }

-- a vertex asked for, and then what is done with it
then_vertex : {A : Type 0} (es : List Exchange) (x : List Float) (f : Vertex → Ask A) (Q : List Exchange → A → Type 0)
    → ((fs : List Exchange) (u : Vertex) → Asked es fs (u ∷ []) → wp fs (f u) Q) → wp es (ask_vertex x >>= f) Q
then_vertex es x f Q h = wp_bind es (ask_vertex x) f Q (wp_map es (ask_vertex x) (λ fs u. Asked es fs (u ∷ [])) (λ fs u. wp fs (f u) Q) h (vertex_ok es x))

asked_cons : (es fs gs : List Exchange) (u : Vertex) (us : List Vertex) → Asked es fs (u ∷ []) → Asked fs gs us → Asked es gs (u ∷ us)
asked_cons es fs gs u us h k =
    record {
      told = all_cons (VertexTold gs) u us (told_grows fs gs k.grows u (h.told u (Memᴰ.head refl))) k.told;
      grows = λ x v t. k.grows x v (h.grows x v t);
      covers = λ b ws c. cover_by gs b (us ++ (u ∷ ws)) (u ∷ us ++ ws) (k.covers b (u ∷ ws) (h.covers b ws c))
          (λ x m. ⊎_elim (λ i. Memᴰ.tail (Memᴰ.append_left ws i))
          (λ i. ⊎_elim (λ e. Memᴰ.head e) (λ j. Memᴰ.tail (Memᴰ.append_right us j)) (Memᴰ.cases_cons i)) (Memᴰ.append_cases us m));
    }

vertices_ok : (xs : List (List Float)) (es : List Exchange) → wp es (ask_vertices xs) (λ fs us. Asked es fs us)
unfolding ask_vertices
vertices_ok [] es = record { told = all_nil (VertexTold es); grows = λ x v t. t; covers = λ b ws c. c }
vertices_ok (x ∷ xs) es =
    then_vertex es x (λ u. ask_vertices xs >>= λ us. finish (u ∷ us)) (Asked es)
    (λ fs u h. wp_bind fs (ask_vertices xs) (λ us. finish (u ∷ us)) (Asked es)
    (wp_map fs (ask_vertices xs) (Asked fs) (λ gs us. Asked es gs (u ∷ us)) (λ gs us k. asked_cons es fs gs u us h k) (vertices_ok xs fs)))

then_vertices : {A : Type 0} (es : List Exchange) (xs : List (List Float)) (f : List Vertex → Ask A) (Q : List Exchange → A → Type 0)
    → ((fs : List Exchange) (us : List Vertex) → Asked es fs us → wp fs (f us) Q) → wp es (ask_vertices xs >>= f) Q
then_vertices es xs f Q h = wp_bind es (ask_vertices xs) f Q (wp_map es (ask_vertices xs) (Asked es) (λ fs us. wp fs (f us) Q) h (vertices_ok xs es))

-- the vertices just asked for cover alone what they cover with none
alone : (es fs : List Exchange) (b : Vertex) (us : List Vertex) → Asked es fs us → Cover es b [] → Cover fs b us
alone es fs b us a k =
    cover_by fs b (us ++ []) us (a.covers b [] k) (λ x m. ⊎_elim (λ i. i) (λ i. absurd (Memᴰ.not-nil i)) (Memᴰ.append_cases us m))

-- ---- a round

abbrev Least : SimplexOptions → Type 0
Least o = Unit {0}

abbrev At : SimplexOptions → List Exchange → SimplexPosition → Type 0
At o es p = SimplexAtHead es p

-- an ending not above v, whatever the start
abbrev End : Float → List Exchange → Ending SimplexPosition → Type 0
End v es o = (s : SimplexOptions) → EndsAs nelder_mead Least At s v es o

lower : (s : SimplexOptions) (es : List Exchange) (v : Float) (m : Ask (Ending SimplexPosition)) → wp es m (End v) → wp es m (EndsAs nelder_mead Least At s v)
lower s es v m h = wp_map es m (End v) (EndsAs nelder_mead Least At s v) (λ fs o k. k s) h

-- the simplex as it stands, after the exchanges es
pub record Stands (p : SimplexPosition) (es : List Exchange) : Type 0 where
  pub vertices_told : All (VertexTold es) p.vertices
  pub best_told : BestTold es p.best

stands_on : (p : SimplexPosition) (es fs : List Exchange) → Grows es fs → Stands p es → Stands p fs
stands_on p es fs g h = record { vertices_told = λ u m. told_grows es fs g u (h.vertices_told u m); best_told = best_grows es fs g p.best h.best_told }

-- where `<=` fails, the second is not above the first
not_le : (v w : Float) → le v w ≡ false → NotAbove w v
unfolding le
not_le v w e = go (lt v w) (eq v w) refl e
  where
    go : (a b : Bool) → lt v w ≡ a → a || b ≡ false → T (not (lt v w))
    go true b d e = absurd (true≢false e)
    go false b d e = false_T (lt v w) d

module _ (p : SimplexPosition) where
  abbrev b : Vertex
  b = p.best

  arrives_lower : (es : List Exchange) (us : List Vertex) → BestTold es b → All (VertexTold es) us → Cover es b us → End b.f es (at_head (arrive p us))
  arrives_lower es us t h k s = (arrives es p us h k (inl t), arrive_below p us)

  -- the worst vertex is replaced by u, which covers what is not covered yet
  replaces : (es : List Exchange) (u : Vertex) → Stands p es → VertexTold es u → Cover es b (u ∷ []) → End b.f es (replaced p u)
  replaces es u h t k =
      arrives_lower es (but_last p.vertices ++ (u ∷ [])) h.best_told
      (all_append (VertexTold es) (but_last p.vertices) (u ∷ []) (λ x m. h.vertices_told x (butlast_from p.vertices x m)) (all_cons (VertexTold es) u [] t (all_nil (VertexTold es))))
      (cover_by es b (u ∷ []) (but_last p.vertices ++ (u ∷ [])) k (λ x m. Memᴰ.append_right (but_last p.vertices) m))

  vertex_told : (es : List Exchange) → Stands p es → (k : ℕ) → VertexTold es (vertex p k)
  vertex_told es h k = ⊎_elim (λ m. h.vertices_told (vertex p k) m) (λ e. subst (VertexTold es) (sym e) h.best_told.0) (get_d_cases p.vertices k b)

  shrinks : (es : List Exchange) → Stands p es → Cover es b [] → wp es (shrink p) (End b.f)
  shrinks es h k =
      then_vertices es (map (λ u. shrunk (vertex p 0).x u.x (delta p.options p.n)) (others p.vertices)) (λ us. finish (at_head (arrive p (vertex p 0 ∷ us)))) (End b.f)
      (λ fs us a.
      let g = stands_on p es fs a.grows h in
      arrives_lower fs (vertex p 0 ∷ us) g.best_told (all_cons (VertexTold fs) (vertex p 0) us (vertex_told fs g 0) a.told)
      (cover_by fs b us (vertex p 0 ∷ us) (alone es fs b us a k) (λ x m. Memᴰ.tail m)))

  -- u, just asked for, is not below something told: the best covers alone
  dropped : (es fs : List Exchange) (u v : Vertex) → Asked es fs (u ∷ []) → Cover es b [] → VertexTold es v → NotAbove v.f u.f → Cover fs b []
  dropped es fs u v a k t n =
      cover_best fs b u [] (a.covers b [] k) (told_number fs u (a.told u (Memᴰ.head refl)))
      (not_above_trans b.f v.f u.f (told_number es v t) (covered es b v k t) n)

  -- a contraction c: taken, or a shrink where it is not below something told
  contracted : (es fs : List Exchange) (c v : Vertex) (x : Bool) → Asked es fs (c ∷ []) → Stands p es → Cover es b [] → VertexTold es v → (x ≡ false → NotAbove v.f c.f)
      → wp fs (cond x (finish (replaced p c)) (shrink p)) (End b.f)
  contracted es fs c v true a h k t n = replaces fs c (stands_on p es fs a.grows h) (a.told c (Memᴰ.head refl)) (a.covers b [] k)
  contracted es fs c v false a h k t n = shrinks fs (stands_on p es fs a.grows h) (dropped es fs c v a k t (n refl))

  -- an expansion e of the reflection r: the smaller is taken, r on ties
  expanded : (es fs : List Exchange) (r e : Vertex) → Asked es fs (e ∷ []) → Stands p es → VertexTold es r → Cover es b (r ∷ []) → End b.f fs (replaced p (cond (lt e.f r.f) e r))
  expanded es fs r e a h t k = go (lt e.f r.f) refl
    where
      g : Stands p fs
      g = stands_on p es fs a.grows h

      new : VertexTold fs e
      new = a.told e (Memᴰ.head refl)

      both : Cover fs b (e ∷ r ∷ [])
      both = a.covers b (r ∷ []) k

      swapped : Cover fs b (r ∷ e ∷ [])
      swapped =
          cover_by fs b (e ∷ r ∷ []) (r ∷ e ∷ []) both
          (all_cons (λ u. Memᴰ u (r ∷ e ∷ [])) e (r ∷ []) (Memᴰ.tail (Memᴰ.head refl))
          (all_cons (λ u. Memᴰ u (r ∷ e ∷ [])) r [] (Memᴰ.head refl) (all_nil (λ u. Memᴰ u (r ∷ e ∷ [])))))

      go : (x : Bool) → lt e.f r.f ≡ x → End b.f fs (replaced p (cond x e r))
      go true i = replaces fs e g new (cover_swap fs b r (e ∷ []) swapped (told_number es r t) e (Memᴰ.head refl) (lt_not_above e.f r.f i))
      go false i = replaces fs r g (told_grows es fs a.grows r t) (cover_swap fs b e (r ∷ []) both (told_number fs e new) r (Memᴰ.head refl) (false_T (lt e.f r.f) i))

  reflected_ok : (es fs : List Exchange) (r : Vertex) → Asked es fs (r ∷ []) → Stands p es → Cover es b [] → wp fs (reflected p r) (End b.f)
  reflected_ok es fs r a h k = go (lt r.f (vertex p 0).f) (lt r.f (vertex p (p.n - 1)).f) (lt r.f (vertex p p.n).f) refl
    where
      g : Stands p fs
      g = stands_on p es fs a.grows h

      new : VertexTold fs r
      new = a.told r (Memᴰ.head refl)

      -- r is not below the last vertex but one
      none : lt r.f (vertex p (p.n - 1)).f ≡ false → Cover fs b []
      none e = dropped es fs r (vertex p (p.n - 1)) a k (vertex_told es h (p.n - 1)) (false_T (lt r.f (vertex p (p.n - 1)).f) e)

      go : (x y z : Bool) → lt r.f (vertex p (p.n - 1)).f ≡ y
          → wp fs (cond x (expand p r) (cond y (finish (replaced p r)) (cond z (contract_outside p r) (contract_inside p)))) (End b.f)
      go true y z e =
          then_vertex fs (towards p (alpha ⊗ beta p.options p.n)) (λ u. finish (replaced p (cond (lt u.f r.f) u r))) (End b.f)
          (λ gs u c. expanded fs gs r u c g new (a.covers b [] k))
      go false true z e = replaces fs r g new (a.covers b [] k)
      go false false true e =
          then_vertex fs (towards p (alpha ⊗ gamma p.options p.n)) (λ c. cond (le c.f r.f) (finish (replaced p c)) (shrink p)) (End b.f)
          (λ gs c d. contracted fs gs c r (le c.f r.f) d g (none e) new (not_le c.f r.f))
      go false false false e =
          then_vertex fs (towards p (neg (gamma p.options p.n))) (λ c. cond (lt c.f (vertex p p.n).f) (finish (replaced p c)) (shrink p)) (End b.f)
          (λ gs c d. contracted fs gs c (vertex p p.n) (lt c.f (vertex p p.n).f) d g (none e) (vertex_told fs g p.n) (false_T (lt c.f (vertex p p.n).f)))

round_law : (s : SimplexOptions) (es : List Exchange) (p : SimplexPosition) → SimplexAtHead es p → Begins (round p) × wp es (round p) (EndsAs nelder_mead Least At s p.best.f)
unfolding ◌>>=◌
round_law s es p a = (
  tt,
  lower s es p.best.f (round p)
      (then_vertex es (towards p alpha) (reflected (iterated p)) (End p.best.f)
      (λ fs r h. reflected_ok (iterated p) es fs r h (record { vertices_told = a.vertices_told; best_told = a.best_told }) a.cover)),
)

-- ---- a new simplex: about the best, or the first

rebuilt : (s : SimplexOptions) (es : List Exchange) (p : SimplexPosition) (x : List Float) → BestTold es p.best → Cover es p.best []
    → wp es (build p x) (EndsAs nelder_mead Least At s p.best.f)
rebuilt s es p x t k =
    lower s es p.best.f (build p x)
    (then_vertices es (x ∷ corners p.options.step [] x) (built p) (End p.best.f) (λ fs us a. go fs us a (any_finite us)))
  where
    go : (fs : List Exchange) (us : List Vertex) → Asked es fs us → (c : Bool) → End p.best.f fs (cond c (at_head (arrive p us)) (fails 20 0))
    go fs us a true = arrives_lower p fs us (best_grows es fs a.grows p.best t) a.told (alone es fs p.best us a k)
    go fs us a false = λ s. tt

first_built : (s : SimplexOptions) (p : SimplexPosition) (x : List Float) → p.best.f ≡ inf false → wp [] (build p x) (OpensAs nelder_mead Least At s)
first_built s p x e = then_vertices [] (x ∷ corners p.options.step [] x) (built p) (OpensAs nelder_mead Least At s) (λ fs us a. go fs us a (any_finite us) refl)
  where
    go : (fs : List Exchange) (us : List Vertex) → Asked [] fs us → (c : Bool) → any_finite us ≡ c → OpensAs nelder_mead Least At s fs (cond c (at_head (arrive p us)) (fails 20 0))
    go fs us a true i = arrives fs p us a.told (alone [] fs p.best us a (λ y v t. absurd (Memᴰ.not-nil t.1))) (inr (e, true_T (any_finite us) i))
    go fs us a false i = tt

-- ---- the opening and the tests

-- what holds of a refusal and of the first simplex holds of the opening
pub opening_case : (P : Ask (Ending SimplexPosition) → Type 0) (o : SimplexOptions) (x : List Float) → ((k d : ℕ) → P (finish (fails k d))) → P (build (nowhere o x) x) → P (opening o x)
opening_case P o x p q =
    gate (not (tolerance o.xtol)) 4 1 _ (gate (not (tolerance o.ftol)) 4 2 _
    (gate (not (positive_finite o.step)) 8 0 _ (gate (eqb (length x) 0) 9 0 _ (gate (not (all_finite x)) 12 1 (build (nowhere o x) x) q))))
  where
    gate : (b : Bool) (k d : ℕ) (m : Ask (Ending SimplexPosition)) → P m → P (cond b (finish (fails k d)) m)
    gate true k d m h = p k d
    gate false k d m h = h

begins_build : (p : SimplexPosition) (x : List Float) → Begins (build p x)
unfolding ◌>>=◌ ask_vertices
begins_build p x = tt

first_opens : (o : SimplexOptions) (x : List Float) → Opening nelder_mead Least At o (build (nowhere o x) x)
unfolding ◌>>=◌ ask_vertices
first_opens o x = first_built o (nowhere o x) x refl

opening_law : (o : SimplexOptions) (x : List Float) → Opening nelder_mead Least At o (opening o x)
opening_law o x = opening_case (Opening nelder_mead Least At o) o x (λ k d. tt) (first_opens o x)

-- what the tests say
pub tests_case : (P : Verdict SimplexPosition → Type 0) (p : SimplexPosition) → P (stop (reason p)) → (leb p.options.restarts p.runs ≡ false → P (restart (build (rerun p) p.best.x))) → P go_on
    → P (tests p)
tests_case P p h k g = go (converged p) (leb p.options.restarts p.runs) refl
  where
    go : (a c : Bool) → leb p.options.restarts p.runs ≡ c → P (cond a (cond c (stop (reason p)) (restart (build (rerun p) p.best.x))) go_on)
    go true true i = h
    go true false i = k i
    go false c i = g

own_reason : (p : SimplexPosition) → Own (reason p)
unfolding reason
own_reason p = own (lt p.options.ftol _)
  where
    own : (c : Bool) → Own (cond c ObjectiveResolution SimplexTolerance)
    own true = λ a. a
    own false = λ a. a

stop_law : (p : SimplexPosition) (y : Termination) → tests p ≡ stop y → Own y
stop_law p y = tests_case (λ v. v ≡ stop y → Own y) p (λ e. subst Own (stop_inj e) (own_reason p)) (λ i e. absurd (stop≢restart (sym e))) (λ e. absurd (go_on≢stop e))

restart_law : (s : SimplexOptions) (es : List Exchange) (p : SimplexPosition) (m : Ask (Ending SimplexPosition)) → SimplexAtHead es p → tests p ≡ restart m
    → Begins m × wp es m (EndsAs nelder_mead Least At s p.best.f)
restart_law s es p m a =
    tests_case (λ v. v ≡ restart m → Begins m × wp es m (EndsAs nelder_mead Least At s p.best.f)) p
    (λ e. absurd (stop≢restart e))
    (λ i e. subst (λ (z : Ask (Ending SimplexPosition)). Begins z × wp es z (EndsAs nelder_mead Least At s p.best.f)) (restart_inj e)
    (begins_build (rerun p) p.best.x, rebuilt s es (rerun p) p.best.x a.best_told a.cover))
    (λ e. absurd (go_on≢restart e))

known_at : (es : List Exchange) (p : SimplexPosition) → SimplexAtHead es p → Known (Unit {0}) es p.best.x p.best.f
known_at es p a =
    let b = a.best_told in
    let same : read_of b.0.0 ≡ b.0.0 = read_own b.0.0 (subst Finite (sym b.0.2) b.1) in
    (b.1, subst (λ (z : Float). Told es p.best.x z) (sym same ∙ b.0.2) b.0.1, λ s x v t. ⊎_elim (λ n. n) (λ i. absurd (Memᴰ.not-nil i.1)) (a.cover x v t))

pub laws : SimplexLaws
laws = record { At = At; known = λ s es p a. known_at es p a; opening_ok = opening_law; stop_ok = λ s es p y a e. stop_law p y e; restart_ok = restart_law; round_ok = round_law }
