-- A simplex fit's texts end with 20 alone: `round_fails`, `restart_fails`, `opening_fails`. Assumes nothing.
use Prim.Native.Nat.{ℕ, ◌-◌}
use mathlib.Core.Path.{◌≡◌, refl, subst}
use mathlib.Core.Bool.{Bool, true, false, cond}
use mathlib.Core.List.{List, [], ◌∷◌, ◌++◌}
use lib.Ieee.{Float, lt, le}
use Rattle.protocol.specs.declared.SimplexOptions.{SimplexOptions}
use Rattle.protocol.specs.Dialogue.{Exchange}
use Rattle.protocol.specs.Ask.{Ask, finish, query, ◌>>=◌, heard_at, wp}
use Rattle.protocol.specs.Rounds.{Ending, at_head, stops, fails, restart}
use Rattle.protocol.specs.RoundsLaws.{Begins}
use Rattle.protocol.proofs.Texts.{wp_bind}
use Rattle.protocol.proofs.Verdicts.{stop≢restart, go_on≢restart, restart_inj}
use Rattle.neldermead_vertices.specs.declared.Vertex.{Vertex}
use Rattle.neldermead_theory.specs.Algorithm.{SimplexPosition, vertex, arrive, replaced, ask_vertex, ask_vertices, any_finite, built, build, shrink, reflected, iterated, rerun, round, tests, opening, nowhere}
use Rattle.neldermead_theory.proofs.Laws.{opening_case, tests_case}

-- where it ends with a refusal, that is 20
abbrev pub By20 : List Exchange → Ending SimplexPosition → Type 0
By20 es (at_head p) = Unit {0}
By20 es (stops y p) = Unit {0}
By20 es (fails k d) = (k ≡ 20) × (d ≡ 0)

-- what holds of all that may come holds of a text
always : {A : Type 0} (es : List Exchange) (m : Ask A) (Q : List Exchange → A → Type 0) → ((fs : List Exchange) (a : A) → Q fs a) → wp es m Q
always es (finish a) Q h = h es a
always es (query k x c) Q h = λ n w l i. always (es ++ (heard_at n k x w ∷ [])) (c w) Q h

and_then : {A : Type 0} (es : List Exchange) (m : Ask A) (f : A → Ask (Ending SimplexPosition)) → ((fs : List Exchange) (a : A) → wp fs (f a) By20) → wp es (m >>= f) By20
and_then es m f h = wp_bind es m f By20 (always es m (λ fs a. wp fs (f a) By20) h)

either : (es : List Exchange) (b : Bool) (m n : Ask (Ending SimplexPosition)) → wp es m By20 → wp es n By20 → wp es (cond b m n) By20
either es true m n h k = h
either es false m n h k = k

module _ (p : SimplexPosition) where
  shrinks : (es : List Exchange) → wp es (shrink p) By20
  shrinks es = and_then es _ (λ us. finish (at_head (arrive p (vertex p 0 ∷ us)))) (λ fs us. tt)

  reflects : (es : List Exchange) (r : Vertex) → wp es (reflected p r) By20
  reflects es r =
      either es (lt r.f (vertex p 0).f) _ _ (and_then es _ (λ e. finish (replaced p (cond (lt e.f r.f) e r))) (λ fs e. tt))
      (either es (lt r.f (vertex p (p.n - 1)).f) _ _ tt
      (either es (lt r.f (vertex p p.n).f) _ _
      (and_then es _ (λ c. cond (le c.f r.f) (finish (replaced p c)) (shrink p)) (λ fs c. either fs (le c.f r.f) _ _ tt (shrinks fs)))
      (and_then es _ (λ c. cond (lt c.f (vertex p p.n).f) (finish (replaced p c)) (shrink p)) (λ fs c. either fs (lt c.f (vertex p p.n).f) _ _ tt (shrinks fs)))))

  builds : (es : List Exchange) (x : List Float) → wp es (build p x) By20
  builds es x = and_then es _ (built p) (λ fs us. go fs us (any_finite us))
    where
      go : (fs : List Exchange) (us : List Vertex) (b : Bool) → By20 fs (cond b (at_head (arrive p us)) (fails 20 0))
      go fs us true = tt
      go fs us false = (refl, refl)

  begins_build : (x : List Float) → Begins (build p x)
  unfolding ◌>>=◌ ask_vertices
  begins_build x = tt

pub round_fails : (es : List Exchange) (p : SimplexPosition) → Begins (round p) × wp es (round p) By20
unfolding ◌>>=◌
round_fails es p = (tt, and_then es (ask_vertex _) (reflected (iterated p)) (λ fs r. reflects (iterated p) fs r))

pub restart_fails : (es : List Exchange) (p : SimplexPosition) (m : Ask (Ending SimplexPosition)) → tests p ≡ restart m → Begins m × wp es m By20
restart_fails es p m =
    tests_case (λ v. v ≡ restart m → Begins m × wp es m By20) p
    (λ e. absurd (stop≢restart e))
    (λ i e. subst (λ (z : Ask (Ending SimplexPosition)). Begins z × wp es z By20) (restart_inj e) (begins_build (rerun p) p.best.x, builds (rerun p) es p.best.x))
    (λ e. absurd (go_on≢restart e))

-- an opening is refused, by whatever number, or asks
pub opening_fails : (P : Ask (Ending SimplexPosition) → Type 0) (o : SimplexOptions) (x : List Float) → ((k d : ℕ) → P (finish (fails k d)))
    → (wp [] (build (nowhere o x) x) By20 → P (build (nowhere o x) x)) → P (opening o x)
opening_fails P o x refuses asks = opening_case P o x refuses (asks (builds (nowhere o x) [] x))
