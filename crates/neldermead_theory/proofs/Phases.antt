-- The phases follow the text of Nelder and Mead's method: `simplex_steps_lem`. Assumes nothing.
use mathlib.Core.Path.{◌≡◌, refl, ◌∙◌, ap, fun_ext}
use mathlib.Core.List.{List, [], ◌∷◌, ◌++◌, append-nil}
use mathlib.Core.Bool.{Bool, true, false, not, cond}
use Prim.Native.Nat.{ℕ, ◌-◌}
use lib.Dec.{leb, eqb}
use lib.ListN.{length}
use lib.Ieee.{Float, lt, le, neg}
use Rattle.float.specs.Binary64.{◌⊗◌}
use Rattle.vector.specs.Lists.{all_finite}
use Rattle.protocol.specs.declared.Kind.TheVariants.{Value}
use Rattle.protocol.specs.declared.Termination.{Termination}
use Rattle.protocol.specs.declared.SimplexOptions.{SimplexOptions}
use Rattle.protocol.specs.Ask.{Ask, finish, query, ◌>>=◌}
use Rattle.protocol.specs.Rounds.{Ending, at_head, fails, go_on, stop, restart}
use Rattle.protocol.specs.Places.{still, ends, text, StepsLaws}
use Rattle.protocol.proofs.Texts.{bind_assoc}
use Rattle.protocol.proofs.Verdicts.{stop≢restart, go_on≢restart, restart_inj}
use Rattle.neldermead_vertices.specs.declared.Vertex.{Vertex}
use Rattle.neldermead_vertices.specs.Method.{alpha, gamma}
use Rattle.neldermead_theory.specs.Algorithm.{SimplexPosition, vertex, arrive, replaced, ask_vertex, ask_vertices, built, build, towards, centroid, shrink, expand, contract_outside, contract_inside, reflected, rerun, converged, reason, tests, tolerance, positive_finite, opening, nelder_mead}
use Rattle.neldermead_theory.specs.Phases.{Phase, building, reflecting, expanding, outside, inside, shrinking, point_of, Move, build_on, shrink_on, drawn, reflect_on, told, step_of, build_at, opening_move, simplex_steps}

-- what a phase has still to do
abbrev to_do : Phase → Ask (Ending SimplexPosition)
to_do (building p us x xs) = ask_vertices (x ∷ xs) >>= λ ws. built p (us ++ ws)
to_do (reflecting p) = ask_vertex (towards p alpha) >>= reflected p
to_do (expanding p r) = expand p r
to_do (outside p r) = contract_outside p r
to_do (inside p) = contract_inside p
to_do (shrinking p us x xs) = ask_vertices (x ∷ xs) >>= λ ws. finish (at_head (arrive p (vertex p 0 ∷ us ++ ws)))

abbrev words : Move → Ask (Ending SimplexPosition)
words t = text to_do t

cond_words : (b : Bool) (s t : Move) (m n : Ask (Ending SimplexPosition)) → m ≡ words s → n ≡ words t → cond b m n ≡ words (cond b s t)
cond_words true s t m n i j = i
cond_words false s t m n i j = j

append_one : (us : List Vertex) (u : Vertex) (ws : List Vertex) → us ++ (u ∷ ws) ≡ (us ++ (u ∷ [])) ++ ws
append_one [] u ws = refl
append_one (v ∷ us) u ws = ap (λ (l : List Vertex). v ∷ l) (append_one us u ws)

-- one vertex is told, and the rest is asked
rest_text : (us : List Vertex) (u : Vertex) (xs : List (List Float)) (K : List Vertex → Ask (Ending SimplexPosition)) → (ask_vertices xs >>= λ ws. finish (u ∷ ws)) >>= (λ ws. K (us ++ ws)) ≡ ask_vertices xs >>= (λ ws. K ((us ++ (u ∷ [])) ++ ws))
unfolding ◌>>=◌
rest_text us u xs K =
    bind_assoc (ask_vertices xs) (λ ws. finish (u ∷ ws)) (λ ws. K (us ++ ws))
    ∙ ap (λ (k : List Vertex → Ask (Ending SimplexPosition)). ask_vertices xs >>= k) (fun_ext (λ ws. ap K (append_one us u ws)))

build_text : (p : SimplexPosition) (us : List Vertex) (xs : List (List Float)) → ask_vertices xs >>= (λ ws. built p (us ++ ws)) ≡ words (build_on p us xs)
unfolding ◌>>=◌ ask_vertices
build_text p us [] = ap (built p) (append-nil us)
build_text p us (x ∷ xs) = refl

shrink_text : (p : SimplexPosition) (us : List Vertex) (xs : List (List Float)) → ask_vertices xs >>= (λ ws. finish (at_head (arrive p (vertex p 0 ∷ us ++ ws)))) ≡ words (shrink_on p us xs)
unfolding ◌>>=◌ ask_vertices
shrink_text p us [] = ap (λ (ws : List Vertex). finish (at_head (arrive p (vertex p 0 ∷ ws)))) (append-nil us)
shrink_text p us (x ∷ xs) = refl

reflect_text : (p : SimplexPosition) (r : Vertex) → reflected p r ≡ words (reflect_on p r)
reflect_text p r =
    cond_words (lt r.f (vertex p 0).f) (still (expanding p r)) _ (expand p r) _ refl
    (cond_words (lt r.f (vertex p (p.n - 1)).f) (ends (replaced p r)) _ (finish (replaced p r)) _ refl
    (cond_words (lt r.f (vertex p p.n).f) (still (outside p r)) (still (inside p)) (contract_outside p r) (contract_inside p) refl refl))

follows : (s : Phase) → to_do s ≡ query Value (point_of s) (λ w. words (step_of s w))
unfolding ◌>>=◌ ask_vertices
follows (building p us x xs) = ap (query Value x) (fun_ext (λ w. rest_text us (told x w) xs (built p) ∙ build_text p (us ++ (told x w ∷ [])) xs))
follows (shrinking p us x xs) =
    ap (query Value x) (fun_ext (λ w. rest_text us (told x w) xs (λ ws. finish (at_head (arrive p (vertex p 0 ∷ ws)))) ∙ shrink_text p (us ++ (told x w ∷ [])) xs))
follows (reflecting p) = ap (query Value (towards p alpha)) (fun_ext (λ w. reflect_text p (told (towards p alpha) w)))
follows (expanding p r) = refl
follows (outside p r) =
    let x = towards p (alpha ⊗ gamma p.options p.n) in
    ap (query Value x) (fun_ext (λ w.
    cond_words (le (told x w).f r.f) (ends (replaced p (told x w))) (shrink_on p [] (drawn p)) (finish (replaced p (told x w))) (shrink p) refl (shrink_text p [] (drawn p))))
follows (inside p) =
    let x = towards p (neg (gamma p.options p.n)) in
    ap (query Value x) (fun_ext (λ w.
    cond_words (lt (told x w).f (vertex p p.n).f) (ends (replaced p (told x w))) (shrink_on p [] (drawn p)) (finish (replaced p (told x w))) (shrink p) refl (shrink_text p [] (drawn p))))

-- a refusal of the start, or the next of its tests
refusal : (b : Bool) (k d : ℕ) (m : Ask (Ending SimplexPosition)) (t : Move) → words t ≡ m → words (cond b (ends (fails k d)) t) ≡ cond b (finish (fails k d)) m
refusal true k d m t e = refl
refusal false k d m t e = e

opens : (o : SimplexOptions) (x : List Float) → words (opening_move o x) ≡ opening o x
unfolding ◌>>=◌ ask_vertices
opens o x =
    refusal (not (tolerance o.xtol)) 4 1 _ _
    (refusal (not (tolerance o.ftol)) 4 2 _ _
    (refusal (not (positive_finite o.step)) 8 0 _ _
    (refusal (eqb (length x) 0) 9 0 _ _
    (refusal (not (all_finite x)) 12 1 _ _ refl))))

-- of the three verdicts only one restarts
restarted : (b c : Bool) (y : Termination) (n m : Ask (Ending SimplexPosition)) → cond b (cond c (stop y) (restart n)) go_on ≡ restart m → n ≡ m
restarted true true y n m e = absurd (stop≢restart e)
restarted true false y n m e = restart_inj e
restarted false c y n m e = absurd (go_on≢restart e)

restarts : (p : SimplexPosition) (m : Ask (Ending SimplexPosition)) → tests p ≡ restart m → words (build_at (rerun p) p.best.x) ≡ m
unfolding ◌>>=◌ ask_vertices
restarts p m e = restarted (converged p) (leb p.options.restarts p.runs) (reason p) (build (rerun p) p.best.x) m e

pub simplex_steps_lem : StepsLaws nelder_mead simplex_steps
unfolding ◌>>=◌ centroid
simplex_steps_lem = record { to_do = to_do; follows = follows; opens = opens; restarts = restarts; rounds = λ p. refl }
