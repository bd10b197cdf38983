-- The refusals that the three fits' texts end with: 20 for the simplex, and for the gradient fits 6, 7, 12 for x, 18 and 19 (`fails_laws`). Assumes nothing.
use Prim.Native.Nat.{ℕ}
use mathlib.Core.Path.{◌≡◌, refl, subst}
use mathlib.Core.Logic.{inl, inr}
use mathlib.Core.Bool.{Bool, true, false}
use mathlib.Core.List.{List, []}
use lib.Ieee.{Float}
use Rattle.protocol.specs.declared.GradientOptions.{GradientOptions}
use Rattle.protocol.specs.declared.SimplexOptions.{SimplexOptions}
use Rattle.protocol.specs.Protocol.{read_of, Job, simplex, bfgs, lbfgs}
use Rattle.protocol.specs.Dialogue.{Exchange}
use Rattle.protocol.specs.Ask.{Ask, finish, query, ask_value, ◌>>=◌, wp}
use Rattle.protocol.specs.Rounds.{Ending, at_head, stops, fails, Verdict, go_on, stop, restart}
use Rattle.protocol.specs.RoundsLaws.{Begins}
use Rattle.protocol.specs.Fits.{map_ending, map_text, map_verdict, Positions, opening_of, tests_of, round_of}
use Rattle.protocol.proofs.Texts.{wp_bind, wp_map}
use Rattle.protocol.proofs.Verdicts.{stop≢restart, go_on≢restart, restart_inj}
use Rattle.neldermead_theory.specs.Algorithm.{SimplexPosition, ask_vertices, build, nowhere, nelder_mead}
use Rattle.quasinewton_theory.specs.Algorithm.{begun_with, quasi_newton, with_value, opening}
use Rattle.quasinewton_theory.specs.Laws.{GradientAtHead, RoundEnds, OpeningEnds}
use Rattle.quasinewton_theory.proofs.Laws.{opening_case, no_restart, heads}
use Rattle.optim_fits_theory.specs.Refusals.{EndsBy, OpensBy, FailsLaws, EndedBy}
use Rattle.optim_fits_theory.specs.Fits.{all_fits}
use Rattle.optim_fits_theory.proofs.SimplexRefusals.{By20, round_fails, restart_fails, opening_fails}

abbrev Position : Type 0
Position = Positions nelder_mead quasi_newton

abbrev Head : Job → List Exchange → Position → Type 0
Head (simplex o) es (inl p) = Unit {0}
Head (simplex o) es (inr p) = ⊥
Head (bfgs o) es (inl p) = ⊥
Head (bfgs o) es (inr p) = GradientAtHead es p
Head (lbfgs o) es (inl p) = ⊥
Head (lbfgs o) es (inr p) = GradientAtHead es p

abbrev By : Job → List Exchange → Ending Position → Type 0
By j es o = EndsBy all_fits EndedBy Head j es o

-- ---- a text under a map of its positions

module _ {C : Type 0} (f : C → Position) (j : Job) (Q : List Exchange → Ending C → Type 0) (to : (es : List Exchange) (o : Ending C) → Q es o → By j es (map_ending f o)) where
  text_by : (es : List Exchange) (m : Ask (Ending C)) → wp es m Q → wp es (map_text f m) (By j)
  text_by es m h = wp_bind es m (λ o. finish (map_ending f o)) (By j) (wp_map es m Q (λ fs o. By j fs (map_ending f o)) to h)

  begins_by : (m : Ask (Ending C)) → Begins m → Begins (map_text f m)
  unfolding ◌>>=◌
  begins_by (query k x c) h = tt
  begins_by (finish (at_head p)) h = h
  begins_by (finish (stops y p)) h = tt
  begins_by (finish (fails k d)) h = tt

  turn_by : (es : List Exchange) (m : Ask (Ending C)) → Begins m × wp es m Q → Begins (map_text f m) × wp es (map_text f m) (By j)
  turn_by es m h = (begins_by m h.0, text_by es m h.1)

  -- an opening that is refused, or asks
  abbrev Asks : Ask (Ending C) → Type 0
  Asks (query k x c) = wp [] (query k x c) Q
  Asks (finish (at_head p)) = ⊥
  Asks (finish (stops y p)) = ⊥
  Asks (finish (fails k d)) = Unit {0}

  opens_by : (m : Ask (Ending C)) → Asks m → OpensBy all_fits EndedBy Head j (map_text f m)
  unfolding ◌>>=◌
  opens_by (query k x c) h = text_by [] (query k x c) h
  opens_by (finish (at_head p)) h = h
  opens_by (finish (stops y p)) h = h
  opens_by (finish (fails k d)) h = tt

  asks_first : (x : List Float) (g : Float → Ask (Ending C)) → wp [] (ask_value read_of x >>= g) Q → Asks (ask_value read_of x >>= g)
  unfolding ◌>>=◌
  asks_first x g h = h

  restart_by : (es : List Exchange) (v : Verdict C) (m : Ask (Ending Position)) → map_verdict f v ≡ restart m → ((n : Ask (Ending C)) → v ≡ restart n → Begins n × wp es n Q)
      → Begins m × wp es m (By j)
  restart_by es go_on m e h = absurd (go_on≢restart e)
  restart_by es (stop y) m e h = absurd (stop≢restart e)
  restart_by es (restart n) m e h = subst (λ (z : Ask (Ending Position)). Begins z × wp es z (By j)) (restart_inj e) (turn_by es n (h n refl))

-- ---- the simplex

module _ (o : SimplexOptions) where
  ends_to : (es : List Exchange) (e : Ending SimplexPosition) → By20 es e → By (simplex o) es (map_ending inl e)
  ends_to es (at_head p) h = tt
  ends_to es (stops y p) h = tt
  ends_to es (fails k d) h = h

  asks_build : (p : SimplexPosition) (x : List Float) → wp [] (build p x) By20 → Asks inl (simplex o) By20 ends_to (build p x)
  unfolding ◌>>=◌ ask_vertices
  asks_build p x h = h

  simplex_opens : (x : List Float) → OpensBy all_fits EndedBy Head (simplex o) (opening_of nelder_mead quasi_newton (simplex o) x)
  simplex_opens x =
      opens_by inl (simplex o) By20 ends_to (nelder_mead.opening o x) (opening_fails (Asks inl (simplex o) By20 ends_to) o x (λ k d. tt) (asks_build (nowhere o x) x))

-- ---- the gradient fits

-- j is bfgs or lbfgs
module _ (limits : Bool) (o : GradientOptions) (j : Job) (head : (es : List Exchange) (p : quasi_newton.Position) → GradientAtHead es p → Head j es (inr p))
    (by : (k d : ℕ) → EndedBy (bfgs o) k d → EndedBy j k d) where
  opening_to : (es : List Exchange) (e : Ending quasi_newton.Position) → OpeningEnds es e → By j es (map_ending inr e)
  opening_to es (at_head p) h = head es p h
  opening_to es (stops y p) h = tt
  opening_to es (fails k d) h = by k d (inr h)

  round_to : (q : quasi_newton.Position) (es : List Exchange) (e : Ending quasi_newton.Position) → RoundEnds q es e → By j es (map_ending inr e)
  round_to q es (at_head p) h = head es p h.0
  round_to q es (stops y p) h = tt
  round_to q es (fails k d) h = by k d (inl h)

  gradient_opens : (x : List Float) → OpensBy all_fits EndedBy Head j (map_text inr (opening limits o x))
  gradient_opens x =
      opens_by inr j OpeningEnds opening_to (opening limits o x)
      (opening_case (Asks inr j OpeningEnds opening_to) limits o x (λ k d. tt) (λ a. asks_first inr j OpeningEnds opening_to x (with_value limits o x) (heads.opening_ends limits o x a)))

  gradient_round : (es : List Exchange) (p : quasi_newton.Position) → GradientAtHead es p
      → let m = round_of nelder_mead quasi_newton (inr p) in Begins m × wp es m (By j)
  gradient_round es p a = turn_by inr j (RoundEnds p) (round_to p) es (quasi_newton.round p) (heads.round_begins es p a, heads.round_ends es p a)

  gradient_restart : (es : List Exchange) (p : quasi_newton.Position) (m : Ask (Ending Position)) → tests_of nelder_mead quasi_newton (inr p) ≡ restart m → Begins m × wp es m (By j)
  gradient_restart es p m e = restart_by inr j (RoundEnds p) (round_to p) es (quasi_newton.tests p) m e (λ n i. absurd (no_restart p n i))

-- ---- all three

opening_law : (j : Job) (x : List Float) → OpensBy all_fits EndedBy Head j (opening_of nelder_mead quasi_newton j x)
opening_law (simplex o) x = simplex_opens o x
opening_law (bfgs o) x = gradient_opens false (begun_with false o) (bfgs o) (λ es p a. a) (λ k d h. h) x
opening_law (lbfgs o) x = gradient_opens true (begun_with true o) (lbfgs o) (λ es p a. a) (λ k d h. h) x

restart_law : (j : Job) (es : List Exchange) (p : Position) (m : Ask (Ending Position)) → Head j es p → tests_of nelder_mead quasi_newton p ≡ restart m → Begins m × wp es m (By j)
restart_law (simplex o) es (inl p) m a e = restart_by inl (simplex o) By20 (ends_to o) es (nelder_mead.tests p) m e (λ n i. restart_fails es p n i)
restart_law (simplex o) es (inr p) m a e = absurd a
restart_law (bfgs o) es (inl p) m a e = absurd a
restart_law (bfgs o) es (inr p) m a e = gradient_restart false o (bfgs o) (λ es p a. a) (λ k d h. h) es p m e
restart_law (lbfgs o) es (inl p) m a e = absurd a
restart_law (lbfgs o) es (inr p) m a e = gradient_restart true o (lbfgs o) (λ es p a. a) (λ k d h. h) es p m e

round_law : (j : Job) (es : List Exchange) (p : Position) → Head j es p → let m = round_of nelder_mead quasi_newton p in Begins m × wp es m (By j)
round_law (simplex o) es (inl p) a = turn_by inl (simplex o) By20 (ends_to o) es (nelder_mead.round p) (round_fails es p)
round_law (simplex o) es (inr p) a = absurd a
round_law (bfgs o) es (inl p) a = absurd a
round_law (bfgs o) es (inr p) a = gradient_round false o (bfgs o) (λ es p a. a) (λ k d h. h) es p a
round_law (lbfgs o) es (inl p) a = absurd a
round_law (lbfgs o) es (inr p) a = gradient_round true o (lbfgs o) (λ es p a. a) (λ k d h. h) es p a

pub fails_laws : FailsLaws all_fits EndedBy
fails_laws = record { Head = Head; opening_by = opening_law; restart_by = restart_law; round_by = round_law }
