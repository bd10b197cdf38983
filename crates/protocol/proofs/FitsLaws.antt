-- The laws of simplex and gradient fits as one, out of the laws of the two. Assumes nothing.
use mathlib.Core.Path.{◌≡◌, refl, sym, subst}
use mathlib.Core.Logic.{inl, inr}
use mathlib.Core.List.{List, []}
use mathlib.Core.Bool.{Bool, true, false}
use lib.Ieee.{Float}
use Rattle.float.specs.Binary64.{NotAbove}
use Rattle.protocol.specs.declared.Termination.{Termination}
use Rattle.protocol.specs.declared.SimplexOptions.{SimplexOptions}
use Rattle.protocol.specs.declared.GradientOptions.{GradientOptions}
use Rattle.protocol.specs.Protocol.{Job, simplex, bfgs, lbfgs}
use Rattle.protocol.specs.Dialogue.{Exchange}
use Rattle.protocol.specs.Claim.{IsSimplex}
use Rattle.protocol.specs.Ask.{Ask, finish, query, ◌>>=◌, wp}
use Rattle.protocol.specs.Rounds.{Ending, at_head, stops, fails, Verdict, go_on, stop, restart, Rounds}
use Rattle.protocol.specs.RoundsLaws.{Known, Own, Begins, EndsAs, OpensAs, Opening, RoundsLaws}
use Rattle.protocol.specs.Fits.{map_ending, map_text, map_verdict, f_of, opening_of, tests_of, round_of, fits}
use Rattle.protocol.proofs.Texts.{wp_bind, wp_map}
use Rattle.protocol.proofs.Verdicts.{stop≢restart, go_on≢restart, go_on≢stop, stop_inj, restart_inj}

-- ---- one fit's laws, under a map of its positions

-- Q is R with its positions mapped by f, and its start s is j
module _ {S : Type 0} (R : Rounds S) (Least : S → Type 0) (L : RoundsLaws R Least) (Q : Rounds Job)
    (f : R.Position → Q.Position) (x_is : (p : R.Position) → R.x p ≡ Q.x (f p)) (f_is : (p : R.Position) → R.f p ≡ Q.f (f p))
    (At : Job → List Exchange → Q.Position → Type 0) (s : S) (j : Job) (at : (es : List Exchange) (p : R.Position) → L.At s es p → At j es (f p)) (least : IsSimplex j → Least s) where
  known_map : (es : List Exchange) (p : R.Position) → Known (Least s) es (R.x p) (R.f p) → Known (IsSimplex j) es (Q.x (f p)) (Q.f (f p))
  known_map es p k =
      subst (λ (x : List Float). Known (IsSimplex j) es x (Q.f (f p))) (x_is p) (subst (λ (v : Float). Known (IsSimplex j) es (R.x p) v) (f_is p) (k.0, k.1, λ i. k.2 (least i)))

  ends_map : (v : Float) (es : List Exchange) (o : Ending R.Position) → EndsAs R Least L.At s v es o → EndsAs Q IsSimplex At j v es (map_ending f o)
  ends_map v es (at_head p) h = (at es p h.0, subst (λ (z : Float). NotAbove z v) (f_is p) h.1)
  ends_map v es (stops y p) h = (known_map es p h.0, subst (λ (z : Float). NotAbove z v) (f_is p) h.1, h.2)
  ends_map v es (fails k d) h = h

  opens_map : (es : List Exchange) (o : Ending R.Position) → OpensAs R Least L.At s es o → OpensAs Q IsSimplex At j es (map_ending f o)
  opens_map es (at_head p) h = at es p h
  opens_map es (stops y p) h = (known_map es p h.0, h.1)
  opens_map es (fails k d) h = h

  wp_text : (es : List Exchange) (m : Ask (Ending R.Position)) (P : List Exchange → Ending R.Position → Type 0) (T : List Exchange → Ending Q.Position → Type 0)
      → ((fs : List Exchange) (o : Ending R.Position) → P fs o → T fs (map_ending f o)) → wp es m P → wp es (map_text f m) T
  wp_text es m P T g h = wp_bind es m (λ o. finish (map_ending f o)) T (wp_map es m P (λ fs o. T fs (map_ending f o)) g h)

  begins_map : (m : Ask (Ending R.Position)) → Begins m → Begins (map_text f m)
  unfolding ◌>>=◌
  begins_map (query k x c) h = tt
  begins_map (finish (at_head p)) h = h
  begins_map (finish (stops y p)) h = tt
  begins_map (finish (fails k d)) h = tt

  pub turn_map : (es : List Exchange) (p : R.Position) (m : Ask (Ending R.Position)) → Begins m × wp es m (EndsAs R Least L.At s (R.f p))
      → Begins (map_text f m) × wp es (map_text f m) (EndsAs Q IsSimplex At j (Q.f (f p)))
  turn_map es p m h = (
    begins_map m h.0,
    subst (λ (v : Float). wp es (map_text f m) (EndsAs Q IsSimplex At j v)) (f_is p)
        (wp_text es m (EndsAs R Least L.At s (R.f p)) (EndsAs Q IsSimplex At j (R.f p)) (ends_map (R.f p)) h.1),
  )

  pub opening_map : (m : Ask (Ending R.Position)) → Opening R Least L.At s m → Opening Q IsSimplex At j (map_text f m)
  unfolding ◌>>=◌
  opening_map (query k x c) h = wp_text [] (query k x c) (OpensAs R Least L.At s) (OpensAs Q IsSimplex At j) opens_map h
  opening_map (finish (at_head p)) h = h
  opening_map (finish (stops y p)) h = h
  opening_map (finish (fails k d)) h = tt

  pub restart_map : (es : List Exchange) (p : R.Position) (v : Verdict R.Position) (m : Ask (Ending Q.Position)) → map_verdict f v ≡ restart m
      → ((n : Ask (Ending R.Position)) → v ≡ restart n → Begins n × wp es n (EndsAs R Least L.At s (R.f p))) → Begins m × wp es m (EndsAs Q IsSimplex At j (Q.f (f p)))
  restart_map es p go_on m e h = absurd (go_on≢restart e)
  restart_map es p (stop y) m e h = absurd (stop≢restart e)
  restart_map es p (restart n) m e h = subst (λ (z : Ask (Ending Q.Position)). Begins z × wp es z (EndsAs Q IsSimplex At j (Q.f (f p)))) (restart_inj e) (turn_map es p n (h n refl))

stop_map : {P Q : Type 0} (f : P → Q) (v : Verdict P) (y : Termination) → map_verdict f v ≡ stop y → v ≡ stop y
stop_map f go_on y e = absurd (go_on≢stop e)
stop_map f (stop z) y e = let i = stop_inj e in λ k. stop (i k)
stop_map f (restart m) y e = absurd (stop≢restart (sym e))

module _ (A : Rounds SimplexOptions) (B : Rounds (Bool × GradientOptions)) (LA : RoundsLaws A (λ o. Unit {0})) (LB : RoundsLaws B (λ s. ⊥)) where
  abbrev R : Rounds Job
  R = fits A B

  abbrev At : Job → List Exchange → R.Position → Type 0
  At (simplex o) es (inl p) = LA.At o es p
  At (simplex o) es (inr p) = ⊥
  At (bfgs o) es (inl p) = ⊥
  At (bfgs o) es (inr p) = LB.At (false, o) es p
  At (lbfgs o) es (inl p) = ⊥
  At (lbfgs o) es (inr p) = LB.At (true, o) es p

  known_law : (j : Job) (es : List Exchange) (p : R.Position) → At j es p → Known (IsSimplex j) es (R.x p) (R.f p)
  known_law (simplex o) es (inl p) a = let k = LA.known o es p a in (k.0, k.1, λ i. k.2 tt)
  known_law (simplex o) es (inr p) a = absurd a
  known_law (bfgs o) es (inl p) a = absurd a
  known_law (bfgs o) es (inr p) a = LB.known (false, o) es p a
  known_law (lbfgs o) es (inl p) a = absurd a
  known_law (lbfgs o) es (inr p) a = LB.known (true, o) es p a

  opening_law : (j : Job) (x : List Float) → Opening R IsSimplex At j (opening_of A B j x)
  opening_law (simplex o) x = opening_map A (λ o. Unit {0}) LA R inl (λ p. refl) (λ p. refl) At o (simplex o) (λ es p a. a) (λ i. tt) (A.opening o x) (LA.opening_ok o x)
  opening_law (bfgs o) x = opening_map B (λ s. ⊥) LB R inr (λ p. refl) (λ p. refl) At (false, o) (bfgs o) (λ es p a. a) (λ i. i) (B.opening (false, o) x) (LB.opening_ok (false, o) x)
  opening_law (lbfgs o) x = opening_map B (λ s. ⊥) LB R inr (λ p. refl) (λ p. refl) At (true, o) (lbfgs o) (λ es p a. a) (λ i. i) (B.opening (true, o) x) (LB.opening_ok (true, o) x)

  stop_law : (j : Job) (es : List Exchange) (p : R.Position) (y : Termination) → At j es p → tests_of A B p ≡ stop y → Own y
  stop_law (simplex o) es (inl p) y a e = LA.stop_ok o es p y a (stop_map inl (A.tests p) y e)
  stop_law (simplex o) es (inr p) y a e = absurd a
  stop_law (bfgs o) es (inl p) y a e = absurd a
  stop_law (bfgs o) es (inr p) y a e = LB.stop_ok (false, o) es p y a (stop_map inr (B.tests p) y e)
  stop_law (lbfgs o) es (inl p) y a e = absurd a
  stop_law (lbfgs o) es (inr p) y a e = LB.stop_ok (true, o) es p y a (stop_map inr (B.tests p) y e)

  restart_law : (j : Job) (es : List Exchange) (p : R.Position) (m : Ask (Ending R.Position)) → At j es p → tests_of A B p ≡ restart m
      → Begins m × wp es m (EndsAs R IsSimplex At j (f_of A B p))
  restart_law (simplex o) es (inl p) m a e =
      restart_map A (λ o. Unit {0}) LA R inl (λ p. refl) (λ p. refl) At o (simplex o) (λ es p a. a) (λ i. tt) es p (A.tests p) m e (λ n i. LA.restart_ok o es p n a i)
  restart_law (simplex o) es (inr p) m a e = absurd a
  restart_law (bfgs o) es (inl p) m a e = absurd a
  restart_law (bfgs o) es (inr p) m a e =
      restart_map B (λ s. ⊥) LB R inr (λ p. refl) (λ p. refl) At (false, o) (bfgs o) (λ es p a. a) (λ i. i) es p (B.tests p) m e (λ n i. LB.restart_ok (false, o) es p n a i)
  restart_law (lbfgs o) es (inl p) m a e = absurd a
  restart_law (lbfgs o) es (inr p) m a e =
      restart_map B (λ s. ⊥) LB R inr (λ p. refl) (λ p. refl) At (true, o) (lbfgs o) (λ es p a. a) (λ i. i) es p (B.tests p) m e (λ n i. LB.restart_ok (true, o) es p n a i)

  round_law : (j : Job) (es : List Exchange) (p : R.Position) → At j es p → Begins (round_of A B p) × wp es (round_of A B p) (EndsAs R IsSimplex At j (f_of A B p))
  round_law (simplex o) es (inl p) a = turn_map A (λ o. Unit {0}) LA R inl (λ p. refl) (λ p. refl) At o (simplex o) (λ es p a. a) (λ i. tt) es p (A.round p) (LA.round_ok o es p a)
  round_law (simplex o) es (inr p) a = absurd a
  round_law (bfgs o) es (inl p) a = absurd a
  round_law (bfgs o) es (inr p) a = turn_map B (λ s. ⊥) LB R inr (λ p. refl) (λ p. refl) At (false, o) (bfgs o) (λ es p a. a) (λ i. i) es p (B.round p) (LB.round_ok (false, o) es p a)
  round_law (lbfgs o) es (inl p) a = absurd a
  round_law (lbfgs o) es (inr p) a = turn_map B (λ s. ⊥) LB R inr (λ p. refl) (λ p. refl) At (true, o) (lbfgs o) (λ es p a. a) (λ i. i) es p (B.round p) (LB.round_ok (true, o) es p a)

  pub fits_laws : RoundsLaws (fits A B) IsSimplex
  fits_laws = record { At = At; known = known_law; opening_ok = opening_law; stop_ok = stop_law; restart_ok = restart_law; round_ok = round_law }
