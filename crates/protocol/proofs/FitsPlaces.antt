-- The laws of two first-order records as one, out of the laws of the two, and its claim: `fits_steps_laws`, `claim_of_fits`. Assumes nothing.
use mathlib.Core.Path.{◌≡◌, refl, sym, ◌∙◌, ap, fun_ext}
use mathlib.Core.Logic.{inl, inr}
use mathlib.Core.List.{List}
use mathlib.Core.Bool.{Bool, true, false}
use lib.Ieee.{Float}
use Rattle.protocol.specs.declared.Kind.{Kind}
use Rattle.protocol.specs.declared.SimplexOptions.{SimplexOptions}
use Rattle.protocol.specs.declared.GradientOptions.{GradientOptions}
use Rattle.protocol.specs.Protocol.{Job, simplex, bfgs, lbfgs}
use Rattle.protocol.specs.Claim.{Claim}
use Rattle.protocol.specs.Ask.{Ask, query, ◌>>=◌}
use Rattle.protocol.specs.Rounds.{Ending, Verdict, go_on, stop, restart, Rounds}
use Rattle.protocol.specs.RoundsLaws.{RoundsLaws}
use Rattle.protocol.specs.Fits.{map_text, map_verdict, Positions, fits}
use Rattle.protocol.specs.Places.{Turn, still, ends, text, Steps, StepsLaws, map_turn, Places, kind_of, point_of, step_of, opening_turn, again_turn, round_turn, fits_steps, engine_of_places}
use Rattle.protocol.proofs.Verdicts.{stop≢restart, go_on≢restart, restart_inj}
use Rattle.protocol.proofs.FitsLaws.{fits_laws}
use Rattle.protocol.proofs.Places.{claim_of_places}

-- ---- one record's laws, under maps of its positions and places

module _ {S T P Q : Type 0} (f : P → Q) (g : S → T) (from : S → Ask (Ending P)) (to : T → Ask (Ending Q)) (same : (s : S) → map_text f (from s) ≡ to (g s)) where
  turn_text : (t : Turn S P) → map_text f (text from t) ≡ text to (map_turn f g t)
  unfolding ◌>>=◌
  turn_text (still s) = same s
  turn_text (ends o) = refl

  -- a place that follows its text follows the mapped text
  follows_map : (s : S) (k : Kind) (x : List Float) (step : List Float → Turn S P) → from s ≡ query k x (λ w. text from (step w)) → to (g s) ≡ query k x (λ w. text to (map_turn f g (step w)))
  unfolding ◌>>=◌
  follows_map s k x step e = sym (same s) ∙ ap (λ (m : Ask (Ending P)). map_text f m) e ∙ ap (query k x) (fun_ext (λ w. turn_text (step w)))

  text_map : (t : Turn S P) (m : Ask (Ending P)) → text from t ≡ m → text to (map_turn f g t) ≡ map_text f m
  text_map t m e = sym (turn_text t) ∙ ap (λ (z : Ask (Ending P)). map_text f z) e

  again_map : (t : Turn S P) (v : Verdict P) (m : Ask (Ending Q)) → map_verdict f v ≡ restart m → ((n : Ask (Ending P)) → v ≡ restart n → text from t ≡ n) → text to (map_turn f g t) ≡ m
  again_map t go_on m e h = absurd (go_on≢restart e)
  again_map t (stop y) m e h = absurd (stop≢restart e)
  again_map t (restart n) m e h = text_map t n (h n refl) ∙ restart_inj e

module _ (A : Rounds SimplexOptions) (B : Rounds (Bool × GradientOptions)) (SA : Steps A) (SB : Steps B) (LA : StepsLaws A SA) (LB : StepsLaws B SB) where
  abbrev to_do : Places A B SA SB → Ask (Ending (Positions A B))
  to_do (inl s) = map_text inl (LA.to_do s)
  to_do (inr s) = map_text inr (LB.to_do s)

  follows : (s : Places A B SA SB) → to_do s ≡ query (kind_of A B SA SB s) (point_of A B SA SB s) (λ w. text to_do (step_of A B SA SB s w))
  follows (inl s) = follows_map inl inl LA.to_do to_do (λ z. refl) s (SA.kind s) (SA.point s) (SA.step s) (LA.follows s)
  follows (inr s) = follows_map inr inr LB.to_do to_do (λ z. refl) s (SB.kind s) (SB.point s) (SB.step s) (LB.follows s)

  opens : (j : Job) (x : List Float) → text to_do (opening_turn A B SA SB j x) ≡ (fits A B).opening j x
  opens (simplex o) x = text_map inl inl LA.to_do to_do (λ z. refl) (SA.opening o x) (A.opening o x) (LA.opens o x)
  opens (bfgs o) x = text_map inr inr LB.to_do to_do (λ z. refl) (SB.opening (false, o) x) (B.opening (false, o) x) (LB.opens (false, o) x)
  opens (lbfgs o) x = text_map inr inr LB.to_do to_do (λ z. refl) (SB.opening (true, o) x) (B.opening (true, o) x) (LB.opens (true, o) x)

  restarts : (p : Positions A B) (m : Ask (Ending (Positions A B))) → (fits A B).tests p ≡ restart m → text to_do (again_turn A B SA SB p) ≡ m
  restarts (inl p) m e = again_map inl inl LA.to_do to_do (λ z. refl) (SA.again p) (A.tests p) m e (LA.restarts p)
  restarts (inr p) m e = again_map inr inr LB.to_do to_do (λ z. refl) (SB.again p) (B.tests p) m e (LB.restarts p)

  rounds : (p : Positions A B) → text to_do (round_turn A B SA SB p) ≡ (fits A B).round p
  rounds (inl p) = text_map inl inl LA.to_do to_do (λ z. refl) (SA.round p) (A.round p) (LA.rounds p)
  rounds (inr p) = text_map inr inr LB.to_do to_do (λ z. refl) (SB.round p) (B.round p) (LB.rounds p)

  pub fits_steps_laws : StepsLaws (fits A B) (fits_steps A B SA SB)
  fits_steps_laws = record { to_do = to_do; follows = follows; opens = opens; restarts = restarts; rounds = rounds }

  -- simplex and gradient fits, each with a record of places that follows its texts, have the claim as one engine
  pub claim_of_fits : RoundsLaws A (λ o. Unit {0}) → RoundsLaws B (λ s. ⊥) → Claim (engine_of_places (fits A B) (fits_steps A B SA SB))
  claim_of_fits MA MB = claim_of_places (fits A B) (fits_steps A B SA SB) fits_steps_laws (fits_laws A B MA MB)
