-- The example fit owes what `RoundsLaws` asks (`example_laws`), so its engine satisfies the claim (`example_claim`). Its f is the least told of every job. Assumes nothing.
use mathlib.Core.Path.{◌≡◌, refl, sym, ap, ◌∙◌, subst}
use mathlib.Core.Logic.{⊎_elim}
use mathlib.Core.List.Memᴰ
use mathlib.Core.List.{List, [], ◌∷◌, ◌++◌}
use mathlib.Core.Bool.{Bool, true, false, cond}
use Prim.Native.Nat.{ℕ}
use native.Mathlib.Omega.{arith}
use lib.Dec.{T, leb}
use lib.ListN.{length, get_or}
use lib.Ieee.{Float, nan, lt}
use Rattle.float.specs.Binary64.{Number, NotAbove}
use Rattle.float.specs.Values.{Finite, finite_of}
use Rattle.float.proofs.Order.{lt→le, le→not_above, lt_number_r, not_above_trans}
use Rattle.protocol.specs.declared.Kind.TheVariants.{Value}
use Rattle.protocol.specs.declared.Termination.{Termination}
use Rattle.protocol.specs.declared.Termination.TheVariants.{SimplexTolerance}
use Rattle.protocol.specs.Protocol.{read_of, Job}
use Rattle.protocol.specs.Dialogue.{Exchange, Told}
use Rattle.protocol.specs.Claim.{LeastTold, IsSimplex, Claim}
use Rattle.protocol.specs.Ask.{Ask, ◌>>=◌, heard_at, wp}
use Rattle.protocol.specs.Rounds.{Ending, at_head, fails, Verdict, go_on, stop, restart, engine}
use Rattle.protocol.specs.RoundsLaws.{Own, Begins, EndsAs, OpensAs, Opening, RoundsLaws}
use Rattle.protocol.specs.Example.{Head, halved, opening, next, round, example}
use Rattle.protocol.proofs.Readings.{only, read_own, read_below}
use Rattle.protocol.proofs.Texts.{grow_one}
use Rattle.protocol.proofs.Replies.{true_T, not_above_self}
use Rattle.protocol.proofs.RoundsClaim.{claim_of_rounds}

-- ---- one exchange more: a value told for y by the words w

module _ (es : List Exchange) (n : ℕ) (y w : List Float) where
  -- the exchanges with it
  abbrev more : List Exchange
  more = es ++ (heard_at n Value y w ∷ [])

  -- what was read of it
  abbrev heard : Float
  heard = read_of (get_or w 0 nan)

  told_now : length w ≡ 1 → Finite heard → Told more y heard
  told_now l h =
      (heard_at n Value y w, Memᴰ.append_right es (Memᴰ.head refl), refl, refl, only w l ∙ ap (λ v. v ∷ []) (sym (read_own (get_or w 0 nan) h)))

  -- the least of what was told and of what is told now
  least_now : (f : Float) → LeastTold es f → NotAbove f heard → LeastTold more f
  least_now f old new x v t =
      ⊎_elim (λ m. old x v (t.0, m, t.2, t.3, t.4)) (λ m. here (Memᴰ.eq_of_singleton m)) (Memᴰ.append_cases es t.1)
    where
      here : t.0 ≡ heard_at n Value y w → NotAbove f (read_of v)
      here e =
          let words : w ≡ v ∷ [] = sym (ap (λ (z : Exchange). z.words) e) ∙ t.4 in
          subst (λ (l : List Float). NotAbove f (read_of (get_or l 0 nan))) words new

-- ---- the laws

-- at a head: its value is finite, told for its point, and the least told
abbrev At : Job → List Exchange → Head → Type 0
At j es p = Finite p.f × Told es p.x p.f × LeastTold es p.f

lt_not_above : (v f : Float) → T (lt v f) → NotAbove v f
lt_not_above v f h = le→not_above v f (lt→le v f h)

none_told : (f : Float) → LeastTold [] f
none_told f x v t = absurd (Memᴰ.not-nil t.1)

-- a number not above the least told is not above what is told
least_below : (es : List Exchange) (f v : Float) → Number f → NotAbove v f → LeastTold es f → LeastTold es v
least_below es f v n h l x u t = not_above_trans v f (read_of u) n h (l x u t)

opening_ok : (j : Job) (x : List Float) → Opening example IsSimplex At j (opening x)
unfolding ◌>>=◌
opening_ok j [] = tt
opening_ok j (u ∷ x) = λ n w l fs. go n w l (finite_of (read_of (get_or w 0 nan))) refl
  where
    go : (n : ℕ) (w : List Float) → length w ≡ 1 → (b : Bool) → finite_of (read_of (get_or w 0 nan)) ≡ b
        → OpensAs example IsSimplex At j (more [] n (u ∷ x) w) (cond b (at_head (record { x = u ∷ x; f = read_of (get_or w 0 nan); iterations = 0 })) (fails 20 0))
    go n w l true e =
        let finite : Finite (read_of (get_or w 0 nan)) = true_T _ e in
        (finite, told_now [] n (u ∷ x) w l finite, least_now [] n (u ∷ x) w (read_of (get_or w 0 nan)) (none_told _) (not_above_self _))
    go n w l false e = tt

round_ok : (j : Job) (es : List Exchange) (p : Head) → At j es p → Begins (round p) × wp es (round p) (EndsAs example IsSimplex At j p.f)
unfolding ◌>>=◌
round_ok j es p at = (tt, λ n w l fs. go n w l (lt (read_of (get_or w 0 nan)) p.f) refl)
  where
    go : (n : ℕ) (w : List Float) → length w ≡ 1 → (b : Bool) → lt (read_of (get_or w 0 nan)) p.f ≡ b
        → EndsAs example IsSimplex At j p.f (more es n (halved p.x) w) (at_head (next p (halved p.x) (read_of (get_or w 0 nan)) b))
    go n w l true e =
        let v : Float = read_of (get_or w 0 nan) in
        let less : T (lt v p.f) = true_T _ e in
        let finite : Finite v = read_below (get_or w 0 nan) p.f less in
        let below : NotAbove v p.f = lt_not_above v p.f less in
        ((finite, told_now es n (halved p.x) w l finite, least_now es n (halved p.x) w v (least_below es p.f v (lt_number_r v p.f less) below at.2) (not_above_self v)), below)
    go n w l false e =
        ((at.0, grow_one es (heard_at n Value (halved p.x) w) p.x p.f at.1, least_now es n (halved p.x) w p.f at.2 (rw e tt)), not_above_self p.f)

stop_ok : (b : Bool) (y : Termination) → cond {A = Verdict Head} b (stop SimplexTolerance) go_on ≡ stop y → Own y
stop_ok true y e = let own : SimplexTolerance ≡ y = cc in subst Own own (λ z. z)
stop_ok false y e = let z : ◌≡◌ {A = ℕ} 0 1 = cc in absurd (omega arith)

no_restart : (b : Bool) (m : Ask (Ending Head)) → cond {A = Verdict Head} b (stop SimplexTolerance) go_on ≡ restart m → ⊥
no_restart true m e = let z : ◌≡◌ {A = ℕ} 0 1 = cc in omega arith
no_restart false m e = let z : ◌≡◌ {A = ℕ} 0 1 = cc in omega arith

pub example_laws : RoundsLaws example IsSimplex
example_laws =
    record {
      At = At;
      known = λ j es p at. (at.0, at.1, λ s. at.2);
      opening_ok = opening_ok;
      stop_ok = λ j es p y at e. stop_ok (leb 3 p.iterations) y e;
      restart_ok = λ j es p m at e. absurd (no_restart (leb 3 p.iterations) m e);
      round_ok = round_ok;
    }

pub example_claim : Claim (engine example)
example_claim = claim_of_rounds example example_laws
