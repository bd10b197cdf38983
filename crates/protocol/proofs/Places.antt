-- The engine of the places of a fit's texts follows the engine of the texts, and so has its claim. Assumes nothing.
use Prim.Native.Nat.{ℕ, suc, ◌+◌}
use native.Mathlib.Omega.{arith}
use mathlib.Core.Path.{◌≡◌, refl, sym, ◌∙◌, ap, subst}
use mathlib.Core.Bool.{Bool, true, false, not, ◌&&◌, cond}
use lib.Dec.{eqb}
use lib.ListN.{length}
use Rattle.protocol.specs.declared.Kind.TheVariants.{Value, Gradient}
use Rattle.protocol.specs.Protocol.{letter, Answer, Reply, refused, Job, Fit}
use Rattle.protocol.specs.Dialogue.{wanted, of_kind}
use Rattle.protocol.specs.Claim.{IsSimplex, Claim}
use Rattle.protocol.specs.Ask.{Ask, finish, query}
use Rattle.protocol.specs.PastLimits.{past_limits}
use Rattle.protocol.specs.Rounds.{Ending, at_head, stops, fails, Verdict, go_on, stop, restart, Rounds, FitLimits, reached, limits_of, State, open_at, over, Kept, kept, allowed, headed, settle, put, standing, accept, fresh, answer_to, begun, engine}
use Rattle.protocol.specs.RoundsLaws.{RoundsLaws}
use Rattle.protocol.specs.Places.{still, ends, text, Steps, StepsLaws, Held, at, closed, Placed, Turns, allowed_turn, headed_turn, settle_turn, put_turn, standing_at, accept_at, fresh_at, answer_at, begun_turn, start_at, engine_of_places}
use Rattle.protocol.specs.Follow.{Follows}
use Rattle.protocol.proofs.RoundsClaim.{claim_of_rounds}
use Rattle.protocol.proofs.Follow.{claim_follows}

module _ (R : Rounds Job) (S : Steps R) (L : StepsLaws R S) where
  abbrev words : Turns R S → Ask (Ending R.Position)
  words t = text L.to_do t

  -- the record of the texts that a record of places stands for
  abbrev view_held : Held S.Place → State R.Position
  view_held (at s) = open_at (S.kind s) (S.point s) (λ w. words (S.step s w))
  view_held (closed y) = over y

  abbrev view : Placed S.Place → Kept R.Position
  view r = kept R r.limits r.last r.values r.gradients (view_held r.held)

  -- the same reply, and a record that stands for the other
  abbrev Same : Reply × Placed S.Place → Reply × Kept R.Position → Type 0
  Same y z = (y.0 ≡ z.0) × (view y.1 ≡ z.1)

  settled_text : (l : FitLimits) (v : ℕ) (t : Turns R S) → words (settle_turn R S l v t) ≡ settle R l v (words t)
  settled_text l v (still s) = L.follows s ∙ sym (ap (settle R l v) (L.follows s))
  settled_text l v (ends (stops y p)) = refl
  settled_text l v (ends (fails k d)) = refl
  settled_text l v (ends (at_head p)) = go (R.tests p) refl
    where
      both : (a b : Bool) → words (allowed_turn R S a b p) ≡ allowed R a b p
      both true b = refl
      both false true = refl
      both false false = L.rounds p

      go : (o : Verdict R.Position) → R.tests p ≡ o → words (headed_turn R S l v o p) ≡ headed R l v o p
      go go_on e = both (reached (R.iterations p) l.iter) (reached v l.fevals)
      go (stop y) e = refl
      go (restart m) e = L.restarts p m e

  put_view : (l : FitLimits) (n v g : ℕ) (t : Turns R S) → Same (put_turn R S l n v g t) (put R l n v g (words t))
  put_view l n v g (still s) = subst (λ (m : Ask (Ending R.Position)). Same (put_turn R S l n v g (still s)) (put R l n v g m)) (sym (L.follows s)) (refl, refl)
  put_view l n v g (ends (at_head p)) = (refl, refl)
  put_view l n v g (ends (stops y p)) = (refl, refl)
  put_view l n v g (ends (fails k d)) = (refl, refl)

  accept_view : (r : Placed S.Place) (s : S.Place) (a : Answer) → Same (accept_at R S r s a) (accept R (view r) (S.kind s) (λ w. words (S.step s w)) a)
  accept_view r s a =
      let v = r.values + of_kind Value (S.kind s) in
      let g = r.gradients + of_kind Gradient (S.kind s) in
      subst (λ (m : Ask (Ending R.Position)). Same (accept_at R S r s a) (put R r.limits (suc r.last) v g m)) (settled_text r.limits v (S.step s a.words))
      (put_view r.limits (suc r.last) v g (settle_turn R S r.limits v (S.step s a.words)))

  fresh_view : (r : Placed S.Place) (h : Held S.Place) (a : Answer) → Same (fresh_at R S r h a) (fresh R (view r) (view_held h) a)
  fresh_view r (closed y) a = (refl, refl)
  fresh_view r (at s) a = go (eqb a.number (suc r.last)) (eqb a.kind (letter (S.kind s)) && eqb (length a.words) (wanted (S.kind s) (S.point s)))
    where
      go : (y z : Bool) → Same (cond (not y) (refused 16 0, r) (cond (not z) (refused 17 0, r) (accept_at R S r s a)))
          (cond (not y) (refused 16 0, view r) (cond (not z) (refused 17 0, view r) (accept R (view r) (S.kind s) (λ w. words (S.step s w)) a)))
      go true true = accept_view r s a
      go true false = (refl, refl)
      go false z = (refl, refl)

  standing_view : (n : ℕ) (h : Held S.Place) → standing_at R S n h ≡ standing R n (view_held h)
  standing_view n (at s) = refl
  standing_view n (closed y) = refl

  answer_view : (r : Placed S.Place) (a : Answer) → Same (answer_at R S r a) (answer_to R (view r) a)
  answer_view r a = go (not (eqb r.last 0) && eqb a.number r.last)
    where
      go : (b : Bool) → Same (cond b (standing_at R S r.last r.held, r) (fresh_at R S r r.held a))
          (cond b (standing R r.last (view_held r.held), view r) (fresh R (view r) (view_held r.held) a))
      go true = (standing_view r.last r.held, refl)
      go false = fresh_view r r.held a

  -- an accepted answer raises the number last accepted, so where the record that is followed stays, nothing was accepted
  raised : (l : FitLimits) (n v g : ℕ) (m : Ask (Ending R.Position)) → (put R l n v g m).1.last ≡ n
  raised l n v g (query k x c) = refl
  raised l n v g (finish (at_head p)) = refl
  raised l n v g (finish (stops y p)) = refl
  raised l n v g (finish (fails k d)) = refl

  stays_fresh : (r : Placed S.Place) (h : Held S.Place) (a : Answer) → (fresh R (view r) (view_held h) a).1 ≡ view r → (fresh_at R S r h a).1 ≡ r
  stays_fresh r (closed y) a e = refl
  stays_fresh r (at s) a e = go (eqb a.number (suc r.last)) (eqb a.kind (letter (S.kind s)) && eqb (length a.words) (wanted (S.kind s) (S.point s))) e
    where
      v : ℕ
      v = r.values + of_kind Value (S.kind s)

      rest : Ask (Ending R.Position)
      rest = settle R r.limits v (words (S.step s a.words))

      clash : suc r.last ≡ r.last → ⊥
      clash i = omega arith

      go : (y z : Bool)
          → (cond {A = Reply × Kept R.Position} (not y) (refused 16 0, view r) (cond (not z) (refused 17 0, view r) (accept R (view r) (S.kind s) (λ w. words (S.step s w)) a))).1 ≡ view r
          → (cond {A = Reply × Placed S.Place} (not y) (refused 16 0, r) (cond (not z) (refused 17 0, r) (accept_at R S r s a))).1 ≡ r
      go true true e = absurd (clash (sym (raised r.limits (suc r.last) v (r.gradients + of_kind Gradient (S.kind s)) rest) ∙ ap (λ (z : Kept R.Position). z.last) e))
      go true false e = refl
      go false z e = refl

  stays_answer : (r : Placed S.Place) (a : Answer) → (answer_to R (view r) a).1 ≡ view r → (answer_at R S r a).1 ≡ r
  stays_answer r a e = go (not (eqb r.last 0) && eqb a.number r.last) e
    where
      go : (b : Bool) → (cond {A = Reply × Kept R.Position} b (standing R r.last (view_held r.held), view r) (fresh R (view r) (view_held r.held) a)).1 ≡ view r
          → (cond {A = Reply × Placed S.Place} b (standing_at R S r.last r.held, r) (fresh_at R S r r.held a)).1 ≡ r
      go true e = refl
      go false e = stays_fresh r r.held a e

  begun_text : (f : Fit) → words (begun_turn R S f) ≡ begun R f
  begun_text f = go (past_limits f)
    where
      go : (b : Bool) → words (cond b (ends (fails 2 0)) (S.opening f.job f.x0)) ≡ cond b (finish (fails 2 0)) (R.opening f.job f.x0)
      go true = refl
      go false = L.opens f.job f.x0

  pub places_follow : Follows (Placed S.Place) (Kept R.Position) (start_at R S) (answer_at R S) (engine R).start (engine R).answer
  places_follow = record {
    Related = λ r s. view r ≡ s;
    starts = λ f.
        let h = subst (λ (m : Ask (Ending R.Position)). Same (start_at R S f) (put R (limits_of f) 0 0 0 m)) (begun_text f) (put_view (limits_of f) 0 0 0 (begun_turn R S f)) in
        (h.0, λ n. h.1);
    answers = λ r s a w e. subst (λ (z : Kept R.Position). Same (answer_at R S r a) (answer_to R z a)) e (answer_view r a);
    stays = λ r s a w e. subst (λ (z : Kept R.Position). (answer_to R z a).1 ≡ z → (answer_at R S r a).1 ≡ r) e (stays_answer r a);
  }

  -- a record of places has the claim of the texts
  pub claim_of_places : RoundsLaws R IsSimplex → Claim (engine_of_places R S)
  claim_of_places M = claim_follows (Placed S.Place) (Kept R.Position) (start_at R S) (answer_at R S) (engine R).start (engine R).answer places_follow (claim_of_rounds R M)
