-- An answer to a record of a gradient fit gets the reply of the engine of the texts, and the records that come back are tied again: `answers`. Assumes nothing.
use Prim.Native.Nat.{ℕ, suc, ◌+◌}
use native.Mathlib.Numerals.{add-one}
use native.Mathlib.Omega.{arith}
use mathlib.Core.Path.{◌≡◌, refl, sym, ◌∙◌, ap, subst}
use mathlib.Core.Logic.{inr}
use mathlib.Core.Bool.{Bool, true, false, not, ◌&&◌, cond}
use mathlib.Core.List.{List}
use lib.Dec.{eqb}
use lib.ListN.{length, get_or}
use lib.Ieee.{Float, nan}
use Rattle.float.proofs.Tests.{not_cond}
use Rattle.vector.specs.Lists.{first}
use Rattle.vector.specs.Points.{from_slice_of}
use Rattle.vector.proofs.First.{point_laws}
use Rattle.protocol.specs.declared.Kind.{Kind}
use Rattle.protocol.specs.declared.Kind.TheVariants.{Value, Gradient}
use Rattle.protocol.specs.Protocol.{letter, Answer, Reply, refused}
use Rattle.protocol.specs.Dialogue.{wanted}
use Rattle.protocol.specs.Ask.{Ask, finish, query, ◌>>=◌}
use Rattle.protocol.specs.Rounds.{Ending, at_head, stops, fails, FitLimits, open_at, over, Kept, kept, put, standing, accept, fresh, answer_to}
use Rattle.protocol.specs.Fits.{map_text}
use Rattle.neldermead_theory.specs.Algorithm.{nelder_mead}
use Rattle.quasinewton_record.specs.declared.Descent.{Descent}
use Rattle.quasinewton_record.specs.declared.Fixed.{Fixed}
use Rattle.quasinewton.specs.Step.{probe_of, asks_of}
use Rattle.quasinewton_theory.specs.Algorithm.{GradientPosition}
use Rattle.quasinewton_theory.specs.Follows.{to_do, wants_gradient, kind_of, heard_of}
use Rattle.quasinewton_theory.proofs.FollowsSettles.{settles_as_fits}
use Rattle.optim_fits_theory.specs.Fits.{all_fits}
use Rattle.optim_record.specs.declared.Record.{Record}
use Rattle.optim_record.specs.Record.{gradient_fixed_of, valid_of}
use Rattle.optim_reply.specs.Standing.{over_of, gradient_due_of, standing_of}
use Rattle.optim_reply.proofs.Says.{stands_keeps}
use Rattle.optim_rules.specs.Rules.{repeats_of, suits_of}
use Rattle.optim.specs.Answer.{stepped_of, graded_of, taken_of, taken_gradient_of, heard_of as heard_by, answer_of}
use Rattle.optim_theory.specs.Engine.{answer_code}
use Rattle.optim_theory.proofs.EngineAnswers.{repeats_as}
use Rattle.optim_theory.proofs.DescentRelated.{Text, rest_of, shown_as, Sound, valid, asks, ended_by, over_as, due_as, shows}
use Rattle.optim_theory.proofs.DescentBounds.{Budget}
use Rattle.optim_theory.proofs.DescentMoves.{next, Bounded, low, values, gradients, made, next_as, made_sound, made_rest, made_within}

abbrev pub Texts : Type 0
Texts = Kept all_fits.Position

-- the record r stands for k
pub record Relates (r : Record) (k : Texts) : Type 0 where
  pub budget : Budget
  pub sound : Sound r
  pub bounded : Bounded budget r
  pub is : (shown_as budget.limits r (rest_of r)).1 ≡ k

-- the number last accepted of what is put
last_of_lem : (l : FitLimits) (n v g : ℕ) (m : Ask (Ending all_fits.Position)) → (put all_fits l n v g m).1.last ≡ n
last_of_lem l n v g (query k x c) = refl
last_of_lem l n v g (finish (at_head p)) = refl
last_of_lem l n v g (finish (stops y p)) = refl
last_of_lem l n v g (finish (fails k d)) = refl

module _ (r : Record) (S : Sound r) (b : Budget) (W : Bounded b r) (a : Answer) where
  abbrev l : FitLimits
  l = b.limits

  abbrev q : Descent
  q = r.descent

  abbrev fixed : Fixed
  fixed = gradient_fixed_of r

  -- the same reply, records that are tied, and where the one that is followed stays, so does the record
  record Same (k : Texts) (y : Reply × Record) (z : Reply × Texts) : Type 0 where
    replies : y.0 ≡ z.0
    relates : Relates y.1 z.1
    stays : z.1 ≡ k → y.1 ≡ r

  both : (k : Texts) (c d : Bool) (y y' : Reply × Record) (z z' : Reply × Texts) → c ≡ d → Same k y z → Same k y' z' → Same k (cond c y y') (cond d z z')
  both k true d y y' z z' e p q = subst (λ (t : Bool). Same k y (cond t z z')) e p
  both k false d y y' z z' e p q = subst (λ (t : Bool). Same k y' (cond t z z')) e q

  tied : (m : Text) → rest_of r ≡ m → Relates r (shown_as l r m).1
  tied m e = record { budget = b; sound = S; bounded = W; is = ap (λ (t : Text). (shown_as l r t).1) e }

  -- nothing is accepted
  unmoved : (k : Texts) → Relates r k → (y : Reply) → Same k (y, r) (y, k)
  unmoved k h y = record { replies = refl; relates = h; stays = λ e. refl }

  repeated : (k : Texts) (y : Reply) → Relates r k → (standing_of r).0 ≡ y → Same k (standing_of r) (y, k)
  repeated k y h e = record { replies = e; relates = subst (λ (z : Record). Relates z k) (sym (stands_keeps r)) h; stays = λ i. stands_keeps r }

  -- not a repeat, as the code has it
  abbrev fresh_code : Reply × Record
  fresh_code =
      cond (over_of r) (refused 15 0, r)
      (cond (not (eqb a.number (r.accepted + 1))) (refused 16 0, r)
      (cond (not (suits_of r a.kind (length a.words))) (refused 17 0, r)
      (cond (gradient_due_of r) (taken_gradient_of r (from_slice_of a.words r.n)) (taken_of r (get_or a.words 0 nan)))))

  -- in range, so the repeat rule comes first
  by_repeat : (k : Texts) (y : Reply) (z : Reply × Texts) → Relates r k → (standing_of r).0 ≡ y → Same k fresh_code z
      → Same k (answer_code r a) (cond (not (eqb r.accepted 0) && eqb a.number r.accepted) (y, k) z)
  unfolding answer_of heard_by
  by_repeat k y z h e f = rw (valid r S (low b r S W)) (both k (repeats_of r.accepted a.number) _ _ _ _ _ (repeats_as r.accepted a.number) (repeated k y h e) f)

  -- ---- the fit has ended

  abbrev over_at : Reply → Texts
  over_at y = kept all_fits l r.accepted r.counts.fevals r.counts.gevals (over y)

  closed_by : (y : Reply) → (standing_of r).0 ≡ y → Relates r (over_at y) → asks_of q ≡ false → Same (over_at y) (answer_code r a) (answer_to all_fits (over_at y) a)
  closed_by y s h e = by_repeat (over_at y) y (refused 15 0, over_at y) h s (rw (over_as r S, e) (unmoved (over_at y) h (refused 15 0)))

  closed : (o : Ending GradientPosition) → rest_of r ≡ finish o → asks_of q ≡ false → let k = (shown_as l r (finish o)).1 in Same k (answer_code r a) (answer_to all_fits k a)
  unfolding ◌>>=◌
  closed (at_head p) e i = closed_by _ (shows r S l ∙ ap (λ (m : Text). (shown_as l r m).0) e) (tied _ e) i
  closed (stops y p) e i = closed_by _ (shows r S l ∙ ap (λ (m : Text). (shown_as l r m).0) e) (tied _ e) i
  closed (fails k d) e i = closed_by _ (shows r S l ∙ ap (λ (m : Text). (shown_as l r m).0) e) (tied _ e) i

  -- ---- a question stands open

  module _ (e : asks_of q ≡ true) where
    abbrev kind : Kind
    kind = kind_of fixed q

    abbrev point : List Float
    point = first r.n (probe_of fixed q)

    abbrev then : List Float → Text
    then w = to_do fixed (heard_of fixed q w) r.model

    abbrev open_text : Texts
    open_text = kept all_fits l r.accepted r.counts.fevals r.counts.gevals (open_at kind point (λ w. map_text inr (then w)))

    -- the letter and the count of words
    suits_as : (k n : ℕ) → not (suits_of r k n) ≡ not (eqb k (letter kind) && eqb n (wanted kind point))
    unfolding suits_of
    suits_as k n = rw (due_as r S) (go (wants_gradient fixed q))
      where
        go : (b : Bool) → not (cond b (cond (not (eqb k 71)) false (eqb n r.n)) (cond (not (eqb k 86)) false (eqb n 1)))
            ≡ not (eqb k (letter (cond b Gradient Value)) && eqb n (wanted (cond b Gradient Value) point))
        go true = not_cond (eqb k 71) (eqb n r.n) ∙ ap (λ (c : ℕ). not (eqb k 71 && eqb n c)) (sym (point_laws.listed r.n _))
        go false = not_cond (eqb k 86) (eqb n 1)

    taken_as : (w : List Float) → cond (gradient_due_of r) (taken_gradient_of r (from_slice_of w r.n)) (taken_of r (get_or w 0 nan)) ≡ standing_of (next r w)
    unfolding taken_of taken_gradient_of
    taken_as w = go (gradient_due_of r)
      where
        go : (b : Bool) → cond b (taken_gradient_of r (from_slice_of w r.n)) (taken_of r (get_or w 0 nan)) ≡ standing_of (cond b (graded_of r (from_slice_of w r.n)) (stepped_of r (get_or w 0 nan)))
        go true = refl
        go false = refl

    -- the text goes on as the record does
    accept_as : accept all_fits open_text kind (λ w. map_text inr (then w)) a ≡ shown_as l (made r S a.words) (rest_of (made r S a.words))
    accept_as =
        ap (λ (t : Ask (Ending all_fits.Position)). put all_fits l (suc r.accepted) (values r S a.words) (gradients r S a.words) t)
        (settles_as_fits nelder_mead l (values r S a.words) (then a.words) ∙ ap (λ (t : Text). map_text inr t) (made_rest r S a.words b W e))
        ∙ ap (λ (k : ℕ). put all_fits l k (values r S a.words) (gradients r S a.words) (map_text inr (rest_of (made r S a.words)))) (sym (add-one r.accepted))

    -- an accepted answer raises the number last accepted
    taken : Same open_text (standing_of (next r a.words)) (accept all_fits open_text kind (λ w. map_text inr (then w)) a)
    taken =
        let m = made r S a.words in
        let o = made_sound r S a.words in
        rw (next_as r S a.words, accept_as)
        (record {
          replies = shows m o l;
          relates =
              subst (λ (z : Record). Relates z (shown_as l m (rest_of m)).1) (sym (stands_keeps m))
              (record { budget = b; sound = o; bounded = made_within r S a.words b W e; is = refl });
          stays = λ i. absurd (clash r.accepted (sym (last_of_lem l (r.accepted + 1) (values r S a.words) (gradients r S a.words) (map_text inr (rest_of m))) ∙ ap (λ (z : Texts). z.last) i));
        })
      where
        clash : (n : ℕ) → n + 1 ≡ n → ⊥
        clash n i = omega arith

    opened : Relates r open_text → Same open_text (answer_code r a) (answer_to all_fits open_text a)
    unfolding ◌>>=◌
    opened h =
        by_repeat open_text _ (fresh all_fits open_text open_text.state a) h shown
        (rw (over_as r S, e, taken_as a.words)
        (both open_text (not (eqb a.number (r.accepted + 1))) _ _ _ _ _ (ap (λ (k : ℕ). not (eqb a.number k)) (add-one r.accepted)) (unmoved open_text h (refused 16 0))
        (both open_text (not (suits_of r a.kind (length a.words))) _ _ _ _ _ (suits_as a.kind (length a.words)) (unmoved open_text h (refused 17 0)) taken)))
      where
        shown : (standing_of r).0 ≡ standing all_fits r.accepted open_text.state
        shown = shows r S l ∙ ap (λ (m : Text). (shown_as l r m).0) (asks r S e)

    answered_open : let k = (shown_as l r (query kind point then)).1 in Same k (answer_code r a) (answer_to all_fits k a)
    unfolding ◌>>=◌
    answered_open = opened (tied _ (asks r S e))

  abbrev Answered : Text → Type 0
  Answered m = Same (shown_as l r m).1 (answer_code r a) (answer_to all_fits (shown_as l r m).1 a)

  answered : Answered (rest_of r)
  answered = go (asks_of q) refl
    where
      go : (c : Bool) → asks_of q ≡ c → Answered (rest_of r)
      go true e = subst Answered (sym (asks r S e)) (answered_open e)
      go false e = subst Answered (sym (ended_by r S e)) (closed _ (ended_by r S e) e)

-- ---- of any two records that are tied

pub valid_of_lem : (r : Record) (k : Texts) → Relates r k → valid_of r ≡ true
valid_of_lem r k R = valid r R.sound (low R.budget r R.sound R.bounded)

module _ (r : Record) (k : Texts) (a : Answer) (R : Relates r k) where
  abbrev Replied : Texts → Type 0
  Replied z =
      ((answer_code r a).0 ≡ (answer_to all_fits z a).0) × Relates (answer_code r a).1 (answer_to all_fits z a).1 × ((answer_to all_fits z a).1 ≡ z → (answer_code r a).1 ≡ r)

  pub answers : Replied k
  answers =
      let t = answered r R.sound R.budget R.bounded a in
      subst Replied R.is (t.replies, t.relates, t.stays)
