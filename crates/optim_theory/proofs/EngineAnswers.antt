-- An answer to a record that stands for a place's gets the place's reply, and the records that come back are tied again: `answers`. Assumes nothing.
use Prim.Native.Nat.{ℕ, suc, ◌+◌, ◌≤◌}
use native.Mathlib.Numerals.{add-one}
use native.Mathlib.Omega.{arith}
use mathlib.Core.Path.{◌≡◌, refl, sym, ◌∙◌, ap, subst}
use mathlib.Core.Bool.{Bool, true, false, not, ◌&&◌, cond}
use mathlib.Core.Logic.{inl, inr}
use mathlib.Core.List.{List}
use borrow.Author.Tests.{lt-ltb, le-ltb, eq-eqb}
use lib.Dec.{eqb, ltb}
use lib.ListN.{length, get_or}
use lib.Ieee.{Float, nan}
use Rattle.vector.specs.Points.{from_slice_of}
use Rattle.protocol.specs.Protocol.{Answer, Reply, refused, read_of, simplex_mark}
use Rattle.protocol.specs.Rounds.{FitLimits}
use Rattle.protocol.specs.Places.{still, Held, at, closed, Placed, placed, put_turn, standing_at, accept_at, fresh_at, answer_at, Turns}
use Rattle.quasinewton_theory.specs.Algorithm.{quasi_newton}
use Rattle.optim_fits_theory.specs.Fits.{all_fits}
use Rattle.neldermead_theory.specs.Phases.{Phase, step_of}
use Rattle.neldermead.specs.Step.{told_of}
use Rattle.neldermead_theory.specs.Follows.{Related, RelatedMove, settled_move, SimplexAllows}
use Rattle.neldermead_theory.proofs.Follows.{simplex_follows, settles_as_fits}
use Rattle.optim_record.specs.declared.Record.{Record}
use Rattle.optim_record.specs.Record.{most, last_asking, fixed_of, valid_of}
use Rattle.optim_reply.specs.Standing.{over_of, gradient_due_of, standing_of}
use Rattle.optim_reply.proofs.Says.{stands_keeps}
use Rattle.optim_rules.specs.Rules.{repeats_of, suits_of}
use Rattle.optim.specs.Answer.{valued_of, stepped_of, taken_of, taken_gradient_of, heard_of, answer_of}
use Rattle.optim.proofs.Advance.{due_simplex}
use Rattle.optim_theory.specs.Engine.{answer_code}
use Rattle.optim_theory.proofs.EngineBounded.{told_within, step_keeps}
use Rattle.optim_theory.proofs.EngineRelated.{gradient_steps, all_steps, Place, put_move, Sound, Left, HeldBy, Relates, bound_low, mark_asks, valid, put_related}

-- ---- tests of an answer

-- a repeat carries the number last accepted
pub repeats_as : (k n : ℕ) → repeats_of k n ≡ not (eqb k 0) && eqb n k
unfolding repeats_of
repeats_as k n = go (eqb k 0)
  where
    go : (b : Bool) → cond b false (eqb n k) ≡ not b && eqb n k
    go true = refl
    go false = refl

-- the letter and the length
suits_as : (r : Record) (k n : ℕ) → r.job ≡ simplex_mark → not (suits_of r k n) ≡ not (eqb k 86 && eqb n 1)
unfolding suits_of
suits_as r k n e = rw (due_simplex r e) (go (eqb k 86))
  where
    go : (b : Bool) → not (cond (not b) false (eqb n 1)) ≡ not (b && eqb n 1)
    go true = refl
    go false = refl

-- ---- an answer that is accepted

-- the record after the value v
abbrev next : Record → Float → Record
next r v = valued_of r r.diff (told_of (fixed_of r) r.simplex (read_of v) (r.counts.fevals + 1)) r.descent r.model

stepped : (r : Record) (v : Float) → r.job ≡ simplex_mark → stepped_of r v ≡ next r v
unfolding stepped_of
stepped r v e = rw (eq-eqb r.job simplex_mark e)

module _ (r : Record) (l : FitLimits) (A : SimplexAllows (fixed_of r) l) (x : List Float) (long : length x ≡ r.n) (S : Sound r) where
  -- the record that is followed
  abbrev followed : Held Place → Placed Place
  followed h = placed all_fits all_steps l r.accepted r.accepted 0 h

  next_sound : (v : Float) → r.accepted + 1 ≤ most → Sound (next r v)
  next_sound v room =
      record {
        job = S.job;
        numbers = room;
        values = rw S.values;
        gradients = S.gradients;
        shape = simplex_follows.told_shaped (fixed_of r) r.simplex (read_of v) (r.counts.fevals + 1) S.shape;
        zeros = simplex_follows.told_zeros (fixed_of r) r.simplex (read_of v) (r.counts.fevals + 1) S.shape S.zeros;
        within = told_within (fixed_of r) r.simplex (read_of v) (r.counts.fevals + 1) S.within;
        iter = S.iter;
        fevals = S.fevals;
        restarts = S.restarts;
      }

  module _ (ph : Phase) (h : Related (fixed_of r) r.simplex ph) (b : Left r l A x (still ph)) (a : Answer) where
    abbrev v : Float
    v = get_or a.words 0 nan

    room : r.accepted + 1 ≤ most
    room =
        omega (
          arith,
          (step_keeps r.limits.fevals r.options x l A.fevals r.accepted ph b).0,
          bound_low r.limits.fevals r.options x S.fevals S.restarts (omega (arith, long, S.shape.small)),
        )

    -- the record goes where the phase goes
    moves : RelatedMove (fixed_of r) (told_of (fixed_of r) r.simplex (read_of v) (r.counts.fevals + 1)) (settled_move l (r.accepted + 1) (step_of ph a.words))
    moves = rw S.values (simplex_follows.follows (fixed_of r) l r.simplex ph A S.shape h v (r.accepted + 1))

    taken_as : ((standing_of (next r v)).0 ≡ (put_move l (r.accepted + 1) (settled_move l (r.accepted + 1) (step_of ph a.words))).0)
        × Relates (next r v) (put_move l (r.accepted + 1) (settled_move l (r.accepted + 1) (step_of ph a.words))).1
    taken_as =
        put_related (next r v) (next_sound v room) l A x long (settled_move l (r.accepted + 1) (step_of ph a.words)) moves
        ((step_keeps r.limits.fevals r.options x l A.fevals r.accepted ph b).1 a.words)

    accepted_as : accept_at all_fits all_steps (followed (at (inl ph))) (inl ph) a ≡ put_move l (r.accepted + 1) (settled_move l (r.accepted + 1) (step_of ph a.words))
    accepted_as =
        rw (sym (add-one r.accepted))
        (ap (λ (t : Turns all_fits all_steps). put_turn all_fits all_steps l (r.accepted + 1) (r.accepted + 1) 0 t)
        (settles_as_fits quasi_newton gradient_steps l (r.accepted + 1) (step_of ph a.words)))

  -- ---- any answer

  -- the same reply, records that are tied, and where the one that is followed stays, so does the record
  record Same (h : Held Place) (y : Reply × Record) (z : Reply × Placed Place) : Type 0 where
    replies : y.0 ≡ z.0
    relates : Relates y.1 z.1
    stays : z.1 ≡ followed h → y.1 ≡ r

  both : (h : Held Place) (b c : Bool) (y y' : Reply × Record) (z z' : Reply × Placed Place) → b ≡ c → Same h y z → Same h y' z' → Same h (cond b y y') (cond c z z')
  both h true c y y' z z' e p q = subst (λ (d : Bool). Same h y (cond d z z')) e p
  both h false c y y' z z' e p q = subst (λ (d : Bool). Same h y' (cond d z z')) e q

  -- nothing is accepted
  unmoved : (h : Held Place) → HeldBy r l A x h → (y : Reply) → Same h (y, r) (y, followed h)
  unmoved h held y =
      record { replies = refl; relates = record { limits = l; held = h; x0 = x; long = long; allows = A; sound = S; holds = held; is = refl }; stays = λ e. refl }

  -- the fit has ended or a question stands open
  over_as : (b : Bool) → ltb last_asking r.simplex.phase ≡ b → over_of r ≡ b
  unfolding over_of
  over_as b e = rw (eq-eqb r.job simplex_mark S.job, e)

  standing_as : (h : Held Place) → HeldBy r l A x h → (standing_of r).0 ≡ standing_at all_fits all_steps r.accepted h
  standing_as (at (inl ph)) h = (put_related r S l A x long (still ph) h.0 h.1).0
  standing_as (at (inr s)) h = absurd h
  standing_as (closed y) h = sym h.shown

  repeated : (h : Held Place) → HeldBy r l A x h → Same h (standing_of r) (standing_at all_fits all_steps r.accepted h, followed h)
  repeated h held =
      let u = unmoved h held (standing_of r).0 in
      record { replies = standing_as h held; relates = subst (λ (q : Record). Relates q (followed h)) (sym (stands_keeps r)) u.relates; stays = λ e. stands_keeps r }

  -- an accepted answer raises the number last accepted
  taken : (ph : Phase) (held : HeldBy r l A x (at (inl ph))) (a : Answer)
      → Same (at (inl ph)) (taken_of r (get_or a.words 0 nan)) (accept_at all_fits all_steps (followed (at (inl ph))) (inl ph) a)
  unfolding taken_of
  taken ph held a =
      rw (stepped r (v ph held.0 held.1 a) S.job, accepted_as ph held.0 held.1 a)
      (record {
        replies = t.0;
        relates = related;
        stays = λ e. absurd (clash (ap (λ (s : Placed Place). s.last) (related.is ∙ e)));
      })
    where
      q : Record
      q = next r (get_or a.words 0 nan)

      t : ((standing_of q).0 ≡ (put_move l (r.accepted + 1) (settled_move l (r.accepted + 1) (step_of ph a.words))).0)
          × Relates q (put_move l (r.accepted + 1) (settled_move l (r.accepted + 1) (step_of ph a.words))).1
      t = taken_as ph held.0 held.1 a

      related : Relates (standing_of q).1 (put_move l (r.accepted + 1) (settled_move l (r.accepted + 1) (step_of ph a.words))).1
      related = subst (λ (z : Record). Relates z (put_move l (r.accepted + 1) (settled_move l (r.accepted + 1) (step_of ph a.words))).1) (sym (stands_keeps q)) t.1

      clash : (standing_of q).1.accepted ≡ r.accepted → ⊥
      clash e = omega (arith, ap (λ (z : Record). z.accepted) (stands_keeps q))

  -- not a repeat: 15, 16, 17, or accepted
  fresh : (h : Held Place) → HeldBy r l A x h → (a : Answer)
      → Same h
      (cond (over_of r) (refused 15 0, r)
      (cond (not (eqb a.number (r.accepted + 1))) (refused 16 0, r)
      (cond (not (suits_of r a.kind (length a.words))) (refused 17 0, r)
      (cond (gradient_due_of r) (taken_gradient_of r (from_slice_of a.words r.n)) (taken_of r (get_or a.words 0 nan))))))
      (fresh_at all_fits all_steps (followed h) h a)
  fresh (closed y) held a = rw (over_as true (lt-ltb last_asking r.simplex.phase held.past)) (unmoved (closed y) held (refused 15 0))
  fresh (at (inr s)) held a = absurd held
  fresh (at (inl ph)) held a =
      rw (over_as false (le-ltb last_asking r.simplex.phase (omega (arith, held.0.mark, mark_asks ph))), due_simplex r S.job)
      (both (at (inl ph)) (not (eqb a.number (r.accepted + 1))) (not (eqb a.number (suc r.accepted))) _ _ _ _ (rw (add-one r.accepted)) (unmoved (at (inl ph)) held (refused 16 0))
      (both (at (inl ph)) (not (suits_of r a.kind (length a.words))) _ _ _ _ _ (suits_as r a.kind (length a.words) S.job) (unmoved (at (inl ph)) held (refused 17 0))
      (taken ph held a)))

  answered : (h : Held Place) → HeldBy r l A x h → (a : Answer) → Same h (answer_code r a) (answer_at all_fits all_steps (followed h) a)
  unfolding answer_of heard_of
  answered h held a =
      rw (valid r S l A x h held)
      (both h (repeats_of r.accepted a.number) _ _ _ _ _ (repeats_as r.accepted a.number) (repeated h held) (fresh h held a))

-- ---- of any two records that are tied

pub valid_of_lem : (r : Record) (s : Placed Place) → Relates r s → valid_of r ≡ true
valid_of_lem r s R = valid r R.sound R.limits R.allows R.x0 R.held R.holds

module _ (r : Record) (s : Placed Place) (a : Answer) (R : Relates r s) where
  abbrev Replied : Placed Place → Type 0
  Replied z =
      ((answer_code r a).0 ≡ (answer_at all_fits all_steps z a).0) × Relates (answer_code r a).1 (answer_at all_fits all_steps z a).1
      × ((answer_at all_fits all_steps z a).1 ≡ z → (answer_code r a).1 ≡ r)

  pub answers : Replied s
  answers =
      let t = answered r R.limits R.allows R.x0 R.long R.sound R.held R.holds a in
      subst Replied R.is (t.replies, t.relates, t.stays)
