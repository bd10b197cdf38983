-- The laws of `Costs`, and that a fit that owes `BoundLaws` puts no more questions of the kind than the bound: `questions_at_most`. Assumes nothing.
use mathlib.Core.Path.{◌≡◌, refl, sym, ◌∙◌, ap, subst, subst₂}
use mathlib.Core.Logic.{◌⊎◌, inl, inr, ⊎_elim}
use mathlib.Core.List.{List, [], ◌∷◌, ◌++◌}
use mathlib.Core.Bool.{Bool, true, false, cond}
use Prim.Native.Nat.{ℕ, suc, ◌+◌, ◌≤◌, zero-le}
use native.Mathlib.Nat.{le_trans, le_of_eq}
use native.Mathlib.Omega.{arith}
use lib.Dec.{nleb→lt}
use lib.ListN.{length}
use lib.Ieee.{Float}
use Rattle.protocol.specs.declared.Kind.{Kind}
use Rattle.protocol.specs.declared.Kind.TheVariants.{Value, Gradient}
use Rattle.protocol.specs.Protocol.{Question, Answer, Reply, ask, Job, Fit}
use Rattle.protocol.specs.Dialogue.{suits, accepted, of_kind, Exchange, question_in, Dialogue, called, give, give_all, begin}
use Rattle.protocol.specs.Claim.{Limit, limit, unlimited, ◌⊑◌}
use Rattle.protocol.specs.Ask.{Ask, finish, query, ◌>>=◌}
use Rattle.protocol.specs.PastLimits.{past_limits}
use Rattle.protocol.specs.Rounds.{Ending, at_head, stops, fails, Verdict, go_on, stop, restart, Rounds, reached, limits_of, open_at, Kept, question_at, kept, settle, headed, allowed, put, answer_to, begun, engine}
use Rattle.protocol.specs.Bounds.{Costs, Keeps, of_both, BoundLaws, questions_of, QuestionsAtMost}
use Rattle.protocol.proofs.RoundsCalls.{taken, unmoved}

-- ---- what a text costs

module _ (κ : Kind) where
  pub costs_more : {A : Type 0} (b d : ℕ) (m : Ask A) (Q : A → Type 0) → b ≤ d → Costs κ b m Q → Costs κ d m Q
  costs_more b d (finish a) Q h k = k
  costs_more b d (query j x c) Q h k = (k.0, le_trans k.1 h, k.2)

  pub costs_bind : {A B : Type 0} (a b : ℕ) (m : Ask A) (f : A → Ask B) (P : A → Type 0) (Q : B → Type 0)
      → Costs κ a m P → ((x : A) → P x → Costs κ b (f x) Q) → Costs κ (a + b) (m >>= f) Q
  unfolding ◌>>=◌
  costs_bind a b (finish x) f P Q h k = costs_more b (a + b) (f x) Q (omega arith) (k x h)
  costs_bind a b (query j x c) f P Q h k = (h.0 + b, omega (arith, h.1), λ w. costs_bind h.0 b (c w) f P Q (h.2 w) k)

  pub cond_costs : {A : Type 0} (b : ℕ) (t : Bool) (m n : Ask A) (Q : A → Type 0) → Costs κ b m Q → Costs κ b n Q → Costs κ b (cond t m n) Q
  cond_costs b true m n Q h k = h
  cond_costs b false m n Q h k = k

-- a text keeps to the bound where what it costs is still left
module _ {Position : Type 0} (κ : Kind) (bound : ℕ) (Head : ℕ → Position → Type 0) where
  pub keeps_by_cost : (b k : ℕ) (m : Ask (Ending Position)) (Q : Ending Position → Type 0)
      → Costs κ b m Q → k + b ≤ bound → ((i : ℕ) (p : Position) → i ≤ k + b → Q (at_head p) → Head i p) → Keeps κ bound Head k m
  keeps_by_cost b k (query j x c) Q h r q = (
    omega (arith, h.1),
    λ w. keeps_by_cost h.0 (k + of_kind κ j) (c w) Q (h.2 w) (omega (arith, h.1)) (λ i p l. q i p (omega (arith, h.1))),
  )
  keeps_by_cost b k (finish (at_head p)) Q h r q = q k p (omega arith) h
  keeps_by_cost b k (finish (stops y p)) Q h r q = tt
  keeps_by_cost b k (finish (fails m d)) Q h r q = tt

-- ---- questions in lists

pub questions_append : (κ : Kind) (ps qs : List Question) → questions_of κ (ps ++ qs) ≡ questions_of κ ps + questions_of κ qs
questions_append κ [] qs = zero_more (questions_of κ qs)
  where
    zero_more : (m : ℕ) → m ≡ 0 + m
    zero_more m = omega arith
questions_append κ (p ∷ ps) qs = omega (arith, questions_append κ ps qs)

-- a question is of the one kind or of the other
pub all_questions : (qs : List Question) → length qs ≡ questions_of Value qs + questions_of Gradient qs
all_questions [] = refl
all_questions (q ∷ qs) = go q.kind (all_questions qs)
  where
    go : (k : Kind) → length qs ≡ questions_of Value qs + questions_of Gradient qs
        → suc (length qs) ≡ of_kind Value k + questions_of Value qs + (of_kind Gradient k + questions_of Gradient qs)
    go Value h = omega arith
    go Gradient h = omega arith

pub one_more : (κ j : Kind) (v g : ℕ) → of_both κ v g + of_kind κ j ≡ of_both κ (v + of_kind Value j) (g + of_kind Gradient j)
one_more Value j v g = refl
one_more Gradient j v g = refl

-- ---- along a list

module _ (R : Rounds Job) (κ : Kind) (bound : ℕ) (f : Fit) (N : BoundLaws R κ bound (limits_of f) f.job f.x0) where
  abbrev Text : Type 0
  Text = Ask (Ending R.Position)

  abbrev Within : ℕ → Text → Type 0
  Within k m = Keeps κ bound N.Head k m

  settled : (v g : ℕ) (m : Text) → Within (of_both κ v g) m → Within (of_both κ v g) (settle R (limits_of f) v m)
  settled v g (query j x c) h = h
  settled v g (finish (stops y p)) h = h
  settled v g (finish (fails k d)) h = h
  settled v g (finish (at_head p)) h = go (R.tests p) refl
    where
      both : (a b : Bool) → reached (R.iterations p) (limits_of f).iter ≡ a → reached v (limits_of f).fevals ≡ b → Within (of_both κ v g) (allowed R a b p)
      both true b i j = tt
      both false true i j = tt
      both false false i j = N.round_keeps v g p h i j

      go : (o : Verdict R.Position) → R.tests p ≡ o → Within (of_both κ v g) (headed R (limits_of f) v o p)
      go go_on e = both (reached (R.iterations p) (limits_of f).iter) (reached v (limits_of f).fevals) refl refl
      go (stop y) e = tt
      go (restart m) e = N.restart_keeps (of_both κ v g) p m h e

  -- a question stands open, and the text that asks it keeps to the bound
  pub record Open (y : Reply) (r : Kept R.Position) (qs : List Question) : Type 0 where
    pub n : ℕ
    pub v : ℕ
    pub g : ℕ
    pub j : Kind
    pub x : List Float
    pub c : List Float → Text
    pub record_is : kept R (limits_of f) n v g (open_at j x c) ≡ r
    pub standing_is : ask (question_at R n j x) ≡ y
    pub count : questions_of κ qs ≡ of_both κ v g + of_kind κ j
    pub keeps : Within (of_both κ v g) (query j x c)

  abbrev Ok : Reply → Kept R.Position → List Question → Type 0
  Ok y r qs = Open y r qs ⊎ (((a : Answer) → accepted y a ≡ false) × (questions_of κ qs ≤ bound))

  abbrev Fine : Dialogue (Kept R.Position) → Type 0
  Fine d = Ok d.standing d.record_now d.questions

  put_ok : (n v g : ℕ) (m : Text) (qs : List Question) → Within (of_both κ v g) m → questions_of κ qs ≡ of_both κ v g → of_both κ v g ≤ bound
      → let z = put R (limits_of f) n v g m in Ok z.0 z.1 (qs ++ question_in z.0)
  put_ok n v g (query j x c) qs h e b =
      let w = questions_append κ qs (question_at R n j x ∷ []) in
      inl (record { n = n; v = v; g = g; j = j; x = x; c = c; record_is = refl; standing_is = refl; count = omega arith; keeps = h })
  put_ok n v g (finish (at_head p)) qs h e b = inr ((λ a. refl), omega (arith, questions_append κ qs []))
  put_ok n v g (finish (stops y p)) qs h e b = inr ((λ a. refl), omega (arith, questions_append κ qs []))
  put_ok n v g (finish (fails m d)) qs h e b = inr ((λ a. refl), omega (arith, questions_append κ qs []))

  module _ (qs : List Question) (es : List Exchange) (ys : List Reply) where
    abbrev after : Reply → Kept R.Position → Dialogue (Kept R.Position)
    after y r = record { standing = y; record_now = r; questions = qs; exchanges = es; replies = ys }

    give_open : (a : Answer) (n v g : ℕ) (j : Kind) (x : List Float) (c : List Float → Text) → questions_of κ qs ≡ of_both κ v g + of_kind κ j → Within (of_both κ v g) (query j x c)
        → Fine (give (engine R) (after (ask (question_at R n j x)) (kept R (limits_of f) n v g (open_at j x c))) a)
    give_open a n v g j x c e k = go (suits (question_at R n j x) a) refl
      where
        r : Kept R.Position
        r = kept R (limits_of f) n v g (open_at j x c)

        v' : ℕ
        v' = v + of_kind Value j

        g' : ℕ
        g' = g + of_kind Gradient j

        go : (b : Bool) → suits (question_at R n j x) a ≡ b → Fine (called (engine R) (after (ask (question_at R n j x)) r) a b (answer_to R r a))
        go true t =
            let more = one_more κ j v g in
            subst (λ (z : Reply × Kept R.Position). Ok z.0 z.1 (qs ++ question_in z.0)) (sym (taken R (limits_of f) n v g j x c a t))
            (put_ok (suc n) v' g' (settle R (limits_of f) v' (c a.words)) qs (settled v' g' (c a.words) (subst (λ (i : ℕ). Within i (c a.words)) more (k.1 a.words))) (e ∙ more)
            (subst (λ (i : ℕ). i ≤ bound) more k.0))
        go false t =
            let i = ap (λ (z : Reply × Kept R.Position). z.1) (unmoved R r a tt t) in
            inl (record { n = n; v = v; g = g; j = j; x = x; c = c; record_is = sym i; standing_is = refl; count = e; keeps = k })

  give_ok : (d : Dialogue (Kept R.Position)) (a : Answer) → Fine d → Fine (give (engine R) d a)
  give_ok d a (inl o) =
      subst₂ (λ (y : Reply) (r : Kept R.Position). Fine (give (engine R) (after d.questions d.exchanges d.replies y r) a)) o.standing_is o.record_is
      (give_open d.questions d.exchanges d.replies a o.n o.v o.g o.j o.x o.c o.count o.keeps)
  give_ok d a (inr h) = subst (λ (b : Bool). Fine (called (engine R) d a b (answer_to R d.record_now a))) (sym (h.0 a)) (inr h)

  all_ok_lem : (d : Dialogue (Kept R.Position)) (l : List Answer) → Fine d → Fine (give_all (engine R) d l)
  all_ok_lem d [] h = h
  all_ok_lem d (a ∷ l) h = all_ok_lem (give (engine R) d a) l (give_ok d a h)

  none_yet : (k : Kind) → 0 ≡ of_both k 0 0
  none_yet Value = refl
  none_yet Gradient = refl

  begin_ok : Fine (begin (engine R) f)
  begin_ok = put_ok 0 0 0 (begun R f) [] (which (past_limits f)) (none_yet κ) (subst (λ (k : ℕ). k ≤ bound) (none_yet κ) zero-le)
    where
      which : (b : Bool) → Within (of_both κ 0 0) (cond b (finish (fails 2 0)) (R.opening f.job f.x0))
      which true = tt
      which false = subst (λ (k : ℕ). Within k (R.opening f.job f.x0)) (none_yet κ) N.opening_keeps

  pub questions_at_most : QuestionsAtMost R κ bound f
  questions_at_most l = ⊎_elim (λ o. le_trans (le_of_eq o.count) o.keeps.0) (λ h. h.1) (all_ok_lem (begin (engine R) f) l begin_ok)

-- ---- allowances

pub none_used : (l : Limit) → limit 0 ⊑ l
none_used (limit m) = zero-le
none_used unlimited = tt

-- an allowance that is not reached leaves room for one more
pub one_left : (k : ℕ) (l : Limit) → reached k l ≡ false → limit (suc k) ⊑ l
one_left k (limit m) e = nleb→lt m k (rw e tt)
one_left k unlimited e = tt
