-- What a call does to the engine of a fit in direct style, whatever the fit: `taken` and `unmoved`; counts, numbers and limits as it has them. Assumes nothing.
use mathlib.Core.Path.{◌≡◌, refl, sym, ◌∙◌, ap}
use mathlib.Core.List.{List, [], ◌∷◌, ◌++◌}
use mathlib.Core.Option.{Option, none, some}
use mathlib.Core.Bool.{Bool, true, false, not, ◌&&◌, cond, true≢false, false≢true}
use Prim.Native.Nat.{ℕ, zero, suc, ◌+◌}
use native.Mathlib.Nat.{le_trans}
use native.Mathlib.Omega.{arith}
use lib.Dec.{T, eqb, leb, leb→le, le→leb}
use lib.ListN.{length, length-append}
use lib.Ieee.{Float}
use Rattle.protocol.specs.declared.Kind.{Kind}
use Rattle.protocol.specs.declared.Kind.TheVariants.{Value, Gradient}
use Rattle.protocol.specs.Protocol.{letter, Answer, Reply, ask, ended, refused, Job}
use Rattle.protocol.specs.Dialogue.{wanted, suits, accepted, Exchange, of_kind, answers_of}
use Rattle.protocol.specs.Calls.{last_accepted, repeats, turned_away}
use Rattle.protocol.specs.Claim.{Limit, limit, unlimited, ◌⊑◌}
use Rattle.protocol.specs.Ask.{Ask, heard_at}
use Rattle.protocol.specs.EngineLaws.{said}
use Rattle.protocol.specs.Rounds.{Ending, Rounds, FitLimits, reached, State, open_at, over, Kept, settle, question_at, kept, put, standing, accept, fresh, is_repeat, answer_to}
use Rattle.protocol.proofs.Replies.{and_left, true_T, eqb_true}

-- ---- limits

T_true : (b : Bool) → T b → b ≡ true
T_true true t = refl
T_true false t = absurd t

pub reached_used : (k : ℕ) (l : Limit) → reached k l ≡ true → l ⊑ limit k
reached_used k (limit n) e = leb→le n k (true_T (leb n k) e)
reached_used k unlimited e = absurd (false≢true e)

pub reached_mono : (k : ℕ) (a b : Limit) → a ⊑ b → reached k b ≡ true → reached k a ≡ true
reached_mono k (limit m) (limit n) h e = T_true (leb m k) (le→leb m k (le_trans h (leb→le n k (true_T (leb n k) e))))
reached_mono k (limit m) unlimited h e = absurd (false≢true e)
reached_mono k unlimited (limit n) h e = absurd h
reached_mono k unlimited unlimited h e = absurd (false≢true e)

-- ---- counts and numbers, with one exchange more

pub one_more : (es : List Exchange) (e : Exchange) → suc (length es) ≡ length (es ++ (e ∷ []))
one_more es e = simp length-append (omega arith)

pub answers_more : (k : Kind) (es : List Exchange) (e : Exchange) → answers_of k es + of_kind k e.question.kind ≡ answers_of k (es ++ (e ∷ []))
answers_more k [] e = swap (of_kind k e.question.kind)
  where
    swap : (m : ℕ) → 0 + m ≡ m + 0
    swap m = omega arith
answers_more k (d ∷ es) e = let h = answers_more k es e in omega (arith, h)

last_more : (es : List Exchange) (e : Exchange) → last_accepted (es ++ (e ∷ [])) ≡ some e.question.number
last_more [] e = refl
last_more (d ∷ []) e = refl
last_more (d ∷ c ∷ es) e = last_more (c ∷ es) e

-- the number last accepted, of n accepted answers
abbrev pub last_of : ℕ → Option ℕ
last_of zero = none
last_of (suc n) = some (suc n)

pub number_more : (es : List Exchange) (j : Kind) (x w : List Float) → let es' = es ++ (heard_at (suc (length es)) j x w ∷ []) in last_accepted es' ≡ last_of (length es')
number_more es j x w = last_more es (heard_at (suc (length es)) j x w) ∙ ap last_of (one_more es (heard_at (suc (length es)) j x w))

pub same_repeat : (n : ℕ) (a : Answer) → repeats (last_of n) a ≡ not (eqb n 0) && eqb a.number n
same_repeat zero a = refl
same_repeat (suc n) a = go (eqb (suc n) 0) refl
  where
    clash : suc n ≡ 0 → ⊥
    clash e = omega arith

    go : (b : Bool) → eqb (suc n) 0 ≡ b → eqb a.number (suc n) ≡ not b && eqb a.number (suc n)
    go true e = absurd (clash (eqb_true (suc n) 0 e))
    go false e = refl

-- the open question's number is no repeat
no_repeat : (n : ℕ) (a : Answer) → eqb a.number (suc n) ≡ true → (not (eqb n 0) && eqb a.number n) ≡ false
no_repeat n a e = go (eqb n 0) (eqb a.number n) refl
  where
    differ : a.number ≡ suc n → a.number ≡ n → ⊥
    differ h k = omega arith

    go : (x y : Bool) → eqb a.number n ≡ y → not x && y ≡ false
    go true y d = refl
    go false true d = absurd (differ (eqb_true a.number (suc n) e) (eqb_true a.number n d))
    go false false d = refl

-- ---- an answer that suits the open question, and one that does not

module _ (R : Rounds Job) where
  pub taken : (l : FitLimits) (n v g : ℕ) (j : Kind) (x : List Float) (c : List Float → Ask (Ending R.Position)) (a : Answer) → suits (question_at R n j x) a ≡ true
      → answer_to R (kept R l n v g (open_at j x c)) a ≡ accept R (kept R l n v g (open_at j x c)) j c a
  taken l n v g j x c a e = go (is_repeat R r a) number fits (no_repeat n a (and_left number fits e)) e
    where
      r : Kept R.Position
      r = kept R l n v g (open_at j x c)

      number : Bool
      number = eqb a.number (suc n)

      fits : Bool
      fits = eqb a.kind (letter j) && eqb (length a.words) (wanted j x)

      go : (b y z : Bool) → b ≡ false → y && z ≡ true
          → cond b (ask (question_at R n j x), r) (cond (not y) (refused 16 0, r) (cond (not z) (refused 17 0, r) (accept R r j c a))) ≡ accept R r j c a
      go true y z d e = absurd (true≢false d)
      go false true true d e = refl
      go false true false d e = absurd (false≢true e)
      go false false z d e = absurd (false≢true e)

  -- an outcome that stands is no question
  abbrev pub Closed : State R.Position → Type 0
  Closed (open_at j x c) = Unit {0}
  Closed (over (ask q)) = ⊥
  Closed (over (ended o)) = Unit {0}
  Closed (over (refused k d)) = Unit {0}

  pub unmoved : (r : Kept R.Position) (a : Answer) → Closed r.state → accepted (standing R r.last r.state) a ≡ false
      → let y = standing R r.last r.state in answer_to R r a ≡ (cond (is_repeat R r a) y (turned_away y a), r)
  unmoved r a k e = go (is_repeat R r a) r.state k e
    where
      go : (b : Bool) (s : State R.Position) → Closed s → accepted (standing R r.last s) a ≡ false
          → let y = standing R r.last s in cond {A = Reply × Kept R.Position} b (y, r) (fresh R r s a) ≡ (cond b y (turned_away y a), r)
      go true s k e = refl
      go false (over (ask q)) k e = absurd k
      go false (over (ended o)) k e = refl
      go false (over (refused m d)) k e = refl
      go false (open_at j x c) k e = which (eqb a.number (suc r.last)) (eqb a.kind (letter j) && eqb (length a.words) (wanted j x)) e
        where
          which : (y z : Bool) → y && z ≡ false
              → cond (not y) (refused 16 0, r) (cond (not z) (refused 17 0, r) (accept R r j c a)) ≡ (cond y (refused 17 0) (refused 16 0), r)
          which true true e = absurd (true≢false e)
          which true false e = refl
          which false z e = refl

  -- ---- the record after the exchanges es

  abbrev pub kept_after : FitLimits → List Exchange → State R.Position → Kept R.Position
  kept_after l es s = kept R l (length es) (answers_of Value es) (answers_of Gradient es) s

  abbrev pub put_after : FitLimits → List Exchange → Ask (Ending R.Position) → Reply × Kept R.Position
  put_after l es m = put R l (length es) (answers_of Value es) (answers_of Gradient es) m

  -- the reply and the record after an accepted answer
  pub after_is : (l : FitLimits) (es : List Exchange) (j : Kind) (x : List Float) (c : List Float → Ask (Ending R.Position)) (a : Answer)
      → suits (question_at R (length es) j x) a ≡ true
      → let es' = es ++ said (question_at R (length es) j x) a in
      put_after l es' (settle R l (answers_of Value es') (c a.words)) ≡ answer_to R (kept_after l es (open_at j x c)) a
  after_is l es j x c a e =
      let d : Exchange = record { question = question_at R (length es) j x; words = a.words } in
      sym (counts (one_more es d) (answers_more Value es d) (answers_more Gradient es d)) ∙ sym (taken l (length es) (answers_of Value es) (answers_of Gradient es) j x c a e)
    where
      counts : {n v g : ℕ} → suc (length es) ≡ n → answers_of Value es + of_kind Value j ≡ v → answers_of Gradient es + of_kind Gradient j ≡ g
          → accept R (kept_after l es (open_at j x c)) j c a ≡ put R l n v g (settle R l v (c a.words))
      counts p q r = λ i. put R l (p i) (q i) (r i) (settle R l (q i) (c a.words))
