-- The claim is not vacuous: lists of answers to the example fit meet every hypothesis of both its parts, and so both hold of them. Assumes nothing.
use mathlib.Core.Path.{◌≡◌, refl, sym, ◌∙◌, subst}
use mathlib.Core.Logic.{⊎_elim}
use mathlib.Core.List.Memᴰ
use mathlib.Core.List.{List, [], ◌∷◌, ◌++◌, Memᴰ}
use Prim.Native.Nat.{ℕ}
use native.Mathlib.Omega.{arith}
use native.Mathlib.Nat.{le_refl}
use lib.Ieee.{Float, binary64, of_bits, mul, lt}
use lib.Ieee.Bits.{of_bits-fits}
use Rattle.float.specs.Binary64.{bits}
use Rattle.float.specs.Values.{finite_of}
use Rattle.protocol.specs.declared.Kind.{Kind}
use Rattle.protocol.specs.Protocol.{Answer, Result, fitted, ask, ended, refused, read_of, Fit, Engine}
use Rattle.protocol.specs.Dialogue.{Exchange, F64s, GivenF64s, run}
use Rattle.protocol.specs.Claim.{ByPointAlone, OfOne, OfTwo, Claim}
use Rattle.protocol.specs.Ask.{◌>>=◌}
use Rattle.protocol.specs.Rounds.{engine}
use Rattle.std.specs.Prelude.{Some, None}
use Rattle.protocol.specs.Example.{example, Reaches, Pair, one, half, quarter, eighth, sample, question_for, short_answers, short_result, long_answers, long_result, plain_answers}
use Rattle.protocol.proofs.ExampleLaws.{example_claim}

-- ---- the hypotheses suffice

pub of_one : {E : Engine} {f : Fit} {l : List Answer} {r : Result} → Claim E → Reaches E f l r → OfOne f (run E f l).exchanges r
of_one {f = f} {l = l} {r = r} c h = c.one f l r h.started h.given h.brings

pub of_two_lem : {E : Engine} {f g : Fit} {l m : List Answer} {r s : Result} → Claim E → Pair E f g l m r s → OfTwo (run E f l) r (run E g m) s
of_two_lem {f = f} {g = g} {l = l} {m = m} {r = r} {s = s} c h =
    c.two f g l m r s h.first.started h.second.started h.first.given h.second.given h.again h.by_point h.first.brings h.second.brings

-- ---- one objective: the words are a function of kind and point

module _ (h : Kind → List Float → List Float) where
  -- an exchange whose words are h's
  abbrev pub Own : Exchange → Type 0
  Own e = e.words ≡ h e.question.kind e.question.point

  abbrev pub AnsweredBy : List Exchange → Type 0
  AnsweredBy [] = Unit {0}
  AnsweredBy (e ∷ es) = Own e × AnsweredBy es

  pub answered : (es : List Exchange) → AnsweredBy es → (e : Exchange) → Memᴰ e es → Own e
  answered [] a e m = absurd (Memᴰ.not-nil m)
  answered (d ∷ es) a e m = ⊎_elim (λ i. subst Own (sym i) a.0) (λ k. answered es a.1 e k) (Memᴰ.cases_cons m)

  pub one_objective : (es : List Exchange) → AnsweredBy es → ByPointAlone es
  one_objective es a d e m n k p = answered es a d m ∙ (λ i. h (k i) (p i)) ∙ sym (answered es a e n)

-- f(x) = x, of one coordinate
abbrev pub own : Kind → List Float → List Float
own k x = x

-- ---- what each list is replied

short_replies : (run (engine example) (sample (Some 1)) short_answers).replies ≡ ask (question_for 1 one) ∷ ask (question_for 2 half) ∷ ended (fitted short_result) ∷ []
unfolding of_bits mul lt finite_of read_of ◌>>=◌
short_replies = refl

long_replies : (run (engine example) (sample (Some 5)) long_answers).replies
    ≡ ask (question_for 1 one)
    ∷ ask (question_for 2 half)
    ∷ ask (question_for 2 half)
    ∷ ask (question_for 3 quarter)
    ∷ refused 16 0
    ∷ ask (question_for 4 eighth)
    ∷ ended (fitted long_result)
    ∷ []
unfolding of_bits mul lt finite_of read_of ◌>>=◌
long_replies = refl

-- max_iter is absent, and the 1 beside it is not looked at
plain_replies : (run (engine example) (sample None) plain_answers).replies
    ≡ ask (question_for 1 one) ∷ ask (question_for 2 half) ∷ ask (question_for 3 quarter) ∷ ask (question_for 4 eighth) ∷ ended (fitted long_result) ∷ []
unfolding of_bits mul lt finite_of read_of ◌>>=◌
plain_replies = refl

-- ---- the first part's hypotheses

pub word : (w : ℕ) → F64s (bits w ∷ [])
word w = (of_bits-fits binary64 w, tt)

pub plain_given : GivenF64s plain_answers
plain_given = (word one, (word half, (word quarter, (word eighth, tt))))

-- a result in reply to the second answer, and to the fourth
pub third : {A : Type 0} {a b c : A} → Memᴰ c (a ∷ b ∷ c ∷ [])
third = Memᴰ.tail (Memᴰ.tail (Memᴰ.head refl))

pub fifth : {A : Type 0} {a b c d e : A} → Memᴰ e (a ∷ b ∷ c ∷ d ∷ e ∷ [])
fifth = Memᴰ.tail (Memᴰ.tail (Memᴰ.tail (Memᴰ.tail (Memᴰ.head refl))))

short_reaches : Reaches (engine example) (sample (Some 1)) short_answers short_result
unfolding ◌>>=◌
short_reaches = record { started = tt; given = (word one, (word half, tt)); brings = rw short_replies third }

long_reaches : Reaches (engine example) (sample (Some 5)) long_answers long_result
unfolding ◌>>=◌
long_reaches =
    record {
      started = tt;
      given = (word one, (word half, (word half, (word eighth, (word quarter, (word eighth, tt))))));
      brings = rw long_replies (Memᴰ.tail (Memᴰ.tail (Memᴰ.tail (Memᴰ.tail (Memᴰ.tail (Memᴰ.tail (Memᴰ.head refl)))))));
    }

plain_reaches : Reaches (engine example) (sample None) plain_answers long_result
unfolding ◌>>=◌
plain_reaches = record { started = tt; given = plain_given; brings = rw plain_replies fifth }

-- ---- the second part's

short_long_own : AnsweredBy own ((run (engine example) (sample (Some 1)) short_answers).exchanges ++ (run (engine example) (sample (Some 5)) long_answers).exchanges)
unfolding of_bits mul lt finite_of read_of ◌>>=◌
short_long_own = (refl, (refl, (refl, (refl, (refl, (refl, tt))))))

long_plain_own : AnsweredBy own ((run (engine example) (sample (Some 5)) long_answers).exchanges ++ (run (engine example) (sample None) plain_answers).exchanges)
unfolding of_bits mul lt finite_of read_of ◌>>=◌
long_plain_own = (refl, (refl, (refl, (refl, (refl, (refl, (refl, (refl, tt))))))))

-- the first stops for an allowance that is then raised
pub raised : Pair (engine example) (sample (Some 1)) (sample (Some 5)) short_answers long_answers short_result long_result
raised =
    record {
      first = short_reaches;
      second = long_reaches;
      again = record { job = refl; x0 = refl; iter = omega arith; fevals = le_refl 200 };
      by_point = one_objective own _ short_long_own;
    }

-- the first stops for a reason of its own
pub own_end : Pair (engine example) (sample (Some 5)) (sample None) long_answers plain_answers long_result long_result
own_end =
    record {
      first = long_reaches;
      second = plain_reaches;
      again = record { job = refl; x0 = refl; iter = omega arith; fevals = le_refl 200 };
      by_point = one_objective own _ long_plain_own;
    }

-- ---- the two parts hold of them

pub short_one : OfOne (sample (Some 1)) (run (engine example) (sample (Some 1)) short_answers).exchanges short_result
short_one = of_one example_claim short_reaches

pub raised_two : OfTwo (run (engine example) (sample (Some 1)) short_answers) short_result (run (engine example) (sample (Some 5)) long_answers) long_result
raised_two = of_two_lem example_claim raised

pub own_end_two : OfTwo (run (engine example) (sample (Some 5)) long_answers) long_result (run (engine example) (sample None) plain_answers) long_result
own_end_two = of_two_lem example_claim own_end
