-- The claim, the counts and the bounds hold from any dialogue that was reached: `claim_from`, `counted_from`, `questions_from`. Assumes nothing.
use mathlib.Core.Path.{◌≡◌, refl, ◌∙◌, ap, subst, subst₂}
use mathlib.Core.List.{List, [], ◌∷◌, ◌++◌}
use Prim.Native.Nat.{ℕ, ◌≤◌}
use lib.ListN.{length}
use Rattle.protocol.specs.declared.Kind.{Kind}
use Rattle.protocol.specs.declared.Kind.TheVariants.{Value, Gradient}
use Rattle.protocol.specs.Protocol.{Answer, Job, Fit, Engine}
use Rattle.protocol.specs.Dialogue.{GivenF64s, Dialogue, give, give_all, run, Brings, answers_of}
use Rattle.protocol.specs.Calls.{OfCall}
use Rattle.protocol.specs.Claim.{ByPointAlone, OfOne, OfTwo, Claim}
use Rattle.protocol.specs.Rounds.{Rounds, Kept}
use Rattle.protocol.specs.Counts.{Counted}
use Rattle.protocol.specs.Bounds.{questions_of, QuestionsAtMost}
use Rattle.protocol.specs.Resume.{ClaimFrom, CountedFrom, QuestionsFrom}

append_given : (l m : List Answer) → GivenF64s l → GivenF64s m → GivenF64s (l ++ m)
append_given [] m w v = v
append_given (a ∷ l) m w v = (w.0, append_given l m w.1 v)

module _ (E : Engine) where
  append_give : (d : Dialogue E.Record) (l m : List Answer) → give_all E d (l ++ m) ≡ give_all E (give_all E d l) m
  append_give d [] m = refl
  append_give d (a ∷ l) m = append_give (give E d a) l m

  pub claim_from : Claim E → ClaimFrom E
  claim_from C = record {
    onward = λ f d l h w. record {
      answers = h.answers ++ l;
      started = h.started;
      given = append_given h.answers l h.given w;
      comes_to = append_give (run E f []) h.answers l ∙ ap (λ (z : Dialogue E.Record). give_all E z l) h.comes_to;
    };
    calls = λ f d a h w. subst (λ (z : Dialogue E.Record). OfCall E z a) h.comes_to (C.calls f h.answers a h.started h.given w);
    one = λ f d r h. subst (λ (z : Dialogue E.Record). Brings z r → OfOne f z.exchanges r) h.comes_to (C.one f h.answers r h.started h.given);
    two = λ f g d e r s h k again.
        subst₂ (λ (y z : Dialogue E.Record). ByPointAlone (y.exchanges ++ z.exchanges) → Brings y r → Brings z s → OfTwo y r z s) h.comes_to k.comes_to
        (C.two f g h.answers k.answers r s h.started k.started h.given k.given again);
  }

module _ (R : Rounds Job) where
  pub counted_from : Counted R → CountedFrom R
  counted_from C = record {
    last = λ f d h. subst (λ (z : Dialogue (Kept R.Position)). z.record_now.last ≡ length z.exchanges) h.comes_to (C.last f h.answers);
    values = λ f d h. subst (λ (z : Dialogue (Kept R.Position)). z.record_now.values ≡ answers_of Value z.exchanges) h.comes_to (C.values f h.answers);
    gradients = λ f d h. subst (λ (z : Dialogue (Kept R.Position)). z.record_now.gradients ≡ answers_of Gradient z.exchanges) h.comes_to (C.gradients f h.answers);
    fevals = λ f d r h. subst (λ (z : Dialogue (Kept R.Position)). Brings z r → r.fevals ≡ answers_of Value z.exchanges) h.comes_to (C.fevals f h.answers r);
    gevals = λ f d r h. subst (λ (z : Dialogue (Kept R.Position)). Brings z r → r.gevals ≡ answers_of Gradient z.exchanges) h.comes_to (C.gevals f h.answers r);
  }

  pub questions_from : (κ : Kind) (bound : ℕ) (f : Fit) → QuestionsAtMost R κ bound f → QuestionsFrom R κ bound f
  questions_from κ bound f Q d h = subst (λ (z : Dialogue (Kept R.Position)). questions_of κ z.questions ≤ bound) h.comes_to (Q h.answers)
