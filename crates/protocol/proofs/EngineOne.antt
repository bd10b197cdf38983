-- From laws of single calls to one list of answers: every call along it, and every result that it brings. Assumes nothing.
use mathlib.Core.Path.{◌≡◌, refl, sym, ◌∙◌, subst}
use mathlib.Core.Logic.{⊎_elim}
use mathlib.Core.List.Memᴰ
use mathlib.Core.List.{List, [], ◌∷◌, ◌++◌, append_assoc, append-nil, Memᴰ}
use mathlib.Core.Bool.{Bool, true, false, cond, false≢true}
use Prim.Native.Nat.{ℕ, suc}
use lib.Dec.{eqb}
use lib.ListN.{length}
use Rattle.protocol.specs.Protocol.{Question, Answer, Result, Outcome, fitted, Reply, ask, ended, refused, Fit, Engine}
use Rattle.protocol.specs.Dialogue.{suits, accepted, Exchange, exchange, question_in, F64s, GivenF64s, Dialogue, begin, called, give, give_all, run, Started, Brings}
use Rattle.protocol.specs.Calls.{Taken, Numbered, last_accepted, repeats, turned_away, OfCall}
use Rattle.protocol.specs.Claim.{OpensWith, OfOne}
use Rattle.protocol.specs.EngineLaws.{EngineLaws}
use Rattle.protocol.proofs.Replies.{ask≢ended, ended≢refused}

-- a dialogue from its parts
abbrev pub talk : {R : Type 0} → Reply → R → List Question → List Exchange → List Reply → Dialogue R
talk y r qs es ys = record { standing = y; record_now = r; questions = qs; exchanges = es; replies = ys }

-- ---- whole lists, of any engine

module _ (E : Engine) where
  -- an ended fit, or one that a refusal ended, stays so
  pub ended_stays : (o : Outcome) (r : E.Record) (qs : List Question) (es : List Exchange) (ys : List Reply) (l : List Answer)
      → ((give_all E (talk (ended o) r qs es ys) l).standing ≡ ended o)
      × ((give_all E (talk (ended o) r qs es ys) l).questions ≡ qs)
  ended_stays o r qs es ys [] = (refl, refl)
  ended_stays o r qs es ys (a ∷ l) = ended_stays o (E.answer r a).1 qs es (ys ++ ((E.answer r a).0 ∷ [])) l

  pub refused_stays : (k d : ℕ) (r : E.Record) (qs : List Question) (es : List Exchange) (ys : List Reply) (l : List Answer)
      → (give_all E (talk (refused k d) r qs es ys) l).standing ≡ refused k d
  refused_stays k d r qs es ys [] = refl
  refused_stays k d r qs es ys (a ∷ l) = refused_stays k d (E.answer r a).1 qs es (ys ++ ((E.answer r a).0 ∷ [])) l

  -- questions and exchanges are only added
  pub more_questions : (s : Dialogue E.Record) (l : List Answer) → OpensWith (give_all E s l).questions s.questions
  more_questions s [] = ([], sym (append-nil s.questions))
  more_questions s (a ∷ l) = step (accepted s.standing a) (more_questions (give E s a) l)
    where
      n : Reply × E.Record
      n = E.answer s.record_now a

      step : (b : Bool) → OpensWith (give_all E (called E s a (accepted s.standing a) n) l).questions (called E s a b n).questions
          → OpensWith (give_all E (called E s a (accepted s.standing a) n) l).questions s.questions
      step true h = (question_in n.0 ++ h.0, h.1 ∙ append_assoc s.questions (question_in n.0) h.0)
      step false h = h

  pub kept_exchange : (e : Exchange) (s : Dialogue E.Record) (l : List Answer) → Memᴰ e s.exchanges → Memᴰ e (give_all E s l).exchanges
  kept_exchange e s [] m = m
  kept_exchange e s (a ∷ l) m = kept_exchange e (give E s a) l (step (accepted s.standing a))
    where
      step : (b : Bool) → Memᴰ e (called E s a b (E.answer s.record_now a)).exchanges
      step true = Memᴰ.append_left (exchange s.standing a) m
      step false = m

-- ---- replies that are results

-- a result among the replies is the outcome that stands
abbrev pub Outcomes : Reply → List Reply → Type 0
Outcomes y ys = (x : Result) → Memᴰ (ended (fitted x)) ys → y ≡ ended (fitted x)

pub more_outcomes : (y z : Reply) (ys : List Reply) → Outcomes y ys → ((x : Result) → z ≡ ended (fitted x) → y ≡ ended (fitted x)) → Outcomes y (ys ++ (z ∷ []))
more_outcomes y z ys h k x m =
    ⊎_elim (h x) (λ i. ⊎_elim (λ e. k x (sym e)) (λ j. absurd (Memᴰ.not-nil j)) (Memᴰ.cases_cons i)) (Memᴰ.append_cases ys m)

-- what is replied to an answer that is not accepted, a repeat or not, is an outcome only where that stands
pub otherwise_ended : (repeat : Bool) (y : Reply) (a : Answer) (o : Outcome) → cond repeat y (turned_away y a) ≡ ended o → y ≡ ended o
otherwise_ended true y a o e = e
otherwise_ended false (ask q) a o e = absurd (neither (eqb a.number q.number) e)
  where
    neither : (b : Bool) → cond b (refused 17 0) (refused 16 0) ≡ ended o → ⊥
    neither true e = ended≢refused (sym e)
    neither false e = ended≢refused (sym e)
otherwise_ended false (ended p) a o e = absurd (ended≢refused (sym e))
otherwise_ended false (refused k d) a o e = absurd (ended≢refused (sym e))

-- ---- along one list

module _ (E : Engine) (L : EngineLaws E) where
  pub record Fine (f : Fit) (d : Dialogue E.Record) : Type 0 where
    pub good : L.Good f d.exchanges d.standing d.record_now
    pub outcomes : Outcomes d.standing d.replies

  fine_kept : (f : Fit) (d : Dialogue E.Record) (a : Answer) → Fine f d → accepted d.standing a ≡ false → Fine f (called E d a false (E.answer d.record_now a))
  fine_kept f d a h e =
      record {
        good = subst (λ (z : E.Record). L.Good f d.exchanges d.standing z) (sym (L.keeps f d.exchanges d.standing d.record_now a h.good e)) h.good;
        outcomes = more_outcomes d.standing (E.answer d.record_now a).0 d.replies h.outcomes
            (λ x i. otherwise_ended (repeats (last_accepted d.exchanges) a) d.standing a (fitted x) (sym (L.replies f d.exchanges d.standing d.record_now a h.good e) ∙ i));
      }

  fine_taken : (f : Fit) (q : Question) (r : E.Record) (qs : List Question) (es : List Exchange) (ys : List Reply) (a : Answer) → F64s a.words
      → Fine f (talk (ask q) r qs es ys) → suits q a ≡ true → Fine f (called E (talk (ask q) r qs es ys) a true (E.answer r a))
  fine_taken f q r qs es ys a w h e =
      record {
        good = (L.takes f es q r a h.good e w).1;
        outcomes = more_outcomes (E.answer r a).0 (E.answer r a).0 ys (λ x m. absurd (ask≢ended (h.outcomes x m))) (λ x i. i);
      }

  fine_give : (f : Fit) (y : Reply) (r : E.Record) (qs : List Question) (es : List Exchange) (ys : List Reply) (a : Answer) → F64s a.words
      → Fine f (talk y r qs es ys) → Fine f (give E (talk y r qs es ys) a)
  fine_give f (ask q) r qs es ys a w h = go (suits q a) refl
    where
      go : (b : Bool) → suits q a ≡ b → Fine f (called E (talk (ask q) r qs es ys) a b (E.answer r a))
      go true e = fine_taken f q r qs es ys a w h e
      go false e = fine_kept f (talk (ask q) r qs es ys) a h e
  fine_give f (ended o) r qs es ys a w h = fine_kept f (talk (ended o) r qs es ys) a h refl
  fine_give f (refused k d) r qs es ys a w h = fine_kept f (talk (refused k d) r qs es ys) a h refl

  fine_all : (f : Fit) (d : Dialogue E.Record) (l : List Answer) → GivenF64s l → Fine f d → Fine f (give_all E d l)
  fine_all f d [] w h = h
  fine_all f d (a ∷ l) w h = fine_all f (give E d a) l w.1 (fine_give f d.standing d.record_now d.questions d.exchanges d.replies a w.0 h)

  pub fine : (f : Fit) (l : List Answer) → Started E f → GivenF64s l → Fine f (run E f l)
  fine f l s w =
      fine_all f (begin E f) l w (record {
        good = L.starts_good f s;
        outcomes = more_outcomes (E.start f).0 (E.start f).0 [] (λ x m. absurd (Memᴰ.not-nil m)) (λ x i. i);
      })

  pub of_call : (f : Fit) (d : Dialogue E.Record) (a : Answer) → F64s a.words → Fine f d → OfCall E d a
  of_call f d a w h = record {
    takes = λ e. (go d.standing h.good e).0;
    numbers = λ e. (go d.standing h.good e).1;
    replies = L.replies f d.exchanges d.standing d.record_now a h.good;
    keeps = L.keeps f d.exchanges d.standing d.record_now a h.good;
  }
    where
      go : (y : Reply) → L.Good f d.exchanges y d.record_now → accepted y a ≡ true
          → Taken (E.answer d.record_now a).0 × Numbered (suc (length d.exchanges)) (E.answer d.record_now a).0
      go (ask q) g e = ((L.takes f d.exchanges q d.record_now a g e w).0, L.numbers f d.exchanges q d.record_now a g e w)
      go (ended o) g e = absurd (false≢true e)
      go (refused k c) g e = absurd (false≢true e)

  pub of_one : (f : Fit) (d : Dialogue E.Record) (r : Result) → Fine f d → Brings d r → OfOne f d.exchanges r
  of_one f d r h m = L.sound f d.exchanges r d.record_now (subst (λ (y : Reply). L.Good f d.exchanges y d.record_now) (h.outcomes r m) h.good)
