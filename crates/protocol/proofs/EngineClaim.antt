-- From laws of single calls to two lists of answers, and so to the claim: `claim`. Assumes nothing.
use mathlib.Core.Path.{◌≡◌, refl, sym, ◌∙◌, ap, subst, subst₂}
use mathlib.Core.Logic.{inl, inr}
use mathlib.Core.List.Memᴰ
use mathlib.Core.List.{List, [], ◌∷◌, ◌++◌, append_assoc, append-nil}
use mathlib.Core.Bool.{Bool, true, false}
use lib.Ieee.{Float}
use Rattle.float.specs.Binary64.{NotAbove}
use Rattle.protocol.specs.Protocol.{Question, Answer, Result, fitted, Reply, ask, ended, refused, Fit, Engine}
use Rattle.protocol.specs.Dialogue.{suits, Exchange, question_in, F64s, GivenF64s, Dialogue, called, give, give_all, run, Started, NotRefused}
use Rattle.protocol.specs.Claim.{RunsAgain, ByPointAlone, ForAllowance, OfTwo, Claim}
use Rattle.protocol.specs.EngineLaws.{said, EngineLaws}
use Rattle.protocol.proofs.Replies.{ask≢ended, ended≢refused, fitted_inj, not_above_self, suits_same}
use Rattle.protocol.proofs.EngineOne.{talk, ended_stays, refused_stays, more_questions, kept_exchange, fine, of_call, of_one}

module _ (E : Engine) (L : EngineLaws E) where
  -- what an accepted answer a makes of a dialogue
  abbrev after : Question → E.Record → List Question → List Exchange → List Reply → Answer → Dialogue E.Record
  after q r qs es ys a = talk (E.answer r a).0 (E.answer r a).1 (qs ++ question_in (E.answer r a).0) (es ++ said q a) (ys ++ ((E.answer r a).0 ∷ []))

  take_up : (q : Question) (r : E.Record) (qs : List Question) (es : List Exchange) (ys : List Reply) (a : Answer) → suits q a ≡ true
      → give E (talk (ask q) r qs es ys) a ≡ after q r qs es ys a
  take_up q r qs es ys a e = ap (λ (b : Bool). called E (talk (ask q) r qs es ys) a b (E.answer r a)) e

  -- a refused or repeated answer, called while a question stands open, adds its reply and nothing else
  skip : (f : Fit) (q : Question) (r : E.Record) (qs : List Question) (es : List Exchange) (ys : List Reply) (a : Answer) → L.Good f es (ask q) r → suits q a ≡ false
      → give E (talk (ask q) r qs es ys) a ≡ talk (ask q) r qs es (ys ++ ((E.answer r a).0 ∷ []))
  skip f q r qs es ys a good e =
      ap (λ (b : Bool). called E (talk (ask q) r qs es ys) a b (E.answer r a)) e
      ∙ ap (λ (z : E.Record). talk (ask q) z qs es (ys ++ ((E.answer r a).0 ∷ []))) (L.keeps f es (ask q) r a good e)

  -- ---- no result above a bound

  -- from a record that is `Below v` no list leads to a result above v
  abbrev Low : Fit → Float → List Answer → Type 0
  Low g v l =
      (q : Question) (r : E.Record) (qs : List Question) (es : List Exchange) (ys : List Reply) → L.Good g es (ask q) r → L.Below v r
      → (y : Result) → (give_all E (talk (ask q) r qs es ys) l).standing ≡ ended (fitted y) → NotAbove y.f v

  -- the same after an accepted answer, whatever its reply z
  low_after : (g : Fit) (v : Float) (l : List Answer) → Low g v l
      → (z : Reply) (r : E.Record) (qs : List Question) (es : List Exchange) (ys : List Reply)
      → L.Good g es z r → ((p : Question) → z ≡ ask p → L.Below v r) → ((x : Result) → z ≡ ended (fitted x) → NotAbove x.f v)
      → (y : Result) → (give_all E (talk z r qs es ys) l).standing ≡ ended (fitted y) → NotAbove y.f v
  low_after g v l ih (ask p) r qs es ys good b c y h = ih p r qs es ys good (b p refl) y h
  low_after g v l ih (ended o) r qs es ys good b c y h = c y (sym (ended_stays E o r qs es ys l).0 ∙ h)
  low_after g v l ih (refused k d) r qs es ys good b c y h = absurd (ended≢refused (sym h ∙ refused_stays E k d r qs es ys l))

  low_step : (g : Fit) (v : Float) (l : List Answer) → Low g v l → (a : Answer) → F64s a.words → Low g v (a ∷ l)
  low_step g v l ih a w q r qs es ys good b y e = go (suits q a) refl
    where
      ys' : List Reply
      ys' = ys ++ ((E.answer r a).0 ∷ [])

      go : (c : Bool) → suits q a ≡ c → NotAbove y.f v
      go true t =
          let s = L.stays_below g es q r a v good t w b in
          low_after g v l ih (E.answer r a).0 (E.answer r a).1 (qs ++ question_in (E.answer r a).0) (es ++ said q a) ys' (L.takes g es q r a good t w).1 s.0 s.1 y
          (subst (λ (s : Dialogue E.Record). (give_all E s l).standing ≡ ended (fitted y)) (take_up q r qs es ys a t) e)
      go false t = ih q r qs es ys' good b y (subst (λ (s : Dialogue E.Record). (give_all E s l).standing ≡ ended (fitted y)) (skip g q r qs es ys a good t) e)

  low : (g : Fit) (v : Float) (l : List Answer) → GivenF64s l → Low g v l
  low g v [] w = λ q r qs es ys good b y e. absurd (ask≢ended e)
  low g v (a ∷ l) w = low_step g v l (low g v l w.1) a w.0

  -- ---- two lists in step

  -- the two lists l and m, from the dialogues s and t on
  abbrev Meet : Dialogue E.Record → Dialogue E.Record → List Answer → List Answer → Type 0
  Meet s t l m =
      (x y : Result) → ByPointAlone ((give_all E s l).exchanges ++ (give_all E t m).exchanges)
      → (give_all E s l).standing ≡ ended (fitted x) → (give_all E t m).standing ≡ ended (fitted y) → OfTwo (give_all E s l) x (give_all E t m) y

  -- from two dialogues with the same questions and exchanges so far, and the same question open, in records alike
  abbrev Lock : Fit → Fit → List Answer → Type 0
  Lock f g l =
      (m : List Answer) → GivenF64s m → (q : Question) (r s : E.Record) (qs : List Question) (es : List Exchange) (ys zs : List Reply)
      → L.Good f es (ask q) r → L.Good g es (ask q) s → L.Like r s
      → Meet (talk (ask q) r qs es ys) (talk (ask q) s qs es zs) l m

  -- both got the same reply z
  meet_same : (f g : Fit) (l m : List Answer) → GivenF64s m → Lock f g l
      → (z : Reply) (r s : E.Record) (qs : List Question) (es : List Exchange) (ys zs : List Reply) → L.Good f es z r → L.Good g es z s → L.Like r s
      → Meet (talk z r qs es ys) (talk z s qs es zs) l m
  meet_same f g l m fm ih (ask p) r s qs es ys zs gf gg like x y o d e = ih m fm p r s qs es ys zs gf gg like x y o d e
  meet_same f g l m fm ih (ended w) r s qs es ys zs gf gg like x y o d e =
      let a = ended_stays E w r qs es ys l in
      let b = ended_stays E w s qs es zs m in
      let xy : x ≡ y = fitted_inj (sym d ∙ a.0 ∙ sym b.0 ∙ e) in
      record {
        opens = ([], b.1 ∙ sym a.1 ∙ sym (append-nil (give_all E (talk (ended w) r qs es ys) l).questions));
        no_larger = subst (λ (u : Result). NotAbove u.f x.f) xy (not_above_self x.f);
        equal = λ n. xy;
      }
  meet_same f g l m fm ih (refused k d) r s qs es ys zs gf gg like x y o c e = absurd (ended≢refused (sym c ∙ refused_stays E k d r qs es ys l))

  -- the first stopped for an allowance, and the second goes on with the reply z
  meet_stopped : (g : Fit) (l m : List Answer) → GivenF64s m
      → (w : Result) (z : Reply) (r s : E.Record) (qs : List Question) (es : List Exchange) (ys zs : List Reply) → ForAllowance w.reason
      → L.Good g es z s → ((p : Question) → z ≡ ask p → L.Below w.f s) → ((u : Result) → z ≡ ended (fitted u) → NotAbove u.f w.f)
      → Meet (talk (ended (fitted w)) r (qs ++ []) es ys) (talk z s (qs ++ question_in z) es zs) l m
  meet_stopped g l m fm w z r s qs es ys zs why gg b c x y o d e =
      let a = ended_stays E (fitted w) r (qs ++ []) es ys l in
      let wx : w ≡ x = fitted_inj (sym a.0 ∙ d) in
      let h = more_questions E (talk z s (qs ++ question_in z) es zs) m in
      record {
        opens = (question_in z ++ h.0, h.1 ∙ append_assoc qs (question_in z) h.0 ∙ ap (λ (k : List Question). k ++ (question_in z ++ h.0)) (sym (a.1 ∙ append-nil qs)));
        no_larger = subst (λ (u : Result). NotAbove y.f u.f) wx (low_after g w.f m (low g w.f m fm) z s (qs ++ question_in z) es zs gg b c y e);
        equal = λ n. absurd (n (subst (λ (u : Result). ForAllowance u.reason) wx why));
      }

  -- both are called the same accepted answer
  meet_answer : (f g : Fit) (l m : List Answer) → GivenF64s m → Lock f g l
      → (q : Question) (r s : E.Record) (qs : List Question) (es : List Exchange) (ys zs : List Reply) (a : Answer) → F64s a.words
      → L.Good f es (ask q) r → L.Good g es (ask q) s → L.Like r s → suits q a ≡ true
      → Meet (after q r qs es ys a) (after q s qs es zs a) l m
  meet_answer f g l m fm ih q r s qs es ys zs a wa gf gg like t =
      let tf = (L.takes f es q r a gf t wa).1 in
      let tg = (L.takes g es q s a gg t wa).1 in
      elim (L.together f g es q r s a gf gg like t wa) [
        | inl h ↦
            subst (λ (z : Reply). Meet (after q r qs es ys a) (talk z (E.answer s a).1 (qs ++ question_in z) (es ++ said q a) (zs ++ (z ∷ []))) l m) h.0
            (meet_same f g l m fm ih (E.answer r a).0 (E.answer r a).1 (E.answer s a).1 (qs ++ question_in (E.answer r a).0) (es ++ said q a)
            (ys ++ ((E.answer r a).0 ∷ [])) (zs ++ ((E.answer r a).0 ∷ []))
            tf (subst (λ (z : Reply). L.Good g (es ++ said q a) z (E.answer s a).1) (sym h.0) tg) h.1)
        | inr h ↦
            subst (λ (z : Reply). Meet (talk z (E.answer r a).1 (qs ++ question_in z) (es ++ said q a) (ys ++ (z ∷ []))) (after q s qs es zs a) l m) (sym h.1)
            (meet_stopped g l m fm h.0 (E.answer s a).0 (E.answer r a).1 (E.answer s a).1 qs (es ++ said q a)
            (ys ++ (ended (fitted h.0) ∷ [])) (zs ++ ((E.answer s a).0 ∷ [])) h.2 tg h.3 h.4)
      ]

  -- an accepted answer a to the first list's fit; the second's next accepted answer is the same
  meet_accepted : (f g : Fit) (l : List Answer) → Lock f g l → (m : List Answer) → GivenF64s m
      → (q : Question) (r s : E.Record) (qs : List Question) (es : List Exchange) (ys zs : List Reply) (a : Answer) → F64s a.words
      → L.Good f es (ask q) r → L.Good g es (ask q) s → L.Like r s → suits q a ≡ true
      → Meet (after q r qs es ys a) (talk (ask q) s qs es zs) l m
  meet_accepted f g l ih [] fm q r s qs es ys zs a wa gf gg like t x y o d e = absurd (ask≢ended e)
  meet_accepted f g l ih (b ∷ m) fm q r s qs es ys zs a wa gf gg like t x y o d e =
      go (suits q b) refl (meet_accepted f g l ih m fm.1 q r s qs es ys (zs ++ ((E.answer s b).0 ∷ [])) a wa gf gg like t)
    where
      first : Dialogue E.Record
      first = after q r qs es ys a

      second : Dialogue E.Record
      second = after q s qs es zs b

      heard : Answer → Exchange
      heard c = record { question = q; words = c.words }

      words : ByPointAlone ((give_all E first l).exchanges ++ (give_all E second m).exchanges) → a.words ≡ b.words
      words o₂ =
          o₂ (heard a) (heard b)
          (Memᴰ.append_left (give_all E second m).exchanges (kept_exchange E (heard a) first l (Memᴰ.append_right es (Memᴰ.head refl))))
          (Memᴰ.append_right (give_all E first l).exchanges (kept_exchange E (heard b) second m (Memᴰ.append_right es (Memᴰ.head refl))))
          refl refl

      taken : suits q b ≡ true → Meet first second l m
      taken u x₂ y₂ o₂ d₂ e₂ =
          subst (λ (c : Answer). Meet first (after q s qs es zs c) l m) (suits_same q a b t u (words o₂))
          (meet_answer f g l m fm.1 ih q r s qs es ys zs a wa gf gg like t) x₂ y₂ o₂ d₂ e₂

      go : (c : Bool) → suits q b ≡ c → Meet first (talk (ask q) s qs es (zs ++ ((E.answer s b).0 ∷ []))) l m
          → OfTwo (give_all E first l) x (give_all E (give E (talk (ask q) s qs es zs) b) m) y
      go true u h = subst (λ (v : Dialogue E.Record). Meet first v l m) (sym (take_up q s qs es zs b u)) (taken u) x y o d e
      go false u h = subst (λ (v : Dialogue E.Record). Meet first v l m) (sym (skip g q s qs es zs b gg u)) h x y o d e

  lock_step : (f g : Fit) (l : List Answer) → Lock f g l → (a : Answer) → F64s a.words → Lock f g (a ∷ l)
  lock_step f g l ih a wa m fm q r s qs es ys zs gf gg like = go (suits q a) refl
    where
      go : (c : Bool) → suits q a ≡ c → Meet (give E (talk (ask q) r qs es ys) a) (talk (ask q) s qs es zs) l m
      go true t =
          subst (λ (v : Dialogue E.Record). Meet v (talk (ask q) s qs es zs) l m) (sym (take_up q r qs es ys a t))
          (meet_accepted f g l ih m fm q r s qs es ys zs a wa gf gg like t)
      go false t =
          subst (λ (v : Dialogue E.Record). Meet v (talk (ask q) s qs es zs) l m) (sym (skip f q r qs es ys a gf t))
          (ih m fm q r s qs es (ys ++ ((E.answer r a).0 ∷ [])) zs gf gg like)

  lock : (f g : Fit) (l : List Answer) → GivenF64s l → Lock f g l
  lock f g [] w = λ m fm q r s qs es ys zs gf gg like x y o d e. absurd (ask≢ended d)
  lock f g (a ∷ l) w = lock_step f g l (lock f g l w.1) a w.0

  -- from the starts on
  of_two_lem : (f g : Fit) (l m : List Answer) (x y : Result) → Started E f → Started E g → GivenF64s l → GivenF64s m → RunsAgain f g
      → ByPointAlone ((run E f l).exchanges ++ (run E g m).exchanges) → (run E f l).standing ≡ ended (fitted x) → (run E g m).standing ≡ ended (fitted y)
      → OfTwo (run E f l) x (run E g m) y
  of_two_lem f g l m x y sf sg fl fm again o d e = go (E.start f).0 (E.start g).0 refl refl
    where
      go : (u v : Reply) → (E.start f).0 ≡ u → (E.start g).0 ≡ v → OfTwo (run E f l) x (run E g m) y
      go (ask p) (ask q) i j =
          let a = L.starts_alike f g p q again i j in
          let j' : (E.start g).0 ≡ ask p = j ∙ ap ask (sym a.0) in
          subst₂ (λ (s t : Dialogue E.Record). Meet s t l m)
          (ap (λ (z : Reply). talk z (E.start f).1 (question_in z) [] (z ∷ [])) (sym i))
          (ap (λ (z : Reply). talk z (E.start g).1 (question_in z) [] (z ∷ [])) (sym j'))
          (lock f g l fl m fm p (E.start f).1 (E.start g).1 (p ∷ []) [] (ask p ∷ []) (ask p ∷ [])
          (subst (λ (z : Reply). L.Good f [] z (E.start f).1) i (L.starts_good f sf))
          (subst (λ (z : Reply). L.Good g [] z (E.start g).1) j' (L.starts_good g sg)) a.1)
          x y o d e
      go (ask p) (ended w) i j = absurd (L.starts_open g w j)
      go (ask p) (refused k c) i j = absurd (subst NotRefused j sg)
      go (ended w) v i j = absurd (L.starts_open f w i)
      go (refused k c) v i j = absurd (subst NotRefused i sf)

  -- THE GENERIC THEOREM: an engine that satisfies the laws satisfies the claim.
  pub claim : Claim E
  claim = record {
    starts = L.starts_numbered;
    calls = λ f l a s w wa. of_call E L f (run E f l) a wa (fine E L f l s w);
    one = λ f l r s w m. of_one E L f (run E f l) r (fine E L f l s w) m;
    two = λ f g l m r s sf sg wl wm again o i j. of_two_lem f g l m r s sf sg wl wm again o ((fine E L f l sf wl).outcomes r i) ((fine E L g m sg wm).outcomes s j);
  }
