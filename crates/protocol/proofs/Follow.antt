-- Every list of answers comes to the same in an engine that follows another, and the claim carries over: `alike`, `claim_follows`. Assumes nothing.
use mathlib.Core.Path.{◌≡◌, refl, sym, ◌∙◌, ap, subst, subst₂}
use mathlib.Core.List.{List, [], ◌∷◌, ◌++◌, Memᴰ}
use mathlib.Core.Bool.{Bool, true, false}
use Prim.Native.Nat.{suc}
use lib.ListN.{length}
use Rattle.protocol.specs.Protocol.{Question, Answer, Result, fitted, Reply, ended, Fit, Engine}
use Rattle.protocol.specs.Dialogue.{F64s, GivenF64s, accepted, Exchange, exchange, question_in, Dialogue, called, give, give_all, begin, run, NotRefused, Started, Brings}
use Rattle.protocol.specs.Calls.{Taken, Numbered, otherwise, OfCall}
use Rattle.protocol.specs.Claim.{ByPointAlone, OpensWith, OfOne, Claim}
use Rattle.protocol.specs.Follow.{one, other, Follows, Alike}

module _ (R S : Type 0) (start : Fit → Reply × R) (answer : R → Answer → Reply × R) (start' : Fit → Reply × S) (answer' : S → Answer → Reply × S)
    (F : Follows R S start answer start' answer') where
  abbrev E : Engine
  E = one R S start answer start' answer'

  abbrev E' : Engine
  E' = other R S start answer start' answer'

  -- two dialogues that differ only in their records, which are related
  record Same (u : Dialogue R) (v : Dialogue S) : Type 0 where
    standing : u.standing ≡ v.standing
    questions : u.questions ≡ v.questions
    exchanges : u.exchanges ≡ v.exchanges
    replies : u.replies ≡ v.replies
    related : F.Related u.record_now v.record_now

  same_give : (u : Dialogue R) (v : Dialogue S) (a : Answer) → F64s a.words → Same u v → Same (give E u a) (give E' v a)
  same_give u v a w h =
      subst (λ (c : Bool). Same (give E u a) (called E' v a c (answer' v.record_now a))) (ap (λ (y : Reply). accepted y a) h.standing) (at (accepted u.standing a))
    where
      n : ((answer u.record_now a).0 ≡ (answer' v.record_now a).0) × F.Related (answer u.record_now a).1 (answer' v.record_now a).1
      n = F.answers u.record_now v.record_now a w h.related

      at : (b : Bool) → Same (called E u a b (answer u.record_now a)) (called E' v a b (answer' v.record_now a))
      at true = record {
        standing = n.0;
        questions = λ i. h.questions i ++ question_in (n.0 i);
        exchanges = λ i. h.exchanges i ++ exchange (h.standing i) a;
        replies = λ i. h.replies i ++ (n.0 i ∷ []);
        related = n.1;
      }
      at false = record { standing = h.standing; questions = h.questions; exchanges = h.exchanges; replies = λ i. h.replies i ++ (n.0 i ∷ []); related = n.1 }

  same_all : (u : Dialogue R) (v : Dialogue S) (l : List Answer) → GivenF64s l → Same u v → Same (give_all E u l) (give_all E' v l)
  same_all u v [] w h = h
  same_all u v (a ∷ l) w h = same_all (give E u a) (give E' v a) l w.1 (same_give u v a w.0 h)

  same_run : (f : Fit) (l : List Answer) → Started E f → GivenF64s l → Same (run E f l) (run E' f l)
  same_run f l n w =
      let s = F.starts f in
      same_all (begin E f) (begin E' f) l w (record { standing = s.0; questions = ap question_in s.0; exchanges = refl; replies = λ i. s.0 i ∷ []; related = s.1 n })

  pub alike : (f : Fit) (l : List Answer) → Started E f → GivenF64s l → Alike R S start answer start' answer' f l
  alike f l n w = let s = same_run f l n w in record { questions = s.questions; exchanges = s.exchanges; replies = s.replies }

  other_started : (f : Fit) → Started E f → Started E' f
  other_started f n = subst NotRefused (F.starts f).0 n

  same_call : (u : Dialogue R) (v : Dialogue S) (a : Answer) → F64s a.words → Same u v → OfCall E' v a → OfCall E u a
  same_call u v a w s h =
      record {
        takes = λ e. subst Taken (sym k.0) (h.takes (there ∙ e));
        numbers = λ e. subst₂ (λ (es : List Exchange) (y : Reply). Numbered (suc (length es)) y) (sym s.exchanges) (sym k.0) (h.numbers (there ∙ e));
        replies = λ e. k.0 ∙ h.replies (there ∙ e) ∙ sym (λ i. otherwise (s.standing i) (s.exchanges i) a);
        keeps = λ e. F.stays u.record_now v.record_now a w s.related (h.keeps (there ∙ e));
      }
    where
      k : ((answer u.record_now a).0 ≡ (answer' v.record_now a).0) × F.Related (answer u.record_now a).1 (answer' v.record_now a).1
      k = F.answers u.record_now v.record_now a w s.related

      there : accepted v.standing a ≡ accepted u.standing a
      there = sym (ap (λ (y : Reply). accepted y a) s.standing)

  brought : (r : Result) (u : Dialogue R) (v : Dialogue S) → Same u v → Brings u r → Brings v r
  brought r u v s m = subst (λ (ys : List Reply). Memᴰ (ended (fitted r)) ys) s.replies m

  -- the claim of the engine that is followed is the claim of the one that follows
  pub claim_follows : Claim E' → Claim E
  claim_follows C = record {
    starts = λ f. subst (Numbered 0) (sym (F.starts f).0) (C.starts f);
    calls = λ f l a n w wa. same_call (run E f l) (run E' f l) a wa (same_run f l n w) (C.calls f l a (other_started f n) w wa);
    one = λ f l r n w m.
        let s = same_run f l n w in
        subst (λ (es : List Exchange). OfOne f es r) (sym s.exchanges) (C.one f l r (other_started f n) w (brought r (run E f l) (run E' f l) s m));
    two = λ f g l m r t nf ng wl wm again o i j.
        let a = same_run f l nf wl in
        let b = same_run g m ng wm in
        let h = C.two f g l m r t (other_started f nf) (other_started g ng) wl wm again
        (subst₂ (λ (x y : List Exchange). ByPointAlone (x ++ y)) a.exchanges b.exchanges o)
        (brought r (run E f l) (run E' f l) a i) (brought t (run E g m) (run E' g m) b j) in
        record {
          opens = subst₂ (λ (x y : List Question). OpensWith x y) (sym b.questions) (sym a.questions) h.opens;
          no_larger = h.no_larger;
          equal = h.equal;
        };
  }
