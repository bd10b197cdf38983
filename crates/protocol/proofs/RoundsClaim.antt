-- The engine of a fit that owes `RoundsLaws` satisfies the claim: `claim_of_rounds`. Assumes nothing.
use mathlib.Core.Path.{◌≡◌, refl, sym, ◌∙◌, ap, subst, subst₂}
use mathlib.Core.Logic.{◌⊎◌, inl, inr}
use mathlib.Core.List.{List, [], ◌∷◌, ◌++◌}
use mathlib.Core.Bool.{Bool, true, false, cond, false≢true}
use Prim.Native.Nat.{ℕ, suc}
use lib.ListN.{length}
use lib.Ieee.{Float}
use Rattle.float.specs.Binary64.{Number, NotAbove}
use Rattle.float.proofs.Order.{not_above_trans}
use Rattle.float.proofs.Signs.{finite_number}
use Rattle.protocol.specs.declared.Kind.{Kind}
use Rattle.protocol.specs.declared.Kind.TheVariants.{Value, Gradient}
use Rattle.protocol.specs.declared.Termination.{Termination}
use Rattle.protocol.specs.declared.Termination.TheVariants.{MaxIterations, MaxFevals}
use Rattle.protocol.specs.Protocol.{Question, Answer, Result, Outcome, fitted, Reply, ask, ended, Job, Fit}
use Rattle.protocol.specs.Dialogue.{Started, NotRefused, suits, F64s, Exchange, answers_of}
use Rattle.protocol.specs.Calls.{Numbered}
use Rattle.protocol.specs.Claim.{IsSimplex, ◌⊑◌, RunsAgain, ForAllowance, Claim}
use Rattle.protocol.specs.Ask.{Ask, finish, query, heard_at, wp}
use Rattle.protocol.specs.PastLimits.{past_limits}
use Rattle.protocol.specs.Rounds.{Ending, at_head, stops, fails, Verdict, go_on, stop, restart, Rounds, FitLimits, reached, limits_of, State, open_at, over, Kept, result_at, allowed, headed, settle, question_at, put, answer_to, begun, engine}
use Rattle.protocol.specs.RoundsLaws.{EndsAs, Opening, RoundsLaws}
use Rattle.protocol.specs.EngineLaws.{said, EngineLaws}
use Rattle.protocol.proofs.Texts.{wp_map}
use Rattle.protocol.proofs.Replies.{ask≢ended, ended≢refused, fitted_inj, ask_inj, not_above_self, suits_length}
use Rattle.protocol.proofs.EngineClaim.{claim}
use Rattle.protocol.proofs.RoundsCalls.{reached_mono, kept_after, after_is}
use Rattle.protocol.proofs.RoundsGood.{Opened, Good, at_open, law_replies, law_takes, law_numbers, law_sound}

-- limits of which neither is lowered
abbrev within : FitLimits → FitLimits → Type 0
within a b = (a.iter ⊑ b.iter) × (a.fevals ⊑ b.fevals)

module _ (R : Rounds Job) (L : RoundsLaws R IsSimplex) where
  abbrev Text : Type 0
  Text = Ask (Ending R.Position)

  -- ---- no result to come is above v

  abbrev Bound : Float → List Exchange → Ending R.Position → Type 0
  Bound v es (at_head p) = NotAbove (R.f p) v
  Bound v es (stops y p) = NotAbove (R.f p) v
  Bound v es (fails k d) = Unit {0}

  abbrev BelowState : Float → State R.Position → Type 0
  BelowState v (open_at k x c) = (es : List Exchange) × wp es (query k x c) (Bound v)
  BelowState v (over y) = Unit {0}

  abbrev BelowText : Float → Text → Type 0
  BelowText v (query k x c) = (es : List Exchange) × wp es (query k x c) (Bound v)
  BelowText v (finish (at_head p)) = Unit {0}
  BelowText v (finish (stops y p)) = NotAbove (R.f p) v
  BelowText v (finish (fails k d)) = Unit {0}

  -- the same of a reply and a record
  abbrev BelowReply : Float → Reply × Kept R.Position → Type 0
  BelowReply v z = ((p : Question) → z.0 ≡ ask p → BelowState v z.1.state) × ((y : Result) → z.0 ≡ ended (fitted y) → NotAbove y.f v)

  text_below : (es : List Exchange) (v : Float) (m : Text) → wp es m (Bound v) → BelowText v m
  text_below es v (query k x c) h = (es, h)
  text_below es v (finish (at_head p)) h = tt
  text_below es v (finish (stops y p)) h = h
  text_below es v (finish (fails k d)) h = tt

  ends_bound : (j : Job) (u v : Float) → Number u → NotAbove u v → (es : List Exchange) (o : Ending R.Position) → EndsAs R IsSimplex L.At j u es o → Bound v es o
  ends_bound j u v n k es (at_head p) h = not_above_trans (R.f p) u v n h.1 k
  ends_bound j u v n k es (stops y p) h = not_above_trans (R.f p) u v n h.1 k
  ends_bound j u v n k es (fails m d) h = tt

  turned_below : (j : Job) (es : List Exchange) (p : R.Position) (v : Float) (m : Text) → L.At j es p → NotAbove (R.f p) v → wp es m (EndsAs R IsSimplex L.At j (R.f p))
      → BelowText v m
  turned_below j es p v m a b h =
      text_below es v m (wp_map es m (EndsAs R IsSimplex L.At j (R.f p)) (Bound v) (ends_bound j (R.f p) v (finite_number (R.f p) (L.known j es p a).0) b) h)

  head_below : (j : Job) (es : List Exchange) (l : FitLimits) (n : ℕ) (v : Float) (p : R.Position) → L.At j es p → NotAbove (R.f p) v → BelowText v (headed R l n (R.tests p) p)
  head_below j es l n v p a b = go (R.tests p) refl
    where
      allow : (x y : Bool) → BelowText v (allowed R x y p)
      allow true y = b
      allow false true = b
      allow false false = turned_below j es p v (R.round p) a b (L.round_ok j es p a).1

      go : (o : Verdict R.Position) → R.tests p ≡ o → BelowText v (headed R l n o p)
      go go_on e = allow (reached (R.iterations p) l.iter) (reached n l.fevals)
      go (stop y) e = b
      go (restart m) e = turned_below j es p v m a b (L.restart_ok j es p m a e).1

  settle_below : (j : Job) (es bs : List Exchange) (l : FitLimits) (n : ℕ) (v : Float) (m : Text) → wp es m (Opened R L j) → wp bs m (Bound v) → BelowText v (settle R l n m)
  settle_below j es bs l n v (query k x c) h b = (bs, b)
  settle_below j es bs l n v (finish (at_head p)) h b = head_below j es l n v p h b
  settle_below j es bs l n v (finish (stops y p)) h b = b
  settle_below j es bs l n v (finish (fails k d)) h b = tt

  put_below : (l : FitLimits) (n k g : ℕ) (v : Float) (m : Text) → BelowText v m → BelowReply v (put R l n k g m)
  put_below l n k g v (query j x c) b = ((λ p e. b), λ y e. absurd (ask≢ended e))
  put_below l n k g v (finish (at_head p)) b = ((λ q e. tt), λ y e. absurd (ended≢refused (sym e)))
  put_below l n k g v (finish (stops z p)) b = ((λ q e. tt), λ y e. subst (λ (r : Result). NotAbove r.f v) (fitted_inj e) b)
  put_below l n k g v (finish (fails m d)) b = ((λ q e. tt), λ y e. absurd (ended≢refused (sym e)))

  law_below : (f : Fit) (es : List Exchange) (q : Question) (r : Kept R.Position) (a : Answer) (v : Float)
      → Good R L f es (ask q) r → suits q a ≡ true → F64s a.words → BelowState v r.state → BelowReply v (answer_to R r a)
  law_below f es q r a v g =
      at_open R L f es q r (λ q r. suits q a ≡ true → F64s a.words → BelowState v r.state → BelowReply v (answer_to R r a)) g
      (λ j x c k e ws b.
      let es' = es ++ said (question_at R (length es) j x) a in
      let fit = suits_length (question_at R (length es) j x) a e in
      subst (BelowReply v) (after_is R (limits_of f) es j x c a e)
      (put_below (limits_of f) (length es') (answers_of Value es') (answers_of Gradient es') v (settle R (limits_of f) (answers_of Value es') (c a.words))
      (settle_below f.job es' (b.0 ++ (heard_at 0 j x a.words ∷ [])) (limits_of f) (answers_of Value es') v (c a.words)
      (k (suc (length es)) a.words fit ws) (b.1 0 a.words fit ws))))

  -- ---- two records alike, given one accepted answer

  abbrev Like : Kept R.Position → Kept R.Position → Type 0
  Like r s = (r.last ≡ s.last) × (r.values ≡ s.values) × (r.gradients ≡ s.gradients) × (r.state ≡ s.state) × within r.limits s.limits

  abbrev Alike : Reply × Kept R.Position → Reply × Kept R.Position → Type 0
  Alike y z = (y.0 ≡ z.0) × Like y.1 z.1

  abbrev Together : Reply × Kept R.Position → Reply × Kept R.Position → Type 0
  Together y z =
      Alike y z
      ⊎ ((x : Result) × (y.0 ≡ ended (fitted x)) × ForAllowance x.reason
      × ((p : Question) → z.0 ≡ ask p → BelowState x.f z.1.state)
      × ((u : Result) → z.0 ≡ ended (fitted u) → NotAbove u.f x.f))

  put_alike : (l l' : FitLimits) (n v g : ℕ) → within l l' → (m : Text) → Alike (put R l n v g m) (put R l' n v g m)
  put_alike l l' n v g w (query k x c) = (refl, (refl, refl, refl, refl, w))
  put_alike l l' n v g w (finish (at_head p)) = (refl, (refl, refl, refl, refl, w))
  put_alike l l' n v g w (finish (stops y p)) = (refl, (refl, refl, refl, refl, w))
  put_alike l l' n v g w (finish (fails k d)) = (refl, (refl, refl, refl, refl, w))

  -- through one head two texts stay one, or the first stops for an allowance there
  abbrev Apart : Text → Text → R.Position → Type 0
  Apart m m' p = (m ≡ m') ⊎ ((y : Termination) × ForAllowance y × (m ≡ finish (stops y p)))

  allowed_apart : (p : R.Position) (a b a' b' : Bool) → (a' ≡ true → a ≡ true) → (b' ≡ true → b ≡ true) → Apart (allowed R a b p) (allowed R a' b' p) p
  allowed_apart p true b true b' h i = inl refl
  allowed_apart p true b false b' h i = inr (MaxIterations, tt, refl)
  allowed_apart p false b true b' h i = absurd (false≢true (h refl))
  allowed_apart p false true false b' h i = inr (MaxFevals, tt, refl)
  allowed_apart p false false false true h i = absurd (false≢true (i refl))
  allowed_apart p false false false false h i = inl refl

  headed_apart : (l l' : FitLimits) (v : ℕ) → within l l' → (o : Verdict R.Position) (p : R.Position) → Apart (headed R l v o p) (headed R l' v o p) p
  headed_apart l l' v w go_on p =
      allowed_apart p (reached (R.iterations p) l.iter) (reached v l.fevals) (reached (R.iterations p) l'.iter) (reached v l'.fevals)
      (reached_mono (R.iterations p) l.iter l'.iter w.0) (reached_mono v l.fevals l'.fevals w.1)
  headed_apart l l' v w (stop y) p = inl refl
  headed_apart l l' v w (restart m) p = inl refl

  settled_together : (j : Job) (es : List Exchange) (l l' : FitLimits) (n v g : ℕ) → within l l' → (m : Text) → wp es m (Opened R L j)
      → Together (put R l n v g (settle R l v m)) (put R l' n v g (settle R l' v m))
  settled_together j es l l' n v g w (query k x c) h = inl (put_alike l l' n v g w (query k x c))
  settled_together j es l l' n v g w (finish (stops y p)) h = inl (put_alike l l' n v g w (finish (stops y p)))
  settled_together j es l l' n v g w (finish (fails k d)) h = inl (put_alike l l' n v g w (finish (fails k d)))
  settled_together j es l l' n v g w (finish (at_head p)) h =
      let first = headed R l v (R.tests p) p in
      elim (headed_apart l l' v w (R.tests p) p) [
        | inl e ↦ inl (subst (λ (m : Text). Alike (put R l n v g first) (put R l' n v g m)) e (put_alike l l' n v g w first))
        | inr a ↦
            let b = put_below l' n v g (R.f p) (headed R l' v (R.tests p) p) (head_below j es l' v (R.f p) p h (not_above_self (R.f p))) in
            inr (result_at R a.0 v g p, ap (λ (m : Text). (put R l n v g m).0) a.2, a.1, b.0, b.1)
      ]

  law_together : (f g : Fit) (es : List Exchange) (q : Question) (r s : Kept R.Position) (a : Answer)
      → Good R L f es (ask q) r → Good R L g es (ask q) s → Like r s → suits q a ≡ true → F64s a.words → Together (answer_to R r a) (answer_to R s a)
  law_together f g es q r s a gf gg like e ws =
      at_open R L f es q r (λ q r. Like r s → suits q a ≡ true → F64s a.words → Together (answer_to R r a) (answer_to R s a)) gf
      (λ j x c k like d ws.
      let es' = es ++ said (question_at R (length es) j x) a in
      let there : kept_after R s.limits es (open_at j x c) ≡ s = λ i. record { limits = s.limits; last = like.0 i; values = like.1 i; gradients = like.2 i; state = like.3 i } in
      subst (λ (z : Kept R.Position). Together (answer_to R (kept_after R (limits_of f) es (open_at j x c)) a) (answer_to R z a)) there
      (subst₂ Together (after_is R (limits_of f) es j x c a d) (after_is R s.limits es j x c a d)
      (settled_together f.job es' (limits_of f) s.limits (length es') (answers_of Value es') (answers_of Gradient es') like.4 (c a.words)
      (k (suc (length es)) a.words (suits_length (question_at R (length es) j x) a d) ws))))
      like e ws

  -- ---- starts

  -- a start that is not refused is the opening's, and the opening asks
  begun_case : (f : Fit) (P : Text → Type 0) → Started (engine R) f
      → ((k : Kind) (x : List Float) (c : List Float → Text) → R.opening f.job f.x0 ≡ query k x c → wp [] (query k x c) (Opened R L f.job) → P (query k x c))
      → P (begun R f)
  begun_case f P s h = which (past_limits f) s
    where
      open_text_lem : Text
      open_text_lem = R.opening f.job f.x0

      go : (m : Text) → open_text_lem ≡ m → Opening R IsSimplex L.At f.job m → NotRefused (put R (limits_of f) 0 0 0 m).0 → P m
      go (query k x c) e o s = h k x c e o
      go (finish (at_head p)) e o s = absurd o
      go (finish (stops y p)) e o s = absurd o
      go (finish (fails k d)) e o s = absurd s

      which : (b : Bool) → NotRefused (put R (limits_of f) 0 0 0 (cond b (finish (fails 2 0)) open_text_lem)).0 → P (cond b (finish (fails 2 0)) open_text_lem)
      which true s = absurd s
      which false s = go open_text_lem refl (L.opening_ok f.job f.x0) s

  law_start : (f : Fit) → Started (engine R) f → Good R L f [] ((engine R).start f).0 ((engine R).start f).1
  law_start f s =
      begun_case f (λ m. Good R L f [] (put R (limits_of f) 0 0 0 m).0 (put R (limits_of f) 0 0 0 m).1) s
      (λ k x c e h. record { state = open_at k x c; record_is = refl; standing_is = refl; numbered = refl; state_ok = h })

  put_numbered : (l : FitLimits) (n v g : ℕ) (m : Text) → Numbered n (put R l n v g m).0
  put_numbered l n v g (query k x c) = refl
  put_numbered l n v g (finish (at_head p)) = tt
  put_numbered l n v g (finish (stops y p)) = tt
  put_numbered l n v g (finish (fails k d)) = tt

  started : (f : Fit) (y : Reply) → ((engine R).start f).0 ≡ y → NotRefused y → Started (engine R) f
  started f y e n = subst NotRefused (sym e) n

  law_open : (f : Fit) (o : Outcome) → ((engine R).start f).0 ≡ ended o → ⊥
  law_open f o e = begun_case f (λ m. (put R (limits_of f) 0 0 0 m).0 ≡ ended o → ⊥) (started f (ended o) e tt) (λ k x c i h d. ask≢ended d) e

  law_alike : (f g : Fit) (p q : Question) → RunsAgain f g → ((engine R).start f).0 ≡ ask p → ((engine R).start g).0 ≡ ask q
      → (p ≡ q) × Like ((engine R).start f).1 ((engine R).start g).1
  law_alike f g p q again d e =
      let same : begun R f ≡ begun R g = opens f p d ∙ (λ i. R.opening (again.job i) (again.x0 i)) ∙ sym (opens g q e) in
      let both = subst (λ (m : Text). Alike (put R (limits_of f) 0 0 0 (begun R f)) (put R (limits_of g) 0 0 0 m)) same
      (put_alike (limits_of f) (limits_of g) 0 0 0 (again.iter, again.fevals) (begun R f)) in
      (ask_inj (sym d ∙ both.0 ∙ e), both.1)
    where
      opens : (h : Fit) (z : Question) → ((engine R).start h).0 ≡ ask z → begun R h ≡ R.opening h.job h.x0
      opens h z i = begun_case h (λ m. m ≡ R.opening h.job h.x0) (started h (ask z) i tt) (λ k x c j o. sym j)

  -- THE ENGINE OF A FIT IN DIRECT STYLE satisfies the laws of single calls, and so the claim.
  laws : EngineLaws (engine R)
  laws = record {
    Good = Good R L;
    Like = Like;
    Below = λ v r. BelowState v r.state;
    starts_open = law_open;
    starts_numbered = λ f. put_numbered (limits_of f) 0 0 0 (begun R f);
    starts_good = law_start;
    starts_alike = law_alike;
    replies = λ f es y r a g e. (law_replies R L f es y r a g e).0;
    keeps = λ f es y r a g e. (law_replies R L f es y r a g e).1;
    takes = law_takes R L;
    numbers = law_numbers R L;
    sound = law_sound R L;
    together = law_together;
    stays_below = law_below;
  }

  pub claim_of_rounds : Claim (engine R)
  claim_of_rounds = claim (engine R) laws
