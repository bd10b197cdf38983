-- The engine of a fit that owes `RoundsLaws`: its record along a list (`Good`), and the laws of one call. Assumes nothing.
use mathlib.Core.Path.{◌≡◌, refl, sym, ◌∙◌, ap, subst, subst₂}
use mathlib.Core.List.{List, ◌++◌}
use mathlib.Core.Option.{Option}
use mathlib.Core.Bool.{Bool, true, false, cond}
use Prim.Native.Nat.{ℕ, suc}
use native.Mathlib.Omega.{arith}
use lib.Dec.{T}
use lib.ListN.{length}
use lib.Ieee.{Float}
use Rattle.protocol.specs.declared.Kind.{Kind}
use Rattle.protocol.specs.declared.Kind.TheVariants.{Value, Gradient}
use Rattle.protocol.specs.declared.Termination.{Termination}
use Rattle.protocol.specs.declared.Termination.TheVariants.{MaxIterations, MaxFevals}
use Rattle.protocol.specs.Protocol.{Question, Answer, Result, fitted, searched, differenced, Reply, ask, ended, refused, Job, Fit}
use Rattle.protocol.specs.Dialogue.{suits, accepted, F64s, Exchange, answers_of}
use Rattle.protocol.specs.Calls.{Taken, Numbered, ends_fit, last_accepted, repeats, turned_away, otherwise}
use Rattle.protocol.specs.Claim.{IsSimplex, limit, ◌⊑◌, ForAllowance, OfOne}
use Rattle.protocol.specs.Ask.{Ask, finish, query, wp}
use Rattle.protocol.specs.Rounds.{Ending, at_head, stops, fails, Verdict, go_on, stop, restart, Rounds, reached, limits_of, State, open_at, over, Kept, result_at, allowed, headed, settle, question_at, standing, answer_to}
use Rattle.protocol.specs.RoundsLaws.{Known, Own, Begins, EndsAs, OpensAs, RoundsLaws}
use Rattle.protocol.specs.EngineLaws.{said}
use Rattle.protocol.proofs.Texts.{wp_map}
use Rattle.protocol.proofs.Replies.{ask≢ended, ask≢refused, ended≢refused, fitted_inj, ask_inj, suits_length}
use Rattle.protocol.proofs.RoundsCalls.{reached_used, one_more, last_of, number_more, same_repeat, Closed, unmoved, kept_after, put_after, after_is}

two_allowances : MaxIterations ≡ MaxFevals → ⊥
two_allowances e = let z : ◌≡◌ {A = ℕ} 0 1 = cc in omega arith

module _ (R : Rounds Job) (L : RoundsLaws R IsSimplex) where
  abbrev Text : Type 0
  Text = Ask (Ending R.Position)

  abbrev pub Opened : Job → List Exchange → Ending R.Position → Type 0
  Opened j es o = OpensAs R IsSimplex L.At j es o

  -- ---- the record along a list

  abbrev StateOk : Fit → List Exchange → State R.Position → Type 0
  StateOk f es (open_at k x c) = wp es (query k x c) (Opened f.job)
  StateOk f es (over (ask q)) = ⊥
  StateOk f es (over (ended (fitted r))) = OfOne f es r
  StateOk f es (over (ended (searched s))) = ⊥
  StateOk f es (over (ended (differenced g))) = ⊥
  StateOk f es (over (refused k d)) = Unit {0}

  ok_closed : (f : Fit) (es : List Exchange) (s : State R.Position) → StateOk f es s → Closed R s
  ok_closed f es (open_at k x c) h = tt
  ok_closed f es (over (ask q)) h = h
  ok_closed f es (over (ended o)) h = tt
  ok_closed f es (over (refused k d)) h = tt

  pub record Good (f : Fit) (es : List Exchange) (y : Reply) (r : Kept R.Position) : Type 0 where
    pub state : State R.Position
    pub record_is : kept_after R (limits_of f) es state ≡ r
    pub standing_is : standing R (length es) state ≡ y
    pub numbered : last_accepted es ≡ last_of (length es)
    pub state_ok : StateOk f es state

  -- at an open question
  pub at_open : (f : Fit) (es : List Exchange) (q : Question) (r : Kept R.Position) (P : Question → Kept R.Position → Type 0) → Good f es (ask q) r
      → ((j : Kind) (x : List Float) (c : List Float → Text) → wp es (query j x c) (Opened f.job) → P (question_at R (length es) j x) (kept_after R (limits_of f) es (open_at j x c)))
      → P q r
  at_open f es q r P g h = go g.state g.state_ok g.standing_is g.record_is
    where
      go : (s : State R.Position) → StateOk f es s → standing R (length es) s ≡ ask q → kept_after R (limits_of f) es s ≡ r → P q r
      go (open_at j x c) k e i = subst₂ P (ask_inj e) i (h j x c k)
      go (over (ask p)) k e i = absurd k
      go (over (ended o)) k e i = absurd (ask≢ended (sym e))
      go (over (refused m d)) k e i = absurd (ask≢refused (sym e))

  -- ---- an answer that is not accepted

  pub law_replies : (f : Fit) (es : List Exchange) (y : Reply) (r : Kept R.Position) (a : Answer) → Good f es y r → accepted y a ≡ false
      → ((answer_to R r a).0 ≡ otherwise y es a) × ((answer_to R r a).1 ≡ r)
  law_replies f es y r a g =
      subst₂ (λ (y : Reply) (r : Kept R.Position). accepted y a ≡ false → ((answer_to R r a).0 ≡ otherwise y es a) × ((answer_to R r a).1 ≡ r)) g.standing_is g.record_is
      (λ e.
      let y = standing R (length es) g.state in
      let u = unmoved R (kept_after R (limits_of f) es g.state) a (ok_closed f es g.state g.state_ok) e in
      let same = ap (λ (o : Option ℕ). repeats o a) g.numbered ∙ same_repeat (length es) a in
      (ap (λ (z : Reply × Kept R.Position). z.0) u ∙ ap (λ (b : Bool). cond b y (turned_away y a)) (sym same), ap (λ (z : Reply × Kept R.Position). z.1) u))

  -- ---- where a text stands that has gone through its head

  abbrev Placed : Fit → List Exchange → Text → Type 0
  Placed f es (query k x c) = wp es (query k x c) (Opened f.job)
  Placed f es (finish (at_head p)) = ⊥
  Placed f es (finish (stops y p)) = OfOne f es (result_at R y (answers_of Value es) (answers_of Gradient es) p)
  Placed f es (finish (fails k d)) = T (ends_fit k d)

  known_one : (f : Fit) (es : List Exchange) (y : Termination) (p : R.Position) → Known (IsSimplex f.job) es (R.x p) (R.f p)
      → (y ≡ MaxIterations → (limits_of f).iter ⊑ limit (R.iterations p)) → (y ≡ MaxFevals → (limits_of f).fevals ⊑ limit (answers_of Value es))
      → OfOne f es (result_at R y (answers_of Value es) (answers_of Gradient es) p)
  known_one f es y p k i j = record { told = k.1; finite_f = k.0; least = k.2; fevals = refl; gevals = refl; iter_used = i; fevals_used = j }

  own_one : (f : Fit) (es : List Exchange) (y : Termination) (p : R.Position) → Known (IsSimplex f.job) es (R.x p) (R.f p) → Own y
      → OfOne f es (result_at R y (answers_of Value es) (answers_of Gradient es) p)
  own_one f es y p k o = known_one f es y p k (λ e. absurd (o (subst ForAllowance (sym e) tt))) (λ e. absurd (o (subst ForAllowance (sym e) tt)))

  ends_opens : (j : Job) (v : Float) (es : List Exchange) (o : Ending R.Position) → EndsAs R IsSimplex L.At j v es o → Opened j es o
  ends_opens j v es (at_head p) h = h.0
  ends_opens j v es (stops y p) h = (h.0, h.2)
  ends_opens j v es (fails k d) h = h

  placed : (f : Fit) (es : List Exchange) (m : Text) → Begins m → wp es m (Opened f.job) → Placed f es m
  placed f es (query k x c) b h = h
  placed f es (finish (at_head p)) b h = absurd b
  placed f es (finish (stops y p)) b h = own_one f es y p h.0 h.1
  placed f es (finish (fails k d)) b h = h

  turned : (f : Fit) (es : List Exchange) (m : Text) (v : Float) → Begins m × wp es m (EndsAs R IsSimplex L.At f.job v) → Placed f es m
  turned f es m v h = placed f es m h.0 (wp_map es m (EndsAs R IsSimplex L.At f.job v) (Opened f.job) (ends_opens f.job v) h.1)

  settle_placed : (f : Fit) (es : List Exchange) (m : Text) → wp es m (Opened f.job) → Placed f es (settle R (limits_of f) (answers_of Value es) m)
  settle_placed f es (query k x c) h = h
  settle_placed f es (finish (stops y p)) h = own_one f es y p h.0 h.1
  settle_placed f es (finish (fails k d)) h = h
  settle_placed f es (finish (at_head p)) h = go (R.tests p) refl
    where
      known : Known (IsSimplex f.job) es (R.x p) (R.f p)
      known = L.known f.job es p h

      allow : (a b : Bool) → reached (R.iterations p) (limits_of f).iter ≡ a → reached (answers_of Value es) (limits_of f).fevals ≡ b → Placed f es (allowed R a b p)
      allow true b i j = known_one f es MaxIterations p known (λ e. reached_used (R.iterations p) (limits_of f).iter i) (λ e. absurd (two_allowances e))
      allow false true i j = known_one f es MaxFevals p known (λ e. absurd (two_allowances (sym e))) (λ e. reached_used (answers_of Value es) (limits_of f).fevals j)
      allow false false i j = turned f es (R.round p) (R.f p) (L.round_ok f.job es p h)

      go : (o : Verdict R.Position) → R.tests p ≡ o → Placed f es (headed R (limits_of f) (answers_of Value es) o p)
      go go_on e = allow (reached (R.iterations p) (limits_of f).iter) (reached (answers_of Value es) (limits_of f).fevals) refl refl
      go (stop y) e = own_one f es y p known (L.stop_ok f.job es p y h e)
      go (restart m) e = turned f es m (R.f p) (L.restart_ok f.job es p m h e)

  -- ---- an accepted answer

  put_good : (f : Fit) (es : List Exchange) (m : Text) → last_accepted es ≡ last_of (length es) → Placed f es m
      → let z = put_after R (limits_of f) es m in Taken z.0 × Good f es z.0 z.1
  put_good f es (query k x c) n h = (tt, record { state = open_at k x c; record_is = refl; standing_is = refl; numbered = n; state_ok = h })
  put_good f es (finish (at_head p)) n h = absurd h
  put_good f es (finish (stops y p)) n h =
      let o = ended (fitted (result_at R y (answers_of Value es) (answers_of Gradient es) p)) in
      (tt, record { state = over o; record_is = refl; standing_is = refl; numbered = n; state_ok = h })
  put_good f es (finish (fails k d)) n h = (h, record { state = over (refused k d); record_is = refl; standing_is = refl; numbered = n; state_ok = tt })

  pub law_takes : (f : Fit) (es : List Exchange) (q : Question) (r : Kept R.Position) (a : Answer) → Good f es (ask q) r → suits q a ≡ true → F64s a.words
      → Taken (answer_to R r a).0 × Good f (es ++ said q a) (answer_to R r a).0 (answer_to R r a).1
  law_takes f es q r a g =
      at_open f es q r (λ q r. suits q a ≡ true → F64s a.words → Taken (answer_to R r a).0 × Good f (es ++ said q a) (answer_to R r a).0 (answer_to R r a).1) g
      (λ j x c k e ws.
      let es' = es ++ said (question_at R (length es) j x) a in
      subst (λ (z : Reply × Kept R.Position). Taken z.0 × Good f es' z.0 z.1) (after_is R (limits_of f) es j x c a e)
      (put_good f es' (settle R (limits_of f) (answers_of Value es') (c a.words)) (number_more es j x a.words)
      (settle_placed f es' (c a.words) (k (suc (length es)) a.words (suits_length (question_at R (length es) j x) a e) ws))))

  good_numbered : (f : Fit) (es : List Exchange) (y : Reply) (r : Kept R.Position) → Good f es y r → Numbered (length es) y
  good_numbered f es y r g = subst (Numbered (length es)) g.standing_is (go g.state g.state_ok)
    where
      go : (s : State R.Position) → StateOk f es s → Numbered (length es) (standing R (length es) s)
      go (open_at j x c) k = refl
      go (over (ask q)) k = absurd k
      go (over (ended (fitted x))) k = tt
      go (over (ended (searched s))) k = k
      go (over (ended (differenced d))) k = k
      go (over (refused m d)) k = tt

  pub law_numbers : (f : Fit) (es : List Exchange) (q : Question) (r : Kept R.Position) (a : Answer) → Good f es (ask q) r → suits q a ≡ true → F64s a.words
      → Numbered (suc (length es)) (answer_to R r a).0
  law_numbers f es q r a g e w =
      subst (λ (n : ℕ). Numbered n (answer_to R r a).0) (sym (one_more es (record { question = q; words = a.words })))
      (good_numbered f (es ++ said q a) (answer_to R r a).0 (answer_to R r a).1 (law_takes f es q r a g e w).1)

  pub law_sound : (f : Fit) (es : List Exchange) (x : Result) (r : Kept R.Position) → Good f es (ended (fitted x)) r → OfOne f es x
  law_sound f es x r g = go g.state g.state_ok g.standing_is
    where
      go : (s : State R.Position) → StateOk f es s → standing R (length es) s ≡ ended (fitted x) → OfOne f es x
      go (open_at j y c) k e = absurd (ask≢ended e)
      go (over (ask q)) k e = absurd k
      go (over (ended (fitted y))) k e = subst (OfOne f es) (fitted_inj e) k
      go (over (ended (searched s))) k e = absurd k
      go (over (ended (differenced d))) k e = absurd k
      go (over (refused m d)) k e = absurd (ended≢refused (sym e))
