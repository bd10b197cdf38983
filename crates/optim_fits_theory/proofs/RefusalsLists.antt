-- A fit that owes `FailsLaws` is refused by what they allow, or by 15 to 17, along every list of answers (`refused_by_lem`). Assumes nothing.
use Prim.Native.Nat.{ℕ, suc, ◌+◌}
use mathlib.Core.Path.{◌≡◌, refl, sym, subst, subst₂}
use mathlib.Core.Logic.{inl, inr, ⊎_elim}
use mathlib.Core.Bool.{Bool, true, false, cond}
use mathlib.Core.List.Memᴰ
use mathlib.Core.List.{List, [], ◌∷◌, ◌++◌, Memᴰ}
use lib.Dec.{eqb}
use Rattle.protocol.specs.declared.Kind.TheVariants.{Value, Gradient}
use Rattle.protocol.specs.Protocol.{Answer, Reply, ask, ended, refused, Job, Fit}
use Rattle.protocol.specs.Dialogue.{accepted, F64s, GivenF64s, of_kind, Exchange, Dialogue, NotRefused, Started, called, give, give_all, begin, run}
use Rattle.protocol.specs.Calls.{turned_away}
use Rattle.protocol.specs.Ask.{Ask, finish, query, wp, heard_at}
use Rattle.protocol.specs.Rounds.{Ending, at_head, stops, fails, Verdict, go_on, stop, restart, Rounds, reached, limits_of, State, open_at, over, Kept, question_at, kept, settle, headed, allowed, put, standing, is_repeat, answer_to, begun, engine}
use Rattle.protocol.specs.RoundsLaws.{Begins}
use Rattle.protocol.specs.PastLimits.{past_limits}
use Rattle.protocol.proofs.Replies.{suits_length}
use Rattle.protocol.proofs.RoundsCalls.{taken, unmoved, Closed}
use Rattle.optim_fits_theory.specs.Refusals.{EndsBy, OpensBy, FailsLaws, RefusedBy, Replied}

module _ (R : Rounds Job) (P : Job → ℕ → ℕ → Type 0) (L : FailsLaws R P) (f : Fit) where
  abbrev Text : Type 0
  Text = Ask (Ending R.Position)

  abbrev By : List Exchange → Ending R.Position → Type 0
  By es o = EndsBy R P L.Head f.job es o

  abbrev Fine : Reply → Type 0
  Fine y = Replied P f.job y

  -- ---- a text that has gone through its head

  abbrev Placed : Text → Type 0
  Placed (query k x c) = (es : List Exchange) × wp es (query k x c) By
  Placed (finish (at_head p)) = ⊥
  Placed (finish (stops y p)) = Unit {0}
  Placed (finish (fails k d)) = P f.job k d

  placed : (es : List Exchange) (m : Text) → Begins m × wp es m By → Placed m
  placed es (query k x c) h = (es, h.1)
  placed es (finish (at_head p)) h = h.0
  placed es (finish (stops y p)) h = tt
  placed es (finish (fails k d)) h = h.1

  settled : (es : List Exchange) (v : ℕ) (m : Text) → wp es m By → Placed (settle R (limits_of f) v m)
  settled es v (query k x c) h = (es, h)
  settled es v (finish (stops y p)) h = tt
  settled es v (finish (fails k d)) h = h
  settled es v (finish (at_head p)) h = go (R.tests p) refl
    where
      allow : (a b : Bool) → Placed (allowed R a b p)
      allow true b = tt
      allow false true = tt
      allow false false = placed es (R.round p) (L.round_by f.job es p h)

      go : (o : Verdict R.Position) → R.tests p ≡ o → Placed (headed R (limits_of f) v o p)
      go go_on e = allow (reached (R.iterations p) (limits_of f).iter) (reached v (limits_of f).fevals)
      go (stop y) e = tt
      go (restart m) e = placed es m (L.restart_by f.job es p m h e)

  -- ---- the record along a list

  abbrev StateOk : State R.Position → Type 0
  StateOk (open_at k x c) = (es : List Exchange) × wp es (query k x c) By
  StateOk (over (ask q)) = ⊥
  StateOk (over (ended o)) = Unit {0}
  StateOk (over (refused k d)) = Fine (refused k d)

  pub record Good (y : Reply) (r : Kept R.Position) : Type 0 where
    pub n : ℕ
    pub v : ℕ
    pub g : ℕ
    pub state : State R.Position
    pub record_is : kept R (limits_of f) n v g state ≡ r
    pub standing_is : standing R n state ≡ y
    pub state_ok : StateOk state

  closed : (s : State R.Position) → StateOk s → Closed R s
  closed (open_at k x c) h = tt
  closed (over (ask q)) h = h
  closed (over (ended o)) h = tt
  closed (over (refused k d)) h = tt

  standing_fine : (n : ℕ) (s : State R.Position) → StateOk s → Fine (standing R n s)
  standing_fine n (open_at k x c) h = tt
  standing_fine n (over (ask q)) h = absurd h
  standing_fine n (over (ended o)) h = tt
  standing_fine n (over (refused k d)) h = h

  put_good : (n v g : ℕ) (m : Text) → Placed m → let z = put R (limits_of f) n v g m in Good z.0 z.1
  put_good n v g (query k x c) h = record { n = n; v = v; g = g; state = open_at k x c; record_is = refl; standing_is = refl; state_ok = h }
  put_good n v g (finish (at_head p)) h = absurd h
  put_good n v g (finish (stops y p)) h = record { n = n; v = v; g = g; state = _; record_is = refl; standing_is = refl; state_ok = tt }
  put_good n v g (finish (fails k d)) h = record { n = n; v = v; g = g; state = over (refused k d); record_is = refl; standing_is = refl; state_ok = inl h }

  -- ---- one answer

  turned_fine : (y : Reply) (a : Answer) → Fine (turned_away y a)
  turned_fine (ended o) a = inr (refl, inl refl)
  turned_fine (refused k d) a = inr (refl, inl refl)
  turned_fine (ask q) a = go (eqb a.number q.number)
    where
      go : (b : Bool) → Fine (cond b (refused 17 0) (refused 16 0))
      go true = inr (refl, inr (inr refl))
      go false = inr (refl, inr (inl refl))

  either_fine : (b : Bool) (y z : Reply) → Fine y → Fine z → Fine (cond b y z)
  either_fine true y z h k = h
  either_fine false y z h k = k

  -- what the next call replies, and what then stands
  abbrev After : Reply → Answer → Bool → Reply × Kept R.Position → Type 0
  After y a true z = Good z.0 z.1
  After y a false z = Fine z.0 × Good y z.1

  state_after : (n v g : ℕ) (s : State R.Position) (a : Answer) → StateOk s → F64s a.words
      → After (standing R n s) a (accepted (standing R n s) a) (answer_to R (kept R (limits_of f) n v g s) a)
  state_after n v g s a h w = go (accepted (standing R n s) a) refl
    where
      r : Kept R.Position
      r = kept R (limits_of f) n v g s

      heard : (s : State R.Position) → StateOk s → accepted (standing R n s) a ≡ true → let z = answer_to R (kept R (limits_of f) n v g s) a in Good z.0 z.1
      heard (open_at j x c) k e =
          subst (λ (z : Reply × Kept R.Position). Good z.0 z.1) (sym (taken R (limits_of f) n v g j x c a e))
          (put_good (suc n) (v + of_kind Value j) (g + of_kind Gradient j) (settle R (limits_of f) (v + of_kind Value j) (c a.words))
          (settled (k.0 ++ (heard_at 0 j x a.words ∷ [])) (v + of_kind Value j) (c a.words) (k.1 0 a.words (suits_length (question_at R n j x) a e) w)))
      heard (over (ask q)) k e = absurd k
      heard (over (ended o)) k e = absurd (subst (λ (b : Bool). cond {A = Type 0} b ⊥ (Unit {0})) e tt)
      heard (over (refused m d)) k e = absurd (subst (λ (b : Bool). cond {A = Type 0} b ⊥ (Unit {0})) e tt)

      go : (b : Bool) → accepted (standing R n s) a ≡ b → After (standing R n s) a b (answer_to R r a)
      go true e = heard s h e
      go false e =
          subst (λ (z : Reply × Kept R.Position). Fine z.0 × Good (standing R n s) z.1) (sym (unmoved R r a (closed s h) e)) (
            either_fine (is_repeat R r a) (standing R n s) (turned_away (standing R n s) a) (standing_fine n s h) (turned_fine (standing R n s) a),
            record { n = n; v = v; g = g; state = s; record_is = refl; standing_is = refl; state_ok = h },
          )

  good_fine : (y : Reply) (r : Kept R.Position) → Good y r → Fine y
  good_fine y r h = subst Fine h.standing_is (standing_fine h.n h.state h.state_ok)

  good_after : (y : Reply) (r : Kept R.Position) (a : Answer) → Good y r → F64s a.words → After y a (accepted y a) (answer_to R r a)
  good_after y r a h w =
      subst₂ (λ (y : Reply) (r : Kept R.Position). After y a (accepted y a) (answer_to R r a)) h.standing_is h.record_is (state_after h.n h.v h.g h.state a h.state_ok w)

  -- ---- a list

  abbrev AllFine : List Reply → Type 0
  AllFine ys = (y : Reply) → Memᴰ y ys → Fine y

  one_more : (ys : List Reply) (z : Reply) → AllFine ys → Fine z → AllFine (ys ++ (z ∷ []))
  one_more ys z h k y m = ⊎_elim (h y) (λ i. ⊎_elim (λ e. subst Fine (sym e) k) (λ j. absurd (Memᴰ.not-nil j)) (Memᴰ.cases_cons i)) (Memᴰ.append_cases ys m)

  abbrev Along : Dialogue (Kept R.Position) → Type 0
  Along d = Good d.standing d.record_now × AllFine d.replies

  give_along : (d : Dialogue (Kept R.Position)) (a : Answer) → F64s a.words → Along d → Along (give (engine R) d a)
  give_along d a w h = go (accepted d.standing a) (answer_to R d.record_now a) (good_after d.standing d.record_now a h.0 w)
    where
      go : (b : Bool) (z : Reply × Kept R.Position) → After d.standing a b z → Along (called (engine R) d a b z)
      go true z k = (k, one_more d.replies z.0 h.1 (good_fine z.0 z.1 k))
      go false z k = (k.1, one_more d.replies z.0 h.1 k.0)

  all_along : (d : Dialogue (Kept R.Position)) (l : List Answer) → GivenF64s l → Along d → Along (give_all (engine R) d l)
  all_along d [] w h = h
  all_along d (a ∷ l) w h = all_along (give (engine R) d a) l w.1 (give_along d a w.0 h)

  -- a start that is not refused is the opening's, which asks
  begun_placed : Started (engine R) f → Placed (begun R f)
  begun_placed s = which (past_limits f) s
    where
      open_text_lem : Text
      open_text_lem = R.opening f.job f.x0

      go : (m : Text) → OpensBy R P L.Head f.job m → NotRefused (put R (limits_of f) 0 0 0 m).0 → Placed m
      go (query k x c) o s = ([], o)
      go (finish (at_head p)) o s = absurd o
      go (finish (stops y p)) o s = tt
      go (finish (fails k d)) o s = absurd s

      which : (b : Bool) → NotRefused (put R (limits_of f) 0 0 0 (cond b (finish (fails 2 0)) open_text_lem)).0 → Placed (cond b (finish (fails 2 0)) open_text_lem)
      which true s = absurd s
      which false s = go open_text_lem (L.opening_by f.job f.x0) s

  run_along : (l : List Answer) → Started (engine R) f → GivenF64s l → Along (run (engine R) f l)
  run_along l s w =
      let z = put R (limits_of f) 0 0 0 (begun R f) in
      let g : Good z.0 z.1 = put_good 0 0 0 (begun R f) (begun_placed s) in
      all_along (begin (engine R) f) l w (g, one_more [] z.0 (λ y m. absurd (Memᴰ.not-nil m)) (good_fine z.0 z.1 g))

pub refused_by_lem : (R : Rounds Job) (P : Job → ℕ → ℕ → Type 0) → FailsLaws R P → RefusedBy R P
refused_by_lem R P L f l s w y m = (run_along R P L f l s w).1 y m
