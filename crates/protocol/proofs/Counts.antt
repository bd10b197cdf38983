-- The counts in record and result are those of the accepted answers, for every fit in direct style and every list: `counted`. Assumes nothing.
use mathlib.Core.Path.{◌≡◌, refl, sym, ◌∙◌, ap, subst, subst₂}
use mathlib.Core.List.Memᴰ
use mathlib.Core.List.{List, [], ◌∷◌, ◌++◌}
use mathlib.Core.Bool.{Bool, true, false, cond, false≢true}
use lib.ListN.{length}
use Rattle.protocol.specs.declared.Kind.TheVariants.{Value, Gradient}
use Rattle.protocol.specs.Protocol.{Answer, Result, fitted, searched, differenced, Reply, ask, ended, refused, Job, Fit}
use Rattle.protocol.specs.Dialogue.{accepted, Exchange, exchange, Dialogue, begin, called, give, give_all, run, Brings, answers_of}
use Rattle.protocol.specs.Calls.{turned_away}
use Rattle.protocol.specs.Ask.{Ask, finish, query}
use Rattle.protocol.specs.Rounds.{Ending, at_head, stops, fails, Rounds, FitLimits, limits_of, State, open_at, over, Kept, settle, question_at, standing, is_repeat, answer_to, begun, engine}
use Rattle.protocol.specs.Counts.{Counted}
use Rattle.protocol.proofs.Replies.{ask≢ended, ended≢refused, fitted_inj}
use Rattle.protocol.proofs.EngineOne.{Outcomes, more_outcomes, otherwise_ended}
use Rattle.protocol.proofs.RoundsCalls.{Closed, unmoved, kept_after, put_after, after_is}

module _ (R : Rounds Job) where
  -- an outcome that stands is a refusal, or a result with the counts of es
  abbrev Tally : List Exchange → State R.Position → Type 0
  Tally es (open_at j x c) = Unit {0}
  Tally es (over (ask q)) = ⊥
  Tally es (over (ended (fitted r))) = (r.fevals ≡ answers_of Value es) × (r.gevals ≡ answers_of Gradient es)
  Tally es (over (ended (searched s))) = ⊥
  Tally es (over (ended (differenced g))) = ⊥
  Tally es (over (refused k d)) = Unit {0}

  tally_closed : (es : List Exchange) (s : State R.Position) → Tally es s → Closed R s
  tally_closed es (open_at j x c) h = tt
  tally_closed es (over (ask q)) h = h
  tally_closed es (over (ended o)) h = tt
  tally_closed es (over (refused k d)) h = tt

  -- the record r after the exchanges es, where y stands
  record Tallied (es : List Exchange) (y : Reply) (r : Kept R.Position) : Type 0 where
    limits : FitLimits
    state : State R.Position
    record_is : kept_after R limits es state ≡ r
    standing_is : standing R (length es) state ≡ y
    tally : Tally es state

  put_tallied : (l : FitLimits) (es : List Exchange) (m : Ask (Ending R.Position)) → Tallied es (put_after R l es m).0 (put_after R l es m).1
  put_tallied l es (query j x c) = record { limits = l; state = open_at j x c; record_is = refl; standing_is = refl; tally = tt }
  put_tallied l es (finish (stops y p)) = record { limits = l; state = (put_after R l es (finish (stops y p))).1.state; record_is = refl; standing_is = refl; tally = (refl, refl) }
  put_tallied l es (finish (fails k d)) = record { limits = l; state = over (refused k d); record_is = refl; standing_is = refl; tally = tt }
  put_tallied l es (finish (at_head p)) = record { limits = l; state = over (refused 1 0); record_is = refl; standing_is = refl; tally = tt }

  -- ---- one answer more

  taken_tallied : (es : List Exchange) (y : Reply) (r : Kept R.Position) (a : Answer) → Tallied es y r → accepted y a ≡ true
      → Tallied (es ++ exchange y a) (answer_to R r a).0 (answer_to R r a).1
  taken_tallied es y r a h =
      subst₂ (λ (y : Reply) (r : Kept R.Position). accepted y a ≡ true → Tallied (es ++ exchange y a) (answer_to R r a).0 (answer_to R r a).1)
      h.standing_is h.record_is (go h.state h.tally)
    where
      go : (s : State R.Position) → Tally es s → let z = answer_to R (kept_after R h.limits es s) a in accepted (standing R (length es) s) a ≡ true
          → Tallied (es ++ exchange (standing R (length es) s) a) z.0 z.1
      go (open_at j x c) t e =
          let es' = es ++ exchange (ask (question_at R (length es) j x)) a in
          subst (λ (z : Reply × Kept R.Position). Tallied es' z.0 z.1) (after_is R h.limits es j x c a e)
          (put_tallied h.limits es' (settle R h.limits (answers_of Value es') (c a.words)))
      go (over (ask q)) t e = absurd t
      go (over (ended o)) t e = absurd (false≢true e)
      go (over (refused k d)) t e = absurd (false≢true e)

  -- an answer that is not accepted leaves the record, and gets what stands or a refusal
  left : (es : List Exchange) (y : Reply) (r : Kept R.Position) (a : Answer) → Tallied es y r → accepted y a ≡ false
      → answer_to R r a ≡ (cond (is_repeat R r a) y (turned_away y a), r)
  left es y r a h =
      subst₂ (λ (y : Reply) (r : Kept R.Position). accepted y a ≡ false → answer_to R r a ≡ (cond (is_repeat R r a) y (turned_away y a), r)) h.standing_is h.record_is
      (unmoved R (kept_after R h.limits es h.state) a (tally_closed es h.state h.tally))

  -- ---- whole lists

  record Fine (d : Dialogue (Kept R.Position)) : Type 0 where
    tallied : Tallied d.exchanges d.standing d.record_now
    outcomes : Outcomes d.standing d.replies

  fine_give : (d : Dialogue (Kept R.Position)) (a : Answer) → Fine d → Fine (give (engine R) d a)
  fine_give d a h = go (accepted d.standing a) refl
    where
      n : Reply × Kept R.Position
      n = answer_to R d.record_now a

      go : (b : Bool) → accepted d.standing a ≡ b → Fine (called (engine R) d a b n)
      go true e = record {
        tallied = taken_tallied d.exchanges d.standing d.record_now a h.tallied e;
        outcomes = more_outcomes n.0 n.0 d.replies (λ x m. absurd (false≢true (ap (λ (y : Reply). accepted y a) (sym (h.outcomes x m)) ∙ e))) (λ x i. i);
      }
      go false e =
          let same = left d.exchanges d.standing d.record_now a h.tallied e in
          record {
            tallied = subst (λ (z : Reply × Kept R.Position). Tallied d.exchanges d.standing z.1) (sym same) h.tallied;
            outcomes = more_outcomes d.standing n.0 d.replies h.outcomes
                (λ x i. otherwise_ended (is_repeat R d.record_now a) d.standing a (fitted x) (sym (ap (λ (z : Reply × Kept R.Position). z.0) same) ∙ i));
          }

  fine_all : (d : Dialogue (Kept R.Position)) (l : List Answer) → Fine d → Fine (give_all (engine R) d l)
  fine_all d [] h = h
  fine_all d (a ∷ l) h = fine_all (give (engine R) d a) l (fine_give d a h)

  fine : (f : Fit) (l : List Answer) → Fine (run (engine R) f l)
  fine f l =
      fine_all (begin (engine R) f) l (record {
        tallied = put_tallied (limits_of f) [] (begun R f);
        outcomes = more_outcomes ((engine R).start f).0 ((engine R).start f).0 [] (λ x m. absurd (Memᴰ.not-nil m)) (λ x i. i);
      })

  result_tally : (es : List Exchange) (x : Result) (r : Kept R.Position) → Tallied es (ended (fitted x)) r → (x.fevals ≡ answers_of Value es) × (x.gevals ≡ answers_of Gradient es)
  result_tally es x r h = go h.state h.tally h.standing_is
    where
      go : (s : State R.Position) → Tally es s → standing R (length es) s ≡ ended (fitted x) → (x.fevals ≡ answers_of Value es) × (x.gevals ≡ answers_of Gradient es)
      go (open_at j y c) t e = absurd (ask≢ended e)
      go (over (ask q)) t e = absurd t
      go (over (ended (fitted y))) t e = subst (λ (z : Result). (z.fevals ≡ answers_of Value es) × (z.gevals ≡ answers_of Gradient es)) (fitted_inj e) t
      go (over (ended (searched s))) t e = absurd t
      go (over (ended (differenced g))) t e = absurd t
      go (over (refused k d)) t e = absurd (ended≢refused (sym e))

  brought : (d : Dialogue (Kept R.Position)) (x : Result) → Fine d → Brings d x → (x.fevals ≡ answers_of Value d.exchanges) × (x.gevals ≡ answers_of Gradient d.exchanges)
  brought d x h m = result_tally d.exchanges x d.record_now (subst (λ (y : Reply). Tallied d.exchanges y d.record_now) (h.outcomes x m) h.tallied)

  pub counted : Counted R
  counted = record {
    last = λ f l. ap (λ (r : Kept R.Position). r.last) (sym (fine f l).tallied.record_is);
    values = λ f l. ap (λ (r : Kept R.Position). r.values) (sym (fine f l).tallied.record_is);
    gradients = λ f l. ap (λ (r : Kept R.Position). r.gradients) (sym (fine f l).tallied.record_is);
    fevals = λ f l r m. (brought (run (engine R) f l) r (fine f l) m).0;
    gevals = λ f l r m. (brought (run (engine R) f l) r (fine f l) m).1;
  }
