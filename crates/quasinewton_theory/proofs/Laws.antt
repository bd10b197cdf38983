-- The gradient fits' texts satisfy the laws of rounds (`laws`): f is told for x and never rises, and no refusal ends a fit but 6, 7, 12 for x, 18 and 19 (`refusals`). Assumes
-- nothing.
use Prim.Native.Nat.{ℕ}
use native.Mathlib.Omega.{arith}
use mathlib.Core.Path.{◌≡◌, refl, sym, ◌∙◌, subst}
use mathlib.Core.Logic.{inl, inr}
use mathlib.Core.Bool.{Bool, true, false, not, ◌&&◌, ◌||◌, cond, true≢false}
use mathlib.Core.List.{List, []}
use lib.Dec.{T, eqb}
use lib.ListN.{length}
use lib.Ieee.{Float, neg, lt, le}
use borrow.Author.Tests.{not-false}
use Rattle.float.specs.Binary64.{NotAbove, plus_zero}
use Rattle.float.specs.Values.{finite_of, tolerance_of}
use Rattle.float.proofs.Order.{le→not_above}
use Rattle.float.proofs.Tests.{by_cond}
use Rattle.vector.specs.Lists.{dot, inf_norm, all_finite, difference, negation}
use Rattle.vector.proofs.First.{zip_long}
use Rattle.protocol.specs.declared.GradientOptions.{GradientOptions}
use Rattle.protocol.specs.declared.Termination.{Termination}
use Rattle.protocol.specs.declared.Termination.TheVariants.{GradientTolerance, LineSearchFailed, GradientFailed}
use Rattle.protocol.specs.Protocol.{read_of}
use Rattle.protocol.specs.Dialogue.{Exchange, F64s}
use Rattle.protocol.specs.Calls.{ends_fit, FirstRefusal, SearchRefusal}
use Rattle.protocol.specs.Ask.{Ask, finish, ask_value, ◌>>=◌, wp, Grows}
use Rattle.protocol.specs.Rounds.{Ending, at_head, stops, fails, Verdict, go_on, stop, restart}
use Rattle.protocol.specs.RoundsLaws.{Known, Own, Begins, EndsAs, OpensAs, Opening}
use Rattle.protocol.proofs.Texts.{wp_bind, wp_map, wp_grows}
use Rattle.protocol.proofs.Replies.{true_T, and_right, not_above_self}
use Rattle.protocol.proofs.Verdicts.{stop≢restart, go_on≢restart, go_on≢stop, stop_inj}
use Rattle.objective.specs.Algorithm.{eval_gradient}
use Rattle.quasinewton_model_theory.specs.Algorithm.{one, InvHessian, direction, update, new_hessian}
use Rattle.linesearch_trials.specs.declared.Evaluation.{Evaluation}
use Rattle.linesearch_theory.specs.Algorithm.{WolfeResult, gives}
use Rattle.linesearch_theory.specs.Laws.{ValueTold, Heard}
use Rattle.linesearch_theory.proofs.LawsTold.{told_grows, heard_finite}
use Rattle.linesearch_theory.proofs.Laws.{search_laws}
use Rattle.quasinewton_theory.specs.Algorithm.{GradientPosition, stored, stepped, small_decrease, small_step, stops_lower, succeeded, concluded, initial_step, searched, not_descending, iterated, round, tests, with_gradient, with_value, opened, opening, begun_with, quasi_newton}
use Rattle.quasinewton_theory.specs.Laws.{ModelShaped, Admitted, GradientAtHead, RoundEnds, OpeningEnds, HeadLaws, GradientLaws, FailsBy, RefusalLaws}
use Rattle.quasinewton_theory.proofs.FirstStep.{first_step_positive, first_step_at_most_one}
use Rattle.quasinewton_theory.proofs.Steepest.{steepest_descends, negation_finite}
use Rattle.quasinewton_theory.proofs.Directions.{negation_long, negation_f64s, directions}
use Rattle.quasinewton_theory.proofs.SearchLong.{gradient_long}
use Rattle.quasinewton_theory.proofs.LawsSearch.{wp_both, Searchable, text, searched_case, Found, found}

abbrev Start : Type 0
Start = Bool × GradientOptions

abbrev Least : Start → Type 0
Least s = ⊥

abbrev At : Start → List Exchange → GradientPosition → Type 0
At s es p = GradientAtHead es p

or_left : (a b : Bool) → a || b ≡ false → a ≡ false
or_left true b e = absurd (true≢false e)
or_left false b e = refl

or_right : (a b : Bool) → a || b ≡ false → b ≡ false
or_right true b e = absurd (true≢false e)
or_right false b e = e

-- ---- how a round ends

-- told, and not above v
abbrev Lower : Float → List Exchange → List Float → Float → Type 0
Lower v es x f = ValueTold es x f × NotAbove f v

known : (es : List Exchange) (x : List Float) (f : Float) → ValueTold es x f → Known ⊥ es x f
known es x f h = (h.0, h.2, λ no. absurd no)

pub ends_fit_lem : (k d : ℕ) → SearchRefusal k d → T (ends_fit k d)
ends_fit_lem k d (inl i) = rw (i.0, i.1) tt
ends_fit_lem k d (inr (inl i)) = rw (i.0, i.1) tt
ends_fit_lem k d (inr (inr i)) = rw (i.0, i.1) tt

ends : (s : Start) (p : GradientPosition) (es : List Exchange) (e : Ending GradientPosition) → RoundEnds p es e → EndsAs quasi_newton Least At s p.f es e
ends s p es (at_head q) h = h
ends s p es (stops y q) h = (known es q.x q.f h.0, h.1, h.2)
ends s p es (fails k d) h = ends_fit_lem k d h

-- ---- after a search

shaped_stored : (n : ℕ) (h : InvHessian) (s y : List Float) → ModelShaped n h → length s ≡ n → length y ≡ n → ModelShaped n (stored h s y)
unfolding stored
shaped_stored n h s y k i j = go (lt _ (dot s y))
  where
    go : (b : Bool) → ModelShaped n (cond b (update h s y) h)
    go true = directions.update_shaped n h s y k i j
    go false = k

module _ (es : List Exchange) (p : GradientPosition) (d : List Float) (a : GradientAtHead es p) (s : Searchable p d) where
  module _ (fs : List Exchange) (t : Evaluation) (h : Found es p d a s fs t) where
    lower : Lower p.f fs t.x t.trial.value
    lower = (h.told, le→not_above t.trial.value p.f h.below)

    same : Lower p.f fs p.x p.f
    same = (told_grows es fs p.x p.f h.grows a.value_told_lem, not_above_self p.f)

    stops_lower_lem : (why : Termination) (b : Bool) → Own why → (b ≡ true → T (lt t.trial.value p.f)) → RoundEnds p fs (stops_lower why p t b)
    stops_lower_lem why true o k = (lower.0, lower.1, o, λ i. inr (k refl))
    stops_lower_lem why false o k = (same.0, same.1, o, λ i. inl (refl, refl))

    stepped_head : all_finite t.g ≡ true → GradientAtHead fs (stepped p t)
    unfolding stepped difference
    stepped_head e =
        let n = length t.x in
        let g_long : length t.g ≡ n = h.g_long ∙ sym h.x_long in
        let p_long : length p.g ≡ n = a.gradient_long ∙ sym h.x_long in
        record {
          value_told_lem = h.told;
          gradient_finite = e;
          gradient_f64s = h.f64s;
          gradient_long = g_long;
          shaped = shaped_stored n p.hess (difference t.x p.x) (difference t.g p.g) (subst (λ (k : ℕ). ModelShaped k p.hess) (sym h.x_long) a.shaped)
              (zip_long n _ t.x p.x refl (sym h.x_long)) (zip_long n _ t.g p.g g_long p_long);
          admitted = record { wolfe = a.admitted.wolfe; unknowns = λ z. a.admitted.unknowns (sym h.x_long ∙ z) };
        }

    succeeded_ok : RoundEnds p fs (succeeded p t)
    unfolding stepped
    succeeded_ok =
        by_cond (RoundEnds p fs) (not (all_finite t.g)) _ _ (λ i. stops_lower_lem GradientFailed (lt t.trial.value p.f) (λ n. n) (true_T (lt t.trial.value p.f)))
        (λ i. by_cond (RoundEnds p fs) (small_decrease p.options.ftol p.f t.trial.value) _ _ (λ j. (lower.0, lower.1, (λ n. n), λ n. absurd n))
        (λ j. by_cond (RoundEnds p fs) (small_step p.options.xtol p.x t.x) _ _ (λ k. (lower.0, lower.1, (λ n. n), λ n. absurd n))
        (λ k. (stepped_head (not-false (all_finite t.g) i), lower.1))))

  concluded_ok : (fs : List Exchange) (r : WolfeResult) → Found es p d a s fs r.at → RoundEnds p fs (concluded p (gives r))
  concluded_ok fs r h =
      by_cond (RoundEnds p fs) r.success _ _ (λ i. succeeded_ok fs r.at h)
      (λ i.
      let less = lt r.at.trial.value p.f in
      stops_lower_lem fs r.at h LineSearchFailed (lt plus_zero r.at.trial.step && less) (λ n. n) (λ j. true_T less (and_right (lt plus_zero r.at.trial.step) less j)))

  searched_ok : wp es (searched p d) (RoundEnds p)
  searched_ok =
      searched_case es p d a s (λ m. wp es m (RoundEnds p)) (λ k e r. r)
      (λ some e. let m = text es p d a s in
      wp_bind es m (λ r. finish (concluded p (gives r))) (RoundEnds p)
      (wp_map es m (λ fs r. Found es p d a s fs r.at) (λ fs r. RoundEnds p fs (concluded p (gives r))) concluded_ok (found es p d a s e)))

  searched_begins : Begins (searched p d)
  searched_begins =
      searched_case es p d a s Begins (λ k e r. tt)
      (λ some e. search_laws.begins read_of p.options.gradients p.options.wolfe _ (initial_step p.first d) (λ r. finish (concluded p (gives r))) some)

-- ---- a round

iterated_head : (es : List Exchange) (p : GradientPosition) → GradientAtHead es p → GradientAtHead es (iterated p)
iterated_head es p a =
    record {
      value_told_lem = a.value_told_lem;
      gradient_finite = a.gradient_finite;
      gradient_f64s = a.gradient_f64s;
      gradient_long = a.gradient_long;
      shaped = a.shaped;
      admitted = a.admitted;
    }

steepest : (g : List Float) → not_descending (neg (dot g g)) ≡ false → le plus_zero (dot g (negation g)) ≡ false
unfolding not_descending
steepest g e = steepest_descends g (or_left (le plus_zero (neg (dot g g))) (not (finite_of (neg (dot g g)))) e)

-- what holds of a stop, and of each search along a direction that may be searched along, holds of the round
round_case : (P : Ask (Ending GradientPosition) → Type 0) (es : List Exchange) (p : GradientPosition) → GradientAtHead es p → P (finish (stops LineSearchFailed (iterated p)))
    → ((d : List Float) → Searchable (iterated p) d → P (searched (iterated p) d)) → P (round p)
unfolding not_descending
round_case P es p a h k =
    let d = direction p.hess p.g in
    by_cond P (not_descending (dot p.g d) || not (all_finite d)) _ _
    (λ i. by_cond P (not_descending (neg (dot p.g p.g))) _ _ (λ j. h)
    (λ j. k _ (record {
      long = negation_long (length p.x) p.g a.gradient_long;
      finite = negation_finite p.g ∙ a.gradient_finite;
      f64s = negation_f64s p.g a.gradient_f64s;
      slope = steepest p.g j;
    })))
    (λ i. k _ (record {
      long = directions.long (length p.x) p.hess p.g a.shaped a.gradient_long;
      finite = not-false (all_finite d) (or_right (not_descending (dot p.g d)) (not (all_finite d)) i);
      f64s = directions.f64s p.hess p.g;
      slope = or_left (le plus_zero (dot p.g d)) (not (finite_of (dot p.g d))) (or_left (not_descending (dot p.g d)) (not (all_finite d)) i);
    }))

-- counting the iteration changes neither point nor value
iterated_ends : (p : GradientPosition) (es : List Exchange) (e : Ending GradientPosition) → RoundEnds (iterated p) es e → RoundEnds p es e
iterated_ends p es (at_head q) h = h
iterated_ends p es (stops y q) h = h
iterated_ends p es (fails k d) h = h

round_ends : (es : List Exchange) (p : GradientPosition) → GradientAtHead es p → wp es (round p) (RoundEnds p)
round_ends es p a =
    round_case (λ m. wp es m (RoundEnds p)) es p a (a.value_told_lem, not_above_self p.f, (λ n. n), λ i. inl (refl, refl))
    (λ d s. wp_map es (searched (iterated p) d) (RoundEnds (iterated p)) (RoundEnds p) (iterated_ends p) (searched_ok es (iterated p) d (iterated_head es p a) s))

round_begins : (es : List Exchange) (p : GradientPosition) → GradientAtHead es p → Begins (round p)
round_begins es p a = round_case Begins es p a tt (λ d i. searched_begins es (iterated p) d (iterated_head es p a) i)

round_law : (s : Start) (es : List Exchange) (p : GradientPosition) → GradientAtHead es p → Begins (round p) × wp es (round p) (EndsAs quasi_newton Least At s p.f)
round_law s es p a = (
  round_begins es p a,
  wp_map es (round p) (RoundEnds p) (EndsAs quasi_newton Least At s p.f) (ends s p) (round_ends es p a),
)

-- ---- the opening

-- the position at the first head
abbrev begun : Bool → GradientOptions → List Float → Float → List Float → GradientPosition
begun limits o x v g = record { options = o; x = x; f = v; g = g; hess = new_hessian limits o.memory (length x); iterations = 0; first = true }

opened_case : (Q : List Exchange → Ending GradientPosition → Type 0) (limits : Bool) (o : GradientOptions) (x : List Float) → ((fs : List Exchange) → Q fs (fails 18 0))
    → ((fs : List Exchange) → Q fs (fails 19 0))
    → ((fs : List Exchange) (v : Float) (g : List Float) → ValueTold fs x v → F64s g → length g ≡ length x → all_finite g ≡ true → Q fs (at_head (begun limits o x v g)))
    → wp [] (opened limits o x) Q
opened_case Q limits o x q18 q19 q =
    wp_bind [] (ask_value read_of x) (with_value limits o x) Q
    (wp_map [] (ask_value read_of x) (Heard x) (λ fs v. wp fs (with_value limits o x v) Q)
    (λ fs v h. by_cond (λ m. wp fs m Q) (not (finite_of v)) _ _ (λ i. q18 fs)
    (λ i.
    let m = eval_gradient read_of o.gradients x in
    let told = heard_finite fs x v h (true_T (finite_of v) (not-false (finite_of v) i)) in
    wp_bind fs m (λ g. finish (with_gradient limits o x v g)) Q
    (wp_map fs m (λ gs g. Grows fs gs × (F64s g × (length g ≡ length x))) (λ gs g. Q gs (with_gradient limits o x v g))
    (λ gs g k. by_cond (Q gs) (not (all_finite g)) _ _ (λ j. q19 gs) (λ j. q gs v g (told_grows fs gs x v k.0 told) k.1.0 k.1.1 (not-false (all_finite g) j)))
    (wp_grows fs m _ (wp_both fs m (λ gs g. F64s g) (λ gs g. length g ≡ length x) (search_laws.evaluations.gradient_f64s read_of o.gradients x fs) (gradient_long read_of o.gradients x fs))))))
    (search_laws.evaluations.value_heard x []))

-- what holds of a refusal, and of the opening that asks, holds of the opening
pub opening_case : (P : Ask (Ending GradientPosition) → Type 0) (limits : Bool) (o : GradientOptions) (x : List Float) → ((k d : ℕ) → P (finish (fails k d)))
    → (Admitted o x → P (opened limits o x)) → P (opening limits o x)
opening_case P limits o x p q =
    gate (limits && eqb o.memory 0) 3 0 _
    (λ e3. gate (not (tolerance_of o.gradtol)) 4 1 _
    (λ e4. gate (not (tolerance_of o.ftol)) 4 2 _
    (λ e5. gate (not (tolerance_of o.xtol)) 4 3 _
    (λ e6. gate (not wolfe) 5 1 _
    (λ e7. gate (eqb (length x) 0) 9 0 _
    (λ e9. gate (not (all_finite x)) 12 1 (opened limits o x) (λ e12. q (record { wolfe = not-false wolfe e7; unknowns = λ z. subst T (subst (λ (k : ℕ). eqb k 0 ≡ false) z e9) tt }))))))))
  where
    wolfe : Bool
    wolfe = lt plus_zero o.wolfe.c1 && lt o.wolfe.c1 o.wolfe.c2 && lt o.wolfe.c2 one

    gate : (b : Bool) (k d : ℕ) (m : Ask (Ending GradientPosition)) → (b ≡ false → P m) → P (cond b (finish (fails k d)) m)
    gate true k d m h = p k d
    gate false k d m h = h refl

opening_ends : (limits : Bool) (o : GradientOptions) (x : List Float) → Admitted o x → wp [] (opened limits o x) OpeningEnds
opening_ends limits o x a =
    opened_case OpeningEnds limits o x (λ fs. inl (refl, refl)) (λ fs. inr (refl, refl))
    (λ fs v g t w l e.
    record { value_told_lem = t; gradient_finite = e; gradient_f64s = w; gradient_long = l; shaped = directions.new_shaped limits o.memory (length x); admitted = a })

pub first_ends_fit : (k d : ℕ) → FirstRefusal k d → T (ends_fit k d)
first_ends_fit k d (inl i) = rw (i.0, i.1) tt
first_ends_fit k d (inr i) = rw (i.0, i.1) tt

opens : (s : Start) (es : List Exchange) (e : Ending GradientPosition) → OpeningEnds es e → OpensAs quasi_newton Least At s es e
opens s es (at_head p) h = h
opens s es (stops y p) h = absurd h
opens s es (fails k d) h = first_ends_fit k d h

asks_first : (s : Start) (x : List Float) (f : Float → Ask (Ending GradientPosition)) → wp [] (ask_value read_of x >>= f) (OpensAs quasi_newton Least At s)
    → Opening quasi_newton Least At s (ask_value read_of x >>= f)
unfolding ◌>>=◌
asks_first s x f h = h

opening_law : (s : Start) (x : List Float) → Opening quasi_newton Least At s (opening s.0 (begun_with s.0 s.1) x)
opening_law s x =
    let o = begun_with s.0 s.1 in
    opening_case (Opening quasi_newton Least At s) s.0 o x (λ k d. tt)
    (λ a. asks_first s x (with_value s.0 o x)
    (wp_map [] (opened s.0 o x) OpeningEnds (OpensAs quasi_newton Least At s) (opens s) (opening_ends s.0 o x a)))

-- ---- the tests

tests_case : (P : Verdict GradientPosition → Type 0) (p : GradientPosition) → P (stop GradientTolerance) → P go_on → P (tests p)
tests_case P p h k = go (le (inf_norm p.g) p.options.gradtol)
  where
    go : (b : Bool) → P (cond b (stop GradientTolerance) go_on)
    go true = h
    go false = k

stop_law : (p : GradientPosition) (y : Termination) → tests p ≡ stop y → Own y
stop_law p y = tests_case (λ v. v ≡ stop y → Own y) p (λ e. subst Own (stop_inj e) (λ n. n)) (λ e. absurd (go_on≢stop e))

pub no_restart : (p : GradientPosition) (m : Ask (Ending GradientPosition)) → tests p ≡ restart m → ⊥
no_restart p m = tests_case (λ v. v ≡ restart m → ⊥) p stop≢restart go_on≢restart

pub laws : GradientLaws
laws =
    record {
      At = At;
      known = λ s es p a. known es p.x p.f a.value_told_lem;
      opening_ok = opening_law;
      stop_ok = λ s es p y a e. stop_law p y e;
      restart_ok = λ s es p m a e. absurd (no_restart p m e);
      round_ok = round_law;
    }

pub heads : HeadLaws
heads = record { opening_ends = opening_ends; round_begins = round_begins; round_ends = round_ends }

-- ---- refusals

fails_by : (P : ℕ → ℕ → Type 0) → ((k d : ℕ) → SearchRefusal k d → P k d) → (p : GradientPosition) (es : List Exchange) (e : Ending GradientPosition) → RoundEnds p es e → FailsBy P es e
fails_by P f p es (at_head q) h = tt
fails_by P f p es (stops y q) h = tt
fails_by P f p es (fails k d) h = f k d h

in_rounds : (P : ℕ → ℕ → Type 0) → ((k d : ℕ) → SearchRefusal k d → P k d) → (es : List Exchange) (p : GradientPosition) → GradientAtHead es p → wp es (round p) (FailsBy P)
in_rounds P f es p a = wp_map es (round p) (RoundEnds p) (FailsBy P) (fails_by P f p) (round_ends es p a)

never : (n : ℕ) → (6 ≡ n → ⊥) → (7 ≡ n → ⊥) → (12 ≡ n → ⊥) → (k d : ℕ) → SearchRefusal k d → k ≡ n → ⊥
never n a b c k d (inl i) e = a (sym i.0 ∙ e)
never n a b c k d (inr (inl i)) e = b (sym i.0 ∙ e)
never n a b c k d (inr (inr i)) e = c (sym i.0 ∙ e)

pub refusals : RefusalLaws
refusals =
    record {
      in_rounds = in_rounds SearchRefusal (λ k d h. h);
      in_opening = λ limits o x. opened_case (FailsBy FirstRefusal) limits o x (λ fs. inl (refl, refl)) (λ fs. inr (refl, refl)) (λ fs v g t w l e. tt);
      first_step_positive = first_step_positive;
      first_step_at_most_one = first_step_at_most_one;
      never_13 = in_rounds (λ k d. k ≡ 13 → ⊥) (never 13 (λ e. omega arith) (λ e. omega arith) (λ e. omega arith));
      steepest_descends = steepest;
      never_14 = in_rounds (λ k d. k ≡ 14 → ⊥) (never 14 (λ e. omega arith) (λ e. omega arith) (λ e. omega arith));
    }
