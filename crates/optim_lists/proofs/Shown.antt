-- `point` and `slopes` hold what the reply speaks of, after every answer and every start: `lists_show`. Assumes nothing.
use Prim.Native.Nat.{ℕ}
use mathlib.Core.Path.{◌≡◌, refl, sym, ap, ◌∙◌, subst}
use mathlib.Core.Bool.{Bool, true, false, not, cond}
use mathlib.Core.List.{List}
use lib.Dec.{eqb, ltb}
use lib.ListN.{length}
use lib.Ieee.{Float}
use Rattle.vector.specs.Points.{from_slice_of, all_finite_of}
use Rattle.protocol.specs.declared.Said.{Said}
use Rattle.protocol.specs.declared.Said.TheVariants.{Ask, Fitted, Searched, Differenced, Refused}
use Rattle.protocol.specs.declared.SimplexOptions.{SimplexOptions}
use Rattle.protocol.specs.declared.GradientOptions.{GradientOptions}
use Rattle.protocol.specs.declared.WolfeOptions.{WolfeOptions}
use Rattle.protocol.specs.declared.Allowances.{Allowances}
use Rattle.protocol.specs.Protocol.{Reply, reply_of}
use Rattle.linesearch_trials.specs.Start.{line_from_of, line_refusal_of}
use Rattle.optim_record.specs.declared.Record.{Record}
use Rattle.optim_record.specs.Record.{blank_of}
use Rattle.optim_reply.specs.Standing.{refused_of, standing_of}
use Rattle.optim_reply.specs.Spoken.{reply_with, spoken_of}
use Rattle.optim_reply.proofs.Says.{spoken_stands, stands_keeps}
use Rattle.optim_first_record.specs.Starts.{begun_record_of, simplex_refusal_of, simplex_record_of, search_refusal_of, search_record_of, gradient_refusal_of, gradient_record_of}
use Rattle.optim_rules.specs.Rules.{meets_of}
use Rattle.optim_start.specs.Start.{differences_of, simplex_of, search_of, gradient_of, bfgs_of, lbfgs_of}
use Rattle.optim.specs.Answer.{answer_of}
use Rattle.optim.specs.Parts.{replied_of}
use Rattle.optim.proofs.Advance.{replies}
use Rattle.optim_lists.specs.Layout as place
use Rattle.optim_lists.specs.Lists.{Lists, mark, record_of, lists_of, formed_of}
use Rattle.optim_lists.specs.Answered.{answered_of, started_of, point_with, slopes_with, point_after, slopes_after}
use Rattle.optim_lists.specs.Shown.{Shown, Shows, ListsShow}
use Rattle.optim_lists.proofs.Laws.{record_back}
use Rattle.optim_lists.proofs.Answers.{kept_next, unknown_flag, answer_replies, answer_leaves}

n_read : (l : Lists) → (record_of l).n ≡ mark l.marks place.n
unfolding record_of
n_read l = refl

-- a reply of the record that the lists are
said_shown : (s : Said) (n : ℕ) (l : Lists) (p t : List Float)
    → Shown (reply_of s n (spoken_of (record_of l)).x (spoken_of (record_of l)).g) n (point_after (reply_of s n (spoken_of (record_of l)).x (spoken_of (record_of l)).g, l) p) (slopes_after (reply_of s n (spoken_of (record_of l)).x (spoken_of (record_of l)).g, l) t)
unfolding reply_of point_with slopes_with
said_shown (Ask k κ) n l p t = refl
said_shown (Fitted s) n l p t = refl
said_shown (Searched s) n l p t = (refl, refl)
said_shown Differenced n l p t = refl
said_shown (Refused k) n l p t = tt

stands_shown : (l : Lists) → Shows ((standing_of (record_of l)).0, l)
unfolding reply_with
stands_shown l p t =
    subst (λ (y : Reply × Record). Shown y.0 (mark l.marks place.n) (point_after (y.0, l) p) (slopes_after (y.0, l) t)) (spoken_stands (record_of l))
    (subst (λ (k : ℕ). let y = reply_of (spoken_of (record_of l)).said (record_of l).n (spoken_of (record_of l)).x (spoken_of (record_of l)).g in Shown y k (point_after (y, l) p) (slopes_after (y, l) t)) (n_read l)
    (said_shown (spoken_of (record_of l)).said (record_of l).n l p t))

-- ---- answers

-- a reply that is refused, or what stands in the record
replied_shown : (l : Lists) (why : ℕ) → Shows ((replied_of (record_of l) why).0, l)
unfolding replied_of
replied_shown l why = go (eqb why 0)
  where
    go : (b : Bool) → Shows ((cond (not b) (refused_of (record_of l) why 0) (standing_of (record_of l))).0, l)
    go true = stands_shown l
    go false = λ p t. tt

module _ (l : Lists) (number kind : ℕ) (words : List Float) where
  abbrev after : Lists
  after = (answered_of l number kind words).1

  abbrev why : ℕ
  why = meets_of (record_of l) number kind (length words)

  kept_is : formed_of l ≡ true → (answer_of (record_of l) number kind words).0 ≡ (replied_of (record_of after) why).0
  kept_is e =
      ap (λ (a : Reply × Record). a.0) (sym (replies (record_of l) number kind words))
      ∙ ap (λ (r : Record). (replied_of r why).0) (sym (kept_next (record_of l) number kind words) ∙ sym (answer_leaves l number kind words e))

  answer_shown : Shows (answered_of l number kind words)
  answer_shown = go (formed_of l) refl
    where
      go : (b : Bool) → formed_of l ≡ b → Shows (answered_of l number kind words)
      go true e = subst (λ (y : Reply). Shows (y, after)) (sym (answer_replies l number kind words e ∙ kept_is e)) (replied_shown after why)
      go false e = subst Shows (sym (unknown_flag l number kind words e)) (λ p t. tt)

-- ---- starts

stands_started : (r : Record) → Shows (started_of (standing_of r))
stands_started r =
    subst (λ (q : Record). Shows ((standing_of r).0, lists_of q)) (sym (stands_keeps r)) (subst (λ (q : Record). Shows ((standing_of q).0, lists_of r)) (record_back r) (stands_shown (lists_of r)))

-- a start that meets one refusal or another hands back the blank record; else it puts what stands
refuses_or : (b : Bool) (k d : ℕ) (y : Reply × Record) → Shows (started_of y) → Shows (started_of (cond b (refused_of blank_of k d) y))
refuses_or true k d y h = λ p t. tt
refuses_or false k d y h = h

gradient_shown : (x : List Float) (o : GradientOptions) (a : Allowances) (limited : Bool) → Shows (started_of (gradient_of x o a limited))
unfolding gradient_of
gradient_shown x o a limited =
    let n = length x in
    let why = gradient_refusal_of n o a limited in
    let point = from_slice_of x n in
    refuses_or (not (eqb why.number 0)) why.number why.detail _ (refuses_or (not (all_finite_of point n)) 12 1 _ (stands_started (gradient_record_of point n o a limited)))

simplex_shown : (x : List Float) (o : SimplexOptions) (a : Allowances) → Shows (started_of (simplex_of x o a))
unfolding simplex_of
simplex_shown x o a =
    let n = length x in
    let why = simplex_refusal_of n o a in
    let point = from_slice_of x n in
    refuses_or (not (eqb why.number 0)) why.number why.detail _ (refuses_or (not (all_finite_of point n)) 12 1 _ (stands_started (simplex_record_of point n o a)))

search_shown : (x d : List Float) (f0 : Float) (g : List Float) (step : Float) (o : WolfeOptions) (gradients : Bool) → Shows (started_of (search_of x d f0 g step o gradients))
unfolding search_of
search_shown x d f0 g step o gradients =
    let n = length x in
    let why = search_refusal_of n (length d) (length g) o in
    let l = line_from_of (from_slice_of x n) (from_slice_of d n) f0 (from_slice_of g n) n in
    let none = line_refusal_of n l step in
    refuses_or (not (eqb why.number 0)) why.number why.detail _ (refuses_or (not (eqb none.number 0)) none.number none.detail _ (stands_started (search_record_of l n step o gradients)))

differences_shown : (x : List Float) → Shows (started_of (differences_of x))
unfolding differences_of
differences_shown x = refuses_or (ltb 16 (length x)) 2 0 _ (stands_started (begun_record_of x))

bfgs_shown : (x : List Float) (o : GradientOptions) (a : Allowances) → Shows (started_of (bfgs_of x o a))
unfolding bfgs_of
bfgs_shown x o a = gradient_shown x o a false

lbfgs_shown : (x : List Float) (o : GradientOptions) (a : Allowances) → Shows (started_of (lbfgs_of x o a))
unfolding lbfgs_of
lbfgs_shown x o a = gradient_shown x o a true

pub lists_show : ListsShow
lists_show =
    record {
      answer = answer_shown;
      simplex = simplex_shown;
      bfgs = bfgs_shown;
      lbfgs = lbfgs_shown;
      search = search_shown;
      differences = differences_shown;
    }
