-- After an accepted answer a record of a gradient fit has the rest of its text to do, and stays sound and within its bounds: `next_as`, `made_sound`, `made_rest`, `made_within`. Assumes nothing.
use Prim.Native.Nat.{ℕ, ◌+◌, ◌≤◌, ◌<◌}
use native.Mathlib.Nat.{add-zero, le_trans}
use native.Mathlib.Omega.{arith}
use mathlib.Core.Path.{◌≡◌, refl, sym, ◌∙◌, ap, subst}
use mathlib.Core.Bool.{Bool, true, false, not, cond, true≢false}
use mathlib.Core.List.{List}
use lib.Dec.{eqb}
use lib.ListN.{length, get_or}
use lib.Ieee.{Float, nan}
use Rattle.vector.specs.Lists.{first}
use Rattle.vector.specs.Points.{from_slice_of}
use Rattle.protocol.specs.declared.Kind.{Kind}
use Rattle.protocol.specs.declared.Kind.TheVariants.{Value, Gradient}
use Rattle.protocol.specs.Protocol.{read_of}
use Rattle.protocol.specs.Dialogue.{of_kind}
use Rattle.protocol.specs.Claim.{Limit, limit, unlimited}
use Rattle.protocol.specs.Ask.{query}
use Rattle.protocol.specs.Bounds.{of_both}
use Rattle.protocol.proofs.Bounds as bounds
use Rattle.linesearch_trials.specs.declared.Evaluation.{Evaluation}
use Rattle.linesearch.specs.Step as linesearch
use Rattle.quasinewton_model.specs.declared.Model.{Model}
use Rattle.quasinewton_model.specs.Step.{limited_update_of, dense_update_of, update_of}
use Rattle.quasinewton_record.specs.declared.Descent.{Descent}
use Rattle.quasinewton_record.specs.declared.Fixed.{Fixed}
use Rattle.quasinewton.specs.Step as step
use Rattle.quasinewton.specs.Step.{probe_of, asks_of, stores_of, small_decrease_of, small_step_of, Moved, stored_of, succeeded_of, settled_of, told_of, told_gradient_of}
use Rattle.vector.specs.Points.{difference_of, all_finite_of}
use Rattle.quasinewton_theory.specs.Follows.{to_do, wants_gradient, kind_of, heard_of, settled, AllowsFevals, GradientAllows, DescentShaped}
use Rattle.quasinewton_theory.proofs.Follows.{gradient_follows}
use Rattle.optim_record.specs.declared.Record.{Record}
use Rattle.optim_record.specs.Record.{no_limit, gradient_fixed_of}
use Rattle.optim_reply.specs.Standing.{gradient_due_of}
use Rattle.optim.specs.Answer.{stepped_of, graded_of}
use Rattle.optim_theory.proofs.Refusals.{Named, settled_named, told_named, told_gradient_named}
use Rattle.optim_theory.proofs.Replies.{no_simplex, no_search}
use Rattle.optim_theory.proofs.DescentRelated.{rest_of, NoPairs, Sound, Low, asks, due_as}
use Rattle.optim_theory.proofs.DescentBounds.{Budget, bounding, bound_low, Within, settled_keeps}

-- ---- the model of a record that has gone on

no_pairs_kept : (m : Model) (s y : List Float) (n : ℕ) → NoPairs m → NoPairs (update_of m s y n)
unfolding update_of
no_pairs_kept m s y n h = go m.limited refl
  where
    z : Bool → Model
    z b =
        cond b (record { limited = m.limited; memory = m.memory; dense = m.dense; pairs = limited_update_of m.pairs m.memory s y n })
        (record { limited = m.limited; memory = m.memory; dense = dense_update_of m.dense s y n; pairs = m.pairs })

    go : (b : Bool) → m.limited ≡ b → NoPairs (z b)
    go true e = record { memory = λ i. absurd (true≢false (sym e ∙ i)); count = λ i. absurd (true≢false (sym e ∙ i)) }
    go false e = record { memory = h.memory; count = h.count }

stored_no_pairs : (fixed : Fixed) (q : Descent) (m : Model) (t : Evaluation) → NoPairs m → NoPairs (stored_of fixed q m t)
unfolding stored_of
stored_no_pairs fixed q m t h = go (stores_of s y n)
  where
    n : ℕ
    n = fixed.n

    s : List Float
    s = difference_of t.x q.line.x n

    y : List Float
    y = difference_of t.g q.line.g n

    go : (b : Bool) → NoPairs (cond b (update_of m s y n) m)
    go true = no_pairs_kept m s y n h
    go false = h

-- it is the model as it was, or with one step stored
record Models (P : Model → Type 0) (w : Moved) : Type 0 where
  holds : P w.model

either : (P : Model → Type 0) (b : Bool) {u w : Moved} → Models P u → Models P w → Models P (cond b u w)
either P true h k = h
either P false h k = k

succeeded_model : (P : Model → Type 0) (fixed : Fixed) (q : Descent) (m : Model) (t : Evaluation) (v : ℕ) → P m → P (stored_of fixed q m t) → Models P (succeeded_of fixed q m t v)
unfolding succeeded_of
succeeded_model P fixed q m t v h k =
    let o = fixed.options in
    either P (not (all_finite_of t.g fixed.n)) (record { holds = h })
    (either P (small_decrease_of o.ftol q.line.f t.trial.value) (record { holds = k })
    (either P (small_step_of o.xtol q.line.x t.x fixed.n) (record { holds = k }) (record { holds = k })))

settled_model : (P : Model → Type 0) (fixed : Fixed) (q : Descent) (m : Model) (v : ℕ) → P m → P (stored_of fixed q m q.search.best) → Models P (settled_of fixed q m v)
unfolding settled_of
settled_model P fixed q m v h k =
    either P (eqb q.phase step.at_head) (record { holds = h })
    (either P (not (eqb q.phase step.searching)) (record { holds = h })
    (either P (eqb q.search.phase linesearch.found) (succeeded_model P fixed q m q.search.best v h k)
    (either P (eqb q.search.phase linesearch.failed) (record { holds = h }) (record { holds = h }))))

heard_named : (fixed : Fixed) → 0 < fixed.n → (q : Descent) (w : List Float) → Named q → Named (heard_of fixed q w)
heard_named fixed some q w h = go (wants_gradient fixed q)
  where
    go : (b : Bool) → Named (cond b (told_gradient_of fixed q (from_slice_of w fixed.n)) (told_of fixed q (read_of (get_or w 0 nan))))
    go true = told_gradient_named fixed some q (from_slice_of w fixed.n) h
    go false = told_named fixed some q (read_of (get_or w 0 nan)) h

-- ---- the record after the words w of an answer to the open question

abbrev pub next : Record → List Float → Record
next r w = cond (gradient_due_of r) (graded_of r (from_slice_of w r.n)) (stepped_of r (get_or w 0 nan))

-- the allowance of values, as the text has it and as the record does
abbrev pub AsLimit : Limit → ℕ → Type 0
AsLimit (limit k) most = k ≡ most
AsLimit unlimited most = most ≡ no_limit

pub record Bounded (b : Budget) (r : Record) : Type 0 where
  pub iter : b.rounds ≡ r.limits.iter
  pub fevals : AsLimit b.limits.fevals r.limits.fevals
  pub evals : b.options.wolfe.evals ≤ 1000
  pub short : length b.x0 ≤ 16
  pub counts : (κ : Kind) → of_both κ r.counts.fevals r.counts.gevals ≤ (bounding κ b).bound
  pub keeps : (κ : Kind) → Within κ b (of_both κ r.counts.fevals r.counts.gevals) (rest_of r)

pub low : (b : Budget) (r : Record) → Sound r → Bounded b r → Low r
low b r S W =
    record {
      values = le_trans (W.counts Value) (bound_low Value b (omega (arith, W.iter, S.iter)) W.evals W.short);
      gradients = le_trans (W.counts Gradient) (bound_low Gradient b (omega (arith, W.iter, S.iter)) W.evals W.short);
    }

module _ (r : Record) (S : Sound r) (w : List Float) where
  abbrev fixed : Fixed
  fixed = gradient_fixed_of r

  abbrev q : Descent
  q = r.descent

  abbrev kind : Kind
  kind = kind_of fixed q

  abbrev heard : Descent
  heard = heard_of fixed q w

  abbrev made_by : ℕ → ℕ → Descent → Record
  made_by v g h =
      let m = settled_of fixed h r.model v in
      record {
        accepted = r.accepted + 1;
        job = r.job;
        n = r.n;
        counts = record { fevals = v; gevals = g };
        limits = r.limits;
        options = r.options;
        gradient = r.gradient;
        diff = r.diff;
        simplex = r.simplex;
        descent = m.descent;
        model = m.model;
      }

  abbrev pub values : ℕ
  values = r.counts.fevals + of_kind Value kind

  abbrev pub gradients : ℕ
  gradients = r.counts.gevals + of_kind Gradient kind

  abbrev pub made : Record
  made = made_by values gradients heard

  abbrev g : List Float
  g = from_slice_of w r.n

  abbrev v : Float
  v = get_or w 0 nan

  graded : graded_of r g ≡ made_by r.counts.fevals (r.counts.gevals + 1) (told_gradient_of fixed q g)
  unfolding graded_of
  graded = rw (no_search r.job S.job)

  stepped : stepped_of r v ≡ made_by (r.counts.fevals + 1) r.counts.gevals (told_of fixed q (read_of v))
  unfolding stepped_of
  stepped = rw (no_simplex r.job S.job, no_search r.job S.job, S.job)

  pub next_as : next r w ≡ made
  next_as = ap by (due_as r S) ∙ go (wants_gradient fixed q)
    where
      by : Bool → Record
      by b = cond b (graded_of r g) (stepped_of r v)

      go : (b : Bool) → by b ≡ made_by (r.counts.fevals + of_kind Value (cond b Gradient Value)) (r.counts.gevals + of_kind Gradient (cond b Gradient Value))
          (cond b (told_gradient_of fixed q g) (told_of fixed q (read_of v)))
      go true = graded ∙ ap (λ (k : ℕ). made_by k (r.counts.gevals + 1) (told_gradient_of fixed q g)) (sym (add-zero r.counts.fevals))
      go false = stepped ∙ ap (λ (k : ℕ). made_by (r.counts.fevals + 1) k (told_of fixed q (read_of v))) (sym (add-zero r.counts.gevals))

  one_more : (k : Kind) (a v g : ℕ) → a ≡ v + g → a + 1 ≡ v + of_kind Value k + (g + of_kind Gradient k)
  one_more Value a v g e = omega arith
  one_more Gradient a v g e = omega arith

  heard_shaped : DescentShaped fixed heard
  heard_shaped = (gradient_follows fixed).heard_shaped q w S.shape

  pub made_sound : Sound made
  made_sound =
      let F = gradient_follows fixed in
      let z = F.settled_shaped heard r.model values heard_shaped S.model in
      let o = F.settled_zeros heard r.model values heard_shaped S.model (F.heard_zeros q w S.shape S.zeros) S.model_zeros in
      record {
        job = S.job;
        numbers = one_more kind r.accepted r.counts.fevals r.counts.gevals S.numbers;
        shape = z.0;
        stands = F.settled_stands heard r.model values heard_shaped;
        named = settled_named fixed S.shape.positive heard r.model values (heard_named fixed S.shape.positive q w S.named);
        zeros = o.0;
        model = z.1;
        dense = (settled_model NoPairs fixed heard r.model values S.dense (stored_no_pairs fixed heard r.model heard.search.best S.dense)).holds;
        model_zeros = o.1;
        iter = S.iter;
        fevals = S.fevals;
        evals = S.evals;
        memory = S.memory;
      }

  -- ---- within the bounds

  module _ (b : Budget) (W : Bounded b r) (e : asks_of q ≡ true) where
    room : (κ : Kind) → Within κ b (of_both κ r.counts.fevals r.counts.gevals) (query kind (first r.n (probe_of fixed q)) (λ z. to_do fixed (heard_of fixed q z) r.model))
    room κ = subst (Within κ b (of_both κ r.counts.fevals r.counts.gevals)) (asks r S e) (W.keeps κ)

    count_low : (κ : Kind) → of_both κ values gradients ≤ (bounding κ b).bound
    count_low κ = subst (λ (k : ℕ). k ≤ (bounding κ b).bound) (bounds.one_more κ kind r.counts.fevals r.counts.gevals) (room κ).0

    allows : GradientAllows fixed b.limits values
    allows = record { iter = b.iter ∙ ap limit W.iter; fevals = by b.limits.fevals W.fevals }
      where
        few : values ≤ 33000000033
        few = le_trans (count_low Value) (bound_low Value b (omega (arith, W.iter, S.iter)) W.evals W.short)

        by : (l : Limit) → AsLimit l r.limits.fevals → AllowsFevals l r.limits.fevals values
        by (limit k) h = h
        by unlimited h = omega (arith, h, few)

    pub made_rest : settled b.limits values (to_do fixed heard r.model) ≡ rest_of made
    made_rest = (gradient_follows fixed).settles heard r.model b.limits values allows heard_shaped S.model

    pub made_within : Bounded b made
    made_within =
        record {
          iter = W.iter;
          fevals = W.fevals;
          evals = W.evals;
          short = W.short;
          counts = count_low;
          keeps = λ κ. subst (Within κ b (of_both κ values gradients)) made_rest
              (settled_keeps κ b values gradients (to_do fixed heard r.model)
              (subst (λ (k : ℕ). Within κ b k (to_do fixed heard r.model)) (bounds.one_more κ kind r.counts.fevals r.counts.gevals) ((room κ).1 w)));
        }
