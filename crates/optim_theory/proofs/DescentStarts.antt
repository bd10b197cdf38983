-- A start of a gradient fit gets the reply of the start of the texts, and where it is not refused their records are tied: `starts`. Assumes nothing.
use Prim.Native.Nat.{ℕ, ◌*◌, ◌≤◌, ◌<◌, zero-le}
use native.Mathlib.Omega.{arith}
use mathlib.Core.Path.{◌≡◌, refl, sym, ◌∙◌, ap, subst}
use mathlib.Core.Logic.{◌⊎◌, inl, inr}
use mathlib.Core.Bool.{Bool, true, false, not, ◌&&◌, ◌||◌, cond, true≢false}
use mathlib.Core.List.{List}
use borrow.Author.Tests.{ltb-false, eqb-false}
use lib.Dec.{eqb, ltb}
use lib.ListN.{length, replicate}
use lib.Ieee.{Float, lt}
use Rattle.float.specs.Binary64.{plus_zero}
use Rattle.float.specs.Values.{tolerance_of}
use Rattle.vector.specs.Loops.{at}
use Rattle.vector.specs.Lists.{all_finite}
use Rattle.vector.specs.Points.{from_slice_of, all_finite_of}
use Rattle.vector.proofs.First.{point_laws}
use Rattle.std.specs.Prelude.{Option, None, Some, unwrap_or}
use Rattle.protocol.specs.declared.Allowances.{Allowances}
use Rattle.protocol.specs.declared.Kind.{Kind}
use Rattle.protocol.specs.declared.Kind.TheVariants.{Value, Gradient}
use Rattle.protocol.specs.declared.GradientOptions.{GradientOptions}
use Rattle.protocol.specs.declared.Refusal.{Refusal}
use Rattle.protocol.specs.Protocol.{refusal, Reply, Job, bfgs, lbfgs, Fit}
use Rattle.protocol.specs.Dialogue.{NotRefused}
use Rattle.protocol.specs.Claim.{limit, unlimited, or_default, default_iter, default_fevals}
use Rattle.protocol.specs.Ask.{finish, ◌>>=◌}
use Rattle.protocol.specs.PastLimits.{excess, options_past, past_limits}
use Rattle.protocol.specs.Rounds.{fails, FitLimits, limits_of, put, engine}
use Rattle.protocol.specs.Bounds.{of_both}
use Rattle.protocol.specs.Fits.{map_text}
use Rattle.quasinewton_model_theory.specs.Algorithm.{one}
use Rattle.quasinewton_model.specs.Step.{new_model_of, blank_of as blank_model}
use Rattle.quasinewton_model_theory.proofs.Ties.{hessian_ties}
use Rattle.quasinewton_record.specs.declared.Fixed.{Fixed}
use Rattle.quasinewton.specs.Step.{start_of}
use Rattle.objective.specs.Step.{begun_of}
use Rattle.quasinewton_theory.specs.Algorithm.{opened, opening, begun_with}
use Rattle.quasinewton_theory.proofs.Follows.{gradient_follows}
use Rattle.optim_fits_theory.specs.Fits.{all_fits}
use Rattle.optim_record.specs.declared.Record.{Record}
use Rattle.optim_record.specs.Record.{most_allowed, most_evals, no_limit, no_options, idle_of, blank_of, gradient_fixed_of, gradient_job_of}
use Rattle.optim_reply.specs.Standing.{refused_of, standing_of}
use Rattle.optim_reply.proofs.Says.{stands_keeps}
use Rattle.optim_first_record.specs.Starts.{gradient_past_limits_of, ordered_of, no_memory_of, gradient_refusal_of, gradient_limits_of, kept_options_of, gradient_mark_of, gradient_record_of}
use Rattle.optim_start.specs.Start.{gradient_of, bfgs_of, lbfgs_of}
use Rattle.optim_theory.specs.Engine.{start_code}
use Rattle.optim_theory.proofs.Refusals.{start_named}
use Rattle.optim_theory.proofs.EngineStarts.{limit_as, whole, finite_as, decide}
use Rattle.optim_theory.proofs.DescentRelated.{Text, rest_of, NoPairs, Sound, shows}
use Rattle.optim_theory.proofs.DescentBounds.{Budget, bounding, Within}
use Rattle.optim_theory.proofs.DescentMoves.{AsLimit, Bounded}
use Rattle.optim_theory.proofs.DescentAnswers.{Texts, Relates}

-- the same reply, and records that are tied unless it is a refusal
abbrev pub Begun : Reply × Record → Reply × Texts → Type 0
Begun y z = (y.0 ≡ z.0) × (NotRefused y.0 → Relates y.1 z.1)

-- ---- the tests of a start, one after another

-- a refusal that is met, or what comes after it
abbrev put_first : FitLimits → Text → Reply × Texts
put_first l m = put all_fits l 0 0 0 (map_text inr m)

module _ (l : FitLimits) where
  -- one test
  refuse : (b c : Bool) (k d : ℕ) (why : Refusal) (y : Reply × Record) (t : Text) → b ≡ c → eqb k 0 ≡ false → (c ≡ false → Begun (decide why y) (put_first l t))
      → Begun (decide (cond b (refusal k d) why) y) (put_first l (cond c (finish (fails k d)) t))
  unfolding ◌>>=◌
  refuse b c k d why y t e z h = subst (λ (a : Bool). Begun (decide (cond a (refusal k d) why) y) (put_first l (cond c (finish (fails k d)) t))) (sym e) (go c h)
    where
      go : (a : Bool) → (a ≡ false → Begun (decide why y) (put_first l t)) → Begun (decide (cond a (refusal k d) why) y) (put_first l (cond a (finish (fails k d)) t))
      go true g = rw z (refl, λ n. absurd n)
      go false g = g refl

  -- those of refusal 2
  refuse_two : (b c : Bool) (why : Refusal) (y : Reply × Record) (t : Text) → b ≡ c → (c ≡ false → Begun (decide why y) (put_first l t))
      → Begun (decide (cond b (refusal 2 0) why) y) (put all_fits l 0 0 0 (cond c (finish (fails 2 0)) (map_text inr t)))
  refuse_two b c why y t e h =
      subst (λ (a : Bool). Begun (decide (cond a (refusal 2 0) why) y) (put all_fits l 0 0 0 (cond c (finish (fails 2 0)) (map_text inr t)))) (sym e) (go c h)
    where
      go : (a : Bool) → (a ≡ false → Begun (decide why y) (put_first l t)) → Begun (decide (cond a (refusal 2 0) why) y) (put all_fits l 0 0 0 (cond a (finish (fails 2 0)) (map_text inr t)))
      go true g = (refl, λ n. absurd n)
      go false g = g refl

  -- the last one
  refuse_point : (b c : Bool) (y : Reply × Record) (t : Text) → b ≡ c → (c ≡ true → Begun y (put_first l t))
      → Begun (cond (not b) (refused_of blank_of 12 1) y) (put_first l (cond (not c) (finish (fails 12 1)) t))
  unfolding ◌>>=◌
  refuse_point b c y t e h = subst (λ (a : Bool). Begun (cond (not a) (refused_of blank_of 12 1) y) (put_first l (cond (not c) (finish (fails 12 1)) t))) (sym e) (go c h)
    where
      go : (a : Bool) → (a ≡ true → Begun y (put_first l t)) → Begun (cond (not a) (refused_of blank_of 12 1) y) (put_first l (cond (not a) (finish (fails 12 1)) t))
      go true g = g refl
      go false g = (refl, λ n. absurd n)

-- ---- each test is that of the Algorithm

abbrev job_by : Bool → GradientOptions → Job
job_by true o = lbfgs o
job_by false o = bfgs o

module _ (limited : Bool) (o : GradientOptions) (a : Allowances) (x : List Float) where
  abbrev fit : Fit
  fit = record { job = job_by limited o; allowances = a; x0 = x }

  -- whether max_iter or max_fevals is given and past 2's limit
  abbrev iter_past : Bool
  iter_past = excess a.iter

  abbrev fevals_past : Bool
  fevals_past = excess a.fevals

  abbrev n : ℕ
  n = length x

  abbrev point : List Float
  point = from_slice_of x n

  abbrev kept : GradientOptions
  kept = begun_with limited o

  kept_as : kept_options_of o limited ≡ kept
  unfolding kept_options_of
  kept_as = go limited
    where
      go : (b : Bool) → kept_options_of o b ≡ begun_with b o
      go true = refl
      go false = refl

  past_as : gradient_past_limits_of n o a limited ≡ past_limits fit
  unfolding gradient_past_limits_of
  past_as = go (ltb 16 n) iter_past fevals_past
    where
      either : (s t : Bool) → cond s true t ≡ s || t
      either true t = refl
      either false t = refl

      alone : (s : Bool) → cond s true false ≡ s
      alone true = refl
      alone false = refl

      last : (b : Bool) → cond (ltb most_evals o.wolfe.evals) true (cond b (ltb 16 o.memory) false) ≡ options_past (job_by b o)
      last true = either (ltb most_evals o.wolfe.evals) (ltb 16 o.memory)
      last false = alone (ltb most_evals o.wolfe.evals)

      go : (p q r : Bool) → cond p true (cond q true (cond r true (cond (ltb most_evals o.wolfe.evals) true (cond limited (ltb 16 o.memory) false)))) ≡ p || (q || (r || options_past (job_by limited o)))
      go true q r = refl
      go false true r = refl
      go false false true = refl
      go false false false = last limited

  ordered_as : not (ordered_of o.wolfe) ≡ not (lt plus_zero o.wolfe.c1 && lt o.wolfe.c1 o.wolfe.c2 && lt o.wolfe.c2 one)
  unfolding ordered_of
  ordered_as = go (lt plus_zero o.wolfe.c1) (lt o.wolfe.c1 o.wolfe.c2) (lt o.wolfe.c2 one)
    where
      go : (a b c : Bool) → not (cond (not a) false (cond (not b) false c)) ≡ not (a && b && c)
      go true true c = refl
      go true false c = refl
      go false b c = refl

  memory_as : no_memory_of o limited ≡ limited && eqb kept.memory 0
  unfolding no_memory_of
  memory_as = go limited
    where
      go : (b : Bool) → cond b (eqb o.memory 0) false ≡ b && eqb (cond b o.memory 0) 0
      go true = refl
      go false = refl

  -- what is not past 2's limits
  record Few : Type 0 where
    unknowns : n ≤ 16
    iterations : iter_past ≡ false
    values : fevals_past ≡ false
    trials : o.wolfe.evals ≤ most_evals
    memory : limited ≡ true → o.memory ≤ 16

  few : past_limits fit ≡ false → Few
  few = go (ltb 16 n) refl iter_past refl fevals_past refl
    where
      last : (b : Bool) → options_past (job_by b o) ≡ false → (ltb most_evals o.wolfe.evals ≡ false) × (b ≡ true → ltb 16 o.memory ≡ false)
      last true h = by (ltb most_evals o.wolfe.evals) (ltb 16 o.memory) h
        where
          by : (s t : Bool) → s || t ≡ false → (s ≡ false) × (◌≡◌ {A = Bool} true true → t ≡ false)
          by true t z = absurd (true≢false z)
          by false t z = (refl, λ i. z)
      last false h = (h, λ i. absurd (true≢false (sym i)))

      go : (p : Bool) → ltb 16 n ≡ p → (q : Bool) → iter_past ≡ q → (r : Bool) → fevals_past ≡ r → p || (q || (r || options_past (job_by limited o))) ≡ false → Few
      go true a q b r c z = absurd (true≢false z)
      go false a true b r c z = absurd (true≢false z)
      go false a false b true c z = absurd (true≢false z)
      go false a false b false c z =
          let t = last limited z in
          record { unknowns = ltb-false 16 n a; iterations = b; values = c; trials = ltb-false most_evals o.wolfe.evals t.0; memory = λ k. ltb-false 16 o.memory (t.1 k) }

  -- ---- the first record

  abbrev first_with : GradientOptions → Record
  first_with k =
      record {
        accepted = 0;
        job = gradient_mark_of limited;
        n = n;
        counts = record { fevals = 0; gevals = 0 };
        limits = gradient_limits_of n a;
        options = no_options;
        gradient = k;
        diff = begun_of (replicate 16 plus_zero);
        simplex = idle_of;
        descent = start_of point;
        model = new_model_of limited k.memory n;
      }

  abbrev made : Record
  made = first_with kept

  made_as : gradient_record_of point n o a limited ≡ made
  unfolding gradient_record_of
  made_as = ap first_with kept_as

  abbrev fixed : Fixed
  fixed = gradient_fixed_of made

  limit_low : n ≤ 16 → (b : Option ℕ) → excess b ≡ false → unwrap_or b (200 * n) ≤ most_allowed
  limit_low h (Some k) z = ltb-false most_allowed k z
  limit_low h None z = omega arith

  fevals_low : (b : Option ℕ) → excess b ≡ false → (unwrap_or b no_limit ≡ no_limit) ⊎ (unwrap_or b no_limit ≤ most_allowed)
  fevals_low (Some k) z = inr (ltb-false most_allowed k z)
  fevals_low None z = inl refl

  marked : (b : Bool) → gradient_job_of (gradient_mark_of b) ≡ true
  unfolding gradient_job_of gradient_mark_of
  marked true = refl
  marked false = refl

  new_no_pairs : (b : Bool) (m : ℕ) → NoPairs (new_model_of b m n)
  unfolding new_model_of blank_model
  new_no_pairs true m = record { memory = λ z. absurd (true≢false z); count = λ z. absurd (true≢false z) }
  new_no_pairs false m = record { memory = λ z. refl; count = λ z. refl }

  by_memory : (P : ℕ → Type 0) → P 0 → (limited ≡ true → P o.memory) → P kept.memory
  by_memory P z h = go limited h
    where
      go : (b : Bool) → (b ≡ true → P o.memory) → P (cond b o.memory 0)
      go true g = g refl
      go false g = z

  given_memory : (P : ℕ → Type 0) → (limited ≡ true → P o.memory) → limited ≡ true → P kept.memory
  given_memory P h z = subst (λ (b : Bool). P (cond b o.memory 0)) (sym z) (h z)

  made_sound : Few → 1 ≤ n → (limited ≡ true → 0 < o.memory) → Sound made
  unfolding gradient_limits_of from_slice_of
  made_sound F above filled =
      let G = gradient_follows fixed in
      let H = hessian_ties n F.unknowns in
      record {
        job = marked limited;
        numbers = refl;
        shape = G.start_shaped point above F.unknowns (point_laws.width (at x) n F.unknowns);
        stands = G.start_stands point;
        named = start_named point;
        zeros = G.start_zeros point (λ k. point_laws.past (at x) n k);
        model = H.new_sized limited kept.memory (given_memory (λ k. 0 < k) filled) (given_memory (λ k. k ≤ 16) F.memory);
        dense = new_no_pairs limited kept.memory;
        model_zeros = H.new_zeros limited kept.memory;
        iter = limit_low F.unknowns a.iter F.iterations;
        fevals = fevals_low a.fevals F.values;
        evals = F.trials;
        memory = by_memory (λ k. k ≤ 16) zero-le F.memory;
      }

  made_rest : n ≤ 16 → rest_of made ≡ opened limited kept x
  made_rest small = (gradient_follows fixed).starts limited point small ∙ ap (opened limited kept) (whole x)

  -- ---- its bounds

  iter_as : (limits_of fit).iter ≡ limit made.limits.iter
  unfolding gradient_limits_of
  iter_as = go limited a.iter
    where
      go : (b : Bool) (c : Option ℕ) → or_default c (default_iter (job_by b o) n) ≡ limit (unwrap_or c (200 * n))
      go true = limit_as (200 * n)
      go false = limit_as (200 * n)

  fevals_as : AsLimit (limits_of fit).fevals made.limits.fevals
  unfolding gradient_limits_of
  fevals_as = go limited a.fevals
    where
      none_as : (c : Option ℕ) → AsLimit (or_default c unlimited) (unwrap_or c no_limit)
      none_as None = refl
      none_as (Some k) = refl

      go : (b : Bool) (c : Option ℕ) → AsLimit (or_default c (default_fevals (job_by b o) n)) (unwrap_or c no_limit)
      go true = none_as
      go false = none_as

  abbrev budget : Budget
  budget = record { limited = limited; options = o; x0 = x; limits = limits_of fit; rounds = made.limits.iter; iter = iter_as }

  made_bounded : Few → opening limited kept x ≡ opened limited kept x → Bounded budget made
  made_bounded F opens =
      record {
        iter = refl;
        fevals = fevals_as;
        evals = F.trials;
        short = F.unknowns;
        counts = λ κ. none κ;
        keeps = λ κ. subst (Within κ budget (of_both κ 0 0)) (opens ∙ sym (made_rest F.unknowns)) (first κ);
      }
    where
      none : (κ : Kind) → of_both κ 0 0 ≤ (bounding κ budget).bound
      none Value = zero-le
      none Gradient = zero-le

      first : (κ : Kind) → Within κ budget (of_both κ 0 0) (opening limited kept x)
      first Value = (bounding Value budget).laws.opening_keeps
      first Gradient = (bounding Gradient budget).laws.opening_keeps

  begins : Few → 1 ≤ n → (limited ≡ true → 0 < o.memory) → opening limited kept x ≡ opened limited kept x
      → Begun (standing_of (gradient_record_of point n o a limited)) (put_first (limits_of fit) (opened limited kept x))
  begins F above filled opens =
      subst (λ (r : Record). Begun (standing_of r) (put_first (limits_of fit) (opened limited kept x))) (sym made_as)
      (subst (λ (m : Text). Begun (standing_of made) (put_first (limits_of fit) m)) (made_rest F.unknowns) (
        shows made S (limits_of fit),
        λ z. subst (λ (r : Record). Relates r (put_first (limits_of fit) (rest_of made)).1) (sym (stands_keeps made)) (record { budget = budget; sound = S; bounded = made_bounded F opens; is = refl }),
      ))
    where
      S : Sound made
      S = made_sound F above filled

  gradient_starts : Begun (gradient_of x o a limited) ((engine all_fits).start fit)
  unfolding gradient_of gradient_refusal_of
  gradient_starts =
      by_job
      (refuse_two l (gradient_past_limits_of n o a limited) (past_limits fit) _ _ (opening limited kept x) past_as (λ past.
      refuse l (no_memory_of o limited) (limited && eqb kept.memory 0) 3 0 _ _ _ memory_as refl (λ memory.
      refuse l (not (tolerance_of o.gradtol)) (not (tolerance_of o.gradtol)) 4 1 _ _ _ refl refl (λ gtol.
      refuse l (not (tolerance_of o.ftol)) (not (tolerance_of o.ftol)) 4 2 _ _ _ refl refl (λ ftol.
      refuse l (not (tolerance_of o.xtol)) (not (tolerance_of o.xtol)) 4 3 _ _ _ refl refl (λ xtol.
      refuse l (not (ordered_of o.wolfe)) _ 5 1 _ _ _ ordered_as refl (λ ordered.
      refuse l (eqb n 0) (eqb n 0) 9 0 (refusal 0 0) _ _ refl refl (λ unknowns.
      refuse_point l (all_finite_of point n) (all_finite x) _ _ (finite_as x) (λ finite.
      begins (few past) (above n (eqb-false n 0 unknowns)) (filled memory) (rw (memory, gtol, ftol, xtol, ordered, unknowns, finite)))))))))))
    where
      l : FitLimits
      l = limits_of fit

      above : (k : ℕ) → (k ≡ 0 → ⊥) → 1 ≤ k
      above k d = omega arith

      filled : limited && eqb kept.memory 0 ≡ false → limited ≡ true → 0 < o.memory
      filled h z = above o.memory (eqb-false o.memory 0 (subst (λ (b : Bool). b && eqb (cond b o.memory 0) 0 ≡ false) z h))

      by_job : Begun (gradient_of x o a limited) (put all_fits l 0 0 0 (cond (past_limits fit) (finish (fails 2 0)) (map_text inr (opening limited kept x))))
          → Begun (gradient_of x o a limited) ((engine all_fits).start fit)
      by_job h = go limited h
        where
          go : (b : Bool)
              → Begun (gradient_of x o a limited) (put all_fits l 0 0 0 (cond (past_limits fit) (finish (fails 2 0)) (map_text inr (opening b (begun_with b o) x))))
              → Begun (gradient_of x o a limited) (put all_fits l 0 0 0 (cond (past_limits fit) (finish (fails 2 0)) (all_fits.opening (job_by b o) x)))
          go true h = h
          go false h = h

-- ---- both fits

pub bfgs_starts : (o : GradientOptions) (a : Allowances) (x : List Float) → let f : Fit = record { job = bfgs o; allowances = a; x0 = x } in Begun (start_code f) ((engine all_fits).start f)
unfolding bfgs_of
bfgs_starts o a x = gradient_starts false o a x

pub lbfgs_starts : (o : GradientOptions) (a : Allowances) (x : List Float) → let f : Fit = record { job = lbfgs o; allowances = a; x0 = x } in Begun (start_code f) ((engine all_fits).start f)
unfolding lbfgs_of
lbfgs_starts o a x = gradient_starts true o a x
