-- From the head of a round to the start of its search the record does what the text does: `head_does`. Assumes nothing.
use Prim.Native.Nat.{ℕ, ◌≤◌}
use mathlib.Core.Path.{◌≡◌, refl, sym, ap, subst, ◌∙◌}
use mathlib.Core.Bool.{Bool, true, false, not, ◌&&◌, ◌||◌, cond, false≢true}
use mathlib.Core.List.{List}
use native.Mathlib.Numerals.{add-one}
use borrow.Author.Tests.{eq-eqb, lt-leb}
use lib.Dec.{leb, eqb}
use lib.Ieee.{Float, neg, lt, le}
use Rattle.float.specs.Binary64.{plus_zero}
use Rattle.float.specs.Values.{finite_of, positive_of}
use Rattle.vector.specs.Points.{negation_of, inf_norm_of}
use Rattle.vector.specs.Lists.{first, dot, negation}
use Rattle.vector.proofs.First.{point_laws, ties}
use Rattle.protocol.specs.declared.WolfeOptions.{WolfeOptions}
use Rattle.protocol.specs.declared.Refusal.{Refusal}
use Rattle.protocol.specs.declared.Termination.TheVariants.{GradientTolerance, LineSearchFailed}
use Rattle.protocol.specs.Protocol.{read_of, refusal, no_refusal}
use Rattle.protocol.specs.Claim.{Limit, limit, unlimited}
use Rattle.protocol.specs.Ask.{Ask, finish, ◌>>=◌}
use Rattle.protocol.specs.Rounds.{Ending, at_head, stops, go_on, stop, FitLimits, reached}
use Rattle.protocol.proofs.Texts.{bind_assoc}
use Rattle.quasinewton_model.specs.declared.Model.{Model}
use Rattle.quasinewton_model_theory.specs.Algorithm.{one}
use Rattle.quasinewton_model.specs.Step.{direction_of}
use Rattle.quasinewton_model_theory.specs.Ties as hessian
use Rattle.quasinewton_model_theory.proofs.Ties.{hessian_ties}
use Rattle.linesearch_trials.specs.declared.Line.{Line}
use Rattle.linesearch_trials.specs.Start.{line_from_of, options_refusal_of, counts_refusal_of, line_refusal_of}
use Rattle.linesearch_theory.specs.Algorithm.{WolfeResult, Searched, refuses, gives, wolfe_refusal, line_from, search, strong_wolfe}
use Rattle.linesearch_theory.specs.Follows as searches
use Rattle.linesearch_theory.proofs.Follows.{search_follows}
use Rattle.quasinewton_record.specs.declared.Fixed.{Fixed}
use Rattle.quasinewton_record.specs.declared.Descent.{Descent}
use Rattle.quasinewton.specs.Step as step
use Rattle.quasinewton.specs.Step.{by_gradient, by_iterations, by_fevals, in_phase, refused_by, search_fixed, initial_step_of, not_descending_of, sought_of, searched_of, steepest_of, directed_of, headed_of}
use Rattle.quasinewton_theory.specs.Algorithm.{GradientPosition, concluded, initial_step, searched, not_descending, directed, round}
use Rattle.quasinewton_theory.specs.Follows.{position_of, to_do, allowed, headed, settled, AllowsFevals, GradientAllows}

-- ---- the tests of `strong_wolfe`

-- those of the options, with `rest` after them
abbrev options_then : WolfeOptions → Refusal → Refusal
options_then o rest =
    cond (not (lt plus_zero o.c1 && lt o.c1 one)) (refusal 5 1)
    (cond (not (lt o.c1 o.c2 && lt o.c2 one)) (refusal 5 2)
    (cond (eqb o.evals 0) (refusal 6 0)
    (cond (not (positive_of o.stepmax)) (refusal 7 0) rest)))

abbrev options_by : (a b c d e f : Bool) → Refusal
options_by a b c d e f =
    cond (not a) (refusal 5 1) (cond (not b) (refusal 5 1) (cond (not c) (refusal 5 2) (cond (not d) (refusal 5 2) (cond e (refusal 6 0) (cond (not f) (refusal 7 0) no_refusal)))))

-- a refusal, or else the next
abbrev or_else : Refusal → Refusal → Refusal
or_else r rest = cond (not (eqb r.number 0)) r rest

options_then_lem : (o : WolfeOptions) (rest : Refusal) → options_then o rest ≡ or_else (options_refusal_of o) rest
unfolding options_refusal_of
options_then_lem o rest = go (lt plus_zero o.c1) (lt o.c1 one) (lt o.c1 o.c2) (lt o.c2 one) (eqb o.evals 0) (positive_of o.stepmax)
  where
    go : (a b c d e f : Bool)
        → cond (not (a && b)) (refusal 5 1) (cond (not (c && d)) (refusal 5 2) (cond e (refusal 6 0) (cond (not f) (refusal 7 0) rest)))
        ≡ or_else (options_by a b c d e f) rest
    go false b c d e f = refl
    go true false c d e f = refl
    go true true false d e f = refl
    go true true true false e f = refl
    go true true true true true f = refl
    go true true true true false false = refl
    go true true true true false true = refl

counts_then : (n : ℕ) (rest : Refusal) → cond (eqb n 0) (refusal 9 0) rest ≡ or_else (counts_refusal_of n n n) rest
unfolding counts_refusal_of
counts_then n rest = rw (eq-eqb n n refl) (go (eqb n 0))
  where
    go : (b : Bool) → cond b (refusal 9 0) rest ≡ or_else (cond b (refusal 9 0) no_refusal) rest
    go true = refl
    go false = refl

-- a refusal of the options leaves no search without a trial
pub options_allow : (o : WolfeOptions) → eqb (options_refusal_of o).number 0 ≡ true → eqb o.evals 0 ≡ false
unfolding options_refusal_of
options_allow o = go (lt plus_zero o.c1) (lt o.c1 one) (lt o.c1 o.c2) (lt o.c2 one) (eqb o.evals 0) (positive_of o.stepmax)
  where
    go : (a b c d e f : Bool) → eqb (options_by a b c d e f).number 0 ≡ true → e ≡ false
    go false b c d e f h = absurd (false≢true h)
    go true false c d e f h = absurd (false≢true h)
    go true true false d e f h = absurd (false≢true h)
    go true true true false e f h = absurd (false≢true h)
    go true true true true true f h = absurd (false≢true h)
    go true true true true false f h = refl

not_descending_is : (s : Float) → not_descending s ≡ not_descending_of s
unfolding not_descending not_descending_of
not_descending_is s = go (le plus_zero s)
  where
    go : (b : Bool) → b || not (finite_of s) ≡ cond b true (not (finite_of s))
    go true = refl
    go false = refl

module _ (fixed : Fixed) where
  abbrev n : ℕ
  n = fixed.n

  refusal_is : (o : WolfeOptions) (x d : List Float) (f : Float) (g : List Float) (a : Float)
      → wolfe_refusal o (first n x) (first n d) f (first n g) a ≡ or_else (options_refusal_of o) (or_else (counts_refusal_of n n n) (line_refusal_of n (line_from_of x d f g n) a))
  unfolding wolfe_refusal line_refusal_of line_from_of
  refusal_is o x d f g a =
      rw (point_laws.listed n x, point_laws.listed n d, point_laws.listed n g, eq-eqb n n refl, ← ties.all_finite_lem x n, ← ties.all_finite_lem d n, ← ties.all_finite_lem g n, ← ties.dot_of_lem g d n)
      (ap (options_then o) (counts_then n (line_refusal_of n (line_from_of x d f g n) a)) ∙ options_then_lem o (or_else (counts_refusal_of n n n) (line_refusal_of n (line_from_of x d f g n) a)))

  step_is : (b : Bool) (d : List Float) → initial_step b (first n d) ≡ initial_step_of b d n
  unfolding initial_step initial_step_of
  step_is b d = rw (ties.inf_norm_lem d n)

  line_is : (x d : List Float) (f : Float) (g : List Float) → line_from (first n x) (first n d) f (first n g) ≡ searches.lowered_line n (line_from_of x d f g n)
  unfolding line_from_of
  line_is x d f g = rw (ties.dot_of_lem g d n)

  -- ---- the search begins
  module _ (q : Descent) (m : Model) (d : List Float) where
    abbrev p : GradientPosition
    p = position_of fixed q m

    abbrev a : Float
    a = initial_step_of q.first d n

    abbrev l : Line
    l = line_from_of q.line.x d q.line.f q.line.g n

    -- the text's search
    abbrev along : Ask WolfeResult
    along = search read_of fixed.options.gradients fixed.options.wolfe (line_from p.x (first n d) p.f p.g) a

    sought_does : (along >>= λ r. finish (gives r)) >>= (λ r. finish (concluded p r)) ≡ to_do fixed (sought_of fixed q l a) m
    unfolding sought_of line_from_of ◌>>=◌
    sought_does =
        let from : Line → Ask WolfeResult = λ (k : Line). search read_of fixed.options.gradients fixed.options.wolfe k a in
        bind_assoc (from (line_from p.x (first n d) p.f p.g)) (λ r. finish (gives r)) (λ r. finish (concluded p r))
        ∙ ap (λ (k : Line). from k >>= λ r. finish (concluded p (gives r))) (line_is q.line.x d q.line.f q.line.g)
        ∙ ap (λ (t : Ask WolfeResult). t >>= λ r. finish (concluded p (gives r))) ((search_follows read_of (search_fixed fixed) l).begins a)

    -- by what the tests say
    abbrev started : Refusal → Ask Searched
    started r = cond (eqb r.number 0) (along >>= λ s. finish (gives s)) (finish (refuses r))

    abbrev started_of : Refusal → Descent
    started_of r = cond (eqb r.number 0) (sought_of fixed q l a) (refused_by q r)

    started_does : (r : Refusal) → started r >>= (λ s. finish (concluded p s)) ≡ to_do fixed (started_of r) m
    unfolding ◌>>=◌
    started_does r = go (eqb r.number 0)
      where
        go : (b : Bool)
            → cond b (along >>= λ s. finish (gives s)) (finish (refuses r)) >>= (λ s. finish (concluded p s))
            ≡ to_do fixed (cond b (sought_of fixed q l a) (refused_by q r)) m
        go true = sought_does
        go false = refl

    started_is : (r s t : Refusal)
        → started_of (or_else r (or_else s t))
        ≡ cond (not (eqb r.number 0)) (refused_by q r) (cond (not (eqb s.number 0)) (refused_by q s) (cond (not (eqb t.number 0)) (refused_by q t) (sought_of fixed q l a)))
    started_is r s t = go (eqb r.number 0) refl (eqb s.number 0) refl
      where
        last : (b : Bool) → cond b (sought_of fixed q l a) (refused_by q t) ≡ cond (not b) (refused_by q t) (sought_of fixed q l a)
        last true = refl
        last false = refl

        go : (b : Bool) → eqb r.number 0 ≡ b → (c : Bool) → eqb s.number 0 ≡ c
            → started_of (cond (not b) r (cond (not c) s t)) ≡ cond (not b) (refused_by q r) (cond (not c) (refused_by q s) (cond (not (eqb t.number 0)) (refused_by q t) (sought_of fixed q l a)))
        go false e c f = rw e
        go true e false f = rw f
        go true e true f = last (eqb t.number 0)

    searched_does : searched p (first n d) ≡ to_do fixed (searched_of fixed q d) m
    unfolding searched_of strong_wolfe
    searched_does =
        let o = fixed.options.wolfe in
        rw (step_is q.first d, refusal_is o q.line.x d q.line.f q.line.g a)
        (started_does (or_else (options_refusal_of o) (or_else (counts_refusal_of n n n) (line_refusal_of n l a)))
        ∙ ap (λ (w : Descent). to_do fixed w m) (started_is (options_refusal_of o) (counts_refusal_of n n n) (line_refusal_of n l a)))

  -- ---- its direction
  module _ (m : Model) where
    -- the text k and the record w have the same to do
    record Does (k : Ask (Ending GradientPosition)) (w : Descent) : Type 0 where
      does : k ≡ to_do fixed w m

    choice : {b c : Bool} → b ≡ c → {i j : Ask (Ending GradientPosition)} {u w : Descent} → Does i u → Does j w → Does (cond b i j) (cond c u w)
    choice {b} {c} e {i} {j} {u} {w} x y = subst (λ (d : Bool). Does (cond b i j) (cond d u w)) e (go b)
      where
        go : (d : Bool) → Does (cond d i j) (cond d u w)
        go true = x
        go false = y

    either : (a : Bool) {b c : Bool} → b ≡ c → {i j : Ask (Ending GradientPosition)} {u w : Descent} → Does i u → Does j w → Does (cond (a || b) i j) (cond a u (cond c u w))
    either true e x y = x
    either false e x y = choice e x y

    either_by : {a d b c : Bool} → a ≡ d → b ≡ c → {i j : Ask (Ending GradientPosition)} {u w : Descent} → Does i u → Does j w → Does (cond (a || b) i j) (cond d u (cond c u w))
    either_by {a} {d} {b} {c} h e {i} {j} {u} {w} x y = subst (λ (z : Bool). Does (cond (a || b) i j) (cond z u (cond c u w))) h (either a e x y)

    steepest_does : (q : Descent) → Does
        (cond (not_descending (neg (dot (first n q.line.g) (first n q.line.g)))) (finish (stops LineSearchFailed (position_of fixed q m))) (searched (position_of fixed q m) (negation (first n q.line.g))))
        (steepest_of fixed q)
    unfolding steepest_of
    steepest_does q =
        choice (not_descending_is (neg (dot (first n q.line.g) (first n q.line.g))) ∙ ap (λ (s : Float). not_descending_of (neg s)) (sym (ties.dot_of_lem q.line.g q.line.g n)))
        (record { does = refl })
        (record { does = ap (searched (position_of fixed q m)) (sym (ties.negation_of_lem q.line.g n)) ∙ searched_does q m (negation_of q.line.g n) })

    directed_does : (q : Descent) (d : List Float) → Does (directed (position_of fixed q m) (first n d)) (directed_of fixed q d)
    unfolding directed_of
    directed_does q d =
        either_by (not_descending_is (dot (first n q.line.g) (first n d)) ∙ ap not_descending_of (sym (ties.dot_of_lem q.line.g d n))) (ap not (sym (ties.all_finite_lem d n)))
        (steepest_does q) (record { does = searched_does q m d })

    -- ---- the head
    module _ (small : n ≤ 16) (sized : hessian.ModelSized m) (q : Descent) (k : FitLimits) (v : ℕ) (allows : GradientAllows fixed k v) where
      abbrev here : GradientPosition
      here = position_of fixed q m

      abbrev way : List Float
      way = direction_of m q.line.g n

      round_does : round here ≡ to_do fixed (directed_of fixed (step.iterated q) way) m
      round_does = rw (← (hessian_ties n small).direction_of_lem m q.line.g sized, ← add-one q.rounds) (directed_does (step.iterated q) way).does

      by_limits : (b c : Bool) → allowed b c here ≡ to_do fixed (cond b (in_phase q by_iterations) (cond c (in_phase q by_fevals) (directed_of fixed (step.iterated q) way))) m
      by_limits true c = refl
      by_limits false true = refl
      by_limits false false = round_does

      full_by : (z : Limit) → AllowsFevals z fixed.fevals v → reached v z ≡ leb fixed.fevals v
      full_by (limit j) h = ap (λ (i : ℕ). leb i v) h
      full_by unlimited h = sym (lt-leb _ _ h)

      by_tests : (b : Bool)
          → headed k v (cond b (stop GradientTolerance) go_on) here
          ≡ to_do fixed
          (cond b (in_phase q by_gradient) (cond (leb fixed.iter q.rounds) (in_phase q by_iterations) (cond (leb fixed.fevals v) (in_phase q by_fevals) (directed_of fixed (step.iterated q) way))))
          m
      by_tests true = refl
      by_tests false = rw (allows.iter, full_by k.fevals allows.fevals) (by_limits (leb fixed.iter q.rounds) (leb fixed.fevals v))

      pub head_does : settled k v (finish (at_head here)) ≡ to_do fixed (headed_of fixed q m v) m
      unfolding headed_of
      head_does = rw (← ties.inf_norm_lem q.line.g n) (by_tests (le (inf_norm_of q.line.g n) fixed.options.gradtol))
