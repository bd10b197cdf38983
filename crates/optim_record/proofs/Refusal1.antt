-- The tests of `valid` refuse exactly 01's list: `refuses_exactly`, and for each job what suffices (`simplex_valid` and the like). Assumes nothing.
use Prim.Native.Nat.{◌≤◌, ◌<◌}
use native.Mathlib.Omega.{arith}
use mathlib.Core.Path.{◌≡◌, refl, sym, ◌∙◌}
use mathlib.Core.Bool.{Bool, true, false, cond, true≢false}
use mathlib.Core.Logic.{inl, inr, ⊎_elim}
use mathlib.Core.List.{[], ◌∷◌}
use lib.Dec.{eqb, leb}
use borrow.Author.Tests.{leb-true, eqb-true, le-leb, eq-eqb, ne_eqb}
use Rattle.optim_record.specs.declared.Record.{Record}
use Rattle.optim_record.specs.Record.{gradient_job_of, valid_simplex_of, valid_search_of, valid_descent_of, valid_part_of, valid_of}
use Rattle.protocol.specs.Protocol.{simplex_mark, bfgs_mark, lbfgs_mark, search_mark, differences_mark}
use Rattle.optim_record.specs.Refusal1.{Descends, Searches, OneOf, InRange, RefusesExactly}
use Rattle.optim_record.proofs.Refusal1Parts.{SimplexPart, SearchPart, BarePart, DescentPart, Common, simplex_part, bare_part, descent_part, whole}

-- ---- by the job

module _ (r : Record) where
  at_simplex : r.job ≡ simplex_mark → valid_part_of r ≡ valid_simplex_of r
  unfolding valid_part_of
  at_simplex j = rw (eq-eqb r.job simplex_mark j)

  at_search : r.job ≡ search_mark → valid_part_of r ≡ valid_search_of r
  unfolding valid_part_of
  at_search j = rw (ne_eqb r.job simplex_mark (λ e. omega arith), eq-eqb r.job search_mark j)

  at_descent : Descends r → valid_part_of r ≡ valid_descent_of r
  unfolding valid_part_of gradient_job_of
  at_descent (inl j) = rw (ne_eqb r.job simplex_mark (λ e. omega arith), ne_eqb r.job search_mark (λ e. omega arith), eq-eqb r.job bfgs_mark j)
  at_descent (inr j) =
      rw (ne_eqb r.job simplex_mark (λ e. omega arith), ne_eqb r.job search_mark (λ e. omega arith), ne_eqb r.job bfgs_mark (λ e. omega arith), eq-eqb r.job lbfgs_mark j)

  at_differences : r.job ≡ differences_mark → valid_part_of r ≡ leb r.diff.at r.n
  unfolding valid_part_of gradient_job_of
  at_differences j =
      rw (
        ne_eqb r.job simplex_mark (λ e. omega arith),
        ne_eqb r.job search_mark (λ e. omega arith),
        ne_eqb r.job bfgs_mark (λ e. omega arith),
        ne_eqb r.job lbfgs_mark (λ e. omega arith),
        eq-eqb r.job differences_mark j,
      )

  abbrev KnownJob : Type 0
  KnownJob = OneOf r.job (simplex_mark ∷ bfgs_mark ∷ lbfgs_mark ∷ search_mark ∷ differences_mark ∷ [])

  job_known : valid_part_of r ≡ true → KnownJob
  unfolding valid_part_of gradient_job_of
  job_known = go (eqb r.job simplex_mark) refl (eqb r.job search_mark) refl (eqb r.job bfgs_mark) refl (eqb r.job lbfgs_mark) refl (eqb r.job differences_mark) refl
    where
      go : (a : Bool) → eqb r.job simplex_mark ≡ a → (b : Bool) → eqb r.job search_mark ≡ b → (c : Bool) → eqb r.job bfgs_mark ≡ c → (d : Bool) → eqb r.job lbfgs_mark ≡ d
          → (f : Bool) → eqb r.job differences_mark ≡ f
          → cond a (valid_simplex_of r) (cond b (valid_search_of r) (cond (cond c true d) (valid_descent_of r) (cond f (leb r.diff.at r.n) false))) ≡ true → KnownJob
      go true i b j c k d l f m e = inl (eqb-true _ _ i)
      go false i true j c k d l f m e = inr (inr (inr (inl (eqb-true _ _ j))))
      go false i false j true k d l f m e = inr (inl (eqb-true _ _ k))
      go false i false j false k true l f m e = inr (inr (inl (eqb-true _ _ l)))
      go false i false j false k false l true m e = inr (inr (inr (inr (inl (eqb-true _ _ m)))))
      go false i false j false k false l false m e = absurd (true≢false (sym e))

  -- ---- in range, job by job

  pub simplex_valid : r.job ≡ simplex_mark → Common r → SimplexPart r → valid_of r ≡ true
  simplex_valid j c p = (whole r).1 (c, at_simplex j ∙ (simplex_part r).1 p)

  pub search_valid : r.job ≡ search_mark → Common r → BarePart r → valid_of r ≡ true
  search_valid j c p = (whole r).1 (c, at_search j ∙ (bare_part r).1 p)

  pub descent_valid : Descends r → Common r → DescentPart r → valid_of r ≡ true
  descent_valid j c p = (whole r).1 (c, at_descent j ∙ (descent_part r).1 p)

  pub differences_valid : r.job ≡ differences_mark → Common r → r.diff.at ≤ r.n → valid_of r ≡ true
  differences_valid j c p = (whole r).1 (c, at_differences j ∙ le-leb r.diff.at r.n p)

-- ---- both ways

module _ (r : Record) (e : valid_part_of r ≡ true) where
  of_simplex : r.job ≡ simplex_mark → SimplexPart r
  of_simplex j = (simplex_part r).0 (sym (at_simplex r j) ∙ e)

  of_descent : Descends r → DescentPart r
  of_descent j = (descent_part r).0 (sym (at_descent r j) ∙ e)

  of_bare : r.job ≡ search_mark → BarePart r
  of_bare j = (bare_part r).0 (sym (at_search r j) ∙ e)

  of_search : Searches r → SearchPart r
  of_search (inl j) = (of_descent j).search
  of_search (inr j) = (of_bare j).search

  some_unknown : (r.job ≡ differences_mark → ⊥) → KnownJob r → 0 < r.n
  some_unknown none (inl j) = (of_simplex j).some_n
  some_unknown none (inr (inl j)) = (of_descent (inl j)).some_n
  some_unknown none (inr (inr (inl j))) = (of_descent (inr j)).some_n
  some_unknown none (inr (inr (inr (inl j)))) = (of_bare j).some_n
  some_unknown none (inr (inr (inr (inr (inl j))))) = absurd (none j)
  some_unknown none (inr (inr (inr (inr (inr x))))) = elim x [ ]

pub in_range : (r : Record) → valid_of r ≡ true → InRange r
in_range r v =
    let (c, e) = (whole r).0 v in
    record {
      unknowns = record { most = c.few; some = λ d. some_unknown r e d (job_known r e) };
      positions = record {
        vertex = λ j. (of_simplex r e j).vertex;
        opening = λ j. (of_descent r e j).at;
        trial = λ j. (of_search r e j).at;
        coordinate = λ j. leb-true r.diff.at r.n (sym (at_differences r j) ∙ e);
      };
      pairs = λ j. (of_descent r e j).model.pairs;
      trials = λ j. (of_search r e j).trials;
      options = record {
        memory = λ j. (of_descent r e j).memory;
        held = λ j. (of_descent r e j).model.most;
        iter = λ j. ⊎_elim (λ i. (of_simplex r e i).iter) (λ i. (of_descent r e i).iter) j;
        fevals = λ j. (of_simplex r e j).fevals;
        gradient_fevals = λ j. (of_descent r e j).fevals;
        evals = λ j. (of_search r e j).evals;
        restarts = λ j. (of_simplex r e j).restarts;
      };
      marks = record {
        job = job_known r e;
        simplex = λ j. let p = of_simplex r e j in (p.phase_low, p.phase_high);
        descent = λ j. let p = of_descent r e j in (p.phase_low, p.phase_high);
        ending = λ j. (of_descent r e j).ending;
        searching = λ j. (of_bare r e j).phase;
        search = λ j. let p = of_search r e j in (p.phase_low, p.phase_high);
      };
      counts = record {
        accepted = c.accepted;
        fevals = c.fevals;
        gevals = c.gevals;
        rounds = λ j. (of_simplex r e j).rounds;
        runs = λ j. (of_simplex r e j).runs;
        descents = λ j. (of_descent r e j).rounds;
      };
    }

module _ (r : Record) (h : InRange r) where
  to_simplex : r.job ≡ simplex_mark → SimplexPart r
  to_simplex j =
      record {
        some_n = h.unknowns.some (λ k. omega arith);
        vertex = h.positions.vertex j;
        phase_low = (h.marks.simplex j).0;
        phase_high = (h.marks.simplex j).1;
        rounds = h.counts.rounds j;
        runs = h.counts.runs j;
        iter = h.options.iter (inl j);
        fevals = h.options.fevals j;
        restarts = h.options.restarts j;
      }

  to_search : Searches r → SearchPart r
  to_search j = record { phase_low = (h.marks.search j).0; phase_high = (h.marks.search j).1; evals = h.options.evals j; trials = h.trials j; at = h.positions.trial j }

  to_bare : r.job ≡ search_mark → BarePart r
  to_bare j = record { some_n = h.unknowns.some (λ k. omega arith); phase = h.marks.searching j; search = to_search (inr j) }

  to_descent : Descends r → DescentPart r
  to_descent j =
      record {
        some_n = h.unknowns.some (λ k. ⊎_elim (λ i. omega (arith, i, k)) (λ i. omega (arith, i, k)) j);
        phase_low = (h.marks.descent j).0;
        phase_high = (h.marks.descent j).1;
        ending = h.marks.ending j;
        rounds = h.counts.descents j;
        at = h.positions.opening j;
        iter = h.options.iter (inr j);
        memory = h.options.memory j;
        fevals = h.options.gradient_fevals j;
        model = record { most = h.options.held j; pairs = h.pairs j };
        search = to_search (inl j);
      }

  to_common : Common r
  to_common = record { few = h.unknowns.most; accepted = h.counts.accepted; fevals = h.counts.fevals; gevals = h.counts.gevals }

  valid : KnownJob r → valid_of r ≡ true
  valid (inl j) = simplex_valid r j to_common (to_simplex j)
  valid (inr (inl j)) = descent_valid r (inl j) to_common (to_descent (inl j))
  valid (inr (inr (inl j))) = descent_valid r (inr j) to_common (to_descent (inr j))
  valid (inr (inr (inr (inl j)))) = search_valid r j to_common (to_bare j)
  valid (inr (inr (inr (inr (inl j))))) = differences_valid r j to_common (h.positions.coordinate j)
  valid (inr (inr (inr (inr (inr x))))) = elim x [ ]

pub refuses_exactly : RefusesExactly
refuses_exactly r = (in_range r, λ h. valid r h h.marks.job)
