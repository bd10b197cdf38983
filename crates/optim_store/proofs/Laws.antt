-- The marks by their flags. Assumes nothing.
use Prim.Native.Nat.{ℕ}
use mathlib.Core.Path.{◌≡◌}
use mathlib.Core.List.{List, [], ◌∷◌}
use Rattle.optim_record.specs.declared.Record.{Record}
use Rattle.optim_lists.specs.Lists.{flag_of, marks_of}

abbrev with_flags : Record → ℕ → ℕ → ℕ → ℕ → ℕ → ℕ → ℕ → ℕ → ℕ → ℕ → ℕ → List ℕ
with_flags r f0 f1 f2 f3 f4 f5 f6 f7 f8 f9 f10 =
    r.accepted ∷ r.job ∷ r.n ∷ r.counts.fevals ∷ r.counts.gevals
    ∷ r.limits.iter ∷ r.limits.fevals ∷ r.options.restarts ∷ r.gradient.wolfe.evals ∷ r.gradient.memory
    ∷ r.diff.at
    ∷ r.simplex.phase ∷ r.simplex.at ∷ r.simplex.rounds ∷ r.simplex.runs
    ∷ r.descent.phase ∷ r.descent.number ∷ r.descent.detail ∷ r.descent.rounds
    ∷ r.descent.search.phase ∷ r.descent.search.trials ∷ r.descent.search.diff.at ∷ r.descent.diff.at
    ∷ r.model.memory ∷ r.model.pairs.count
    ∷ f0 ∷ f1
    ∷ f2
    ∷ f3 ∷ f4 ∷ f5 ∷ f6
    ∷ f7 ∷ f8
    ∷ f9 ∷ f10
    ∷ []

pub marks_by : (r : Record) {f0 f1 f2 f3 f4 f5 f6 f7 f8 f9 f10 : ℕ} → f0 ≡ flag_of r.options.adaptive → f1 ≡ flag_of r.gradient.gradients → f2 ≡ flag_of r.diff.forward → f3 ≡ flag_of r.descent.first
    → f4 ≡ flag_of r.descent.search.zooming → f5 ≡ flag_of r.descent.search.previous → f6 ≡ flag_of r.descent.search.kept → f7 ≡ flag_of r.descent.search.diff.forward
    → f8 ≡ flag_of r.descent.diff.forward → f9 ≡ flag_of r.model.limited → f10 ≡ flag_of r.model.dense.fresh
    → with_flags r f0 f1 f2 f3 f4 f5 f6 f7 f8 f9 f10 ≡ marks_of r
unfolding marks_of
marks_by r e0 e1 e2 e3 e4 e5 e6 e7 e8 e9 e10 = λ i. with_flags r (e0 i) (e1 i) (e2 i) (e3 i) (e4 i) (e5 i) (e6 i) (e7 i) (e8 i) (e9 i) (e10 i)
