-- Refusal 1 as 01 lists it, phrase by phrase: "The record has n above 16 (or 0, other than for differences), a position above n, more pairs than memory, a line-search trial count above
-- max_evals, an option past 2's limits, an unknown mark or any count above 4·10^10." Of a record the parts that its job uses count; of bfgs memory counts as of lbfgs. Definitions and
-- statements only.
use Rattle.std.specs.Prelude.{ℕ, ◌≤◌, ◌<◌, ◌≡◌, true, ◌⊎◌, ◌↔◌, List, [], ◌∷◌}
use Rattle.optim_record.specs.declared.Record.{Record}
use Rattle.optim_record.specs.Record.{valid_of}
use Rattle.protocol.specs.Protocol.{simplex_mark, bfgs_mark, lbfgs_mark, search_mark, differences_mark}

-- ---- the parts that a job uses

-- the simplex: simplex fits. The descent and its model: the gradient fits. The search: those, and the job search. The differences of the record itself: the job differences.
abbrev pub Descends : Record → Type 0
Descends r = (r.job ≡ bfgs_mark) ⊎ (r.job ≡ lbfgs_mark)

abbrev pub Searches : Record → Type 0
Searches r = Descends r ⊎ (r.job ≡ search_mark)

-- ---- 01's phrases

-- "n above 16 (or 0, other than for differences)"
pub record UnknownsWithin (r : Record) : Type 0 where
  pub most : r.n ≤ 16
  pub some : (r.job ≡ differences_mark → ⊥) → 0 < r.n

-- "a position above n": the vertex that a simplex is at, the coordinate that differences are at, for the first gradient, for a trial's, and of the job itself
pub record PositionsWithin (r : Record) : Type 0 where
  pub vertex : r.job ≡ simplex_mark → r.simplex.at ≤ r.n
  pub opening : Descends r → r.descent.diff.at ≤ r.n
  pub trial : Searches r → r.descent.search.diff.at ≤ r.n
  pub coordinate : r.job ≡ differences_mark → r.diff.at ≤ r.n

-- "more pairs than memory": the model's own, which a dense model has too
abbrev pub PairsWithin : Record → Type 0
PairsWithin r = Descends r → r.model.pairs.count ≤ r.model.memory

-- "a line-search trial count above max_evals"
abbrev pub TrialsWithin : Record → Type 0
TrialsWithin r = Searches r → r.descent.search.trials ≤ r.gradient.wolfe.evals

-- "an option past 2's limits": "memory is above 16, an allowance above 1,000,000, max_evals above 1,000 or restarts above 100". Of both gradient fits the memory counts, the option
-- and the model's. Where a gradient fit has no max_fevals, its record has the Rust's usize::MAX
pub record OptionsWithin (r : Record) : Type 0 where
  pub memory : Descends r → r.gradient.memory ≤ 16
  pub held : Descends r → r.model.memory ≤ 16
  pub iter : (r.job ≡ simplex_mark) ⊎ Descends r → r.limits.iter ≤ 1000000
  pub fevals : r.job ≡ simplex_mark → r.limits.fevals ≤ 1000000
  pub gradient_fevals : Descends r → (r.limits.fevals ≡ 0xffff_ffff_ffff_ffff) ⊎ (r.limits.fevals ≤ 1000000)
  pub evals : Searches r → r.gradient.wolfe.evals ≤ 1000
  pub restarts : r.job ≡ simplex_mark → r.options.restarts ≤ 100

-- one of the numbers of a list
abbrev pub OneOf : ℕ → List ℕ → Type 0
OneOf k [] = ⊥
OneOf k (j ∷ l) = (k ≡ j) ⊎ OneOf k l

-- the refusals that a gradient fit's record may have ended with: 5 and 12 with their details, and others with 0
abbrev pub EndingMark : ℕ → ℕ → Type 0
EndingMark number detail =
    ((number ≡ 5) × OneOf detail (1 ∷ 2 ∷ []))
    ⊎ (((number ≡ 12) × OneOf detail (1 ∷ 2 ∷ 3 ∷ 4 ∷ [])) ⊎ ((detail ≡ 0) × OneOf number (6 ∷ 7 ∷ 9 ∷ 10 ∷ 11 ∷ 13 ∷ 14 ∷ 18 ∷ 19 ∷ [])))

-- "an unknown mark". Known are
--   of every record: the jobs 1 simplex, 2 bfgs, 3 lbfgs, 4 search and 5 differences;
--   of a simplex fit: the phases 1 to 6, which ask, and 7 to 11, its ends;
--   of a gradient fit: the phases 1 to 4, which ask, and 5 to 12, its ends, the last with the refusal that it is; the phases of its search, as below;
--   of a search: the phase 4 of its descent, and of the search the phases 1 to 3, which ask, and 4 and 5, its ends.
-- Of every flag both values are known.
pub record MarksKnown (r : Record) : Type 0 where
  pub job : OneOf r.job (simplex_mark ∷ bfgs_mark ∷ lbfgs_mark ∷ search_mark ∷ differences_mark ∷ [])
  pub simplex : r.job ≡ simplex_mark → (1 ≤ r.simplex.phase) × (r.simplex.phase ≤ 11)
  pub descent : Descends r → (1 ≤ r.descent.phase) × (r.descent.phase ≤ 12)
  pub ending : Descends r → r.descent.phase ≡ 12 → EndingMark r.descent.number r.descent.detail
  pub searching : r.job ≡ search_mark → r.descent.phase ≡ 4
  pub search : Searches r → (1 ≤ r.descent.search.phase) × (r.descent.search.phase ≤ 5)

-- "any count above 4·10^10": of answers, and of rounds and runs
pub record CountsWithin (r : Record) : Type 0 where
  pub accepted : r.accepted ≤ 40000000000
  pub fevals : r.counts.fevals ≤ 40000000000
  pub gevals : r.counts.gevals ≤ 40000000000
  pub rounds : r.job ≡ simplex_mark → r.simplex.rounds ≤ 40000000000
  pub runs : r.job ≡ simplex_mark → r.simplex.runs ≤ 40000000000
  pub descents : Descends r → r.descent.rounds ≤ 40000000000

-- ---- the whole

-- nothing of the list holds of the record
pub record InRange (r : Record) : Type 0 where
  pub unknowns : UnknownsWithin r
  pub positions : PositionsWithin r
  pub pairs : PairsWithin r
  pub trials : TrialsWithin r
  pub options : OptionsWithin r
  pub marks : MarksKnown r
  pub counts : CountsWithin r

-- Refusal 1 refuses the list above and nothing else, of every record, forged ones too. It is 01's, but that memory and pairs count of bfgs as of lbfgs
abbrev pub RefusesExactly : Type 0
RefusesExactly = (r : Record) → (valid_of r ≡ true) ↔ InRange r
