-- The job `search` is `strong_wolfe`: it meets its refusals, puts its questions and ends with its result, along every list of answers; how many questions it puts, and what holds of
-- its records. Definitions and statements only.
use Rattle.std.specs.Prelude.{ℕ, ◌+◌, ◌*◌, ◌≤◌, ◌≡◌, Bool, true, false, ◌||◌, List, ltb, length, Float}
use Rattle.vector.specs.Ties.{ZeroFrom}
use Rattle.protocol.specs.declared.Kind.{Kind}
use Rattle.protocol.specs.declared.WolfeOptions.{WolfeOptions}
use Rattle.protocol.specs.Protocol.{Answer, SearchResult, searched, Reply, ended, refused}
use Rattle.protocol.specs.Dialogue.{GivenF64s, Dialogue, NotRefused}
use Rattle.protocol.specs.Ask.{Ask}
use Rattle.protocol.specs.Bounds.{questions_of}
use Rattle.linesearch_theory.specs.Algorithm.{WolfeResult, Searched, refuses, gives, wolfe_refusal, strong_wolfe}
use Rattle.linesearch_theory.specs.Counts.{per_trial}
use Rattle.linesearch_theory.specs.Follows.{SearchZeroPast}
use Rattle.optim_record.specs.declared.Record.{Record}
use Rattle.optim_record.specs.Record.{most_evals, valid_of}
use Rattle.optim_start.specs.Start.{search_of}
use Rattle.optim_theory.specs.Engine.{answer_code}
use Rattle.optim_theory.specs.Follows.{as_told}
use Rattle.optim_theory.specs.Jobs.{Text, shown, begun_by, answer_by, run_job}

-- what a search is started with: strong_wolfe(f, x0, d, f0, g0, initial_step, opts), and whether the objective gives gradients
pub record SearchStart : Type 0 where
  pub x : List Float
  pub d : List Float
  pub f : Float
  pub g : List Float
  pub step : Float
  pub options : WolfeOptions
  pub gradients : Bool

-- ---- the Algorithm

abbrev pub search_text : SearchStart → Ask Searched
search_text s = strong_wolfe as_told s.gradients s.options s.x s.d s.f s.g s.step

abbrev pub refusal_of : SearchStart → ℕ × ℕ
refusal_of s = let why = wolfe_refusal s.options s.x s.d s.f s.g s.step in (why.number, why.detail)

-- a search ends with its `WolfeResult`: success, step, f, x, gradient and trials
abbrev pub result_by : WolfeResult → SearchResult
result_by r = record { success = r.success; step = r.at.trial.step; f = r.at.trial.value; x = r.at.x; gradient = r.at.g; trials = r.trials }

abbrev pub search_ending : Searched → Reply
search_ending (refuses why) = refused why.number why.detail
search_ending (gives r) = ended (searched (result_by r))

-- 2: "A lent list .. is above 16, .. max_evals above 1,000"
abbrev pub search_past_limits : SearchStart → Bool
search_past_limits s = ltb 16 (length s.x) || (ltb 16 (length s.d) || (ltb 16 (length s.g) || ltb most_evals s.options.evals))

-- the text after every answer of a list
abbrev pub text_run : SearchStart → List Answer → Dialogue (Text Searched)
text_run s l = run_job (begun_by search_ending (search_text s)) (answer_by search_ending) l

-- ---- the code

abbrev pub search_code : SearchStart → Reply × Record
search_code s = search_of s.x s.d s.f s.g s.step s.options s.gradients

abbrev pub code_run : SearchStart → List Answer → Dialogue Record
code_run s l = run_job (search_code s) answer_code l

-- ---- what is claimed

pub record SearchFollowsText : Type 0 where
  -- 2 comes before the tests of `strong_wolfe`, which are met in its order
  pub past : (s : SearchStart) → search_past_limits s ≡ true → (search_code s).0 ≡ refused 2 0
  pub refuses : (s : SearchStart) → search_past_limits s ≡ false → ((refusal_of s).0 ≡ 0 → ⊥) → (search_code s).0 ≡ refused (refusal_of s).0 (refusal_of s).1
  pub starts : (s : SearchStart) → search_past_limits s ≡ false → (search_code s).0 ≡ shown search_ending 0 (search_text s)
  -- along every list the code puts the text's questions, takes the same answers and gives its replies
  pub questions : (s : SearchStart) (l : List Answer) → NotRefused (search_code s).0 → GivenF64s l → (code_run s l).questions ≡ (text_run s l).questions
  pub exchanges : (s : SearchStart) (l : List Answer) → NotRefused (search_code s).0 → GivenF64s l → (code_run s l).exchanges ≡ (text_run s l).exchanges
  pub replies : (s : SearchStart) (l : List Answer) → NotRefused (search_code s).0 → GivenF64s l → (code_run s l).replies ≡ (text_run s l).replies

-- no record made by the start of a search and answers ever meets refusal 1
abbrev pub SearchInRange : Type 0
SearchInRange = (s : SearchStart) (l : List Answer) → NotRefused (search_code s).0 → valid_of (code_run s l).record_now ≡ true

-- the coordinates past n are +0.0 in the line's point, gradient and direction, in the best trial and in the differences
pub record ZerosIn (r : Record) : Type 0 where
  pub point : ZeroFrom r.n r.descent.line.x
  pub gradient : ZeroFrom r.n r.descent.line.g
  pub direction : ZeroFrom r.n r.descent.line.d
  pub search : SearchZeroPast r.n r.descent.search

abbrev pub SearchZeros : Type 0
SearchZeros = (s : SearchStart) (l : List Answer) → NotRefused (search_code s).0 → ZerosIn (code_run s l).record_now

-- of E max_evals at most, whatever is answered: of each kind, and with gradients 2E in all, without (1+2n)E
pub record SearchAtMost : Type 0 where
  pub of_kind_lem : (κ : Kind) (s : SearchStart) (l : List Answer) → NotRefused (search_code s).0 → GivenF64s l
      → questions_of κ (code_run s l).questions ≤ s.options.evals * per_trial κ s.gradients (length s.x)
  pub with_gradients_lem : (s : SearchStart) (l : List Answer) → s.gradients ≡ true → NotRefused (search_code s).0 → GivenF64s l
      → length (code_run s l).questions ≤ 2 * s.options.evals
  pub without : (s : SearchStart) (l : List Answer) → s.gradients ≡ false → NotRefused (search_code s).0 → GivenF64s l
      → length (code_run s l).questions ≤ (1 + 2 * length s.x) * s.options.evals
