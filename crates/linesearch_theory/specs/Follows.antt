-- The record of the search follows the Algorithm: its question is the text's next, and after any answer it has the rest of the text to do, with gradients and without, however
-- the values for differences are read. Definitions and statements only.
use Rattle.std.specs.Prelude.{ℕ, ◌-◌, ◌≤◌, ◌<◌, ◌≡◌, Bool, true, false, not, ◌||◌, cond, List, eqb, length, get_or, Float}
use Rattle.std.proofs.Math.Option.{Option, none, some}
use Rattle.std.specs.Float.{nan}
use Rattle.std.specs.Float.Ieee.{le}
use Rattle.float.specs.Binary64.{◌⊖◌, ◌⊗◌, plus_zero}
use Rattle.float.specs.Values.{finite_of, min_of}
use Rattle.vector.specs.Points.{from_slice_of}
use Rattle.vector.specs.Lists.{first, dot}
use Rattle.vector.specs.Ties.{ZeroFrom}
use Rattle.protocol.specs.declared.Kind.{Kind}
use Rattle.protocol.specs.declared.Kind.TheVariants.{Value, Gradient}
use Rattle.protocol.specs.Protocol.{read_of}
use Rattle.protocol.specs.Ask.{Ask, finish, query, ◌>>=◌}
use Rattle.objective.specs.Follows as differences
use Rattle.linesearch_trials.specs.declared.Trial.{Trial}
use Rattle.linesearch_trials.specs.declared.Evaluation.{Evaluation}
use Rattle.linesearch_trials.specs.declared.Line.{Line}
use Rattle.linesearch_trials.specs.declared.Fixed.{Fixed}
use Rattle.linesearch_moves.specs.declared.Search.{Search}
use Rattle.linesearch_trials.specs.Trials.{two, start_of, armijo_of, curvature_of}
use Rattle.linesearch.specs.Step.{asks_value, asks_gradient, asks_difference, found, failed, begun_of, probe_of, told_of, told_gradient_of}
use Rattle.linesearch_theory.specs.Algorithm.{WolfeResult, point_at, evaluated, eval, keep, failure, success, zoom, bracket, search}

-- ---- the record's arrays, read as the text's lists of n

abbrev pub lowered_line : ℕ → Line → Line
lowered_line n l = record { x = first n l.x; g = first n l.g; d = first n l.d; f = l.f; slope = l.slope }

abbrev pub lowered : ℕ → Evaluation → Evaluation
lowered n t = record { trial = t.trial; x = first n t.x; g = first n t.g }

-- a flag and what stands beside it
abbrev pub kept_best : ℕ → Bool → Evaluation → Option Evaluation
kept_best n true b = some (lowered n b)
kept_best n false b = none

abbrev pub previous_trial : Bool → Trial → Option Trial
previous_trial true p = some p
previous_trial false p = none

-- the kind of the open question
abbrev pub kind_of : Search → Kind
kind_of s = cond (eqb s.phase asks_gradient) Gradient Value

-- ---- what holds of the arrays

-- P holds of the line's point and gradient; that of its direction is never handed on
pub record LineHas (P : List Float → Type 0) (l : Line) : Type 0 where
  pub point : P l.x
  pub gradient : P l.g

-- a phase is known, trials are within the allowance, arrays are sixteen long, and a difference that is asked for is one of the n
pub record SearchShaped (fixed : Fixed) (s : Search) : Type 0 where
  pub small : fixed.n ≤ 16
  pub least : asks_value ≤ s.phase
  pub most : s.phase ≤ failed
  pub trials : s.trials ≤ fixed.options.evals
  pub point16 : length s.best.x ≡ 16
  pub gradient16 : length s.best.g ≡ 16
  pub diff : differences.DifferencesSized fixed.n s.diff
  pub asked : s.phase ≡ asks_difference → s.diff.at < fixed.n

-- the coordinates past n are +0 in the best trial, which at the end is the outcome, and in the differences
pub record SearchZeroPast (n : ℕ) (s : Search) : Type 0 where
  pub point : ZeroFrom n s.best.x
  pub gradient : ZeroFrom n s.best.g
  pub diff : differences.DifferencesZeroPast n s.diff

module _ (read : Float → Float) (fixed : Fixed) (l : Line) where
  -- ---- the text's lines after `eval`, with k trials left; b says whether p is the trial before

  abbrev pub lined : Line
  lined = lowered_line fixed.n l

  abbrev pub after_zoom : ℕ → Trial → Trial → Option Evaluation → Evaluation → Ask WolfeResult
  after_zoom k lo hi best t =
      let gr = fixed.gradients in
      let o = fixed.options in
      let kept = keep read gr o lined t best in
      cond (not (armijo_of o lined t.trial) || le lo.value t.trial.value) (zoom read gr o lined k lo t.trial kept)
      (cond (curvature_of o lined t.trial) (success read gr o lined k t)
      (cond (not (finite_of t.trial.slope)) (zoom read gr o lined k lo t.trial kept)
      (cond (le plus_zero (t.trial.slope ⊗ (hi.step ⊖ lo.step))) (zoom read gr o lined k t.trial lo kept) (zoom read gr o lined k t.trial hi kept))))

  abbrev pub after_bracket : ℕ → Float → Bool → Trial → Option Evaluation → Evaluation → Ask WolfeResult
  after_bracket k a b p best t =
      let gr = fixed.gradients in
      let o = fixed.options in
      let kept = keep read gr o lined t best in
      let q = cond b p (start_of lined) in
      cond (not (armijo_of o lined t.trial) || cond (not b) false (le p.value t.trial.value)) (zoom read gr o lined k q t.trial kept)
      (cond (curvature_of o lined t.trial) (success read gr o lined k t)
      (cond (not (finite_of t.trial.slope) || le plus_zero t.trial.slope) (zoom read gr o lined k t.trial q kept)
      (cond (le o.stepmax a) (failure read gr o lined k kept)
      (bracket read gr o lined k (min_of (two ⊗ a) o.stepmax) (some t.trial) kept))))

  -- over fields and not the record: what stands beside them in it does not matter
  abbrev pub after_by : Bool → ℕ → Float → Bool → Trial → Trial → Option Evaluation → Evaluation → Ask WolfeResult
  after_by true k a b lo hi best t = after_zoom k lo hi best t
  after_by false k a b lo hi best t = after_bracket k a b lo best t

  abbrev pub after : Search → Evaluation → Ask WolfeResult
  after s = after_by s.zooming (fixed.options.evals - s.trials) s.step s.previous s.lo s.hi (kept_best fixed.n s.kept s.best)

  -- the trial in hand, with the gradient g
  abbrev pub made : Search → List Float → Evaluation
  made s g = evaluated read fixed.gradients fixed.options lined s.step s.value g (dot g lined.d)

  abbrev pub outcome : Bool → Search → WolfeResult
  outcome b s = record { success = b; at = lowered fixed.n s.best; trials = s.trials }

  -- what a record has still to do
  abbrev pub to_do : Search → Ask WolfeResult
  to_do s =
      cond (eqb s.phase found) (finish (outcome true s))
      (cond (eqb s.phase failed) (finish (outcome false s))
      (cond (eqb s.phase asks_value) (eval read fixed.gradients fixed.options lined s.step >>= after s)
      (cond (eqb s.phase asks_gradient) (query Gradient (point_at read fixed.gradients fixed.options lined s.step) (λ w. after s (made s (first fixed.n w))))
      (differences.to_do read fixed.n s.diff >>= λ g. after s (made s g)))))

  -- what the record is after the words of an answer to its question
  abbrev pub answered : Search → List Float → Search
  answered s w = cond (eqb s.phase asks_gradient) (told_gradient_of fixed l s (from_slice_of w fixed.n)) (told_of fixed l s (read_of (get_or w 0 nan)) (read (get_or w 0 nan)))

module _ (read : Float → Float) (fixed : Fixed) (l : Line) where
  pub record SearchFollows : Type 0 where
    pub begins : (initial : Float) → search read fixed.gradients fixed.options (lowered_line fixed.n l) initial ≡ to_do read fixed l (begun_of fixed l initial)
    -- a search that is allowed a trial opens with a question
    pub begun_asks : (initial : Float) → 0 < fixed.options.evals → (begun_of fixed l initial).phase ≡ asks_value
    -- whatever the words w tell
    pub follows : (s : Search) → SearchShaped fixed s → s.phase ≤ asks_difference
        → to_do read fixed l s ≡ query (kind_of s) (first fixed.n (probe_of fixed l s)) (λ w. to_do read fixed l (answered read fixed l s w))
    pub ends_found : (s : Search) → s.phase ≡ found → to_do read fixed l s ≡ finish (outcome read fixed l true s)
    pub ends_failed : (s : Search) → s.phase ≡ failed → to_do read fixed l s ≡ finish (outcome read fixed l false s)
    -- it lasts
    pub begun_shaped : (initial : Float) → fixed.n ≤ 16 → LineHas (λ x. length x ≡ 16) l → SearchShaped fixed (begun_of fixed l initial)
    pub told_shaped : (s : Search) (v w : Float) → LineHas (λ x. length x ≡ 16) l → SearchShaped fixed s → SearchShaped fixed (told_of fixed l s v w)
    pub told_gradient_shaped : (s : Search) (g : List Float) → length g ≡ 16 → LineHas (λ x. length x ≡ 16) l → SearchShaped fixed s → SearchShaped fixed (told_gradient_of fixed l s g)
    pub begun_zeros : (initial : Float) → LineHas (ZeroFrom fixed.n) l → SearchZeroPast fixed.n (begun_of fixed l initial)
    pub told_zeros : (s : Search) (v w : Float) → LineHas (ZeroFrom fixed.n) l → SearchShaped fixed s → SearchZeroPast fixed.n s → SearchZeroPast fixed.n (told_of fixed l s v w)
    pub told_gradient_zeros : (s : Search) (g : List Float) → ZeroFrom fixed.n g → LineHas (ZeroFrom fixed.n) l → SearchShaped fixed s → SearchZeroPast fixed.n s → SearchZeroPast fixed.n (told_gradient_of fixed l s g)
    pub probe_zeros : (s : Search) → SearchShaped fixed s → SearchZeroPast fixed.n s → ZeroFrom fixed.n (probe_of fixed l s)
