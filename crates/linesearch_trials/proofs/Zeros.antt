-- The derived defaults are zero, field by field: as equations of whole records. Assumes nothing.
use Rattle.std.proofs.Common.{◌≡◌, List, replicate}
use Rattle.std.specs.Prelude.{Float}
use Rattle.std.specs.Array.{AllOfLen}
use Rattle.std.proofs.lemmas.List.FromFn.{fill_by_all}
use Rattle.float.specs.Binary64.{plus_zero}
use Rattle.linesearch_trials.specs.declared.Trial.{Trial}
use Rattle.linesearch_trials.specs.declared.Evaluation.{Evaluation}
use Rattle.linesearch_trials.specs.declared.Line.{Line}
use Rattle.linesearch_trials.specs.Evaluations.{trial_of}

abbrev IsZero : Float → Type 0
IsZero v = v ≡ plus_zero

abbrev IsPoint : List Float → Type 0
IsPoint x = AllOfLen (λ v. IsZero v) x 16

abbrev zeros : List Float
zeros = replicate 16 plus_zero

point_zeros : (x : List Float) → IsPoint x → x ≡ zeros
point_zeros x a = fill_by_all (λ _. plus_zero) x 16 plus_zero a.long (λ k l. a.at k plus_zero l)

pub trial_zeros : (t : Trial) → IsZero t.step × (IsZero t.value × IsZero t.slope) → t ≡ trial_of plus_zero plus_zero plus_zero
trial_zeros t h = whole h
  where
    whole : {a v s : Float} → IsZero a × (IsZero v × IsZero s) → trial_of a v s ≡ trial_of plus_zero plus_zero plus_zero
    whole h = rw (h.0, h.1.0, h.1.1)

pub evaluation_zeros : (e : Evaluation) → (IsZero e.trial.step × (IsZero e.trial.value × IsZero e.trial.slope)) × (IsPoint e.x × IsPoint e.g)
    → e ≡ record { trial = trial_of plus_zero plus_zero plus_zero; x = zeros; g = zeros }
evaluation_zeros e h = whole (trial_zeros e.trial h.0) (point_zeros e.x h.1.0) (point_zeros e.g h.1.1)
  where
    evaluation : Trial → List Float → List Float → Evaluation
    evaluation t x g = record { trial = t; x = x; g = g }

    whole : {t u : Trial} {x y g h : List Float} → t ≡ u → x ≡ y → g ≡ h → evaluation t x g ≡ evaluation u y h
    whole p q r = cc

pub line_zeros : (l : Line) → IsPoint l.x × (IsPoint l.g × (IsPoint l.d × (IsZero l.f × IsZero l.slope)))
    → l ≡ record { x = zeros; g = zeros; d = zeros; f = plus_zero; slope = plus_zero }
line_zeros l h = whole (point_zeros l.x h.0) (point_zeros l.g h.1.0) (point_zeros l.d h.1.1.0) h.1.1.1
  where
    line : List Float → List Float → List Float → Float → Float → Line
    line x g d f slope = record { x = x; g = g; d = d; f = f; slope = slope }

    whole : {x y g h d e : List Float} {f s : Float} → x ≡ y → g ≡ h → d ≡ e → IsZero f × IsZero s → line x g d f s ≡ line y h e plus_zero plus_zero
    whole p q r z = cc
