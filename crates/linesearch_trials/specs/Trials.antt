-- The tests on trials, which see a step, a value and a slope and no coordinates: one definition for the Algorithm and for the code. Definitions only.
use Rattle.std.specs.Prelude.{Bool, false, cond, not, Float}
use Rattle.std.specs.Float.Ieee.{neg, le}
use Rattle.float.specs.Binary64.{◌⊕◌, ◌⊖◌, ◌⊗◌, bits, plus_zero}
use Rattle.float.specs.Values.{abs_of, finite_of, max_of}
use Rattle.protocol.specs.declared.WolfeOptions.{WolfeOptions}
use Rattle.linesearch_trials.specs.declared.Trial.{Trial}
use Rattle.linesearch_trials.specs.declared.Line.{Line}

abbrev pub one : Float
one = bits 0x3ff0_0000_0000_0000

abbrev pub two : Float
two = bits 0x4000_0000_0000_0000

-- the trial at step 0: the start of the line
unfoldable pub start_of : Line → Trial
start_of l = record { step = plus_zero; value = l.f; slope = l.slope }

-- t.f <= self.f0 + self.c1 * t.a * self.dphi0
unfoldable pub armijo_of : WolfeOptions → Line → Trial → Bool
armijo_of o l t = le t.value (l.f ⊕ o.c1 ⊗ t.step ⊗ l.slope)

-- t.dphi.is_finite() && t.dphi.abs() <= -self.c2 * self.dphi0
unfoldable pub curvature_of : WolfeOptions → Line → Trial → Bool
curvature_of o l t = cond (not (finite_of t.slope)) false (le (abs_of t.slope) (neg o.c2 ⊗ l.slope))

-- (hi.a - lo.a).abs() <= MIN_REL_WIDTH * lo.a.abs().max(hi.a.abs()).max(1.0)
unfoldable pub narrow_of : Trial → Trial → Bool
narrow_of lo hi = le (abs_of (hi.step ⊖ lo.step)) (bits 0x3d06_849b_86a1_2b9b ⊗ max_of (max_of (abs_of lo.step) (abs_of hi.step)) one)
