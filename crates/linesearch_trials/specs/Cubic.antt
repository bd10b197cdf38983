-- The trial step between the two ends of a bracket: `interpolate` of linesearch.rs, Nocedal and Wright (2006), eq. 3.59, with 01's ways to the midpoint. Definitions only.
use Rattle.std.specs.Prelude.{Bool, true, cond, not, Float}
use Rattle.std.specs.Float.Ieee.{lt, le, eq}
use Rattle.float.specs.Binary64.{◌⊕◌, ◌⊖◌, ◌⊗◌, ◌⊘◌, bits, plus_zero}
use Rattle.float.specs.Values.{finite_of, signum_of, max_of, min_of}
use Rattle.float.specs.Sqrt.{sqrt_of}
use Rattle.linesearch_trials.specs.declared.Trial.{Trial}

-- let mid = 0.5 * (a_lo + a_hi);
unfoldable pub midpoint_of : Trial → Trial → Float
midpoint_of lo hi = bits 0x3fe0_0000_0000_0000 ⊗ (lo.step ⊕ hi.step)

-- !a.is_finite() || a <= lo + 0.05 * width || a >= hi - 0.05 * width, with lo and hi the lesser and the larger step
unfoldable pub near_end_of : Float → Float → Float → Bool
near_end_of a p q =
    let lo = min_of p q in
    let hi = max_of p q in
    let margin = bits 0x3fa9_9999_9999_999a ⊗ (hi ⊖ lo) in
    cond (not (finite_of a)) true (cond (le a (lo ⊕ margin)) true (le (hi ⊖ margin) a))

-- eq. 3.59, d1: let d1 = d_lo + d_hi - 3.0 * (f_lo - f_hi) / (a_lo - a_hi);
unfoldable pub d1_of : Trial → Trial → Float
d1_of lo hi = lo.slope ⊕ hi.slope ⊖ bits 0x4008_0000_0000_0000 ⊗ (lo.value ⊖ hi.value) ⊘ (lo.step ⊖ hi.step)

-- eq. 3.59, d2 and the minimiser: let d2 = (a_hi - a_lo).signum() * disc.sqrt(); let denom = d_hi - d_lo + 2.0 * d2;
-- let a = a_hi - (a_hi - a_lo) * (d_hi + d2 - d1) / denom;
unfoldable pub minimiser_of : Trial → Trial → Float → Float → Float
unfolding near_end_of midpoint_of
minimiser_of lo hi d1 disc =
    let d2 = signum_of (hi.step ⊖ lo.step) ⊗ sqrt_of disc in
    let denom = hi.slope ⊖ lo.slope ⊕ bits 0x4000_0000_0000_0000 ⊗ d2 in
    let a = hi.step ⊖ (hi.step ⊖ lo.step) ⊗ (hi.slope ⊕ d2 ⊖ d1) ⊘ denom in
    cond (eq denom plus_zero) (midpoint_of lo hi)
    (cond (not (finite_of denom)) (midpoint_of lo hi)
    (cond (near_end_of a lo.step hi.step) (midpoint_of lo hi) a))

-- let disc = d1 * d1 - d_lo * d_hi;
-- 01: "midpoint if an end value or slope is not finite, the discriminant is below 0, the denominator is 0 or not finite, the trial is not finite, or it is at or outside 5% of
-- the width from either end"
unfoldable pub interpolate_of : Trial → Trial → Float
unfolding d1_of minimiser_of midpoint_of
interpolate_of lo hi =
    let d1 = d1_of lo hi in
    let disc = d1 ⊗ d1 ⊖ lo.slope ⊗ hi.slope in
    cond (not (finite_of lo.value)) (midpoint_of lo hi)
    (cond (not (finite_of hi.value)) (midpoint_of lo hi)
    (cond (not (finite_of lo.slope)) (midpoint_of lo hi)
    (cond (not (finite_of hi.slope)) (midpoint_of lo hi)
    (cond (lt disc plus_zero) (midpoint_of lo hi) (minimiser_of lo hi d1 disc)))))
