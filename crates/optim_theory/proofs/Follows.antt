-- The job `differences` follows its Algorithm: `job_follows`. Assumes nothing.
use Prim.Native.Nat.{ℕ, ◌≤◌, ◌<◌}
use mathlib.Core.Path.{◌≡◌, refl, sym, ap, ap₂, ◌∙◌, subst}
use mathlib.Core.Bool.{Bool, true, false}
use mathlib.Core.List.{List, [], ◌∷◌}
use native.Mathlib.Omega.{arith}
use lib.Dec.{eqb, ltb}
use lib.ListN.{length}
use lib.Ieee.{Float}
use borrow.Author.Tests.{eqb-true, eqb-false, ne_eqb, ltb-true}
use Rattle.vector.specs.Points.{from_slice_of}
use Rattle.vector.specs.Loops.{at}
use Rattle.vector.proofs.First.{point_laws, ties}
use Rattle.vector.proofs.Stores.{first_whole}
use Rattle.protocol.specs.Ask.{Ask}
use Rattle.objective.specs.Algorithm.{differences}
use Rattle.objective.specs.Step.{told_of}
use Rattle.objective.specs.Follows.{DifferencesSized}
use Rattle.objective.proofs.Follows.{follows}
use Rattle.optim_record.specs.declared.Record.{Record}
use Rattle.optim_record.specs.Record.{gradient_job_of, Other}
use Rattle.optim_reply.specs.Standing.{standing_differences_of, standing_of}
use Rattle.optim.specs.Answer.{valued_of, stepped_of, taken_of}
use Rattle.optim_first_record.specs.Starts.{begun_record_of}
use Rattle.optim_start.specs.Start.{differences_of}
use Rattle.optim_theory.specs.Jobs.{shown}
use Rattle.optim_theory.specs.Follows.{as_told, differences_ending, rest, after, JobFollows}

-- a record that is not at its end has a coordinate to come
pub short : (r : Record) → DifferencesSized r.n r.diff → (r.diff.at ≡ r.n → ⊥) → r.diff.at < r.n
short r h d = less r.diff.at r.n h.within d
  where
    less : (a n : ℕ) → a ≤ n → (a ≡ n → ⊥) → a < n
    less a n l e = omega arith

-- what stands is what stands in differences
stands : (r : Record) → Other r → DifferencesSized r.n r.diff → (standing_of r).0 ≡ shown differences_ending r.accepted (rest r)
unfolding standing_of standing_differences_of
stands r bare h = rw (ne_eqb _ _ bare.simplex, ne_eqb _ _ bare.search, bare.gradient) (at_end (eqb r.diff.at r.n) refl)
  where
    at_end : (b : Bool) → eqb r.diff.at r.n ≡ b → (standing_differences_of r).0 ≡ shown differences_ending r.accepted (rest r)
    at_end true e = rw e (sym (ap (shown differences_ending r.accepted) ((follows as_told).ends r.n r.diff (eqb-true _ _ e))))
    at_end false e = rw e (sym (ap (shown differences_ending r.accepted) ((follows as_told).follows r.n r.diff h (short r h (eqb-false _ _ e)))))

-- the step is that of differences
pub steps : (r : Record) (v : Float) → Other r → stepped_of r v ≡ valued_of r (told_of r.diff v) r.simplex r.descent r.model
unfolding stepped_of
steps r v bare = rw (ne_eqb _ _ bare.simplex, ne_eqb _ _ bare.search, bare.gradient)

takes : (r : Record) (v : Float) → Other r → DifferencesSized r.n r.diff → (r.diff.at ≡ r.n → ⊥) → rest (stepped_of r v) ≡ after (rest r) (v ∷ [])
takes r v bare h d = ap rest (steps r v bare) ∙ sym (ap (λ (m : Ask (List Float)). after m (v ∷ [])) ((follows as_told).follows r.n r.diff h (short r h d)))

begins : (x : List Float) → rest (begun_record_of x) ≡ differences as_told x
unfolding begun_record_of
begins x = sym ((follows as_told).begins (length x) (from_slice_of x (length x))) ∙ ap (differences as_told) (ties.from_slice x (length x) ∙ first_whole x)

pub begun_sized : (x : List Float) → length x ≤ 16 → DifferencesSized (begun_record_of x).n (begun_record_of x).diff
unfolding begun_record_of from_slice_of
begun_sized x h = (follows as_told).begun_sized (length x) (from_slice_of x (length x)) h (point_laws.width (at x) (length x) h)

stepped_sized : (r : Record) (v : Float) → Other r → DifferencesSized r.n r.diff → (r.diff.at ≡ r.n → ⊥) → DifferencesSized (stepped_of r v).n (stepped_of r v).diff
stepped_sized r v bare h d = subst (λ (q : Record). DifferencesSized q.n q.diff) (sym (steps r v bare)) ((follows as_told).told_sized r.n r.diff v h (short r h d))

pub begun_other : (x : List Float) → Other (begun_record_of x)
unfolding begun_record_of gradient_job_of
begun_other x = record { simplex = λ e. not_one e; search = λ e. not_four e; gradient = refl }
  where
    not_one : ◌≡◌ {A = ℕ} 5 1 → ⊥
    not_one q = omega arith

    not_four : ◌≡◌ {A = ℕ} 5 4 → ⊥
    not_four q = omega arith

stepped_other : (r : Record) (v : Float) → Other r → Other (stepped_of r v)
stepped_other r v bare = subst Other (sym (steps r v bare)) (record { simplex = bare.simplex; search = bare.search; gradient = bare.gradient })

starts : (x : List Float) → length x ≤ 16 → (differences_of x).0 ≡ shown differences_ending 0 (differences as_told x)
unfolding differences_of begun_record_of
starts x h = few (ltb 16 (length x)) refl ∙ stands (begun_record_of x) (begun_other x) (begun_sized x h) ∙ ap (shown differences_ending 0) (begins x)
  where
    few : (b : Bool) → ltb 16 (length x) ≡ b → (differences_of x).0 ≡ (standing_of (begun_record_of x)).0
    few true e = absurd (over (ltb-true 16 (length x) e))
      where
        over : 16 < length x → ⊥
        over l = omega arith
    few false e = rw e

pub job_follows : JobFollows
unfolding taken_of
job_follows = record {
  starts = starts;
  begins = begins;
  stands = stands;
  takes = takes;
  replies = λ r v bare h d.
      stands (stepped_of r v) (stepped_other r v bare) (stepped_sized r v bare h d) ∙ ap₂ (shown differences_ending) (ap (λ (q : Record). q.accepted) (steps r v bare)) (takes r v bare h d);
  begun_other = begun_other;
  stepped_other = stepped_other;
  begun_sized = begun_sized;
  stepped_sized = stepped_sized;
}
