-- Each reply can stand: what an accepted answer leaves is in range. Assumes nothing.
use mathlib.Core.Path.{◌≡◌, refl, sym, ◌∙◌, ap}
use mathlib.Core.Bool.{Bool, true, false}
use mathlib.Core.List.{List}
use native.Mathlib.Omega.{arith}
use lib.Dec.{eqb}
use lib.Ieee.{Float}
use Rattle.objective.proofs.Follows.{told_within}
use Rattle.optim_record.specs.declared.Record.{Record}
use Rattle.optim_record.specs.Record.{gradient_job_of, Other, Ranges, Open, Stands}
use Rattle.protocol.specs.Protocol.{simplex_mark, search_mark}
use Rattle.optim.specs.Answer.{stepped_of, graded_of}

-- where a record has another's job and n, it is of differences where the other is
other : (r q : Record) → q.job ≡ r.job → Other q → Other r
other r q e o = record { simplex = λ j. o.simplex (e ∙ j); search = λ j. o.search (e ∙ j); gradient = sym (ap gradient_job_of e) ∙ o.gradient }

pub stepped_stands : (r : Record) (v : Float) → Ranges r → Open r → Stands (stepped_of r v)
unfolding stepped_of
stepped_stands r v h l = at (eqb r.job simplex_mark) (eqb r.job search_mark) (gradient_job_of r.job) refl refl refl
  where
    at : (b c d : Bool) → eqb r.job simplex_mark ≡ b → eqb r.job search_mark ≡ c → gradient_job_of r.job ≡ d → Stands (stepped_of r v)
    at true c d e f g = rw e (record { few = h.few; numbers = omega (arith, h.numbers); coordinate = λ o. h.coordinate (other r _ refl o) })
    at false true d e f g = rw (e, f) (record { few = h.few; numbers = omega (arith, h.numbers); coordinate = λ o. h.coordinate (other r _ refl o) })
    at false false true e f g = rw (e, f, g) (record { few = h.few; numbers = omega (arith, h.numbers); coordinate = λ o. h.coordinate (other r _ refl o) })
    at false false false e f g = rw (e, f, g) (record { few = h.few; numbers = omega (arith, h.numbers); coordinate = λ o. told_within r.n r.diff v (l.next (other r _ refl o)) })

pub graded_stands : (r : Record) (g : List Float) → Ranges r → Stands (graded_of r g)
unfolding graded_of
graded_stands r g h = at (eqb r.job search_mark) refl
  where
    at : (b : Bool) → eqb r.job search_mark ≡ b → Stands (graded_of r g)
    at true e = rw e (record { few = h.few; numbers = omega (arith, h.numbers); coordinate = λ o. h.coordinate (other r _ refl o) })
    at false e = rw e (record { few = h.few; numbers = omega (arith, h.numbers); coordinate = λ o. h.coordinate (other r _ refl o) })
