-- What an accepted answer moves, part by part: the counts, and each job's own part. Definitions only.
use Rattle.std.specs.Prelude.{◌+◌, ◌≡◌, true, false, cond, List, length, get_or, Float}
use Rattle.std.specs.Float.{nan}
use Rattle.vector.specs.Points.{from_slice_of}
use Rattle.protocol.specs.Protocol.{read_of}
use Rattle.linesearch.specs.Step as linesearch
use Rattle.quasinewton_record.specs.declared.Descent.{Descent}
use Rattle.quasinewton.specs.Step as quasinewton
use Rattle.neldermead.specs.declared.Simplex.{Simplex}
use Rattle.neldermead.specs.Step.{told_of as simplex_told}
use Rattle.optim_record.specs.declared.Counts.{Counts}
use Rattle.optim_record.specs.declared.Record.{Record}
use Rattle.optim_record.specs.Record.{fixed_of, search_fixed_of, gradient_fixed_of}
use Rattle.optim_reply.specs.Standing.{gradient_due_of}

-- the counts with one answer more
unfoldable pub counted_of : Record → Counts
counted_of r =
    cond (gradient_due_of r) (record { fevals = r.counts.fevals; gevals = r.counts.gevals + 1 })
    (record { fevals = r.counts.fevals + 1; gevals = r.counts.gevals })

-- an answer of as many words as were asked for
abbrev pub Worded : Record → List Float → Type 0
Worded r words = (gradient_due_of r ≡ true → length words ≡ r.n) × (gradient_due_of r ≡ false → length words ≡ 1)

-- the simplex, the descent of the job search and that of a gradient fit after an answer
unfoldable pub simplex_told_of : Record → List Float → Simplex
simplex_told_of r words = simplex_told (fixed_of r) r.simplex (read_of (get_or words 0 nan)) (r.counts.fevals + 1)

unfoldable pub search_told_of : Record → List Float → Descent
search_told_of r words =
    let d = r.descent in
    let v = get_or words 0 nan in
    cond (gradient_due_of r) (quasinewton.with_search d (linesearch.told_gradient_of (search_fixed_of r) d.line d.search (from_slice_of words r.n)))
    (quasinewton.with_search d (linesearch.told_of (search_fixed_of r) d.line d.search (read_of v) v))

unfoldable pub descent_told_of : Record → List Float → Descent
descent_told_of r words =
    cond (gradient_due_of r) (quasinewton.told_gradient_of (gradient_fixed_of r) r.descent (from_slice_of words r.n))
    (quasinewton.told_of (gradient_fixed_of r) r.descent (read_of (get_or words 0 nan)))
