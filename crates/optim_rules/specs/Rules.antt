-- Which refusal an answer meets, the repeat rule, and which answer is accepted. Definitions only.
use Rattle.std.specs.Prelude.{ℕ, ◌+◌, Bool, false, cond, not, eqb, Ok, Err, Result as OkOrErr}
use Rattle.protocol.specs.declared.Kind.TheVariants.{Value, Gradient}
use Rattle.protocol.specs.declared.Refusal.{Refusal}
use Rattle.protocol.specs.Protocol.{letter, refusal}
use Rattle.optim_record.specs.declared.Record.{Record}
use Rattle.optim_record.specs.Record.{valid_of}
use Rattle.optim_reply.specs.Standing.{over_of, gradient_due_of}

-- "An answer carrying the number last accepted is a repeat" .. "Before the first acceptance no number is a repeat."
unfoldable pub repeats_of : ℕ → ℕ → Bool
repeats_of accepted number = cond (eqb accepted 0) false (eqb number accepted)

-- "A V answer is one f64, a G answer n of them."
unfoldable pub suits_of : Record → ℕ → ℕ → Bool
suits_of r kind count =
    cond (gradient_due_of r) (cond (not (eqb kind (letter Gradient))) false (eqb count r.n))
    (cond (not (eqb kind (letter Value))) false (eqb count 1))

-- the number of the refusal that an answer meets, 0 for none
unfoldable pub meets_of : Record → ℕ → ℕ → ℕ → ℕ
meets_of r number kind count =
    cond (not (valid_of r)) 1
    (cond (repeats_of r.accepted number) 0
    (cond (over_of r) 15
    (cond (not (eqb number (r.accepted + 1))) 16
    (cond (not (suits_of r kind count)) 17 0))))

-- an answer that meets the refusal `why` is accepted
unfoldable pub accepts_of : Record → ℕ → ℕ → Bool
accepts_of r number why = cond (not (eqb why 0)) false (not (repeats_of r.accepted number))

-- the number of the refusal that was met, 0 for none
unfoldable pub met_of : OkOrErr (Unit {0}) Refusal → ℕ
met_of (Ok u) = 0
met_of (Err w) = w.number

-- both: whether an answer is accepted, or the refusal that it meets
unfoldable pub accepted_of : Record → ℕ → ℕ → ℕ → OkOrErr Bool Refusal
unfolding meets_of accepts_of
accepted_of r number kind count =
    let why = meets_of r number kind count in
    cond (eqb why 0) (Ok (accepts_of r number why)) (Err (refusal why 0))
