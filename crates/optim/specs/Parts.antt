-- What is said of the record after an answer, by the refusal that the answer met; `answer_of` is said of it in proofs/Advance.antt.
-- Definitions only.
use Rattle.std.specs.Prelude.{ℕ, cond, not, eqb}
use Rattle.protocol.specs.Protocol.{Reply}
use Rattle.optim_record.specs.declared.Record.{Record}
use Rattle.optim_reply.specs.Standing.{refused_of, standing_of}

-- what is said of a record, after an answer that met the refusal `why`: what stands, where it met none
unfoldable pub replied_of : Record → ℕ → Reply × Record
replied_of r why = cond (not (eqb why 0)) (refused_of r why 0) (standing_of r)
