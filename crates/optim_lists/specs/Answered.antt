-- What a call makes of the lists that it is lent, all places of each: the record's, and the two beside it that hold the point of the reply and a bare job's gradient. Definitions only.
use Rattle.std.specs.Prelude.{ℕ, cond, List, eqb, Float}
use Rattle.protocol.specs.declared.Said.{Said}
use Rattle.protocol.specs.Protocol.{Outcome, fitted, searched, differenced, Reply, ask, ended, refused, reply_of}
use Rattle.optim_record.specs.declared.Record.{Record}
use Rattle.optim_reply.specs.Spoken.{spoken_of}
use Rattle.optim.specs.Answer.{answer_of}
use Rattle.optim_lists.specs.Layout as place
use Rattle.optim_lists.specs.Lists.{Lists, mark, record_of, lists_of, formed_of}

-- ---- the record's lists

-- "A refused or repeated answer returns the very record that was passed, never one built anew": where the count of accepted answers has not moved, no list has; an accepted answer
-- leaves the one form of the record that it makes
abbrev pub moved_of : Lists → Record → Lists
moved_of l r = cond (eqb r.accepted (mark l.marks place.accepted)) l (lists_of r)

-- the answer to the record that the lists are, but for a flag that is an unknown mark: 1, and the lists as they were
unfoldable pub answered_of : Lists → ℕ → ℕ → List Float → Reply × Lists
answered_of l number kind words = let a = answer_of (record_of l) number kind words in cond (formed_of l) (a.0, moved_of l a.1) (refused 1 0, l)

-- a start leaves the one form of its record, whatever the lists held; a refused one that of the blank record
abbrev pub started_of : Reply × Record → Reply × Lists
started_of a = (a.0, lists_of a.1)

-- ---- the lists beside it

-- `point` after a reply that speaks of x: a refusal speaks of no point, and leaves it as it was
unfoldable pub point_with : Reply → List Float → List Float → List Float
point_with (ask q) x p = x
point_with (ended o) x p = x
point_with (refused k d) x p = p

-- `slopes` after a reply with the gradient g: a bare search and bare differences end with one, and all else leaves it as it was
abbrev pub ended_with : Outcome → List Float → List Float → List Float
ended_with (fitted r) g s = s
ended_with (searched r) g s = g
ended_with (differenced d) g s = g

unfoldable pub slopes_with : Reply → List Float → List Float → List Float
slopes_with (ask q) g s = s
slopes_with (ended o) g s = ended_with o g s
slopes_with (refused k d) g s = s

-- after a call that leaves the reply and the lists of `a`: all sixteen places, as the record that the lists are has them
abbrev pub point_after : Reply × Lists → List Float → List Float
point_after a p = point_with a.0 (spoken_of (record_of a.1)).x p

abbrev pub slopes_after : Reply × Lists → List Float → List Float
slopes_after a s = slopes_with a.0 (spoken_of (record_of a.1)).g s

-- what the code says over the lists that it leaves, with p in `point` and s in `slopes`
abbrev pub said_over : Said → Lists → List Float → List Float → Reply × Lists
said_over said l p s = (reply_of said (mark l.marks place.n) p s, l)
