-- What the engine says is handed on to C. Assumes nothing.
use Prim.Native.Nat.{ℕ}
use mathlib.Core.Path.{◌≡◌, ap, ◌∙◌, subst}
use mathlib.Core.List.{List, []}
use lib.Ieee.{Float}
use Rattle.protocol.specs.declared.Allowances.{Allowances}
use Rattle.protocol.specs.declared.Said.{Said}
use Rattle.protocol.specs.Protocol.{Reply, reply_of}
use Rattle.optim_record.specs.declared.Record.{Record}
use Rattle.optim_lists.specs.Lists.{Lists}
use Rattle.optim_lists.specs.Answered.{started_of, point_after, slopes_after}
use Rattle.c_api.specs.declared.reply.Reply as c
use Rattle.c_api.specs.Reply.{reply_as}
use Rattle.c_api.proofs.Laws.{any_point}
use Rattle.c_fit.specs.Handed.{handed_of}

-- what the contract of a call over lent lists says, of the engine and of what C calls
abbrev pub Left : Reply × Lists → List Float → List Float → List Float → List Float → Reply × Lists → Type 0
Left o p' q' p q y = record { outcome : o ≡ y; said_point : p' ≡ point_after y p; said_slopes : q' ≡ slopes_after y q }

abbrev pub Handed : c.Reply → Lists → List Float → List Float → List Float → List Float → Reply × Lists → Type 0
Handed r l p' q' p q y = record { outcome : (r, l) ≡ handed_of y; said_point : p' ≡ point_after y p; said_slopes : q' ≡ slopes_after y q }

-- what a call over lent lists leaves, by what the engine's call left
pub handed : (s : Said) (n : ℕ) (p q : List Float) {r : c.Reply} {p' q' : List Float} {l : Lists} {y : Reply × Lists} → r ≡ reply_as (reply_of s 0 [] [])
    → Left (reply_of s n p' q', l) p' q' p q y → Handed r l p' q' p q y
handed s n p q {p' = p'} {q' = q'} {l = l} e h =
    record { outcome = ap (λ (k : c.Reply). (k, l)) (e ∙ any_point s n p' q') ∙ ap handed_of h.outcome; said_point = h.said_point; said_slopes = h.said_slopes }

-- and of a call whose allowances were C's
pub handed_as : (s : Said) (n : ℕ) (p q : List Float) {r : c.Reply} {p' q' : List Float} {l : Lists} {y z : Reply × Lists} → y ≡ z → r ≡ reply_as (reply_of s 0 [] [])
    → Left (reply_of s n p' q', l) p' q' p q y → Handed r l p' q' p q z
handed_as s n p q {r = r} {p' = p'} {q' = q'} {l = l} w e h = subst (Handed r l p' q' p q) w (handed s n p q e h)

-- a fit's start with the same allowances
pub fit_as : {O : Type 0} (start : List Float → O → Allowances → Reply × Record) (x : List Float) (o : O) {a a' : Allowances} → a ≡ a' → started_of (start x o a) ≡ started_of (start x o a')
fit_as start x o = ap (λ (b : Allowances). started_of (start x o b))
