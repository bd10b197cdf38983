-- What the engine says as numbers. Assumes nothing.
use Prim.Native.Nat.{ℕ}
use mathlib.Core.Path.{◌≡◌, refl}
use mathlib.Core.List.{List, []}
use lib.Ieee.{Float}
use Rattle.protocol.specs.declared.Said.{Said}
use Rattle.protocol.specs.declared.Said.TheVariants.{Ask, Fitted, Searched, Differenced, Refused}
use Rattle.protocol.specs.Protocol.{reply_of}
use Rattle.c_api.specs.Reply.{reply_as}

-- the numbers of a reply are the same with any point and gradient
pub any_point : (s : Said) (n : ℕ) (p q : List Float) → reply_as (reply_of s 0 [] []) ≡ reply_as (reply_of s n p q)
unfolding reply_as reply_of
any_point (Ask k κ) n p q = refl
any_point (Fitted t) n p q = refl
any_point (Searched t) n p q = refl
any_point Differenced n p q = refl
any_point (Refused why) n p q = refl
