-- The types of the boundary that are not protocol's own, read as those of protocol. Definitions only.
use Rattle.std.specs.Prelude.{ℕ, cond, Option, None, Some, Ok, Err, Result as OkOrErr}
use Rattle.protocol.specs.declared.Allowances as protocol_allowances
use Rattle.protocol.specs.declared.Refusal as protocol_refusal
use Rattle.protocol.specs.Protocol.{no_refusal}
use Rattle.c_api.specs.declared.options.Allowance.{Allowance}
use Rattle.c_api.specs.declared.options.Allowances.{Allowances}
use Rattle.c_api.specs.declared.options.Refusal.{Refusal}

-- An allowance is a number or absent: the count beside `given` false, which may be any, is not looked at.
unfoldable pub to_allowance_of : Allowance → Option ℕ
to_allowance_of a = cond a.given (Some a.count) None

unfoldable pub to_allowances_of : Allowances → protocol_allowances.Allowances
unfolding to_allowance_of
to_allowances_of a = record { iter = to_allowance_of a.iter; fevals = to_allowance_of a.fevals }

-- the other way: what is handed back, 0 and 0 where no test is failed
unfoldable pub from_refusal_of : protocol_refusal.Refusal → Refusal
from_refusal_of r = record { number = r.number; detail = r.detail }

abbrev pub from_result_of : OkOrErr (Unit {0}) protocol_refusal.Refusal → Refusal
from_result_of (Ok u) = from_refusal_of no_refusal
from_result_of (Err why) = from_refusal_of why
