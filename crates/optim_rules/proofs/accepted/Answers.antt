-- `optim_rules::accepted` meets its contract: the `?` hands back what the answer meets. Assumes nothing.
use mathlib.Core.Path.{◌≡◌, sym, ap}
use Rattle.std.specs.Prelude.{Err}
use Rattle.std.proofs.lemmas.Result.{err_from_is_err_and}
use Rattle.protocol.specs.Protocol.{refusal}
use Rattle.protocol.proofs.Refusals.{failed, none}
use Rattle.optim_rules.specs.Rules.{meets_of, met_of, accepted_of}
use Rattle.optim_rules.proofs.accepted.Goals as goal

pub returns-in_err-meets : goal.returns-in_err-meets
unfolding accepted_of
returns-in_err-meets c =
    let a = c.args in
    let p = err_from_is_err_and c.from_residual.result c.from_residual.ensures.1 in
    let f = failed (refusal (meets_of a.r a.number a.kind a.count) 0) _ c.in_err-meets.ensures in
    rw (p.1, p.2, f.0) (ap Err (sym f.1))

pub returns : goal.returns
unfolding accepted_of met_of
returns c =
    let a = c.args in
    let z : meets_of a.r a.number a.kind a.count ≡ 0 = none (refusal (meets_of a.r a.number a.kind a.count) 0) c.in_ok-meets.ensures in
    rw (z, c.accepts.ensures)
