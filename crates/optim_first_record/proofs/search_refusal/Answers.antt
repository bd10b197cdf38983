-- `optim_first_record::search_refusal` meets its contract: 2, then the `?` hands back what the options meet. Assumes nothing.
use mathlib.Core.Path.{◌∙◌}
use Rattle.std.proofs.lemmas.Result.{err_from_is_err_and}
use Rattle.protocol.specs.Protocol.{as_result}
use Rattle.protocol.proofs.Refusals.{then_others, first_of}
use Rattle.optim_first_record.specs.Starts.{search_refusal_of}
use Rattle.optim_first_record.proofs.search_refusal.Goals as goal

pub returns-then-search_past_limits : goal.returns-then-search_past_limits
unfolding search_refusal_of as_result
returns-then-search_past_limits c = rw (← c.search_past_limits.ensures, c.if-search_past_limits.true, c.new.ensures)

pub returns-in_err-options_refusal : goal.returns-in_err-options_refusal
unfolding search_refusal_of
returns-in_err-options_refusal c =
    let p = err_from_is_err_and c.from_residual.result c.from_residual.ensures.1 in
    rw (p.1, p.2, ← c.search_past_limits.ensures, c.if-search_past_limits.false) (first_of _ _ _ c.in_err-options_refusal.ensures)

pub returns : goal.returns
unfolding search_refusal_of
returns c = rw (← c.search_past_limits.ensures, c.if-search_past_limits.false) (c.counts_refusal.ensures ∙ then_others _ _ c.in_ok-options_refusal.ensures)
