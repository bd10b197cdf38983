-- `quasinewton_round::tested` meets its contract: each `?` hands back the first refusal. Assumes nothing.
use mathlib.Core.Path.{◌∙◌}
use Rattle.std.proofs.lemmas.Result.{err_from_is_err_and}
use Rattle.protocol.proofs.Refusals.{then_others, first_of}
use Rattle.quasinewton_round.specs.Rounds.{tested_of}
use Rattle.quasinewton_round.proofs.tested.Goals as goal

pub returns-in_err-options_refusal : goal.returns-in_err-options_refusal
unfolding tested_of
returns-in_err-options_refusal c =
    let p = err_from_is_err_and c.from_residual.result c.from_residual.ensures.1 in
    rw (p.1, p.2) (first_of _ _ _ c.in_err-options_refusal.ensures)

pub returns-in_err-counts_refusal : goal.returns-in_err-counts_refusal
unfolding tested_of
returns-in_err-counts_refusal c =
    let p = err_from_is_err_and c.from_residual-in_err-counts_refusal.result c.from_residual-in_err-counts_refusal.ensures.1 in
    rw (p.1, p.2) (first_of _ _ _ c.in_err-counts_refusal.ensures ∙ then_others _ _ c.in_ok-options_refusal.ensures)

pub returns : goal.returns
unfolding tested_of
returns c = c.line_refusal.ensures ∙ then_others _ _ c.in_ok-counts_refusal.ensures ∙ then_others _ _ c.in_ok-options_refusal.ensures
