-- `lines_forms::words` meets its contract: each place has the value of its field. Assumes nothing.
use Rattle.std.proofs.Common.{rules, ◌≡◌, ◌+◌}
use mathlib.Core.Path.{refl}
use lib.Ieee.{nan}
use Rattle.lines_forms.specs.Lines.{value_at, words_of}
use Rattle.lines_forms.proofs.Values.{from_calls}
use Rattle.lines_forms.proofs.words.Goals as goal

pub returns : goal.returns
unfolding words_of
returns c =
    let a = c.args in
    from_calls (λ s. (s.0.now ≡ a.fields) × (s.1.now ≡ a.from)) (λ k. value_at a.fields (a.from + k)) c.from_fn.result nan (λ p i y q h w. search rules) _ _ (refl, refl) c.from_fn.ensures.items
