-- The words that are lent to the engine are there: no more than seventeen. Assumes nothing.
use Prim.Native.Nat.{ℕ, ◌+◌, ◌≤◌}
use mathlib.Core.Path.{◌≡◌, sym, ap}
use mathlib.Core.List.{List}
use native.Mathlib.Omega.{arith}
use lib.ListN.{length}
use lib.Ieee.{Float}
use Rattle.std.specs.Prelude.{Some}
use Rattle.std.proofs.lemmas.Option.{cond_some}
use Rattle.vector.proofs.Loops.{length_upto}
use Rattle.lines_field.specs.declared.Reading.{Reading}
use Rattle.lines_reader.specs.declared.LineRead.{LineRead}
use Rattle.lines_forms.specs.Lines.{value_at, words_of, point_holds_of, point_line_of}
use Rattle.fit_state.specs.States.{kept_of}

words_long : (vs : List Reading) (from : ℕ) → length (words_of vs from 17) ≡ 17
unfolding words_of
words_long vs from = length_upto (λ i. value_at vs (from + i)) 17

-- of what was read
pub point_lent : (x : List Float) (l : LineRead) (n k : ℕ) → Some x ≡ point_line_of l n → k ≡ kept_of n → k ≤ length x
unfolding point_line_of
point_lent x l n k e f = omega (arith, f, ap length (cond_some (point_holds_of l n) _ x (sym e)).1, words_long l.fields 0)
