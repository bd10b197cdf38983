-- `vector::row_dot` meets its contract. Assumes nothing.
use lib.Ieee.{neg, of_bits}
use Rattle.std.proofs.Common.{rules, ◌+◌, ◌*◌}
use Rattle.float.specs.Binary64.{◌⊕◌, ◌⊗◌}
use Rattle.vector.specs.Loops.{at}
use Rattle.vector.specs.Points.{row_dot_of}
use Rattle.vector.proofs.row_dot.Goals as goal

pub returns : goal.returns
unfolding row_dot_of neg of_bits
returns c = c.folded.ensures (λ s j. s ⊕ at c.args.h.now (c.args.i * 16 + j) ⊗ at c.args.v j) (λ s i l v p. search rules)
