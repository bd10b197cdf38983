-- `vector::mat_vec` meets its contract. Assumes nothing.
use Rattle.std.proofs.Common.{rules}
use Rattle.vector.specs.Points.{row_dot_of, mat_vec_of}
use Rattle.vector.proofs.mat_vec.Goals as goal

pub returns : goal.returns
unfolding mat_vec_of
returns c = c.filled.ensures (λ i. row_dot_of c.args.h.now i c.args.v c.args.n) (λ i l v p. search rules)
