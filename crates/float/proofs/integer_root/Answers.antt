-- `float::integer_root` meets its contract, from the root of w. Assumes nothing.
use native.Mathlib.Omega.{arith}
use Rattle.float.proofs.IntegerRoots.{WordRoot, lifted, all_digits, one_less}
use Rattle.float.proofs.integer_root.Goals as goal

pub returns-then-q-rest : goal.returns-then-q-rest
returns-then-q-rest c =
    let word : WordRoot c.args.w c.word_root-s.result = record { wide = c.requires.w_large; fits = c.requires.w_bound; root = c.word_root-s.ensures } in
    all_digits word (omega (arith, c.if-q-rest.true, lifted word))

pub returns-else-q-rest : goal.returns-else-q-rest
returns-else-q-rest c =
    let word : WordRoot c.args.w c.word_root-s.result = record { wide = c.requires.w_large; fits = c.requires.w_bound; root = c.word_root-s.ensures } in
    one_less word (omega (arith, c.if-q-rest.false, lifted word))
