-- `lines_print::coordinates` meets its contract: a list's front is its first coordinates. Assumes nothing.
use Rattle.std.proofs.Common.{◌≡◌, ℕ, zero, suc, ◌≤◌, List, ◌++◌, ◌∷◌, [], length, take, refl, sym, ap, ◌∙◌, arith, min, inl, inr, length-take-le}
use Rattle.std.proofs.lemmas.Bool.{cases_lt}
use borrow.Author.Tests.{lt-ltb, le-ltb}
use Rattle.std.proofs.lemmas.List.{take_more}
use native.Mathlib.Numerals.{add-one}
use lib.Ieee.{Float, nan}
use Rattle.vector.specs.Loops.{at}
use Rattle.vector.specs.Lists.{first}
use Rattle.lines_print.specs.Print.{limited_of}
use Rattle.lines_print.proofs.coordinates.Goals as goal

front : (n : ℕ) (x : List Float) → n ≤ length x → take n x ≡ first n x
unfolding first
front zero x h = refl
front (suc n) x h = ap (λ k. take k x) (sym (add-one n)) ∙ take_more x n nan (omega arith) ∙ ap (λ l. l ++ (at x n ∷ [])) (front n x (omega arith))

limits : (n : ℕ) → min n 16 ≡ limited_of n
unfolding limited_of
limits n = elim (cases_lt n 16) [
  | inl few ↦ rw (lt-ltb n 16 few) (omega arith)
  | inr more ↦ rw (le-ltb n 16 more) (omega arith)
]

pub returns : goal.returns
returns c =
    let most : c.min.result ≤ 16 = omega (arith, c.min.ensures) in
    (front c.min.result c.args.x.now (omega (arith, c.told-x)) ∙ ap (λ k. first k c.args.x.now) (c.min.ensures ∙ limits c.args.n), omega (arith, length-take-le c.min.result c.args.x.now (omega (arith, c.told-x))))
