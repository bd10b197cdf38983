-- `neldermead::Simplex::headed` meets its contract: each return by the phase that the tests of the head gave. Assumes nothing.
use native.Mathlib.Omega.{arith}
use mathlib.Core.Path.{refl}
use borrow.Author.Tests.{ne_eqb}
use Rattle.neldermead.specs.Step.{reflect_of, trial_of}
use Rattle.neldermead.proofs.Head.{headed_by}
use Rattle.neldermead.proofs.Simplex.headed.Goals as goal

pub returns-in-1 : goal.returns-in-1
returns-in-1 c = rw c.in-1.is (headed_by c.args.fit c.args.self c.args.fevals _ _ _ 1 c.sorted-self.ensures c.better_of-self.ensures c.verdict.ensures.is c.in-1.is)

pub returns-in-2 : goal.returns-in-2
unfolding reflect_of trial_of
returns-in-2 c =
    rw (c.in-2.is, c.trial-self.ensures, c.centroid-self.ensures)
    (headed_by c.args.fit c.args.self c.args.fevals _ _ _ 2 c.sorted-self.ensures c.better_of-self.ensures c.verdict.ensures.is c.in-2.is)

pub returns-in_default : goal.returns-in_default
returns-in_default c =
    let p = c.verdict in
    let h = headed_by c.args.fit c.args.self c.args.fevals _ _ _ p.result c.sorted-self.ensures c.better_of-self.ensures p.ensures.is refl in
    rw (ne_eqb p.result 1 (λ e. absurd (omega arith)), ne_eqb p.result 2 (λ e. absurd (omega arith))) at h
