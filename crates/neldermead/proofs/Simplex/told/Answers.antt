-- `neldermead::Simplex::told` meets its contract: what is put in the record, and what comes of each outcome. Assumes nothing.
use Prim.Native.Nat.{◌+◌}
use mathlib.Core.Path.{◌≡◌, sym, ◌∙◌}
use mathlib.Core.Bool.{true, false}
use mathlib.Core.Logic.{inl, inr}
use native.Mathlib.Omega.{arith}
use borrow.Author.Tests.{ne_eqb}
use Rattle.neldermead_vertices.specs.Vertices.{any_finite_of}
use Rattle.neldermead.specs.declared.Outcome.{Outcome}
use Rattle.neldermead.specs.declared.Outcome.TheVariants.{Rests, Asks, Built, Takes, Keeps, Shrunk}
use Rattle.neldermead.specs.Step.{told_of}
use Rattle.neldermead.proofs.Moves.{noted, tell_of, told_by}
use Rattle.neldermead.proofs.Simplex.told.Goals as goal
use Rattle.neldermead.proofs.Simplex.told.Goals.{Joined-self, in-1, in-2, in_default, in-Built+else-not-any_finite, in-Takes, in-Keeps, in-Shrunk}

noted_is : (c : Joined-self) → c.match-self.self ≡ noted c.args.fit c.args.self c.args.f c.args.fevals
noted_is c =
    let p = c.args.self.phase in
    elim c.match-self.branch [
      | in-1 w ↦ w.self-is ∙ elim w.in-1.is [ inl e ↦ rw e | inr e ↦ rw e ]
      | in-2 w ↦ w.self-is ∙ rw w.in-2.is
      | in_default w ↦ let other = w.in_default in w.self-is ∙ rw (ne_eqb p 1 (λ e. absurd (grind arith)), ne_eqb p 6 (λ e. absurd (grind arith)), ne_eqb p 2 (λ e. absurd (grind arith)))
    ]

comes : (c : Joined-self) (v : Outcome) → c.outcome-outcome.result ≡ v → tell_of c.args.fit c.args.self c.args.f c.args.fevals c.match-self.self v ≡ told_of c.args.fit c.args.self c.args.f c.args.fevals
comes c v e = told_by c.args.fit c.args.self c.args.f c.args.fevals c.match-self.self c.outcome-outcome.result v (noted_is c) c.outcome-outcome.ensures.is e

pub returns-in-Rests : goal.returns-in-Rests
returns-in-Rests c = comes (goal.at.returns-in-Rests c).Joined-self Rests c.in-Rests.is

pub returns-in-Asks : goal.returns-in-Asks
returns-in-Asks c = rw (c.phase.ensures, c.vertex.ensures, c.point-self.ensures) (comes (goal.at.returns-in-Asks c).Joined-self (Asks c.in-Asks.ask) c.in-Asks.is)

pub returns-then-not-any_finite : goal.returns-then-not-any_finite
returns-then-not-any_finite c =
    let none : any_finite_of c.match-self.self.v (c.args.fit.n + 1) ≡ false = sym c.any_finite.ensures ∙ c.if-not-any_finite.true in
    rw none at (comes (goal.at.returns-then-not-any_finite c).Joined-self Built c.in-Built.is)

pub returns : goal.returns
returns c =
    let j = (goal.at.returns c).Joined-self in
    c.headed.ensures
    ∙ elim c.match-outcome.branch [
      | in-Built+else-not-any_finite w ↦
          let some : any_finite_of c.match-self.self.v (c.args.fit.n + 1) ≡ true = sym w.any_finite.ensures ∙ w.if-not-any_finite.false in
          rw w.self-is (rw some at (comes j Built w.in-Built.is))
      | in-Takes w ↦ rw w.self-is (comes j Takes w.in-Takes.is)
      | in-Keeps w ↦ rw w.self-is (comes j Keeps w.in-Keeps.is)
      | in-Shrunk w ↦ rw w.self-is (comes j Shrunk w.in-Shrunk.is)
    ]
