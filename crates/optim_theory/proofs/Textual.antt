-- The places of a text that are the rest of the text itself (`textual`), so that any fit in direct style has steps, and they owe their laws (`textual_laws`). Assumes nothing.
use mathlib.Core.Path.{◌≡◌, refl, sym, ap, fun_ext, subst}
use mathlib.Core.List.{List}
use lib.Ieee.{Float}
use Rattle.protocol.specs.declared.Kind.{Kind}
use Rattle.protocol.specs.Ask.{Ask, finish, query}
use Rattle.protocol.specs.Rounds.{Ending, at_head, Verdict, go_on, stop, restart, Rounds}
use Rattle.protocol.specs.Places.{Turn, still, ends, text, Steps, StepsLaws}

-- an open question, and what is left of the text after its answer
pub record Rest (Position : Type 0) : Type 0 where
  pub kind : Kind
  pub point : List Float
  pub onward : List Float → Ask (Ending Position)

abbrev pub turn_of : {P : Type 0} → Ask (Ending P) → Turn (Rest P) P
turn_of (query k x c) = still (record { kind = k; point = x; onward = c })
turn_of (finish o) = ends o

abbrev pub rest_of : {P : Type 0} → Rest P → Ask (Ending P)
rest_of s = query s.kind s.point s.onward

-- a restart's text; no other verdict leads to one
abbrev pub again_of : {P : Type 0} → P → Verdict P → Turn (Rest P) P
again_of p go_on = ends (at_head p)
again_of p (stop y) = ends (at_head p)
again_of p (restart m) = turn_of m

turn_text : {P : Type 0} → (m : Ask (Ending P)) → text rest_of (turn_of m) ≡ m
turn_text (query k x c) = refl
turn_text (finish o) = refl

module _ {Start : Type 0} (R : Rounds Start) where
  abbrev pub textual : Steps R
  textual =
      record {
        Place = Rest R.Position;
        kind = λ s. s.kind;
        point = λ s. s.point;
        step = λ s w. turn_of (s.onward w);
        opening = λ j x. turn_of (R.opening j x);
        again = λ p. again_of p (R.tests p);
        round = λ p. turn_of (R.round p);
      }

  pub textual_laws : StepsLaws R textual
  textual_laws =
      record {
        to_do = rest_of;
        follows = λ s. ap (query s.kind s.point) (fun_ext (λ w. sym (turn_text (s.onward w))));
        opens = λ j x. turn_text (R.opening j x);
        restarts = λ p m e. subst (λ (v : Verdict R.Position). text rest_of (again_of p v) ≡ m) (sym e) (turn_text m);
        rounds = λ p. turn_text (R.round p);
      }
