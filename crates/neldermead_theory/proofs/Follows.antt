-- The record of the simplex follows the phases, whatever is told (`simplex_follows`), and turns go on as protocol has it (`settles_as_fits`). Assumes nothing.
use Prim.Native.Nat.{ℕ}
use mathlib.Core.Path.{◌≡◌, refl}
use mathlib.Core.Bool.{Bool, true, false}
use mathlib.Core.Logic.{inl}
use mathlib.Core.List.{List, ◌∷◌, []}
use lib.Ieee.{Float}
use Rattle.vector.specs.Lists.{first}
use Rattle.vector.proofs.First.{point_laws}
use Rattle.protocol.specs.Protocol.{read_of}
use Rattle.protocol.specs.declared.GradientOptions.{GradientOptions}
use Rattle.protocol.specs.Rounds.{at_head, stops, fails, Verdict, go_on, stop, restart, Rounds, FitLimits, reached}
use Rattle.protocol.specs.Fits.{map_verdict, Positions, fits}
use Rattle.protocol.specs.Places.{Turn, still, ends, Steps, allowed_turn, headed_turn, map_turn, Places, fits_steps}
use Rattle.neldermead.specs.declared.Fixed.{Fixed}
use Rattle.neldermead.specs.declared.Simplex.{Simplex}
use Rattle.neldermead_theory.specs.Algorithm.{SimplexPosition, tests, nowhere, nelder_mead}
use Rattle.neldermead_theory.specs.Phases.{Phase, building, reflecting, expanding, outside, inside, shrinking, point_of, Move, move, step_of, build_at, simplex_steps}
use Rattle.neldermead.specs.Step.{built_of, reflected_of, expanded_of, outside_of, inside_of, shrinking_of, told_of, start_of}
use Rattle.neldermead_theory.specs.Follows.{SimplexShaped, mark_of, Related, RelatedMove, allowed_move, headed_move, settled_move, SimplexSettlesAsFits, SimplexAllows, SimplexFollows}
use Rattle.neldermead_theory.proofs.FollowsShape.{start_shaped, told_shaped, start_zeros, told_zeros}
use Rattle.neldermead_theory.proofs.FollowsBuild.{built_follows}
use Rattle.neldermead_theory.proofs.FollowsShrink.{shrinking_follows}
use Rattle.neldermead_theory.proofs.FollowsRound.{reflected_follows, expanded_follows, outside_follows, inside_follows}

-- ---- the turn goes on as protocol has it

module _ (B : Rounds (Bool × GradientOptions)) (SB : Steps B) (l : FitLimits) (v : ℕ) (p : SimplexPosition) where
  abbrev in_fits : Move → Turn (Places nelder_mead B simplex_steps SB) (Positions nelder_mead B)
  in_fits t = map_turn inl inl t

  allowed_as : (over full : Bool) → allowed_turn (fits nelder_mead B) (fits_steps nelder_mead B simplex_steps SB) over full (inl p) ≡ in_fits (allowed_move over full p)
  allowed_as true full = refl
  allowed_as false true = refl
  allowed_as false false = refl

  headed_as : (y : Verdict SimplexPosition) → headed_turn (fits nelder_mead B) (fits_steps nelder_mead B simplex_steps SB) l v (map_verdict inl y) (inl p) ≡ in_fits (headed_move l v y p)
  headed_as go_on = allowed_as (reached p.iterations l.iter) (reached v l.fevals)
  headed_as (stop y) = refl
  headed_as (restart m) = refl

pub settles_as_fits : SimplexSettlesAsFits
settles_as_fits B SB l v (still ph) = refl
settles_as_fits B SB l v (ends (at_head p)) = headed_as B SB l v p (tests p)
settles_as_fits B SB l v (ends (stops y p)) = refl
settles_as_fits B SB l v (ends (fails k d)) = refl

-- ---- the start, and an answer

starts : (fit : Fixed) (x : List Float) → RelatedMove fit (start_of x) (build_at (nowhere fit.options (first fit.n x)) (first fit.n x))
unfolding start_of
starts fit x =
    record {
      mark = refl;
      point = refl;
      position = record { options = refl; count = point_laws.listed fit.n x; iterations = refl; runs = refl; best = refl };
      holds = record { told = refl; left = refl };
    }

module _ (fit : Fixed) (s : Simplex) (f : Float) (v : ℕ) where
  -- what the record does at a phase's mark
  abbrev at_mark : Phase → Simplex
  at_mark (building p us x xs) = built_of fit s f v
  at_mark (reflecting p) = reflected_of fit s f v
  at_mark (expanding p r) = expanded_of fit s f v
  at_mark (outside p r) = outside_of fit s f v
  at_mark (inside p) = inside_of fit s f v
  at_mark (shrinking p us x xs) = shrinking_of fit s f v

  by_mark : (ph : Phase) → s.phase ≡ mark_of ph → told_of fit s f v ≡ at_mark ph
  unfolding told_of
  by_mark (building p us x xs) e = rw e
  by_mark (reflecting p) e = rw e
  by_mark (expanding p r) e = rw e
  by_mark (outside p r) e = rw e
  by_mark (inside p) e = rw e
  by_mark (shrinking p us x xs) e = rw e

  module _ (l : FitLimits) (allows : SimplexAllows fit l) (h : SimplexShaped fit.n s) where
    moved : (ph : Phase) → Related fit s ph → RelatedMove fit (at_mark ph) (settled_move l v (move ph (record { x = point_of ph; f = f })))
    moved (building p us x xs) r = built_follows fit l allows v s h p us x xs r f
    moved (reflecting p) r = reflected_follows fit l allows v h.positive h.small s h.many f p (point_of (reflecting p)) r.point r.position r.holds
    moved (expanding p w) r = expanded_follows fit l allows v h.positive h.small s h.many f p (point_of (expanding p w)) r.point r.position w r.holds
    moved (outside p w) r = outside_follows fit l allows v h.positive h.small s h.many f p (point_of (outside p w)) r.point r.position w r.holds
    moved (inside p) r = inside_follows fit l allows v h.positive h.small s h.many f p (point_of (inside p)) r.point r.position r.holds
    moved (shrinking p us x xs) r = shrinking_follows fit l allows v s h p us x xs r f

follows : (fit : Fixed) (l : FitLimits) (s : Simplex) (ph : Phase) → SimplexAllows fit l → SimplexShaped fit.n s → Related fit s ph
    → (w : Float) (v : ℕ) → RelatedMove fit (told_of fit s (read_of w) v) (settled_move l v (step_of ph (w ∷ [])))
follows fit l s ph allows shape r w v = rw (by_mark fit s (read_of w) v ph r.mark) (moved fit s (read_of w) v l allows shape ph r)

pub simplex_follows : SimplexFollows
simplex_follows = record { starts = starts; follows = follows; start_shaped = start_shaped; told_shaped = told_shaped; start_zeros = start_zeros; told_zeros = told_zeros }
