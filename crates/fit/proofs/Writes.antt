-- What one write more, or one text more, adds to a text that is being written. Assumes nothing.
use Rattle.std.proofs.Common.{◌≡◌, ℕ, ◌-◌, Bool, true, false, List, Option, ◌++◌, length, take, drop, refl, sym, ap, ◌∙◌, append_assoc, subst, take-append-drop}
use Rattle.std.proofs.lemmas.List.{take_rest}
use Rattle.std.proofs.KnownBytes.{Appends-trans}
use Rattle.std.specs.Io.KnownBytes.{Appends}
use Rattle.fit.specs.Output.{Wrote}

-- a write took n bytes of those that were left
pub further : (a b c : Option (List ℕ)) (all done rest : List ℕ) (n : ℕ) → all ≡ done ++ rest → Appends a b done → Appends b c (take n rest)
    → (all ≡ (done ++ take n rest) ++ take (length rest - n) (drop n rest)) × Appends a c (done ++ take n rest)
further a b c all done rest n split before now = (
  split
      ∙ ap (λ l. done ++ l) (sym (take-append-drop n rest))
      ∙ sym (append_assoc done (take n rest) (drop n rest))
      ∙ ap (λ l. (done ++ take n rest) ++ l) (sym (take_rest rest n)),
  Appends-trans a b c done (take n rest) before now,
)

-- a front of a text is one of a longer text
pub front_longer : (w : Bool) (a b : Option (List ℕ)) (t more : List ℕ) → Wrote w a b t → Wrote false a b (t ++ more)
front_longer true a b t more h = (t, more, refl, h)
front_longer false a b t more (front, rest, split, h) = (front, rest ++ more, ap (λ l. l ++ more) split ∙ append_assoc front rest more, h)

-- a text behind one that was written whole
pub then_text : (w : Bool) (a b c : Option (List ℕ)) (t u : List ℕ) → Appends a b t → Wrote w b c u → Wrote w a c (t ++ u)
then_text true a b c t u h k = Appends-trans a b c t u h k
then_text false a b c t u h (front, rest, split, k) = (t ++ front, rest, ap (λ l. t ++ l) split ∙ sym (append_assoc t front rest), Appends-trans a b c t front h k)

-- a text was lost behind one that was written whole: of all that was due no more than a front was written
pub then_lost : (a b c : Option (List ℕ)) (t u more all : List ℕ) → t ++ (u ++ more) ≡ all → Appends a b t → Wrote false b c u → Wrote false a c all
then_lost a b c t u more all e h k = subst (Wrote false a c) (append_assoc t u more ∙ e) (front_longer false a c (t ++ u) more (then_text false a b c t u h k))
