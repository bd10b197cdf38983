-- Texts that are written one behind the other. Assumes nothing.
use Rattle.std.proofs.Common.{ℕ, List, ◌++◌, Option, Result, Ok, Err}
use Rattle.std.proofs.KnownBytes.{Appends-trans}
use Rattle.std.specs.Prelude.{OnOk}
use Rattle.std.specs.Io.KnownBytes.{Appends}

pub then_ok : {A E : Type 0} (r : Result A E) (a b c : Option (List ℕ)) (t u : List ℕ) → Appends a b t → OnOk r (Appends b c u) → OnOk r (Appends a c (t ++ u))
then_ok (Ok x) a b c t u h k = Appends-trans a b c t u h k
then_ok (Err e) a b c t u h k = tt
