-- What a turn of a scan does. Assumes nothing.
use Prim.Native.Nat.{ℕ, ◌+◌, ◌≤◌, ◌<◌}
use mathlib.Core.Path.{◌≡◌, sym, ap, ◌∙◌}
use mathlib.Core.Bool.{true, false}
use mathlib.Core.List.{List}
use native.Mathlib.Numerals.{add-one}
use lib.ListN.{length, drop, get_or, drop_of_length-le}
use lib.Seq.{drop-cons}
use lib.Dec.{eqb}
use Rattle.lines_reader.specs.declared.Reader.{Reader}
use Rattle.lines_reader.specs.Reader.{fed_of}
use Rattle.fit_state.specs.States.{scanned_of}

pub scan_feed : (s : List ℕ) (i : ℕ) (r : Reader) → i < length s → eqb (get_or s i 0) 10 ≡ true → record { at = i + 1; ended = true; reader = r } ≡ scanned_of i (drop i s) r
unfolding scanned_of
scan_feed s i r h e = sym (ap (λ (l : List ℕ). scanned_of i l r) (drop-cons s i 0 h) ∙ rw e)

pub scan_go : (s : List ℕ) (i : ℕ) (r : Reader) → i < length s → eqb (get_or s i 0) 10 ≡ false → scanned_of (i + 1) (drop (i + 1) s) (fed_of r (get_or s i 0)) ≡ scanned_of i (drop i s) r
unfolding scanned_of
scan_go s i r h e = sym (ap (λ (l : List ℕ). scanned_of i l r) (drop-cons s i 0 h) ∙ rw (e, add-one i))

pub scan_end : (s : List ℕ) (i : ℕ) (r : Reader) → length s ≤ i → record { at = i; ended = false; reader = r } ≡ scanned_of i (drop i s) r
unfolding scanned_of
scan_end s i r h = sym (ap (λ (l : List ℕ). scanned_of i l r) (drop_of_length-le s h))
