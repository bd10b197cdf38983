-- What a buffer has after a text is put. Assumes nothing.
use Rattle.std.proofs.Common.{◌≡◌, ℕ, ◌+◌, ◌-◌, ◌≤◌, List, ◌++◌, length, take, drop, sym, ap, ◌∙◌, arith, length-append}
use Rattle.std.proofs.lemmas.Slice.{take-put_mid, drop-put_mid}
use lib.ListN.{length-take, length-drop, take-append-drop}
use borrow.Rule.Slice.PartMut.{put_mid}
use Rattle.lines_buffer.specs.Texts.{Written, filled}

-- at a place
pub part : (at n : ℕ) (xs ys text : List ℕ) → at + n ≤ length xs → length text ≡ n → ys ≡ text → Written xs at (put_mid at (at + n - at) xs ys) (at + n) text
part at n xs ys text room long same =
    let k : at + n - at ≡ n = omega arith in
    rw (k, same) (record {
      long = omega (arith, long, length-append (take at xs) (text ++ drop n (drop at xs)), length-append text (drop n (drop at xs)), length-take at xs, length-drop n (drop at xs), length-drop at xs);
      place = omega (arith, long);
      bytes = take-put_mid at n xs text (at + n) (omega (arith, long)) (omega arith);
      rest = drop-put_mid at n xs text (at + n) (omega arith) (omega arith) long;
    })

-- a text put at the start decides the whole buffer
pub whole : {b a : List ℕ} {p : ℕ} {t : List ℕ} → Written b 0 a p t → (p ≡ length t) × (a ≡ filled b t)
whole {b} {a} {p} {t} w =
    let end : p ≡ length t = omega (arith, w.place) in
    (end, sym (take-append-drop p a) ∙ ap (λ (l : List ℕ). l ++ drop p a) w.bytes ∙ ap (λ (l : List ℕ). t ++ l) (w.rest ∙ ap (λ (k : ℕ). drop k b) end))
