-- A run so far: what was read, where it leads, and what was written. Assumes nothing.
use Rattle.std.proofs.Common.{◌≡◌, ℕ, Bool, true, false, List, [], ◌++◌, Option, Some, None, IfSome, take, sym, ap, subst, ◌∙◌, append-nil}
use Rattle.std.proofs.KnownBytes.{Appends-nil, Consumes-nil, Consumes-trans, Consumes-whole}
use Rattle.std.specs.Io.KnownBytes.{Appends, Consumes, IsAtEnd}
use Rattle.lines_reader.specs.declared.Form.TheVariants.{Stopped}
use Rattle.fit_dialogue.specs.declared.Place.{Place}
use Rattle.fit_dialogue.specs.Program.{by_bytes, first_place, output_of, passed_of}
use Rattle.fit_theory.proofs.Program.{program_laws}
use Rattle.fit.specs.Output.{Wrote}
use Rattle.fit.proofs.Writes.{front_longer, then_text}
use Rattle.fit.proofs.Parts.{part_goes}

-- bytes were read from a reader that had a left and has b, and lead to p; what they bring was written to a writer that held u and holds v
abbrev pub Went : Option (List ℕ) → Option (List ℕ) → Option (List ℕ) → Option (List ℕ) → Place → Type 0
Went a b u v p = (bs : List ℕ) × Consumes a b bs × (p ≡ (passed_of first_place bs).1) × Appends u v (passed_of first_place bs).0

pub begun : (a u : Option (List ℕ)) (p : Place) → p ≡ first_place → Went a a u u p
unfolding passed_of
begun a u p e = ([], Consumes-nil a, e, Appends-nil u)

wrote_more : (w : Bool) (u v x : Option (List ℕ)) (p : Place) (bs cs : List ℕ) → p ≡ (passed_of first_place bs).1 → Appends u v (passed_of first_place bs).0
    → Wrote w v x (passed_of p cs).0 → Wrote w u x (passed_of first_place (bs ++ cs)).0
wrote_more w u v x p bs cs at wrote now =
    let P : List ℕ → Type 0 = Wrote w u x in
    let N : Place → Type 0 = λ r. Wrote w v x (passed_of r cs).0 in
    subst P (sym (ap (λ (t : List ℕ × Place). t.0) (part_goes first_place bs cs))) (then_text w u v x _ _ wrote (subst N at now))

-- a part more
pub part_more : (a b c u v x : Option (List ℕ)) (p q : Place) (cs : List ℕ) → Went a b u v p → Consumes b c cs
    → q ≡ (passed_of p cs).1 → Appends v x (passed_of p cs).0 → Went a c u x q
part_more a b c u v x p q cs (bs, read, at, wrote) more next now =
    let Q : Place → Type 0 = λ r. q ≡ (passed_of r cs).1 in (
      bs ++ cs,
      Consumes-trans a b c bs cs read more,
      subst Q at next ∙ sym (ap (λ (t : List ℕ × Place). t.1) (part_goes first_place bs cs)),
      wrote_more true u v x p bs cs at wrote now,
    )

-- what is due for the bytes that were read, and then what is due for the rest
due : (bs cs : List ℕ) → output_of (bs ++ cs) ≡ (passed_of first_place bs).0 ++ by_bytes (passed_of first_place bs).1.state (passed_of first_place bs).1.reader cs
due bs cs = sym (program_laws.whole (bs ++ cs)) ∙ program_laws.part_goes first_place bs cs

at_front : (a b : Option (List ℕ)) (bs : List ℕ) (P : List ℕ → Type 0) → Consumes a b bs → ((cs : List ℕ) → P (bs ++ cs)) → IfSome a P
at_front None b bs P h k = tt
at_front (Some x) None bs P h k = absurd h
at_front (Some x) (Some y) bs P h k = subst P (sym h) (k y)

-- a part of which a reply was lost: of what is due no more than a front was written
pub part_lost : (a b c u v x : Option (List ℕ)) (p : Place) (cs : List ℕ) → Went a b u v p → Consumes b c cs → Wrote false v x (passed_of p cs).0
    → IfSome a (λ bs. Wrote false u x (output_of bs))
part_lost a b c u v x p cs (bs, read, at, wrote) more now =
    let P : List ℕ → Type 0 = Wrote false u x in
    at_front a c (bs ++ cs) _ (Consumes-trans a b c bs cs read more)
    (λ ds. subst P (sym (due (bs ++ cs) ds)) (front_longer false u x _ _ (wrote_more false u v x p bs cs at wrote now)))

-- after a stop nothing more is due
pub stop_due : (a b u v : Option (List ℕ)) (p : Place) → Went a b u v p → p.state.due ≡ Stopped → IfSome a (λ bs. Appends u v (output_of bs))
stop_due a b u v p (bs, read, at, wrote) stop =
    at_front a b bs _ read
    (λ cs.
    let q = (passed_of first_place bs).1 in
    let none = program_laws.silent q.state q.reader cs (sym (ap (λ (r : Place). r.state.due) at) ∙ stop) in
    subst (Appends u v) (sym (due bs cs ∙ ap (λ l. (passed_of first_place bs).0 ++ l) none ∙ append-nil _)) wrote)

-- a read of none shows the end, where what the open line brings is due
pub end_due : (w : Bool) (a b c u v x : Option (List ℕ)) (p : Place) (n : ℕ) (s : List ℕ) → Went a b u v p → Consumes b c (take n s) → n ≡ 0 → IsAtEnd c
    → Wrote w v x (by_bytes p.state p.reader []) → IfSome a (λ bs. Wrote w u x (output_of bs))
end_due w a b c u v x p n s (bs, read, at, wrote) none zero end last =
    let N : Place → Type 0 = λ r. Wrote w v x (by_bytes r.state r.reader []) in
    let P : List ℕ → Type 0 = λ l. Wrote w u x (output_of l) in
    let Q : List ℕ → Type 0 = Wrote w u x in
    let C : ℕ → Type 0 = λ k. Consumes b c (take k s) in
    Consumes-whole a c (bs ++ []) P (Consumes-trans a b c bs [] read (subst C zero none)) end (subst Q (sym (due bs [])) (then_text w u v x _ _ wrote (subst N at last)))
