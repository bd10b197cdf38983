-- The tests that `valid` makes of a part of a record, each with what it means: `simplex_part`, `bare_part`, `descent_part`, `whole`. Assumes nothing.
use Prim.Native.Nat.{ℕ, ◌≤◌, ◌<◌}
use native.Mathlib.Omega.{arith}
use mathlib.Core.Path.{◌≡◌, refl, sym, ◌∙◌, ap, subst}
use mathlib.Core.Bool.{Bool, true, false, not, cond, true≢false}
use mathlib.Core.Logic.{◌⊎◌, inl, inr, ⊎_elim, ◌↔◌}
use mathlib.Core.List.{List, [], ◌∷◌}
use lib.Dec.{eqb, ltb, leb}
use borrow.Author.Tests.{ltb-false, leb-true, eqb-true, eqb-false, not-true, not-false, le-ltb, le-leb, eq-eqb, ne_eqb}
use Rattle.quasinewton_record.specs.declared.Descent.{Descent}
use Rattle.optim_record.specs.declared.Record.{Record}
use Rattle.optim_record.specs.Record.{no_limit, valid_simplex_of, valid_search_part_of, valid_search_of, known_refusal_of, valid_ending_of, valid_options_of, valid_model_of, valid_descent_of, valid_part_of, valid_of}
use Rattle.optim_record.specs.Refusal1.{OneOf, EndingMark}

-- ---- tests, each with what it means

-- a chain that is false where a test holds
both : {A B : Type 0} (b x : Bool) → (b ≡ false) ↔ A → (x ≡ true) ↔ B → (cond b false x ≡ true) ↔ (A × B)
both true x p q = (λ e. absurd (true≢false (sym e)), λ h. absurd (true≢false (p.1 h.0)))
both false x p q = (λ e. (p.0 refl, q.0 e), λ h. q.1 h.1)

-- and one that is true where it does
either : {A B : Type 0} (b x : Bool) → (b ≡ true) ↔ A → (x ≡ true) ↔ B → (cond b true x ≡ true) ↔ (A ⊎ B)
either true x p q = (λ e. inl (p.0 refl), λ h. refl)
either false x p q = (λ e. inr (q.0 e), λ h. ⊎_elim (λ a. absurd (true≢false (sym (p.1 a)))) q.1 h)

denied : {A : Type 0} (b : Bool) → (b ≡ true) ↔ A → (not b ≡ false) ↔ A
denied b p = (λ e. p.0 (not-false b e), λ h. ap not (p.1 h))

at_most : (a b : ℕ) → (ltb b a ≡ false) ↔ (a ≤ b)
at_most a b = (ltb-false b a, le-ltb b a)

last_at_most : (a b : ℕ) → (leb a b ≡ true) ↔ (a ≤ b)
last_at_most a b = (leb-true a b, le-leb a b)

some : (k : ℕ) → (eqb k 0 ≡ false) ↔ (0 < k)
some k = (λ e. omega (arith, eqb-false k 0 e), λ h. ne_eqb k 0 (λ e. omega arith))

equal : (a b : ℕ) → (eqb a b ≡ true) ↔ (a ≡ b)
equal a b = (eqb-true a b, eq-eqb a b)

-- the last of a list
last : (a b : ℕ) → (eqb a b ≡ true) ↔ OneOf a (b ∷ [])
last a b = (λ e. inl (eqb-true a b e), λ h. ⊎_elim (eq-eqb a b) (λ n. absurd n) h)

-- ---- numbers that are none of a list

missing : ℕ → List ℕ → Bool
missing j [] = true
missing j (x ∷ l) = cond (eqb j x) false (missing j l)

apart : (k j : ℕ) (l : List ℕ) → missing j l ≡ true → OneOf k l → k ≡ j → ⊥
unfolding missing
apart k j [] m h e = h
apart k j (x ∷ l) m (inl s) e = eqb-false j x ((both (eqb j x) (missing j l) (λ i. i, λ i. i) (λ i. i, λ i. i)).0 m).0 (sym e ∙ s)
apart k j (x ∷ l) m (inr s) e = apart k j l ((both (eqb j x) (missing j l) (λ i. i, λ i. i) (λ i. i, λ i. i)).0 m).1 s e

-- ---- the refusal that ended a gradient fit

abbrev enders : List ℕ
enders = 6 ∷ 7 ∷ 9 ∷ 10 ∷ 11 ∷ 13 ∷ 14 ∷ 18 ∷ 19 ∷ []

-- the test of those with detail 0, after 5 and 12
numbers : ℕ → Bool
numbers k = cond (ltb k 6) false (cond (leb k 14) (not (eqb k 8)) (cond (eqb k 18) true (eqb k 19)))

module _ (k d : ℕ) where
  details : (cond (eqb d 1) true (eqb d 2) ≡ true) ↔ OneOf d (1 ∷ 2 ∷ [])
  details = either _ _ (equal d 1) (last d 2)

  to_four : (cond (eqb d 0) false (leb d 4) ≡ true) ↔ OneOf d (1 ∷ 2 ∷ 3 ∷ 4 ∷ [])
  to_four = (λ e. up ((both _ _ (some d) (last_at_most d 4)).0 e), λ h. (both _ _ (some d) (last_at_most d 4)).1 (down h))
    where
      up : (0 < d) × (d ≤ 4) → OneOf d (1 ∷ 2 ∷ 3 ∷ 4 ∷ [])
      up h = go (eqb d 1) refl (eqb d 2) refl (eqb d 3) refl
        where
          go : (a : Bool) → eqb d 1 ≡ a → (b : Bool) → eqb d 2 ≡ b → (c : Bool) → eqb d 3 ≡ c → OneOf d (1 ∷ 2 ∷ 3 ∷ 4 ∷ [])
          go true i b j c l = inl (eqb-true d 1 i)
          go false i true j c l = inr (inl (eqb-true d 2 j))
          go false i false j true l = inr (inr (inl (eqb-true d 3 l)))
          go false i false j false l = inr (inr (inr (inl (omega (arith, h.0, h.1, eqb-false d 1 i, eqb-false d 2 j, eqb-false d 3 l)))))

      down : OneOf d (1 ∷ 2 ∷ 3 ∷ 4 ∷ []) → (0 < d) × (d ≤ 4)
      down (inl e) = omega arith
      down (inr (inl e)) = omega arith
      down (inr (inr (inl e))) = omega arith
      down (inr (inr (inr (inl e)))) = omega arith
      down (inr (inr (inr (inr none)))) = elim none [ ]

  -- the six to fourteen but eight and twelve
  among : 6 ≤ k → k ≤ 14 → (k ≡ 8 → ⊥) → (k ≡ 12 → ⊥) → OneOf k enders
  among low high eight twelve = go (eqb k 6) refl (eqb k 7) refl (eqb k 9) refl (eqb k 10) refl (eqb k 11) refl (eqb k 13) refl
    where
      go : (a : Bool) → eqb k 6 ≡ a → (b : Bool) → eqb k 7 ≡ b → (c : Bool) → eqb k 9 ≡ c → (e : Bool) → eqb k 10 ≡ e → (f : Bool) → eqb k 11 ≡ f → (g : Bool) → eqb k 13 ≡ g
          → OneOf k enders
      go true i b j c l e m f n g o = inl (eqb-true k 6 i)
      go false i true j c l e m f n g o = inr (inl (eqb-true k 7 j))
      go false i false j true l e m f n g o = inr (inr (inl (eqb-true k 9 l)))
      go false i false j false l true m f n g o = inr (inr (inr (inl (eqb-true k 10 m))))
      go false i false j false l false m true n g o = inr (inr (inr (inr (inl (eqb-true k 11 n)))))
      go false i false j false l false m false n true o = inr (inr (inr (inr (inr (inl (eqb-true k 13 o))))))
      go false i false j false l false m false n false o =
          let fourteen : k ≡ 14 =
          omega (arith, low, high, eight, twelve, eqb-false k 6 i, eqb-false k 7 j, eqb-false k 9 l, eqb-false k 10 m, eqb-false k 11 n, eqb-false k 13 o) in
          inr (inr (inr (inr (inr (inr (inl fourteen))))))

  ender : (k ≡ 12 → ⊥) → numbers k ≡ true → OneOf k enders
  unfolding numbers
  ender twelve e = go (ltb k 6) refl (leb k 14) refl (eqb k 18) refl e
    where
      go : (a : Bool) → ltb k 6 ≡ a → (b : Bool) → leb k 14 ≡ b → (c : Bool) → eqb k 18 ≡ c
          → cond a false (cond b (not (eqb k 8)) (cond c true (eqb k 19))) ≡ true → OneOf k enders
      go true i b j c l h = absurd (true≢false (sym h))
      go false i true j c l h = among (ltb-false k 6 i) (leb-true k 14 j) (eqb-false k 8 (not-true (eqb k 8) h)) twelve
      go false i false j true l h = inr (inr (inr (inr (inr (inr (inr (inl (eqb-true k 18 l))))))))
      go false i false j false l h = inr (inr (inr (inr (inr (inr (inr (inr (inl (eqb-true k 19 h)))))))))

  ends : OneOf k enders → numbers k ≡ true
  unfolding numbers
  ends (inl e) = subst (λ j. numbers j ≡ true) (sym e) refl
  ends (inr (inl e)) = subst (λ j. numbers j ≡ true) (sym e) refl
  ends (inr (inr (inl e))) = subst (λ j. numbers j ≡ true) (sym e) refl
  ends (inr (inr (inr (inl e)))) = subst (λ j. numbers j ≡ true) (sym e) refl
  ends (inr (inr (inr (inr (inl e))))) = subst (λ j. numbers j ≡ true) (sym e) refl
  ends (inr (inr (inr (inr (inr (inl e)))))) = subst (λ j. numbers j ≡ true) (sym e) refl
  ends (inr (inr (inr (inr (inr (inr (inl e))))))) = subst (λ j. numbers j ≡ true) (sym e) refl
  ends (inr (inr (inr (inr (inr (inr (inr (inl e)))))))) = subst (λ j. numbers j ≡ true) (sym e) refl
  ends (inr (inr (inr (inr (inr (inr (inr (inr (inl e))))))))) = subst (λ j. numbers j ≡ true) (sym e) refl
  ends (inr (inr (inr (inr (inr (inr (inr (inr (inr none))))))))) = elim none [ ]

  others : (k ≡ 12 → ⊥) → (cond (not (eqb d 0)) false (numbers k) ≡ true) ↔ ((d ≡ 0) × OneOf k enders)
  others twelve = both _ _ (denied _ (equal d 0)) (ender twelve, ends)

  pub known : (known_refusal_of k d ≡ true) ↔ EndingMark k d
  unfolding known_refusal_of missing numbers
  known = (there (eqb k 5) refl (eqb k 12) refl, back)
    where
      by : Bool → Bool → Bool
      by a b = cond a (cond (eqb d 1) true (eqb d 2)) (cond b (cond (eqb d 0) false (leb d 4)) (cond (not (eqb d 0)) false (numbers k)))

      there : (a : Bool) → eqb k 5 ≡ a → (b : Bool) → eqb k 12 ≡ b → by a b ≡ true → EndingMark k d
      there true i b j e = inl (eqb-true k 5 i, details.0 e)
      there false i true j e = inr (inl (eqb-true k 12 j, to_four.0 e))
      there false i false j e = inr (inr ((others (eqb-false k 12 j)).0 e))

      back : EndingMark k d → known_refusal_of k d ≡ true
      back (inl h) = rw (eq-eqb k 5 h.0) (details.1 h.1)
      back (inr (inl h)) = rw (ne_eqb k 5 (λ e. omega (arith, h.0)), eq-eqb k 12 h.0) (to_four.1 h.1)
      back (inr (inr h)) = let t = apart k 12 enders refl h.1 in rw (ne_eqb k 5 (apart k 5 enders refl h.1), ne_eqb k 12 t) ((others t).1 h)

pub ending_part : (d : Descent) → (valid_ending_of d ≡ true) ↔ (d.phase ≡ 12 → EndingMark d.number d.detail)
unfolding valid_ending_of
ending_part d = go (eqb d.phase 12) refl
  where
    go : (b : Bool) → eqb d.phase 12 ≡ b → (cond b (known_refusal_of d.number d.detail) true ≡ true) ↔ (d.phase ≡ 12 → EndingMark d.number d.detail)
    go true i = (λ e p. (known d.number d.detail).0 e, λ h. (known d.number d.detail).1 (h (eqb-true _ _ i)))
    go false i = (λ e p. absurd (eqb-false _ _ i p), λ h. refl)

-- ---- each part

-- of a simplex fit
pub record SimplexPart (r : Record) : Type 0 where
  pub some_n : 0 < r.n
  pub vertex : r.simplex.at ≤ r.n
  pub phase_low : 0 < r.simplex.phase
  pub phase_high : r.simplex.phase ≤ 11
  pub rounds : r.simplex.rounds ≤ 40000000000
  pub runs : r.simplex.runs ≤ 40000000000
  pub iter : r.limits.iter ≤ 1000000
  pub fevals : r.limits.fevals ≤ 1000000
  pub restarts : r.options.restarts ≤ 100

pub simplex_part : (r : Record) → (valid_simplex_of r ≡ true) ↔ SimplexPart r
unfolding valid_simplex_of
simplex_part r =
    let s = r.simplex in
    let t =
    both _ _ (some r.n)
    (both _ _ (at_most s.at r.n)
    (both _ _ (some s.phase)
    (both _ _ (at_most s.phase 11)
    (both _ _ (at_most s.rounds 40000000000)
    (both _ _ (at_most s.runs 40000000000)
    (both _ _ (at_most r.limits.iter 1000000) (both _ _ (at_most r.limits.fevals 1000000) (last_at_most r.options.restarts 100)))))))) in (
      λ e.
          let (n, (v, (l, (h, (k, (u, (i, (f, m)))))))) = t.0 e in
          record { some_n = n; vertex = v; phase_low = l; phase_high = h; rounds = k; runs = u; iter = i; fevals = f; restarts = m },
      λ p. t.1 (p.some_n, (p.vertex, (p.phase_low, (p.phase_high, (p.rounds, (p.runs, (p.iter, (p.fevals, p.restarts)))))))),
    )

-- of a search
pub record SearchPart (r : Record) : Type 0 where
  pub phase_low : 0 < r.descent.search.phase
  pub phase_high : r.descent.search.phase ≤ 5
  pub evals : r.gradient.wolfe.evals ≤ 1000
  pub trials : r.descent.search.trials ≤ r.gradient.wolfe.evals
  pub at : r.descent.search.diff.at ≤ r.n

search_part : (r : Record) → (valid_search_part_of r ≡ true) ↔ SearchPart r
unfolding valid_search_part_of
search_part r =
    let s = r.descent.search in
    let e = r.gradient.wolfe.evals in
    let t =
    both _ _ (some s.phase) (both _ _ (at_most s.phase 5) (both _ _ (at_most e 1000) (both _ _ (at_most s.trials e) (last_at_most s.diff.at r.n)))) in (
      λ z. let (l, (h, (m, (k, a)))) = t.0 z in record { phase_low = l; phase_high = h; evals = m; trials = k; at = a },
      λ p. t.1 (p.phase_low, (p.phase_high, (p.evals, (p.trials, p.at)))),
    )

-- of the job search
pub record BarePart (r : Record) : Type 0 where
  pub some_n : 0 < r.n
  pub phase : r.descent.phase ≡ 4
  pub search : SearchPart r

pub bare_part : (r : Record) → (valid_search_of r ≡ true) ↔ BarePart r
unfolding valid_search_of
bare_part r =
    let t = both _ _ (some r.n) (both _ _ (denied _ (equal r.descent.phase 4)) (search_part r)) in
    (λ e. let (n, (p, s)) = t.0 e in record { some_n = n; phase = p; search = s }, λ p. t.1 (p.some_n, (p.phase, p.search)))

-- of a gradient fit's model
pub record ModelPart (r : Record) : Type 0 where
  pub most : r.model.memory ≤ 16
  pub pairs : r.model.pairs.count ≤ r.model.memory

model_part : (r : Record) → (valid_model_of r.model ≡ true) ↔ ModelPart r
unfolding valid_model_of
model_part r =
    let t = both _ _ (at_most r.model.memory 16) (last_at_most r.model.pairs.count r.model.memory) in
    (λ e. let (m, k) = t.0 e in record { most = m; pairs = k }, λ p. t.1 (p.most, p.pairs))

-- of a gradient fit
pub record DescentPart (r : Record) : Type 0 where
  pub some_n : 0 < r.n
  pub phase_low : 0 < r.descent.phase
  pub phase_high : r.descent.phase ≤ 12
  pub ending : r.descent.phase ≡ 12 → EndingMark r.descent.number r.descent.detail
  pub rounds : r.descent.rounds ≤ 40000000000
  pub at : r.descent.diff.at ≤ r.n
  pub iter : r.limits.iter ≤ 1000000
  pub memory : r.gradient.memory ≤ 16
  pub fevals : (r.limits.fevals ≡ no_limit) ⊎ (r.limits.fevals ≤ 1000000)
  pub model : ModelPart r
  pub search : SearchPart r

options : (r : Record) → (valid_options_of r ≡ true) ↔ ((r.limits.iter ≤ 1000000) × ((r.gradient.memory ≤ 16) × ((r.limits.fevals ≡ no_limit) ⊎ (r.limits.fevals ≤ 1000000))))
unfolding valid_options_of
options r =
    both _ _ (at_most r.limits.iter 1000000)
    (both _ _ (at_most r.gradient.memory 16) (either _ _ (equal r.limits.fevals no_limit) (last_at_most r.limits.fevals 1000000)))

pub descent_part : (r : Record) → (valid_descent_of r ≡ true) ↔ DescentPart r
unfolding valid_descent_of
descent_part r =
    let q = r.descent in
    let t =
    both _ _ (some r.n)
    (both _ _ (some q.phase)
    (both _ _ (at_most q.phase 12)
    (both _ _ (denied _ (ending_part q))
    (both _ _ (at_most q.rounds 40000000000)
    (both _ _ (at_most q.diff.at r.n) (both _ _ (denied _ (options r)) (both _ _ (denied _ (model_part r)) (search_part r)))))))) in (
      λ e.
          let (n, (l, (h, (y, (k, (a, (o, (m, s)))))))) = t.0 e in
          record { some_n = n; phase_low = l; phase_high = h; ending = y; rounds = k; at = a; iter = o.0; memory = o.1.0; fevals = o.1.1; model = m; search = s },
      λ p. t.1 (p.some_n, (p.phase_low, (p.phase_high, (p.ending, (p.rounds, (p.at, ((p.iter, (p.memory, p.fevals)), (p.model, p.search)))))))),
    )

-- of every record
pub record Common (r : Record) : Type 0 where
  pub few : r.n ≤ 16
  pub accepted : r.accepted ≤ 40000000000
  pub fevals : r.counts.fevals ≤ 40000000000
  pub gevals : r.counts.gevals ≤ 40000000000

pub whole : (r : Record) → (valid_of r ≡ true) ↔ (Common r × (valid_part_of r ≡ true))
unfolding valid_of
whole r =
    let t =
    both _ _ (at_most r.n 16)
    (both _ _ (at_most r.accepted 40000000000)
    (both _ _ (at_most r.counts.fevals 40000000000) (both {B = valid_part_of r ≡ true} _ _ (at_most r.counts.gevals 40000000000) (λ e. e, λ e. e)))) in (
      λ e. let (n, (a, (f, (g, j)))) = t.0 e in (record { few = n; accepted = a; fevals = f; gevals = g }, j),
      λ p. t.1 (p.0.few, (p.0.accepted, (p.0.fevals, (p.0.gevals, p.1)))),
    )
