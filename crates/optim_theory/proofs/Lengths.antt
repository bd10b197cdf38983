-- Every question's point and every outcome's has n coordinates, along every list of answers: `lengths`. Assumes nothing.
use Prim.Native.Nat.{ℕ, ◌+◌}
use mathlib.Core.Path.{◌≡◌, refl, sym, subst}
use mathlib.Core.Logic.{⊎_elim}
use mathlib.Core.Bool.{Bool, true, false, not, cond}
use mathlib.Core.List.Memᴰ
use mathlib.Core.List.{List, [], ◌∷◌, ◌++◌, Memᴰ}
use lib.Dec.{eqb, ltb, leb}
use lib.ListN.{length, get_or}
use lib.Ieee.{Float, nan}
use Rattle.vector.specs.Points.{from_slice_of, all_finite_of}
use Rattle.vector.proofs.First.{point_laws}
use Rattle.protocol.specs.declared.SimplexOptions.{SimplexOptions}
use Rattle.protocol.specs.declared.GradientOptions.{GradientOptions}
use Rattle.protocol.specs.declared.Allowances.{Allowances}
use Rattle.protocol.specs.Protocol.{Question, Answer, Reply, ask, ended, refused, Job, simplex, bfgs, lbfgs, Fit, Engine, simplex_mark, search_mark}
use Rattle.protocol.specs.Dialogue.{question_in, accepted, Dialogue, NotRefused, called, give, give_all, begin, run}
use Rattle.linesearch_trials.specs.Start.{line_from_of, line_refusal_of}
use Rattle.linesearch.specs.Step as linesearch
use Rattle.quasinewton.specs.Step as quasinewton
use Rattle.neldermead.specs.Step.{not_finite}
use Rattle.optim_record.specs.declared.Record.{Record}
use Rattle.optim_record.specs.Record.{last_asking, gradient_job_of, valid_of}
use Rattle.optim_reply.specs.Standing.{over_of, gradient_due_of, result_of, standing_simplex_of, search_result_of, standing_search_of, descent_result_of, standing_descent_of, standing_differences_of, standing_of}
use Rattle.optim_first_record.specs.Starts.{begun_record_of, simplex_refusal_of, simplex_record_of, gradient_refusal_of, gradient_record_of, search_refusal_of, search_record_of}
use Rattle.optim_rules.specs.Rules.{repeats_of, suits_of}
use Rattle.optim.specs.Answer.{stepped_of, graded_of, taken_of, taken_gradient_of, heard_of, answer_of}
use Rattle.optim_start.specs.Start.{differences_of, simplex_of, search_of, gradient_of, bfgs_of, lbfgs_of}
use Rattle.optim_theory.specs.Engine.{start_by, start_code, answer_code}
use Rattle.optim_theory.specs.Examples.{sample}
use Rattle.optim_theory.specs.Search.{SearchStart, search_code}
use Rattle.optim_theory.specs.Lengths.{PointsOf, AllOf, Lengths}
use Rattle.optim_theory.proofs.EngineRecords.{Has, Begins, stepped_n, graded_n, stands_n, answered_n, unless, simplex_begins, gradient_begins}

-- ---- one reply

record Pointed (n : ℕ) (y : Reply × Record) : Type 0 where
  points : PointsOf n y.0

either : (n : ℕ) (b : Bool) {y z : Reply × Record} → Pointed n y → Pointed n z → Pointed n (cond b y z)
either n true h k = h
either n false h k = k

refuses : (n k d : ℕ) (r : Record) → Pointed n (refused k d, r)
refuses n k d r = record { points = tt }

-- what stands in any record
stands : (r : Record) → Pointed r.n (standing_of r)
unfolding standing_of standing_simplex_of standing_search_of standing_descent_of standing_differences_of result_of search_result_of descent_result_of
stands r =
    let n = r.n in
    let s = r.descent.search in
    let asks : (q : Question) → length q.point ≡ n → Pointed n (ask q, r) = λ q e. record { points = e } in
    let listed = point_laws.listed n in
    either n (eqb r.job simplex_mark)
    (either n (leb r.simplex.phase last_asking) (asks _ (listed _)) (either n (eqb r.simplex.phase not_finite) (refuses n 20 0 r) (record { points = listed _ })))
    (either n (eqb r.job search_mark)
    (either n (ltb linesearch.asks_difference s.phase) (record { points = (listed _, listed _) }) (either n (eqb s.phase linesearch.asks_gradient) (asks _ (listed _)) (asks _ (listed _))))
    (either n (gradient_job_of r.job)
    (either n (quasinewton.asks_of r.descent) (either n (quasinewton.gradient_due_of r.descent) (asks _ (listed _)) (asks _ (listed _)))
    (either n (eqb r.descent.phase quasinewton.by_refusal) (refuses n r.descent.number r.descent.detail r) (record { points = listed _ })))
    (either n (eqb r.diff.at n) (record { points = listed _ }) (asks _ (listed _)))))

of_length : (n : ℕ) (r : Record) → Has n r → Pointed n (standing_of r)
of_length n r h = subst (λ (k : ℕ). Pointed k (standing_of r)) h.unknowns (stands r)

answered : (n : ℕ) (r : Record) (a : Answer) → Has n r → Pointed n (answer_code r a)
unfolding answer_of heard_of taken_of taken_gradient_of
answered n r a h =
    let w = a.words in
    let g = from_slice_of w r.n in
    let v = get_or w 0 nan in
    either n (valid_of r)
    (either n (repeats_of r.accepted a.number) (of_length n r h)
    (either n (over_of r) (refuses n 15 0 r)
    (either n (not (eqb a.number (r.accepted + 1))) (refuses n 16 0 r)
    (either n (not (suits_of r a.kind (length w))) (refuses n 17 0 r)
    (either n (gradient_due_of r) (of_length n (graded_of r g) (graded_n n r g h)) (of_length n (stepped_of r v) (stepped_n n r v h)))))))
    (refuses n 1 0 r)

-- ---- a list

module _ (start : Fit → Reply × Record) where
  abbrev E : Engine
  E = record { Record = Record; start = start; answer = answer_code }

  one_more : {A : Type 0} (P : A → Type 0) (xs ys : List A) → ((x : A) → Memᴰ x xs → P x) → ((x : A) → Memᴰ x ys → P x) → (x : A) → Memᴰ x (xs ++ ys) → P x
  one_more P xs ys h k x m = ⊎_elim (h x) (k x) (Memᴰ.append_cases xs m)

  alone : (n : ℕ) (z y : Reply) → PointsOf n z → Memᴰ y (z ∷ []) → PointsOf n y
  alone n z y h m = ⊎_elim (λ e. subst (PointsOf n) (sym e) h) (λ i. absurd (Memᴰ.not-nil i)) (Memᴰ.cases_cons m)

  asked : (n : ℕ) (z : Reply) → PointsOf n z → (q : Question) → Memᴰ q (question_in z) → length q.point ≡ n
  asked n (ask u) h q m = ⊎_elim (λ e. subst (λ (p : Question). length p.point ≡ n) (sym e) h) (λ i. absurd (Memᴰ.not-nil i)) (Memᴰ.cases_cons m)
  asked n (ended o) h q m = absurd (Memᴰ.not-nil m)
  asked n (refused k d) h q m = absurd (Memᴰ.not-nil m)

  record Good (n : ℕ) (d : Dialogue Record) : Type 0 where
    has : Has n d.record_now
    all : AllOf n d

  given : (n : ℕ) (d : Dialogue Record) (a : Answer) (b : Bool) (z : Reply × Record) → Has n z.1 → PointsOf n z.0 → Good n d → Good n (called E d a b z)
  given n d a true z h p g =
      record {
        has = h;
        all = record {
          replies = one_more (PointsOf n) d.replies (z.0 ∷ []) g.all.replies (λ y. alone n z.0 y p);
          questions = one_more (λ (q : Question). length q.point ≡ n) d.questions (question_in z.0) g.all.questions (asked n z.0 p);
        };
      }
  given n d a false z h p g =
      record {
        has = h;
        all = record { replies = one_more (PointsOf n) d.replies (z.0 ∷ []) g.all.replies (λ y. alone n z.0 y p); questions = g.all.questions };
      }

  along : (n : ℕ) (d : Dialogue Record) (l : List Answer) → Good n d → Good n (give_all E d l)
  along n d [] g = g
  along n d (a ∷ l) g =
      let r = d.record_now in
      along n (give E d a) l (given n d a (accepted d.standing a) (answer_code r a) (answered_n n r a g.has).beside (answered n r a g.has).points g)

  from_start : (n : ℕ) (f : Fit) (l : List Answer) → Begins n (start f) → Pointed n (start f) → NotRefused (start f).0 → AllOf n (run E f l)
  from_start n f l b p s =
      (along n (begin E f) l
      (record { has = b.begins s; all = record { replies = λ y. alone n (start f).0 y p.points; questions = asked n (start f).0 p.points } })).all

-- ---- starts: each is refused, or stands

-- two tests that refuse, and then what stands
two : (n : ℕ) (b c : Bool) {y z : Reply × Record} (r : Record) → Pointed n y → Pointed n z → Has n r → Pointed n (cond b y (cond c z (standing_of r)))
two n b c r p q h = either n b p (either n c q (of_length n r h))

simplex_points : (x : List Float) (o : SimplexOptions) (a : Allowances) → Pointed (length x) (simplex_of x o a)
unfolding simplex_of simplex_record_of
simplex_points x o a =
    let n = length x in
    let p = from_slice_of x n in
    two n (not (eqb (simplex_refusal_of n o a).number 0)) (not (all_finite_of p n)) (simplex_record_of p n o a) (record { points = tt }) (record { points = tt }) (record { unknowns = refl })

gradient_points : (x : List Float) (o : GradientOptions) (a : Allowances) (limited : Bool) → Pointed (length x) (gradient_of x o a limited)
unfolding gradient_of gradient_record_of
gradient_points x o a limited =
    let n = length x in
    let p = from_slice_of x n in
    two n (not (eqb (gradient_refusal_of n o a limited).number 0)) (not (all_finite_of p n)) (gradient_record_of p n o a limited) (record { points = tt }) (record { points = tt })
    (record { unknowns = refl })

search_points : (s : SearchStart) → Pointed (length s.x) (search_code s)
unfolding search_of search_record_of
search_points s =
    let n = length s.x in
    let l = line_from_of (from_slice_of s.x n) (from_slice_of s.d n) s.f (from_slice_of s.g n) n in
    two n (not (eqb (search_refusal_of n (length s.d) (length s.g) s.options).number 0)) (not (eqb (line_refusal_of n l s.step).number 0))
    (search_record_of l n s.step s.options s.gradients) (record { points = tt }) (record { points = tt }) (record { unknowns = refl })

differences_points : (x : List Float) → Pointed (length x) (differences_of x)
unfolding differences_of begun_record_of
differences_points x = either (length x) (ltb 16 (length x)) (refuses (length x) 2 0 _) (of_length (length x) (begun_record_of x) (record { unknowns = refl }))

search_begins : (s : SearchStart) → Begins (length s.x) (search_code s)
unfolding search_of search_record_of
search_begins s =
    let n = length s.x in
    let l = line_from_of (from_slice_of s.x n) (from_slice_of s.d n) s.f (from_slice_of s.g n) n in
    unless n (not (eqb (search_refusal_of n (length s.d) (length s.g) s.options).number 0)) (record { begins = λ h. absurd h })
    (unless n (not (eqb (line_refusal_of n l s.step).number 0)) (record { begins = λ h. absurd h })
    (record { begins = λ h. (stands_n n (search_record_of l n s.step s.options s.gradients) (record { unknowns = refl })).beside }))

differences_begins : (x : List Float) → Begins (length x) (differences_of x)
unfolding differences_of begun_record_of
differences_begins x =
    unless (length x) (ltb 16 (length x)) (record { begins = λ h. absurd h }) (record { begins = λ h. (stands_n (length x) (begun_record_of x) (record { unknowns = refl })).beside })

fit_starts : (j : Job) (x : List Float) (a : Allowances) → Begins (length x) (start_by j x a) × Pointed (length x) (start_by j x a)
unfolding bfgs_of lbfgs_of
fit_starts (simplex o) x a = (simplex_begins x o a, simplex_points x o a)
fit_starts (bfgs o) x a = (gradient_begins x o a false, gradient_points x o a false)
fit_starts (lbfgs o) x a = (gradient_begins x o a true, gradient_points x o a true)

-- a fit, at which the start of a bare job does not look
pub lengths : Lengths
lengths =
    record {
      fits = λ f l s. let t = fit_starts f.job f.x0 f.allowances in from_start start_code (length f.x0) f l t.0 t.1 s;
      search = λ s l n. from_start (λ f. search_code s) (length s.x) sample l (search_begins s) (search_points s) n;
      differences = λ x l n. from_start (λ f. differences_of x) (length x) sample l (differences_begins x) (differences_points x) n;
    }
