-- The records along every list are in range (`in_range`), and their coordinates past n are +0.0 (`zeros`). Assumes nothing.
use Prim.Native.Nat.{ℕ, ◌+◌}
use mathlib.Core.Path.{◌≡◌, refl, sym, subst}
use mathlib.Core.Bool.{Bool, true, false, not, cond}
use mathlib.Core.List.{List, [], ◌∷◌}
use lib.Dec.{eqb}
use lib.ListN.{length, get_or}
use lib.Ieee.{Float, nan}
use Rattle.vector.specs.Points.{from_slice_of, all_finite_of}
use Rattle.protocol.specs.declared.SimplexOptions.{SimplexOptions}
use Rattle.protocol.specs.declared.GradientOptions.{GradientOptions}
use Rattle.protocol.specs.declared.Allowances.{Allowances}
use Rattle.protocol.specs.Protocol.{Answer, Reply, Job, simplex, bfgs, lbfgs, Fit, simplex_mark, search_mark}
use Rattle.protocol.specs.Dialogue.{accepted, Dialogue, called, give, give_all, begin, run, NotRefused, Started}
use Rattle.protocol.specs.Places.{Placed}
use Rattle.optim_record.specs.declared.Record.{Record}
use Rattle.optim_record.specs.Record.{gradient_job_of, valid_of}
use Rattle.optim_reply.specs.Standing.{over_of, gradient_due_of, standing_of}
use Rattle.optim_reply.proofs.Says.{stands_keeps}
use Rattle.optim_first_record.specs.Starts.{simplex_refusal_of, simplex_record_of, gradient_refusal_of, gradient_record_of}
use Rattle.optim_rules.specs.Rules.{repeats_of, suits_of}
use Rattle.optim.specs.Answer.{stepped_of, graded_of, taken_of, taken_gradient_of, heard_of, answer_of}
use Rattle.optim_start.specs.Start.{simplex_of, gradient_of, bfgs_of, lbfgs_of}
use Rattle.optim_theory.specs.Engine.{start_code, answer_code, code, CodeInRange, GradientZeros, ZerosOf, Zeros}
use Rattle.optim_theory.proofs.EngineRelated as simplexes
use Rattle.optim_theory.proofs.EngineRelated.{Place}
use Rattle.optim_theory.proofs.EngineAnswers as engine_answers
use Rattle.optim_theory.proofs.EngineStarts.{simplex_starts}
use Rattle.optim_theory.proofs.DescentAnswers as descents
use Rattle.optim_theory.proofs.DescentStarts.{bfgs_starts, lbfgs_starts}

-- ---- what every answer keeps holds along every list

module _ (P : Record → Type 0) (keeps : (r : Record) (a : Answer) → P r → P (answer_code r a).1) where
  given_on : (d : Dialogue Record) (a : Answer) (b : Bool) → P (answer_code d.record_now a).1 → P (called code d a b (answer_code d.record_now a)).record_now
  given_on d a true h = h
  given_on d a false h = h

  along : (d : Dialogue Record) (l : List Answer) → P d.record_now → P (give_all code d l).record_now
  along d [] h = h
  along d (a ∷ l) h = along (give code d a) l (given_on d a (accepted d.standing a) (keeps d.record_now a h))

-- ---- the number of unknowns stays

pub record Has (n : ℕ) (r : Record) : Type 0 where
  pub unknowns : r.n ≡ n

one_of : (n : ℕ) (b : Bool) {q r : Record} → Has n q → Has n r → Has n (cond b q r)
one_of n true h k = h
one_of n false h k = k

pub stepped_n : (n : ℕ) (r : Record) (v : Float) → Has n r → Has n (stepped_of r v)
unfolding stepped_of
stepped_n n r v h =
    let e = h.unknowns in
    one_of n (eqb r.job simplex_mark) (record { unknowns = e })
    (one_of n (eqb r.job search_mark) (record { unknowns = e }) (one_of n (gradient_job_of r.job) (record { unknowns = e }) (record { unknowns = e })))

pub graded_n : (n : ℕ) (r : Record) (g : List Float) → Has n r → Has n (graded_of r g)
unfolding graded_of
graded_n n r g h = let e = h.unknowns in one_of n (eqb r.job search_mark) (record { unknowns = e }) (record { unknowns = e })

-- the record of a reply
pub record HasBeside (n : ℕ) (y : Reply × Record) : Type 0 where
  pub beside : Has n y.1

either : (n : ℕ) (b : Bool) {y z : Reply × Record} → HasBeside n y → HasBeside n z → HasBeside n (cond b y z)
either n true h k = h
either n false h k = k

pub stands_n : (n : ℕ) (r : Record) → Has n r → HasBeside n (standing_of r)
stands_n n r h = record { beside = subst (Has n) (sym (stands_keeps r)) h }

pub answered_n : (n : ℕ) (r : Record) (a : Answer) → Has n r → HasBeside n (answer_code r a)
unfolding answer_of heard_of taken_of taken_gradient_of
answered_n n r a h =
    let w = a.words in
    either n (valid_of r)
    (either n (repeats_of r.accepted a.number) (stands_n n r h)
    (either n (over_of r) (record { beside = h })
    (either n (not (eqb a.number (r.accepted + 1))) (record { beside = h })
    (either n (not (suits_of r a.kind (length w))) (record { beside = h })
    (either n (gradient_due_of r) (stands_n n (graded_of r (from_slice_of w r.n)) (graded_n n r (from_slice_of w r.n) h))
    (stands_n n (stepped_of r (get_or w 0 nan)) (stepped_n n r (get_or w 0 nan) h)))))))
    (record { beside = h })

-- ---- the records of simplex fits, and of gradient fits

abbrev SimplexTied : Record → Type 0
SimplexTied r = (s : Placed Place) × simplexes.Relates r s

abbrev DescentTied : Record → Type 0
DescentTied r = (k : descents.Texts) × descents.Relates r k

simplex_tied : (d : Dialogue Record) (l : List Answer) → SimplexTied d.record_now → SimplexTied (give_all code d l).record_now
simplex_tied = along SimplexTied (λ r a h. (_, (engine_answers.answers r h.0 a h.1).1))

descent_tied : (d : Dialogue Record) (l : List Answer) → DescentTied d.record_now → DescentTied (give_all code d l).record_now
descent_tied = along DescentTied (λ r a h. (_, (descents.answers r h.0 a h.1).1))

-- ---- starts

-- unless it is refused
pub record Begins (n : ℕ) (y : Reply × Record) : Type 0 where
  pub begins : NotRefused y.0 → Has n y.1

pub unless : (n : ℕ) (b : Bool) {y z : Reply × Record} → Begins n y → Begins n z → Begins n (cond b y z)
unless n true h k = h
unless n false h k = k

pub simplex_begins : (x : List Float) (o : SimplexOptions) (a : Allowances) → Begins (length x) (simplex_of x o a)
unfolding simplex_of simplex_record_of
simplex_begins x o a =
    let n = length x in
    let r = simplex_record_of (from_slice_of x n) n o a in
    unless n (not (eqb (simplex_refusal_of n o a).number 0)) (record { begins = λ h. absurd h })
    (unless n (not (all_finite_of (from_slice_of x n) n)) (record { begins = λ h. absurd h }) (record { begins = λ h. (stands_n n r (record { unknowns = refl })).beside }))

pub gradient_begins : (x : List Float) (o : GradientOptions) (a : Allowances) (limited : Bool) → Begins (length x) (gradient_of x o a limited)
unfolding gradient_of gradient_record_of
gradient_begins x o a limited =
    let n = length x in
    let r = gradient_record_of (from_slice_of x n) n o a limited in
    unless n (not (eqb (gradient_refusal_of n o a limited).number 0)) (record { begins = λ h. absurd h })
    (unless n (not (all_finite_of (from_slice_of x n) n)) (record { begins = λ h. absurd h }) (record { begins = λ h. (stands_n n r (record { unknowns = refl })).beside }))

-- what holds of the record along the list l of a fit of the job j
abbrev Holds : Job → Allowances → List Float → List Answer → Type 0
Holds j a x l =
    let f : Fit = record { job = j; allowances = a; x0 = x } in
    let r = (run code f l).record_now in
    Started code f → (valid_of r ≡ true) × ZerosOf j (length x) r

along_n : (f : Fit) (l : List Answer) → Begins (length f.x0) (start_code f) → Started code f → (run code f l).record_now.n ≡ length f.x0
along_n f l h s = (along (Has (length f.x0)) (λ r a k. (answered_n (length f.x0) r a k).beside) (begin code f) l (h.begins s)).unknowns

simplex_holds : (o : SimplexOptions) (a : Allowances) (x : List Float) (l : List Answer) → Holds (simplex o) a x l
simplex_holds o a x l s =
    let f : Fit = record { job = simplex o; allowances = a; x0 = x } in
    let r = (run code f l).record_now in
    let t = simplex_tied (begin code f) l (_, (simplex_starts o a x).1 s) in
    (engine_answers.valid_of_lem r t.0 t.1, subst (λ (n : ℕ). ZerosOf (simplex o) n r) (along_n f l (simplex_begins x o a) s) t.1.sound.zeros)

-- of a record that is tied to a text
descent_holds : (n : ℕ) (r : Record) → DescentTied r → r.n ≡ n → (valid_of r ≡ true) × GradientZeros n r
descent_holds n r t e =
    let S = t.1.sound in
    (descents.valid_of_lem r t.0 t.1, subst (λ (k : ℕ). GradientZeros k r) e (record { descent = S.zeros; model = S.model_zeros }))

bfgs_holds : (o : GradientOptions) (a : Allowances) (x : List Float) (l : List Answer) → Holds (bfgs o) a x l
unfolding bfgs_of
bfgs_holds o a x l s =
    let f : Fit = record { job = bfgs o; allowances = a; x0 = x } in
    descent_holds (length x) (run code f l).record_now (descent_tied (begin code f) l (_, (bfgs_starts o a x).1 s)) (along_n f l (gradient_begins x o a false) s)

lbfgs_holds : (o : GradientOptions) (a : Allowances) (x : List Float) (l : List Answer) → Holds (lbfgs o) a x l
unfolding lbfgs_of
lbfgs_holds o a x l s =
    let f : Fit = record { job = lbfgs o; allowances = a; x0 = x } in
    descent_holds (length x) (run code f l).record_now (descent_tied (begin code f) l (_, (lbfgs_starts o a x).1 s)) (along_n f l (gradient_begins x o a true) s)

by_job : (j : Job) (a : Allowances) (x : List Float) (l : List Answer) → Holds j a x l
by_job (simplex o) a x l = simplex_holds o a x l
by_job (bfgs o) a x l = bfgs_holds o a x l
by_job (lbfgs o) a x l = lbfgs_holds o a x l

pub in_range : CodeInRange
in_range f l s = (by_job f.job f.allowances f.x0 l s).0

pub zeros : Zeros
zeros f l s = (by_job f.job f.allowances f.x0 l s).1
