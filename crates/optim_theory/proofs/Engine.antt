-- The code's engine follows the texts of all three fits, and so replies as they do (`as_algorithm`), has the mission's 3 (`code_claim`), their bounds
-- (`code_at_most`) and their refusals (`code_refusals`). Assumes nothing.
use Prim.Native.Nat.{ℕ, ◌≤◌}
use mathlib.Core.Path.{◌≡◌, sym, ◌∙◌, subst}
use mathlib.Core.Logic.{◌⊎◌, inl, inr}
use mathlib.Core.List.{List, Memᴰ}
use lib.ListN.{length}
use lib.Ieee.{Float}
use Rattle.protocol.specs.declared.Allowances.{Allowances}
use Rattle.protocol.specs.Protocol.{Question, Answer, Reply, Job, simplex, bfgs, lbfgs, Fit}
use Rattle.protocol.specs.Dialogue.{F64s, GivenF64s, run, NotRefused, Started}
use Rattle.protocol.specs.Rounds.{Kept}
use Rattle.protocol.specs.Bounds.{questions_of}
use Rattle.protocol.specs.Places.{StepsLaws, Placed, start_at, answer_at}
use Rattle.protocol.specs.Follow.{Follows}
use Rattle.protocol.proofs.FitsPlaces.{fits_steps_laws}
use Rattle.protocol.proofs.Places.{places_follow}
use Rattle.protocol.proofs.Follow.{alike, claim_follows}
use Rattle.neldermead_theory.specs.Algorithm.{nelder_mead}
use Rattle.neldermead_theory.specs.Phases.{simplex_steps}
use Rattle.neldermead_theory.proofs.Phases.{simplex_steps_lem}
use Rattle.quasinewton_theory.specs.Algorithm.{quasi_newton}
use Rattle.optim_fits_theory.specs.Fits.{all_fits, reference}
use Rattle.optim_fits_theory.proofs.Fits.{mission, fits_claim}
use Rattle.optim_record.specs.declared.Record.{Record}
use Rattle.optim_theory.specs.Engine.{start_code, answer_code, code, CodeClaim, CodeAtMost, AsAlgorithm, CodeRefusals}
use Rattle.optim_theory.proofs.Textual.{textual_laws}
use Rattle.optim_theory.proofs.EngineRelated as simplexes
use Rattle.optim_theory.proofs.EngineRelated.{gradient_steps, all_steps, Place}
use Rattle.optim_theory.proofs.EngineAnswers as engine_answers
use Rattle.optim_theory.proofs.EngineStarts.{simplex_starts}
use Rattle.optim_theory.proofs.DescentAnswers as descents
use Rattle.optim_theory.proofs.DescentStarts.{bfgs_starts, lbfgs_starts}

-- ---- the code follows the texts: simplex fits by their places, gradient fits at once

abbrev Texts : Type 0
Texts = Kept all_fits.Position

laws : StepsLaws all_fits all_steps
laws = fits_steps_laws nelder_mead quasi_newton simplex_steps gradient_steps simplex_steps_lem (textual_laws quasi_newton)

places : Follows (Placed Place) Texts (start_at all_fits all_steps) (answer_at all_fits all_steps) reference.start reference.answer
places = places_follow all_fits all_steps laws

-- a record of a simplex fit stands for the text that its place stands for
record Simplex (r : Record) (k : Texts) : Type 0 where
  place : Placed Place
  relates : simplexes.Relates r place
  stands : places.Related place k

abbrev Relates : Record → Texts → Type 0
Relates r k = Simplex r k ⊎ descents.Relates r k

-- ---- answers

abbrev Replied : Record → Texts → Answer → Type 0
Replied r k a = ((answer_code r a).0 ≡ (reference.answer k a).0) × Relates (answer_code r a).1 (reference.answer k a).1 × ((reference.answer k a).1 ≡ k → (answer_code r a).1 ≡ r)

simplex_answers : (r : Record) (k : Texts) (a : Answer) → F64s a.words → Simplex r k → Replied r k a
simplex_answers r k a w S =
    let t = engine_answers.answers r S.place a S.relates in
    let u = places.answers S.place k a w S.stands in
    (t.0 ∙ u.0, inl (record { place = (answer_at all_fits all_steps S.place a).1; relates = t.1; stands = u.1 }), λ e. t.2 (places.stays S.place k a w S.stands e))

answers : (r : Record) (k : Texts) (a : Answer) → F64s a.words → Relates r k → Replied r k a
answers r k a w (inl S) = simplex_answers r k a w S
answers r k a w (inr D) = let t = descents.answers r k a D in (t.0, inr t.1, t.2)

-- ---- starts

abbrev Begun : Fit → Type 0
Begun f = ((start_code f).0 ≡ (reference.start f).0) × (NotRefused (start_code f).0 → Relates (start_code f).1 (reference.start f).1)

by_job : (j : Job) (a : Allowances) (x : List Float) → Begun (record { job = j; allowances = a; x0 = x })
by_job (simplex o) a x =
    let f : Fit = record { job = simplex o; allowances = a; x0 = x } in
    let t = simplex_starts o a x in
    let u = places.starts f in
    (t.0 ∙ u.0, λ n. inl (record { place = (start_at all_fits all_steps f).1; relates = t.1 n; stands = u.1 (subst NotRefused t.0 n) }))
by_job (bfgs o) a x = let t = bfgs_starts o a x in (t.0, λ n. inr (t.1 n))
by_job (lbfgs o) a x = let t = lbfgs_starts o a x in (t.0, λ n. inr (t.1 n))

starts : (f : Fit) → Begun f
starts f = by_job f.job f.allowances f.x0

-- ---- the mission's 3

code_follows : Follows Record Texts start_code answer_code reference.start reference.answer
code_follows =
    record {
      Related = Relates;
      starts = starts;
      answers = λ r k a w h. let t = answers r k a w h in (t.0, t.1);
      stays = λ r k a w h. (answers r k a w h).2;
    }

pub code_claim : CodeClaim
code_claim = claim_follows Record Texts start_code answer_code reference.start reference.answer code_follows mission

-- ---- the Algorithm's replies, and how many questions

same_questions : (f : Fit) (l : List Answer) → Started code f → GivenF64s l → (run code f l).questions ≡ (run reference f l).questions
same_questions f l n w = (alike Record Texts start_code answer_code reference.start reference.answer code_follows f l n w).questions

pub as_algorithm : AsAlgorithm
as_algorithm =
    record {
      start_reply = λ f. (starts f).0;
      questions = same_questions;
      exchanges = λ f l n w. (alike Record Texts start_code answer_code reference.start reference.answer code_follows f l n w).exchanges;
      replies = λ f l n w. (alike Record Texts start_code answer_code reference.start reference.answer code_follows f l n w).replies;
    }

-- a bound on the text's questions is one on the code's
fewer : (f : Fit) (l : List Answer) (count : List Question → ℕ) (bound : ℕ) → Started code f → GivenF64s l → count (run reference f l).questions ≤ bound → count (run code f l).questions ≤ bound
fewer f l count bound n w h = subst (λ (qs : List Question). count qs ≤ bound) (sym (same_questions f l n w)) h

pub code_at_most : CodeAtMost
code_at_most =
    let S = fits_claim.simplex_questions in
    let G = fits_claim.gradient_questions in
    record {
      by_fevals_lem = λ f o M j m n l w. fewer f l length _ n w (S.by_fevals_lem f o M j m l);
      by_iterations_lem = λ f o I j i n l w. fewer f l length _ n w (S.by_iterations_lem f o I j i l);
      with_gradients_lem = λ κ f o I j e i n l w. fewer f l (questions_of κ) _ n w (G.with_gradients_lem κ f o I j e i l);
      without_gradients_lem = λ f o I j e i n l w. fewer f l length _ n w (G.without_gradients_lem f o I j e i l);
    }

-- the text's refusals are the code's
pub code_refusals : CodeRefusals
code_refusals f l n w y m =
    fits_claim.refusals f l (subst NotRefused (starts f).0 n) w y (subst (λ (ys : List Reply). Memᴰ y ys) (as_algorithm.replies f l n w) m)
