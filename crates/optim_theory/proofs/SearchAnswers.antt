-- A record of the job `search` is tied to its text as every bare job is: `ties`. Assumes nothing.
use Prim.Native.Nat.{◌≤◌, ◌<◌}
use mathlib.Core.Path.{◌≡◌, refl, ◌∙◌, ap, subst}
use mathlib.Core.Logic.{◌⊎◌, inl, inr}
use mathlib.Core.Bool.{Bool, true, false, cond}
use borrow.Author.Tests.{lt-ltb, le-ltb, ltb-true, ltb-false}
use lib.Dec.{eqb, ltb}
use Rattle.vector.specs.Lists.{first}
use Rattle.vector.proofs.First.{point_laws}
use Rattle.protocol.specs.declared.Kind.TheVariants.{Value, Gradient}
use Rattle.protocol.specs.Ask.{◌>>=◌}
use Rattle.linesearch.specs.Step.{asks_gradient, asks_difference, probe_of}
use Rattle.linesearch_theory.specs.Algorithm.{Searched}
use Rattle.linesearch_theory.specs.Follows.{kind_of, to_do, answered}
use Rattle.optim_record.specs.declared.Record.{Record}
use Rattle.optim_record.specs.Record.{search_fixed_of}
use Rattle.optim_theory.specs.Follows.{as_told}
use Rattle.optim_theory.specs.Jobs.{Text, last_of, shown}
use Rattle.optim_theory.specs.Search.{search_ending}
use Rattle.optim_theory.proofs.JobAnswers as job
use Rattle.optim_theory.proofs.SearchRelated.{finished, text_of, Sound, Relates, valid, asks, ended_by, over_as, due_as, stands, moves, moves_within}

module _ (r : Record) (R : Relates r (text_of r)) where
  abbrev S : Sound r
  S = R.sound

  -- the search has ended
  over : asks_difference < r.descent.search.phase → job.Over search_ending Relates r (text_of r)
  over h = record { result = _; rest = ended_by r S h; over = over_as r S true (lt-ltb asks_difference r.descent.search.phase h) }

  -- a question stands open
  asking : r.descent.search.phase ≤ asks_difference → job.Asking search_ending Relates r (text_of r)
  asking h =
      let line = r.descent.line in
      let s = r.descent.search in
      record {
        kind = kind_of s;
        point = first r.n (probe_of (search_fixed_of r) line s);
        then = λ w. to_do as_told (search_fixed_of r) line (answered as_told (search_fixed_of r) line s w) >>= finished;
        rest = asks r S h;
        stands_open = over_as r S false (le-ltb asks_difference s.phase h);
        due = due_as r S ∙ by (eqb s.phase asks_gradient);
        long = point_laws.listed r.n _;
        leads = λ w. let m = moves r S h w in record { sound = m.sound; within = λ κ. moves_within r S h w κ (R.within κ); is = m.text };
      }
    where
      by : (b : Bool) → b ≡ job.asks_gradient (cond b Gradient Value)
      by true = refl
      by false = refl

  state : job.Asking search_ending Relates r (text_of r) ⊎ job.Over search_ending Relates r (text_of r)
  state = go (ltb asks_difference r.descent.search.phase) refl
    where
      go : (b : Bool) → ltb asks_difference r.descent.search.phase ≡ b → job.Asking search_ending Relates r (text_of r) ⊎ job.Over search_ending Relates r (text_of r)
      go true e = inr (over (ltb-true asks_difference r.descent.search.phase e))
      go false e = inl (asking (ltb-false asks_difference r.descent.search.phase e))

pub ties : job.JobTies search_ending Relates
ties =
    record {
      valid = λ r t R. valid r R.sound R.within;
      numbers = λ r t R. R.sound.numbers ∙ ap last_of R.is;
      stands = λ r t R. stands r R.sound ∙ ap (λ (z : Text Searched). shown search_ending (last_of z) z.rest) R.is;
      state = λ r t R. subst (λ (z : Text Searched). job.Asking search_ending Relates r z ⊎ job.Over search_ending Relates r z) R.is
          (state r (record { sound = R.sound; within = R.within; is = refl }));
    }
