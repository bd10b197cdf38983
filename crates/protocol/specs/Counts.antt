-- "fevals is the count of accepted V answers, gevals of accepted G answers": of every fit in direct style, along every list, in record and result. Statements only.
use Rattle.std.specs.Prelude.{◌≡◌, List, length}
use Rattle.protocol.specs.declared.Kind.TheVariants.{Value, Gradient}
use Rattle.protocol.specs.Protocol.{Answer, Result, Job, Fit}
use Rattle.protocol.specs.Dialogue.{run, Brings, answers_of}
use Rattle.protocol.specs.Rounds.{Rounds, engine}

-- The engine made of R counts the answers that the list l accepts, whatever they tell; a start that is refused accepts none.
pub record Counted (R : Rounds Job) : Type 0 where
  pub last : (f : Fit) (l : List Answer) → (run (engine R) f l).record_now.last ≡ length (run (engine R) f l).exchanges
  pub values : (f : Fit) (l : List Answer) → (run (engine R) f l).record_now.values ≡ answers_of Value (run (engine R) f l).exchanges
  pub gradients : (f : Fit) (l : List Answer) → (run (engine R) f l).record_now.gradients ≡ answers_of Gradient (run (engine R) f l).exchanges
  pub fevals : (f : Fit) (l : List Answer) (r : Result) → Brings (run (engine R) f l) r → r.fevals ≡ answers_of Value (run (engine R) f l).exchanges
  pub gevals : (f : Fit) (l : List Answer) (r : Result) → Brings (run (engine R) f l) r → r.gevals ≡ answers_of Gradient (run (engine R) f l).exchanges
