-- Ten wrong engines, each the example fit's engine with one thing changed, and that the claim is false of each. The first five break what a call replies, the others one clause each of the
-- sentence: `told`, `least`, `opens`, `no_larger`, `equal`. Definitions and statements only.
use Rattle.std.specs.Prelude.{ℕ, suc, Bool, true, false, ◌&&◌, cond, List, [], ◌∷◌, eqb, Float}
use Rattle.float.specs.Binary64.{bits}
use Rattle.protocol.specs.Protocol.{Question, Answer, Result, fitted, searched, differenced, Reply, ask, ended, refused, Engine}
use Rattle.protocol.specs.Claim.{Limit, limit, unlimited, Claim}
use Rattle.protocol.specs.Rounds.{Kept, State, open_at, over, kept, standing, fresh, is_repeat, answer_to, engine}
use Rattle.protocol.specs.Example.{Head, example, one}

-- the example fit's engine with another answer to calls
abbrev pub answering : (Kept Head → Answer → Reply × Kept Head) → Engine
answering answer = record { Record = Kept Head; start = (engine example).start; answer = answer }

-- the same, where only the reply is another
abbrev pub replying : (Kept Head → Reply → Reply) → Engine
replying other = answering (λ r a. (other r (answer_to example r a).0, (answer_to example r a).1))

-- a reply whose question, or whose result, is another
abbrev pub asking : (Question → Question) → Reply → Reply
asking other (ask q) = ask (other q)
asking other (ended o) = ended o
asking other (refused k d) = refused k d

abbrev pub telling : (Result → Result) → Reply → Reply
telling other (ask q) = ask q
telling other (ended (fitted r)) = ended (fitted (other r))
telling other (ended (searched s)) = ended (searched s)
telling other (ended (differenced g)) = ended (differenced g)
telling other (refused k d) = refused k d

-- a result with other iterations, f and x
abbrev pub altered : Result → ℕ → Float → List Float → Result
altered r n f x = record { reason = r.reason; converged = r.converged; iterations = n; fevals = r.fevals; gevals = r.gevals; f = f; x = x }

-- with one iteration more
abbrev pub another : Result → Result
another r = altered r (suc r.iterations) r.f r.x

-- with the first point, 1, and with its value too, which is 1 where f(x) = x
abbrev pub elsewhere : Result → Result
elsewhere r = altered r r.iterations r.f (bits one ∷ [])

abbrev pub first : Result → Result
first r = altered r r.iterations (bits one) (bits one ∷ [])

-- ---- what a call replies

-- 1. A repeat gets the right reply, but the record returned has accepted one answer more.
abbrev pub steps_on_repeat : Engine
steps_on_repeat =
    answering
    (λ r a. cond (is_repeat example r a)
    (standing example r.last r.state, kept example r.limits (suc r.last) r.values r.gradients r.state)
    (fresh example r r.state a))

-- another result than stands, and the reply y where none stands
abbrev pub retold : Reply → Reply → Reply
retold (ended (fitted r)) y = ended (fitted (another r))
retold (ended (searched s)) y = y
retold (ended (differenced g)) y = y
retold (ask q) y = y
retold (refused k d) y = y

-- no repeat, and the fit has ended: another result in place of 15
abbrev pub late : Kept Head → State Head → Answer → Reply × Kept Head
late r (over y) a = (retold y (refused 15 0), r)
late r (open_at k x c) a = fresh example r (open_at k x c) a

-- 2. A late answer gets another result than stands.
abbrev pub tells_another_late : Engine
tells_another_late = answering (λ r a. cond (is_repeat example r a) (standing example r.last r.state, r) (late r r.state a))

-- 3. A repeat after the end gets another result than stands.
abbrev pub repeats_another : Engine
repeats_another =
    answering
    (λ r a. cond (is_repeat example r a)
    (retold (standing example r.last r.state) (standing example r.last r.state), r)
    (fresh example r r.state a))

-- 4. An answer to question 2 is refused with 16, though it suits.
abbrev pub refuses_suiting : Engine
refuses_suiting = answering (λ r a. cond (eqb r.last 1 && eqb a.number 2) (refused 16 0, r) (answer_to example r a))

-- 5. Every question has the number 1, so that a repeat would answer the next one.
abbrev pub numbers_one : Engine
numbers_one = replying (λ r y. asking (λ q. record { number = 1; kind = q.kind; point = q.point }) y)

-- ---- the sentence: one list

-- 6. The result's f, the least told, was told for another point than its x.
abbrev pub tells_elsewhere : Engine
tells_elsewhere = replying (λ r y. telling elsewhere y)

-- 7. The result is the first value told with its point, though a smaller one was told.
abbrev pub tells_first : Engine
tells_first = replying (λ r y. telling first y)

-- ---- the sentence: a second list, of a fit with no limit on values where the first had one. Only gradient fits have none: "max_fevals (absent: none)"

abbrev pub endless : Limit → Bool
endless (limit k) = false
endless unlimited = true

-- the example fit's engine, with another reply where values have no limit
abbrev pub replying_endless : (Reply → Reply) → Engine
replying_endless other = replying (λ r y. cond (endless r.limits.fevals) (other y) y)

-- 8. Every question but the first is put at 1 again, so that the second list opens with another question.
abbrev pub asks_again : Engine
asks_again = replying_endless (asking (λ q. record { number = q.number; kind = q.kind; point = bits one ∷ [] }))

-- 9. The result is the first value told with its point, so that the second list ends with a larger f.
abbrev pub ends_larger : Engine
ends_larger = replying_endless (telling first)

-- 10. The result has one iteration more, though the first list's fit ended by itself.
abbrev pub ends_otherwise : Engine
ends_otherwise = replying_endless (telling another)

-- the claim is false of each
pub record AllWrong : Type 1 where
  pub steps_on_repeat_lem : Claim steps_on_repeat → ⊥
  pub tells_another_late_lem : Claim tells_another_late → ⊥
  pub repeats_another_lem : Claim repeats_another → ⊥
  pub refuses_suiting_lem : Claim refuses_suiting → ⊥
  pub numbers_one_lem : Claim numbers_one → ⊥
  pub tells_elsewhere_lem : Claim tells_elsewhere → ⊥
  pub tells_first_lem : Claim tells_first → ⊥
  pub asks_again_lem : Claim asks_again → ⊥
  pub ends_larger_lem : Claim ends_larger → ⊥
  pub ends_otherwise_lem : Claim ends_otherwise → ⊥
