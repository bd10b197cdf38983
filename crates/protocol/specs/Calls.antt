-- What a call replies, whatever was given before it: the reply to an accepted answer, to a repeat, and to any other. Nothing is left to an engine but its choice of questions and the result
-- that it ends with. Definitions only.
use Rattle.std.specs.Prelude.{◌≡◌, List, [], ◌∷◌, Bool, true, false, ◌&&◌, ◌||◌, cond, ◌⊎◌, ℕ, suc, T, eqb, length}
use Rattle.std.proofs.Math.Option.{Option, none, some}
use Rattle.protocol.specs.Protocol.{Answer, Outcome, fitted, searched, differenced, Reply, ask, ended, refused, Engine}
use Rattle.protocol.specs.Dialogue.{accepted, Exchange, Dialogue}

-- "6, 7 and 12 in a fit's line search, and 18 to 20, end the fit and are its outcome"; 12 with detail 1, for x
abbrev pub ends_fit : ℕ → ℕ → Bool
ends_fit k d = (eqb d 0 && (eqb k 6 || (eqb k 7 || (eqb k 18 || (eqb k 19 || eqb k 20))))) || (eqb d 1 && eqb k 12)

-- of a gradient fit: its line search ends it with 6, 7, or 12 for x, its first value with 18, its first gradient with 19
abbrev pub SearchRefusal : ℕ → ℕ → Type 0
SearchRefusal k d = ((k ≡ 6) × (d ≡ 0)) ⊎ (((k ≡ 7) × (d ≡ 0)) ⊎ ((k ≡ 12) × (d ≡ 1)))

abbrev pub FirstRefusal : ℕ → ℕ → Type 0
FirstRefusal k d = ((k ≡ 18) × (d ≡ 0)) ⊎ ((k ≡ 19) × (d ≡ 0))

-- a fit ends with a result, and with no bare job's outcome
abbrev pub IsResult : Outcome → Type 0
IsResult (fitted r) = Unit {0}
IsResult (searched s) = ⊥
IsResult (differenced g) = ⊥

-- an accepted answer brings a question, a result, or a refusal that ends the fit
abbrev pub Taken : Reply → Type 0
Taken (ask q) = Unit {0}
Taken (ended o) = IsResult o
Taken (refused k d) = T (ends_fit k d)

-- "A question has a number (1, 2, 3, ..)": after n accepted answers the question has the number n + 1.
abbrev pub Numbered : ℕ → Reply → Type 0
Numbered n (ask q) = q.number ≡ suc n
Numbered n (ended o) = IsResult o
Numbered n (refused k d) = Unit {0}

-- "An answer carrying the number last accepted is a repeat .. Before the first acceptance no number is a repeat."
abbrev pub last_accepted : List Exchange → Option ℕ
last_accepted [] = none
last_accepted (e ∷ []) = some e.question.number
last_accepted (e ∷ d ∷ es) = last_accepted (d ∷ es)

abbrev pub repeats : Option ℕ → Answer → Bool
repeats none a = false
repeats (some n) a = eqb a.number n

-- any other answer that is not accepted: 15 the job has ended, 16 the number is not the open question's, 17 the kind or the length is wrong
abbrev pub turned_away : Reply → Answer → Reply
turned_away (ask q) a = cond (eqb a.number q.number) (refused 17 0) (refused 16 0)
turned_away (ended o) a = refused 15 0
turned_away (refused k d) a = refused 15 0

-- "the engine gives the standing question or outcome again and looks at nothing else in it"
abbrev pub otherwise : Reply → List Exchange → Answer → Reply
otherwise y es a = cond (repeats (last_accepted es) a) y (turned_away y a)

module _ (E : Engine) where
  -- of one more answer a, after a list that has come to d
  pub record OfCall (d : Dialogue E.Record) (a : Answer) : Type 0 where
    pub takes : accepted d.standing a ≡ true → Taken (E.answer d.record_now a).0
    pub numbers : accepted d.standing a ≡ true → Numbered (suc (length d.exchanges)) (E.answer d.record_now a).0
    pub replies : accepted d.standing a ≡ false → (E.answer d.record_now a).0 ≡ otherwise d.standing d.exchanges a
    pub keeps : accepted d.standing a ≡ false → (E.answer d.record_now a).1 ≡ d.record_now
