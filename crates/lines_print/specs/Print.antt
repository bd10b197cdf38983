-- What the fit program prints, as lists of bytes. Definitions only.
use Rattle.std.specs.Prelude.{ℕ, cond, List, [], ◌∷◌, ◌++◌, ltb, Float}
use Rattle.vector.specs.Lists.{first}
use Rattle.protocol.specs.declared.Kind.{Kind}
use Rattle.protocol.specs.declared.Summary.{Summary}
use Rattle.protocol.specs.Protocol.{letter, Question, Answer, Result}
use Rattle.lines_buffer.specs.Texts.{decimal_text, value_text, values_text}
use Rattle.lines_print.specs.Reasons.{reason_text, flag_text}

-- ---- lines

-- an answer as it is written: "number, kind, words"
unfoldable pub answer_text : Answer → List ℕ
answer_text a = decimal_text a.number ++ (32 ∷ a.kind ∷ values_text a.words)

-- a question: `ask`, number, kind, point
unfoldable pub ask_text : Question → List ℕ
ask_text q = (97 ∷ 115 ∷ 107 ∷ 32 ∷ []) ++ (decimal_text q.number ++ ((32 ∷ letter q.kind ∷ []) ++ (values_text q.point ++ (10 ∷ []))))

-- "`no` number detail for a refusal"
unfoldable pub no_text : ℕ → ℕ → List ℕ
no_text number detail = (110 ∷ 111 ∷ 32 ∷ []) ++ (decimal_text number ++ ((32 ∷ decimal_text detail) ++ (10 ∷ [])))

-- "`bad` and the line number for a line of another form"
unfoldable pub bad_text : ℕ → List ℕ
bad_text line = (98 ∷ 97 ∷ 100 ∷ 32 ∷ []) ++ (decimal_text line ++ (10 ∷ []))

-- "`end` has reason, converged, iterations, fevals, gevals, f, x"; `tail` is what follows
unfoldable pub end_before : Result → List ℕ → List ℕ
end_before r tail =
    (101 ∷ 110 ∷ 100 ∷ 32 ∷ [])
    ++ (reason_text r.reason ++ ((32 ∷ []) ++ (flag_text r.converged ++ ((32 ∷ decimal_text r.iterations) ++ ((32 ∷ decimal_text r.fevals) ++ ((32 ∷ decimal_text r.gevals) ++ ((32 ∷ value_text r.f) ++ (values_text r.x ++ tail))))))))

unfoldable pub end_text : Result → List ℕ
unfolding end_before
end_text r = end_before r (10 ∷ [])

-- ---- what the code's arguments stand for

-- a count of coordinates, sixteen for any above
unfoldable pub limited_of : ℕ → ℕ
limited_of n = cond (ltb n 16) n 16

abbrev pub question_of : ℕ → Kind → List Float → ℕ → Question
question_of number kind x n = record { number = number; kind = kind; point = first (limited_of n) x }

abbrev pub result_of : Summary → List Float → ℕ → Result
result_of s x n = record { reason = s.reason; converged = s.converged; iterations = s.iterations; fevals = s.fevals; gevals = s.gevals; f = s.f; x = first (limited_of n) x }
