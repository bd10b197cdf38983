-- How an `end` line is read, and the laws that what is printed is read back as it was. Definitions and statements only.
use Rattle.std.specs.Prelude.{ℕ, ◌≤◌, ◌≡◌, Bool, true, false, ◌&&◌, cond, List, [], ◌∷◌, ◌++◌, map, Float, Option, None, Some}
use Rattle.float.specs.Binary64.{F64}
use Rattle.protocol.specs.declared.Termination.{Termination}
use Rattle.protocol.specs.declared.Termination.TheVariants.{GradientTolerance, SimplexTolerance, StepTolerance, FunctionTolerance, MaxIterations, MaxFevals, LineSearchFailed, GradientFailed, ObjectiveResolution}
use Rattle.protocol.specs.declared.Kind.{Kind}
use Rattle.protocol.specs.Protocol.{letter, Question, Answer, Result}
use Rattle.lines_field.specs.declared.Reading.{Reading}
use Rattle.lines_field.specs.Shapes.{most, fits, number_in, same, word_field, decimal_field}
use Rattle.lines_reader.specs.Forms.{fields, all_ok}
use Rattle.lines_forms.specs.Lines.{some_if, value_in, answer_line}
use Rattle.lines_print.specs.Reasons.{reason_text, flag_text}
use Rattle.lines_print.specs.Print.{answer_text, ask_text, end_before, end_text}

-- ---- an `end` line

-- the first of some reasons whose text a field is
unfoldable pub reason_among : List Termination → List ℕ → Option Termination
reason_among [] f = None
reason_among (r ∷ rs) f = cond (same f (reason_text r)) (Some r) (reason_among rs f)

-- a field as one of the nine reasons
abbrev pub reason_field : List ℕ → Option Termination
reason_field f = reason_among (GradientTolerance ∷ SimplexTolerance ∷ StepTolerance ∷ FunctionTolerance ∷ MaxIterations ∷ MaxFevals ∷ LineSearchFailed ∷ GradientFailed ∷ ObjectiveResolution ∷ []) f

-- a field as converged
unfoldable pub yes_field : List ℕ → Option Bool
yes_field f = cond (same f (flag_text true)) (Some true) (cond (same f (flag_text false)) (Some false) None)

-- the result that the fields after `end` say, each read as what stands at its place
unfoldable pub result_in : Option Termination → Option Bool → Reading → Reading → Reading → Reading → List Reading → Option Result
result_in (Some r) (Some c) it fe ge f xs =
    some_if (fits it && (fits fe && (fits ge && (fits f && all_ok xs))))
    (record { reason = r; converged = c; iterations = number_in it; fevals = number_in fe; gevals = number_in ge; f = value_in f; x = map value_in xs })
result_in (Some r) None it fe ge f xs = None
result_in None c it fe ge f xs = None

-- "`end` has reason, converged, iterations, fevals, gevals, f, x"
unfoldable pub end_fields : List (List ℕ) → Option Result
end_fields [] = None
end_fields (e ∷ []) = None
end_fields (e ∷ r ∷ []) = None
end_fields (e ∷ r ∷ c ∷ []) = None
end_fields (e ∷ r ∷ c ∷ it ∷ []) = None
end_fields (e ∷ r ∷ c ∷ it ∷ fe ∷ []) = None
end_fields (e ∷ r ∷ c ∷ it ∷ fe ∷ ge ∷ []) = None
end_fields (e ∷ r ∷ c ∷ it ∷ fe ∷ ge ∷ f ∷ xs) =
    cond (same e (101 ∷ 110 ∷ 100 ∷ [])) (result_in (reason_field r) (yes_field c) (decimal_field it) (decimal_field fe) (decimal_field ge) (word_field f) (map word_field xs)) None

-- an `end` line, without its line feed
abbrev pub end_line : List ℕ → Option Result
end_line bs = end_fields (fields bs)

-- ---- the laws

-- each is an f64, as every value of the code is
unfoldable pub AllF64 : List Float → Type 0
AllF64 [] = Unit {0}
AllF64 (x ∷ xs) = F64 x × AllF64 xs

-- what the code can hold: counts that are u64s, values that are f64s
pub record Printable (r : Result) : Type 0 where
  pub iterations : r.iterations ≤ most
  pub fevals : r.fevals ≤ most
  pub gevals : r.gevals ≤ most
  pub value : F64 r.f
  pub point : AllF64 r.x

-- the answer that a question's number, kind and point would make
abbrev pub echo_of : Question → Answer
echo_of q = record { number = q.number; kind = letter q.kind; words = q.point }

pub record ReadBackLaws : Type 0 where
  -- a printed answer is read back as it was, whatever its count of words
  pub answer_back : (a : Answer) (k : Kind) → a.kind ≡ letter k → a.number ≤ most → AllF64 a.words → answer_line (answer_text a) ≡ Some a
  -- a question's line is `ask`, an answer with its number, kind and point, and a line feed
  pub ask_is : (q : Question) → ask_text q ≡ (97 ∷ 115 ∷ 107 ∷ 32 ∷ []) ++ (answer_text (echo_of q) ++ (10 ∷ []))
  -- a printed result is read back as it was
  pub end_back : (r : Result) → Printable r → end_line (end_before r []) ≡ Some r
  -- and its line is that and a line feed
  pub end_is : (r : Result) → end_text r ≡ end_before r [] ++ (10 ∷ [])
