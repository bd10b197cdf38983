-- The words of a result, as lists of bytes. Definitions only.
use Rattle.std.specs.Prelude.{ℕ, Bool, cond, List, [], ◌∷◌}
use Rattle.protocol.specs.declared.Termination.{Termination}
use Rattle.protocol.specs.declared.Termination.TheVariants.{GradientTolerance, SimplexTolerance, StepTolerance, FunctionTolerance, MaxIterations, MaxFevals, LineSearchFailed, GradientFailed, ObjectiveResolution}

-- converged, as `yes` or `no`
abbrev pub flag_text : Bool → List ℕ
flag_text b = cond b (121 ∷ 101 ∷ 115 ∷ []) (110 ∷ 111 ∷ [])

-- "Nine reasons as spelled in `Termination`"
unfoldable pub reason_text : Termination → List ℕ
reason_text GradientTolerance = 71 ∷ 114 ∷ 97 ∷ 100 ∷ 105 ∷ 101 ∷ 110 ∷ 116 ∷ 84 ∷ 111 ∷ 108 ∷ 101 ∷ 114 ∷ 97 ∷ 110 ∷ 99 ∷ 101 ∷ []
reason_text SimplexTolerance = 83 ∷ 105 ∷ 109 ∷ 112 ∷ 108 ∷ 101 ∷ 120 ∷ 84 ∷ 111 ∷ 108 ∷ 101 ∷ 114 ∷ 97 ∷ 110 ∷ 99 ∷ 101 ∷ []
reason_text StepTolerance = 83 ∷ 116 ∷ 101 ∷ 112 ∷ 84 ∷ 111 ∷ 108 ∷ 101 ∷ 114 ∷ 97 ∷ 110 ∷ 99 ∷ 101 ∷ []
reason_text FunctionTolerance = 70 ∷ 117 ∷ 110 ∷ 99 ∷ 116 ∷ 105 ∷ 111 ∷ 110 ∷ 84 ∷ 111 ∷ 108 ∷ 101 ∷ 114 ∷ 97 ∷ 110 ∷ 99 ∷ 101 ∷ []
reason_text MaxIterations = 77 ∷ 97 ∷ 120 ∷ 73 ∷ 116 ∷ 101 ∷ 114 ∷ 97 ∷ 116 ∷ 105 ∷ 111 ∷ 110 ∷ 115 ∷ []
reason_text MaxFevals = 77 ∷ 97 ∷ 120 ∷ 70 ∷ 101 ∷ 118 ∷ 97 ∷ 108 ∷ 115 ∷ []
reason_text LineSearchFailed = 76 ∷ 105 ∷ 110 ∷ 101 ∷ 83 ∷ 101 ∷ 97 ∷ 114 ∷ 99 ∷ 104 ∷ 70 ∷ 97 ∷ 105 ∷ 108 ∷ 101 ∷ 100 ∷ []
reason_text GradientFailed = 71 ∷ 114 ∷ 97 ∷ 100 ∷ 105 ∷ 101 ∷ 110 ∷ 116 ∷ 70 ∷ 97 ∷ 105 ∷ 108 ∷ 101 ∷ 100 ∷ []
reason_text ObjectiveResolution = 79 ∷ 98 ∷ 106 ∷ 101 ∷ 99 ∷ 116 ∷ 105 ∷ 118 ∷ 101 ∷ 82 ∷ 101 ∷ 115 ∷ 111 ∷ 108 ∷ 117 ∷ 116 ∷ 105 ∷ 111 ∷ 110 ∷ []
