-- What line 2 says: the definitions over its bytes, and what the code makes of one that was read. Definitions only.
use Rattle.std.specs.Prelude.{ℕ, ◌+◌, List, get_or, eqb, Option}
use Rattle.protocol.specs.declared.Allowances.{Allowances}
use Rattle.protocol.specs.declared.SimplexOptions.{SimplexOptions}
use Rattle.protocol.specs.declared.GradientOptions.{GradientOptions}
use Rattle.lines_field.specs.declared.Reading.{Reading}
use Rattle.lines_field.specs.Shapes.{malformed, given}
use Rattle.lines_reader.specs.declared.Form.TheVariants.{SimplexLine2, GradientLine2}
use Rattle.lines_reader.specs.declared.LineRead.{LineRead}
use Rattle.lines_reader.specs.Forms.{readings}
use Rattle.lines_forms.specs.Lines.{number_at, value_at, some_if, has_form, whole_of}

-- ---- fields as the engine's types

-- "max_iter max_fevals (`-` absent)", from i on
abbrev pub allowances_at : List Reading → ℕ → Allowances
allowances_at vs i = record { iter = given (get_or vs i malformed); fevals = given (get_or vs (i + 1) malformed) }

-- "x_tol f_tol initial_step as bits, max_iter max_fevals (`-` absent), restarts, adaptive (0 or 1)"
abbrev pub simplex_options_in : List Reading → SimplexOptions
simplex_options_in vs = record { xtol = value_at vs 0; ftol = value_at vs 1; step = value_at vs 2; restarts = number_at vs 5; adaptive = eqb (number_at vs 6) 1 }

-- "grad_tol f_tol x_tol c1 c2 step_max as bits, max_iter max_fevals max_evals memory, gradients (0 or 1)"
abbrev pub gradient_options_in : List Reading → GradientOptions
gradient_options_in vs =
    record {
      gradtol = value_at vs 0;
      ftol = value_at vs 1;
      xtol = value_at vs 2;
      wolfe = record { c1 = value_at vs 3; c2 = value_at vs 4; stepmax = value_at vs 5; evals = number_at vs 8 };
      memory = number_at vs 9;
      gradients = eqb (number_at vs 10) 1;
    }

-- ---- what a line of bytes says; `None` for one of another form, which is `bad`

-- "Line 2, simplex"
unfoldable pub simplex_line : List ℕ → Option (SimplexOptions × Allowances)
simplex_line bs = some_if (has_form SimplexLine2 7 bs) (simplex_options_in (readings SimplexLine2 bs), allowances_at (readings SimplexLine2 bs) 3)

-- Line 2, "others"
unfoldable pub gradient_line : List ℕ → Option (GradientOptions × Allowances)
gradient_line bs = some_if (has_form GradientLine2 11 bs) (gradient_options_in (readings GradientLine2 bs), allowances_at (readings GradientLine2 bs) 6)

-- ---- what the code makes of a line that was read

unfoldable pub simplex_line_of : LineRead → Option (SimplexOptions × Allowances)
simplex_line_of l = some_if (whole_of l 7) (simplex_options_in l.fields, allowances_at l.fields 3)

unfoldable pub gradient_line_of : LineRead → Option (GradientOptions × Allowances)
gradient_line_of l = some_if (whole_of l 11) (gradient_options_in l.fields, allowances_at l.fields 6)
