-- The count of rows, and the line that says it. Definitions only.
use Rattle.std.specs.Prelude.{ℕ, ◌+◌, Bool, cond, List, [], ◌∷◌, ◌++◌, eqb, Some, None, unwrap_or, Result, Ok, Err}
use Rattle.std.specs.Option.{option_or}
use Rattle.lines_buffer.specs.Texts.{decimal_text}
use Rattle.test_rows.specs.declared.Tally.{Tally}
use Rattle.test_rows.specs.declared.Stop.{Stop}
use Rattle.test_rows.specs.declared.Stop.TheVariants.{Over, ReadFailed, WriteFailed}

-- before the first row
unfoldable pub none_of : Tally
none_of = record { rows = 0; differ = 0; first = None }

-- the largest u64, where a count stops
abbrev pub last : ℕ
last = 18446744073709551615

-- one row more, which is the first that differs where none was
unfoldable pub counted_of : Tally → Bool → Tally
counted_of t same =
    cond (eqb t.rows last) t
    (cond same (record { rows = t.rows + 1; differ = t.differ; first = t.first })
    (cond (eqb t.differ last) t
    (record { rows = t.rows + 1; differ = t.differ + 1; first = option_or t.first (Some (t.rows + 1)) })))

-- the line of a replay's end: `3 rows, 1 differ, the first is 2`, 0 where none differs
unfoldable pub report_text : Tally → List ℕ
report_text t =
    decimal_text t.rows
    ++ ((32 ∷ 114 ∷ 111 ∷ 119 ∷ 115 ∷ 44 ∷ 32 ∷ []) ++ (decimal_text t.differ
    ++ ((32 ∷ 100 ∷ 105 ∷ 102 ∷ 102 ∷ 101 ∷ 114 ∷ 44 ∷ 32 ∷ 116 ∷ 104 ∷ 101 ∷ 32 ∷ 102 ∷ 105 ∷ 114 ∷ 115 ∷ 116 ∷ 32 ∷ 105 ∷ 115 ∷ 32 ∷ []) ++ (decimal_text (unwrap_or t.first 0) ++ (10 ∷ [])))))

-- the line of a program's end: what failed, behind the program's name; none where nothing did
unfoldable pub said_text : List ℕ → Result (Unit {0}) Stop → List ℕ
said_text program (Ok u) = []
said_text program (Err Over) = []
said_text program (Err ReadFailed) = program ++ (58 ∷ 32 ∷ 97 ∷ 32 ∷ 114 ∷ 101 ∷ 97 ∷ 100 ∷ 32 ∷ 111 ∷ 102 ∷ 32 ∷ 115 ∷ 116 ∷ 97 ∷ 110 ∷ 100 ∷ 97 ∷ 114 ∷ 100 ∷ 32 ∷ 105 ∷ 110 ∷ 112 ∷ 117 ∷ 116 ∷ 32 ∷ 102 ∷ 97 ∷ 105 ∷ 108 ∷ 101 ∷ 100 ∷ 10 ∷ [])
said_text program (Err WriteFailed) = program ++ (58 ∷ 32 ∷ 97 ∷ 32 ∷ 119 ∷ 114 ∷ 105 ∷ 116 ∷ 101 ∷ 32 ∷ 116 ∷ 111 ∷ 32 ∷ 115 ∷ 116 ∷ 97 ∷ 110 ∷ 100 ∷ 97 ∷ 114 ∷ 100 ∷ 32 ∷ 111 ∷ 117 ∷ 116 ∷ 112 ∷ 117 ∷ 116 ∷ 32 ∷ 102 ∷ 97 ∷ 105 ∷ 108 ∷ 101 ∷ 100 ∷ 10 ∷ [])
