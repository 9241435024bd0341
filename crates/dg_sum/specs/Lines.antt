-- The lines of one test in a report.
use Rattle.std.specs.Prelude.{ℕ, Bool, List, ◌++◌, codes}
use Rattle.std.specs.List.{flat_map, list_any}
use Rattle.dg_results.specs.Classes.{is_unexpected}
use Rattle.dg_results.specs.declared.verdict.Line.{Line}
use Rattle.dg_sum.specs.Judged.{Judged}
use Rattle.dg_sum.specs.Report.{line_text}

-- a test's script and its lines, as they stand on its board
abbrev pub test_text : Judged → List ℕ
test_text j = codes "Running " ++ j.test.script ++ codes " ...\n" ++ flat_map line_text j.verdict

-- whether some line is of an unexpected class
abbrev pub some_unexpected : List Line → Bool
some_unexpected lines = list_any (λ l. is_unexpected l.class) lines
