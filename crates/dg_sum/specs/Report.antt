-- The report of a run, and its status.
use Rattle.std.specs.Prelude.{ℕ, ◌+◌, ◌==◌, nat_lt, nat_le, if◌then◌else◌, List, [], ◌++◌, length, codes}
use Rattle.std.specs.List.{flat_map, list_any}
use Rattle.std.specs.Fmt.{decimal}
use Rattle.dg_bytes.specs.Same.{same_bytes}
use Rattle.dg_world.specs.declared.selection.Selection.{Selection}
use Rattle.dg_results.specs.Classes.{class_name, is_unexpected}
use Rattle.dg_results.specs.Tally.{tally_of}
use Rattle.dg_results.specs.declared.verdict.Line.{Line}
use Rattle.dg_results.specs.declared.verdict.Tally.{Tally}
use Rattle.dg_sum.specs.Judged.{Judged}

-- a line of a test
abbrev pub line_text : Line → List ℕ
line_text l = class_name l.class ++ codes ": " ++ l.message ++ codes "\n"

-- a test's script and its lines on a board: nothing, where the test is of another board
abbrev pub script_text : List ℕ → Judged → List ℕ
script_text board j =
    if same_bytes j.test.board board then codes "Running " ++ j.test.script ++ codes " ...\n" ++ flat_map line_text j.verdict else []

-- the lines that count on a board
abbrev pub lines_on : List ℕ → Judged → List Line
lines_on board j = if same_bytes j.test.board board then j.verdict else []

abbrev pub lines_of_board : List Judged → List ℕ → List Line
lines_of_board judged board = flat_map (lines_on board) judged

-- one tab, or two after a short text
abbrev pub tabs : List ℕ → List ℕ
tabs name = if nat_lt (length name + 5) 24 then codes "\t\t" else codes "\t"

-- a count above zero
unfoldable pub count_text : List ℕ → ℕ → List ℕ
count_text name count = if count == 0 then [] else codes "# of " ++ name ++ tabs name ++ decimal count ++ codes "\n"

-- the counts above zero, in the report's order: what passed or failed, what was known to fail, and what has no outcome
abbrev pub plain_counts : Tally → List ℕ
plain_counts t =
    count_text (codes "expected passes") t.passes
    ++ count_text (codes "unexpected failures") t.failures
    ++ count_text (codes "unexpected successes") t.unexpected_successes

abbrev pub known_counts : Tally → List ℕ
known_counts t =
    count_text (codes "expected failures") t.expected_failures
    ++ count_text (codes "unknown successes") t.unknown_successes
    ++ count_text (codes "known failures") t.known_failures

abbrev pub open_counts : Tally → List ℕ
open_counts t =
    count_text (codes "unresolved testcases") t.unresolved
    ++ count_text (codes "untested testcases") t.untested
    ++ count_text (codes "unsupported tests") t.unsupported

unfoldable pub counts_text : Tally → List ℕ
counts_text t = plain_counts t ++ known_counts t ++ open_counts t

-- the summary of a board
unfoldable pub board_summary : List ℕ → List ℕ → Tally → List ℕ
board_summary tool board t =
    codes "\n\t\t=== " ++ tool ++ codes " Summary for " ++ board ++ codes " ===\n\n" ++ counts_text t

-- the summary over all boards
unfoldable pub summary : List ℕ → Tally → List ℕ
summary tool t = codes "\n\t\t=== " ++ tool ++ codes " Summary ===\n\n" ++ counts_text t

-- a board's own summary, where it is not the only board
unfoldable pub own_summary : Selection → List Judged → List ℕ → List ℕ
own_summary s judged board =
    if nat_le 2 (length s.boards) then board_summary s.tool board (tally_of (lines_of_board judged board)) else []

-- a board's block
unfoldable pub board_text : Selection → List Judged → List ℕ → List ℕ
board_text s judged board =
    codes "\nRunning target " ++ board ++ codes "\n"
    ++ flat_map (script_text board) judged
    ++ own_summary s judged board

-- a board in the schedule
abbrev pub scheduled : List ℕ → List ℕ
scheduled board = codes "    " ++ board ++ codes "\n"

-- the report: its heading, the schedule, each board's block, and the summary over all boards
unfoldable pub report : Selection → List Judged → List ℕ
report s judged =
    codes "\t\t=== " ++ s.tool ++ codes " tests ===\n\nSchedule of variations:\n"
    ++ flat_map scheduled s.boards
    ++ flat_map (board_text s judged) s.boards
    ++ summary s.tool (tally_of (flat_map (lines_of_board judged) s.boards))

-- 1 where some line is of an unexpected class, else 0
unfoldable pub status : List Judged → ℕ
status judged = if list_any (λ j. list_any (λ l. is_unexpected l.class) j.verdict) judged then 1 else 0
