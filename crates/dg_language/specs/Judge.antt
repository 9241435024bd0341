-- What the judging of a test means: the board's file, then the tool's library, then the script.
use Rattle.std.specs.Prelude.{ℕ, true, false, Option, Some, None, List, [], ◌++◌, codes}
use Rattle.dg_world.specs.Name.{is_name}
use Rattle.dg_world.specs.declared.question.Question.TheVariants.{File, Tool}
use Rattle.dg_world.specs.declared.question.Answer.{Answer}
use Rattle.dg_world.specs.declared.question.Answer.TheVariants as answer
use Rattle.dg_world.specs.declared.test_id.TestId.{TestId}
use Rattle.dg_results.specs.declared.verdict.Line.{Line}
use Rattle.dg_language.specs.declared.code.Code.TheVariants.{Done, Failed, Returned, Broken, Continued, ExpContinued}
use Rattle.dg_language.specs.Play.{Play, Ends, Source, run, end_of}
use Rattle.dg_language.specs.State.{State, fresh, marked, with_board_made}
use Rattle.dg_language.specs.Evaluation.{Ending, Then, ask, fail, if_done, ended, aborted, quoted, outside}
use Rattle.dg_language.specs.Boards.{content_of}
use Rattle.dg_language.specs.Language.{evaluate}

-- the verdict when the script has ended
abbrev pub close : Then
close Done v s = Ends (ended s)
close Failed v s = Ends (aborted v s)
close Returned v s = Ends (ended s)
close Broken v s = Ends (ended s)
close Continued v s = Ends (ended s)
close ExpContinued v s = Ends (ended s)

-- a script that `break` or `continue` leaves has failed
unfoldable pub finish : Then
finish c v s = outside close c v s

abbrev pub opened : Option (List ℕ) → State → Then → Play Ending
opened (Some t) s k = evaluate 100 t s k
opened None s k = fail (codes "couldn't read script " ++ quoted s.test.script) s k

-- the evaluation of the test's script
unfoldable pub open_script : State → Then → Play Ending
open_script s k = ask (File s.test.script) s (λ a s'. opened (content_of a) s' k)

-- what comes after a file that is evaluated before the script: where it has failed, nothing more
abbrev pub after_file : (State → Then → Play Ending) → Then → Then
after_file next k = outside (if_done (λ _ s. next s k) k)

-- a file that need not be there; then what comes next
abbrev pub opened_first : Option (List ℕ) → (State → Then → Play Ending) → State → Then → Play Ending
opened_first None next s k = next s k
opened_first (Some t) next s k = evaluate 100 t s (after_file next k)

-- what is no name is no file's
unfoldable pub first_file : List ℕ → (State → Then → Play Ending) → State → Then → Play Ending
first_file name next s k =
    elim (is_name name) [ true ↦ ask (File name) s (λ a s'. opened_first (content_of a) next s' k) | false ↦ next s k ]

-- the file of the tool's library
abbrev pub tool_library : List ℕ → List ℕ
tool_library tool = codes "lib/" ++ (tool ++ codes ".exp")

-- the tool's library, which counts as loaded whether it is there or not; then the script
unfoldable pub open_library : List ℕ → State → Then → Play Ending
open_library name s k = first_file name open_script (marked name s) k

abbrev pub tool_of : Answer → List ℕ
tool_of (answer.Tool t) = t
tool_of _ = []

-- the tool is asked for; then come its library and the script
unfoldable pub open_tool : State → Then → Play Ending
open_tool s k = ask Tool s (λ a s'. open_library (tool_library (tool_of a)) s' k)

-- the board's file has been evaluated, or there is none
unfoldable pub leave_board : State → Then → Play Ending
leave_board s k = open_tool (with_board_made s) k

-- the board's file
abbrev pub board_file : List ℕ → List ℕ
board_file board = codes "boards/" ++ (board ++ codes ".exp")

-- the evaluation of the board's file; then come the tool's library and the script
unfoldable pub open_board : State → Then → Play Ending
open_board s k = first_file (board_file s.test.board) leave_board s k

-- the judging of a test
unfoldable pub judge : TestId → Play Ending
judge t = open_board (fresh t) finish

-- the lines that a test has in a source, if that answers all its questions
abbrev pub verdict_of : Option Ending → Option (List Line)
verdict_of None = None
verdict_of (Some e) = Some e.verdict

abbrev pub verdict_in : Source → TestId → Option (List Line)
verdict_in look t = verdict_of (end_of (run look (judge t)))
