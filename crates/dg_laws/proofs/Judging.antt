-- The stages of a judging.
use Rattle.std.proofs.Common.{ℕ, List}
use Rattle.std.specs.Prelude.{Option, Some, None}
use Rattle.dg_world.specs.Name.{is_name}
use Rattle.dg_world.specs.declared.question.Question.TheVariants.{File, Tool}
use Rattle.dg_language.specs.declared.code.Code.{Code}
use Rattle.dg_language.specs.declared.code.Code.TheVariants.{Done, Failed, Returned, Broken, Continued, ExpContinued}
use Rattle.dg_language.specs.Play.{Play}
use Rattle.dg_language.specs.State.{State, marked, with_board_made}
use Rattle.dg_language.specs.Evaluation.{Ending, Then}
use Rattle.dg_language.specs.Boards.{content_of}
use Rattle.dg_language.specs.Judge.{opened, open_script, after_file, opened_first, first_file, tool_library, open_library, tool_of, open_tool, leave_board, board_file, open_board}
use Rattle.dg_laws.specs.Grafting.{Grafted}
use Rattle.dg_laws.proofs.Trees.{one_after_another}
use Rattle.dg_laws.proofs.Steps.{completes, either, ask-grafted, fail-grafted}
use Rattle.dg_laws.proofs.Texts.{evaluate-grafted}

opened-grafted : (content : Option (List ℕ)) (s : State) → Grafted (opened content s)
opened-grafted (Some t) s = evaluate-grafted 100 t s
opened-grafted None s = fail-grafted _ s

open_script-grafted : (s : State) → Grafted (open_script s)
unfolding open_script
open_script-grafted s = ask-grafted (File s.test.script) s (λ a s'. opened-grafted (content_of a) s')

module _ (next : State → Then → Play Ending) (goes_on : (s : State) → Grafted (next s)) where
  after_file-at : (c : Code) (v : List ℕ) (s : State) → Grafted (λ k. after_file next k c v s)
  after_file-at Done v s = goes_on s
  after_file-at Returned v s = goes_on s
  after_file-at Failed v s = completes Failed v s
  after_file-at Broken v s = completes Failed _ s
  after_file-at Continued v s = completes Failed _ s
  after_file-at ExpContinued v s = completes Failed _ s

  opened_first-grafted : (content : Option (List ℕ)) (s : State) → Grafted (opened_first content next s)
  opened_first-grafted None s = goes_on s
  opened_first-grafted (Some t) s = one_after_another (evaluate-grafted 100 t s) after_file-at

  first_file-grafted : (name : List ℕ) (s : State) → Grafted (first_file name next s)
  unfolding first_file
  first_file-grafted name s =
      either (is_name name) (ask-grafted (File name) s (λ a s'. opened_first-grafted (content_of a) s')) (goes_on s)

open_library-grafted : (name : List ℕ) (s : State) → Grafted (open_library name s)
unfolding open_library
open_library-grafted name s = first_file-grafted open_script open_script-grafted name (marked name s)

open_tool-grafted : (s : State) → Grafted (open_tool s)
unfolding open_tool
open_tool-grafted s = ask-grafted Tool s (λ a s'. open_library-grafted (tool_library (tool_of a)) s')

leave_board-grafted : (s : State) → Grafted (leave_board s)
unfolding leave_board
leave_board-grafted s = open_tool-grafted (with_board_made s)

pub open_board-grafted : (s : State) → Grafted (open_board s)
unfolding open_board
open_board-grafted s = first_file-grafted leave_board leave_board-grafted (board_file s.test.board) s
