-- The stages of a judging.
use Rattle.std.proofs.Common.{◌≢◌, ℕ, List, [], refl, arith}
use Rattle.std.specs.Prelude.{Option, Some, None}
use Rattle.dg_world.specs.Name.{is_name}
use Rattle.dg_world.specs.declared.question.Question.TheVariants.{File, Tool}
use Rattle.dg_language.specs.declared.code.Code.{Code}
use Rattle.dg_language.specs.declared.code.Code.TheVariants.{Done, Failed, Returned, Broken, Continued, ExpContinued}
use Rattle.dg_language.specs.Play.{Play}
use Rattle.dg_language.specs.State.{State, fresh, marked, with_board_made}
use Rattle.dg_language.specs.Evaluation.{Ending, Then, ended}
use Rattle.dg_language.specs.Boards.{content_of}
use Rattle.dg_language.specs.Judge.{opened, open_script, after_file, opened_first, first_file, tool_library, open_library, tool_of, open_tool, leave_board, board_file, open_board, finish, judge}
use Rattle.dg_world.specs.declared.test_id.TestId.{TestId}
use Rattle.dg_language.specs.declared.close.Close.TheVariants.{Departed}
use Rattle.dg_living.specs.Living.{LivesOn}
use Rattle.dg_living.proofs.Holding.{Holds, transcript}
use Rattle.dg_living.proofs.Changes.{marked-same, with_board_made-same}
use Rattle.dg_living.proofs.Steps.{Lives, LivesAfter, completes, along, either, ask-lives, fail-lives, one_after_another, aborted-stays, not-finished}
use Rattle.dg_living.proofs.Texts.{evaluate-lives}

opened-lives : (content : Option (List ℕ)) (s : State) → Lives s (opened content s)
opened-lives (Some t) s = evaluate-lives 100 t s
opened-lives None s = fail-lives _ s

open_script-lives : (s : State) → Lives s (open_script s)
unfolding open_script
open_script-lives s = ask-lives (File s.test.script) s refl (λ a s' _. opened-lives (content_of a) s')

module _ (next : State → Then → Play Ending) (goes_on : (s : State) → Lives s (next s)) where
  after_file-at : (c : Code) (v : List ℕ) (s : State) → Lives s (λ k. after_file next k c v s)
  after_file-at Done v s = goes_on s
  after_file-at Returned v s = goes_on s
  after_file-at Failed v s = completes Failed v s
  after_file-at Broken v s = completes Failed _ s
  after_file-at Continued v s = completes Failed _ s
  after_file-at ExpContinued v s = completes Failed _ s

  opened_first-lives : (content : Option (List ℕ)) (s : State) → Lives s (opened_first content next s)
  opened_first-lives None s = goes_on s
  opened_first-lives (Some t) s = one_after_another (evaluate-lives 100 t s) after_file-at

  first_file-lives : (name : List ℕ) (s : State) → Lives s (first_file name next s)
  unfolding first_file
  first_file-lives name s =
      either (is_name name) (ask-lives (File name) s refl (λ a s' _. opened_first-lives (content_of a) s')) (goes_on s)

open_library-lives : (name : List ℕ) (s : State) → Lives s (open_library name s)
unfolding open_library
open_library-lives name s = along (marked-same name s) (first_file-lives open_script open_script-lives name (marked name s))

open_tool-lives : (s : State) → Lives s (open_tool s)
unfolding open_tool
open_tool-lives s = ask-lives Tool s refl (λ a s' _. open_library-lives (tool_library (tool_of a)) s')

leave_board-lives : (s : State) → Lives s (leave_board s)
unfolding leave_board
leave_board-lives s = along (with_board_made-same s) (open_tool-lives (with_board_made s))

open_board-lives : (s : State) → Lives s (open_board s)
unfolding open_board
open_board-lives s = first_file-lives leave_board leave_board-lives (board_file s.test.board) s

ended-stays : (s : State) → (ended s).close ≢ Departed
unfolding ended
ended-stays s = not-finished

-- what comes after the script only ends
finish-lives : (t : TestId) → LivesAfter t finish
unfolding finish
finish-lives t Done v u ss h = (ended-stays u, transcript t u ss h)
finish-lives t Returned v u ss h = (ended-stays u, transcript t u ss h)
finish-lives t Failed v u ss h = (aborted-stays v u, transcript t u ss h)
finish-lives t Broken v u ss h = (aborted-stays _ u, transcript t u ss h)
finish-lives t Continued v u ss h = (aborted-stays _ u, transcript t u ss h)
finish-lives t ExpContinued v u ss h = (aborted-stays _ u, transcript t u ss h)

fresh-holds : (t : TestId) → Holds t (fresh t) []
unfolding fresh
fresh-holds t = record { test = refl; past = tt; agree = tt; used = refl; room = omega arith; few = omega arith }

pub judging-lives : (t : TestId) → LivesOn t (judge t) []
unfolding judge
judging-lives t = (open_board-lives (fresh t)).lives t [] finish (fresh-holds t) (finish-lives t)
