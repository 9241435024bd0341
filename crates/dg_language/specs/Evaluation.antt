-- What every evaluation is made of: its ends, its questions, its steps and its limits.
use Rattle.std.specs.Prelude.{ℕ, true, false, Option, Some, None, List, [], ◌++◌, length, nat_lt, codes, Result, Ok, Err}
use Rattle.dg_lists.specs.Elements.{elements_of}
use Rattle.dg_lists.specs.Faults.{fault_text}
use Rattle.dg_lists.specs.declared.fault.WordFault.{WordFault}
use Rattle.dg_scope.specs.declared.scopes.TheConstants.{LONGEST_VALUE}
use Rattle.dg_world.specs.declared.question.Question.{Question}
use Rattle.dg_world.specs.declared.question.Answer.{Answer}
use Rattle.dg_results.specs.declared.verdict.Line.{Line}
use Rattle.dg_results.specs.Lines.{lines_of, abort_lines}
use Rattle.dg_language.specs.declared.code.Code.{Code}
use Rattle.dg_language.specs.declared.code.Code.TheVariants.{Done, Failed, Returned, Broken, Continued, ExpContinued}
use Rattle.dg_language.specs.declared.close.Close.{Close}
use Rattle.dg_language.specs.declared.close.Close.TheVariants.{Finished, Aborted, OutOfSteps}
use Rattle.dg_language.specs.declared.state.TheConstants.{STEPS}
use Rattle.dg_language.specs.Play.{Play, Ends, Asks, plain, lookup}
use Rattle.dg_language.specs.State.{State, stepped, taken, board_steps, learn}

-- How the judging of a test ends: with these lines, in this way, after so many steps, of which so many were of the board's file.
pub record Ending : Type 0 where
  pub verdict : List Line
  pub close : Close
  pub board_steps : ℕ
  pub steps : ℕ

-- it ends now
abbrev pub closed : List Line → Close → State → Ending
closed verdict close s = record { verdict = verdict; close = close; board_steps = board_steps s; steps = taken s }

-- what is done with the code, the value and the state in which an evaluation ends
abbrev pub Then : Type 0
Then = Code → List ℕ → State → Play Ending

-- the evaluation of a text, inside another
abbrev pub Nested : Type 0
Nested = List ℕ → State → Then → Play Ending

-- the lines of the result calls
unfoldable pub ended : State → Ending
ended s = closed (lines_of s.calls) Finished s

-- these lines and the closing ones of an error
unfoldable pub aborted : List ℕ → State → Ending
aborted why s = closed (lines_of s.calls ++ abort_lines s.test.script why) Aborted s

unfoldable pub out_of_steps : State → Ending
out_of_steps s = closed (lines_of s.calls ++ abort_lines s.test.script (codes "step limit reached")) OutOfSteps s

-- a limit ends the whole test as an error does, whatever stands around
unfoldable pub cut : List ℕ → State → Play Ending
cut why s = Ends (aborted why s)

-- a question that was answered is not asked again
abbrev pub hear : Option Answer → Question → State → (Answer → State → Play Ending) → Play Ending
hear (Some a) q s k = k a s
hear None q s k = Asks (plain q) (λ a. k a (learn q a s))

unfoldable pub ask : Question → State → (Answer → State → Play Ending) → Play Ending
ask q s k = hear (lookup q s.known) q s k

-- a step is taken, if one is left
unfoldable pub tick : State → (State → Play Ending) → Play Ending
tick s k = elim (nat_lt s.steps STEPS) [ true ↦ k (stepped s) | false ↦ Ends (out_of_steps s) ]

-- a value of so many bytes is made, if it is no longer than a value may be
unfoldable pub within : ℕ → State → Play Ending → Play Ending
within n s p = elim (nat_lt LONGEST_VALUE n) [ true ↦ cut (codes "value too long") s | false ↦ p ]

-- an error, whose message is a value
unfoldable pub fail : List ℕ → State → Then → Play Ending
fail message s k =
    elim (nat_lt LONGEST_VALUE (length message)) [ true ↦ cut (codes "value too long") s | false ↦ k Failed message s ]

-- what comes after an evaluation that ended well; any other code goes on up
abbrev pub if_done : (List ℕ → State → Play Ending) → Then → Then
if_done f k Done v s = f v s
if_done f k Failed v s = k Failed v s
if_done f k Returned v s = k Returned v s
if_done f k Broken v s = k Broken v s
if_done f k Continued v s = k Continued v s
if_done f k ExpContinued v s = k ExpContinued v s

-- what a loop does after its body
abbrev pub loop_after : (State → Play Ending) → Then → Then
loop_after again k Done v s = again s
loop_after again k Continued v s = again s
loop_after again k Broken v s = k Done [] s
loop_after again k Failed v s = k Failed v s
loop_after again k Returned v s = k Returned v s
loop_after again k ExpContinued v s = k ExpContinued v s

-- a name between quotes
abbrev pub quoted : List ℕ → List ℕ
quoted n = codes "\"" ++ n ++ codes "\""

abbrev pub outside_of_a_loop : List ℕ → List ℕ
outside_of_a_loop name = codes "invoked " ++ (quoted name ++ codes " outside of a loop")

abbrev pub outside_of_expect : List ℕ
outside_of_expect = codes "exp_continue outside of expect"

-- how the end of a procedure or of a file reads outside of it
abbrev pub outside : Then → Then
outside k Done v s = k Done v s
outside k Returned v s = k Done v s
outside k Failed v s = k Failed v s
outside k Broken v s = k Failed (outside_of_a_loop (codes "break")) s
outside k Continued v s = k Failed (outside_of_a_loop (codes "continue")) s
outside k ExpContinued v s = k Failed outside_of_expect s

abbrev pub wrong_count : List ℕ → List ℕ
wrong_count name = codes "wrong # args: " ++ name

abbrev pub or_message : Result (List (List ℕ)) WordFault → Result (List (List ℕ)) (List ℕ)
or_message (Err fault) = Err (fault_text fault)
or_message (Ok elements) = Ok elements

-- the elements of a list, or the message of its fault
unfoldable pub list_in : List ℕ → Result (List (List ℕ)) (List ℕ)
list_in text = or_message (elements_of text)
