-- The files that are opened for a test, one after another.
use Rattle.std.specs.Prelude.{◌≡◌, ℕ, ◌+◌, ◌*◌, ◌^◌, List, Option, None}
use Rattle.dg_world.specs.declared.question.Question.TheVariants.{File}
use Rattle.dg_language.specs.declared.state.TheConstants.{STEPS}
use Rattle.dg_language.specs.Play.{Play, Asks, plain, lookup}
use Rattle.dg_language.specs.State.{State, learn}
use Rattle.dg_language.specs.Evaluation.{Ending, Then, ask}
use Rattle.dg_language.specs.Boards.{content_of}
use Rattle.dg_language.specs.Judge.{first_file, leave_board, open_board, open_script, open_tool}
use Rattle.dg_machine.specs.declared.frame.Opening.{Opening}
use Rattle.dg_machine.specs.declared.frame.Opening.TheVariants.{Board, AfterBoard, Tool, Library, Script}
use Rattle.dg_machine.specs.declared.frame.FileText.{FileText}
use Rattle.dg_machine.specs.declared.frame.FileText.TheVariants.{Unanswered, Known}

-- what is opened, and all that comes after it
abbrev pub open_next : Opening → State → Then → Play Ending
open_next Board s k = open_board s k
open_next AfterBoard s k = leave_board s k
open_next Tool s k = open_tool s k
open_next (Library name) s k = first_file name open_script s k
open_next Script s k = open_script s k

-- what is set aside for what is opened: the board's file leaves all steps to what comes after it
abbrev pub opening_weight : Opening → ℕ
opening_weight Board = STEPS * 2 ^ 251 + 40
opening_weight AfterBoard = STEPS * 2 ^ 251 + 20
opening_weight Tool = 15
opening_weight (Library name) = 12
opening_weight Script = 6

-- what is known of a file: the question that stands, or what it holds
abbrev pub Holds : List ℕ → State → FileText → Type 0
Holds name s (Unanswered q) =
    ((f : Option (List ℕ) → State → Play Ending) →
    ask (File name) s (λ a t. f (content_of a) t) ≡ Asks (plain q) (λ a. ask (File name) (learn q a s) (λ b t. f (content_of b) t)))
    × (lookup q s.known ≡ None)
Holds name s (Known text) = (f : Option (List ℕ) → State → Play Ending) → ask (File name) s (λ a t. f (content_of a) t) ≡ f text s
