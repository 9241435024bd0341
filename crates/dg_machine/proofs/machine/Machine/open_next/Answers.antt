use Rattle.std.proofs.Common.{◌∙◌, ap, arith}
use Rattle.std.proofs.lemmas.Result.{IfOk-weaker}
use Rattle.dg_language.specs.Judge.{board_file, first_file, leave_board}
use Rattle.dg_machine.specs.declared.frame.Opening.TheVariants.{Board}
use Rattle.dg_machine.specs.Opening.{open_next}
use Rattle.dg_machine.proofs.OpeningLemmas.{board-opens, board-again, Runs-along}
use Rattle.dg_machine.proofs.machine.Machine.open_next.Goals as goal

pub returns-in_ok-name-in-Board : goal.returns-in_ok-name-in-Board
returns-in_ok-name-in-Board c =
    let name = c.in_ok-name-in-Board.ensures ∙ ap board_file (c.as_slice.ensures.bytes ∙ c.board.ensures.board ∙ ap (λ t. t.board) c.test.ensures) in
    rw c.in-Board.is
    (IfOk-weaker c.open_first.result _ _
    (λ p h.
    Runs-along p (open_next Board) (first_file c.in_ok-name-in-Board.name leave_board) _ _ _ _ h (board-opens _ _ _ name)
    (λ q a s. board-again _ q a c.args.self.now.state s _ name) (omega arith))
    c.open_first.ensures)

pub returns-in-AfterBoard : goal.returns-in-AfterBoard
returns-in-AfterBoard c = rw c.in-AfterBoard.is c.leave_board.ensures

pub returns-in-Tool : goal.returns-in-Tool
returns-in-Tool c = rw c.in-Tool.is c.open_tool.ensures

pub returns-in_ok-name-in-Library : goal.returns-in_ok-name-in-Library
returns-in_ok-name-in-Library c =
    rw c.in-Library.is (rw c.in_ok-name-in-Library.ensures at c.open_first-in-Library.ensures)

pub returns-in-Script : goal.returns-in-Script
returns-in-Script c = rw c.in-Script.is c.open_script.ensures
