use Rattle.std.proofs.Common.{◌≡◌, ◌<◌, ℕ, List, length, get_or, subst, arith}
use Rattle.dg_sum.specs.Report.{board_text, lines_of_board}
use Rattle.dg_sum.proofs.LengthLemmas.{board_short}
use Rattle.dg_sum.proofs.TallyLemmas.{next_fits, next_tally, next_text}
use Rattle.dg_sum.proofs.report.write_boards.Goals as goal

pub plus-total-requires : goal.plus-total-requires
plus-total-requires c =
    let s = c.args.selection.now in
    let judged = c.args.judged.now in
    next_fits (lines_of_board judged) (board_text s judged) (board_short s judged) s.boards c.loop-board.board-index c.board-item.result _ _
    c.args.out.now c.loop-board.out _ c.loop-board.invariant.text c.in_ok-counted.ensures.text (omega (arith, c.len-written.ensures)) c.loop-board.invariant.tally c.in_ok-counted.ensures.tally

pub loop-board-preserved : goal.loop-board-preserved
loop-board-preserved c =
    let s = c.args.selection.now in
    let judged = c.args.judged.now in
    let i = c.loop-board.board-index in
    let x = c.board-item.result in
    let P : List (List ℕ) → Type 0 = λ l. (i < length l) × (x ≡ get_or l i x) in
    let here = subst P c.as_slice-board-items.ensures (c.loop-board-test.true, c.board-item.is) in
    record {
      text = next_text (board_text s judged) s.boards i x c.args.out.now _ _ here.0 here.1 c.loop-board.invariant.text c.in_ok-counted.ensures.text;
      tally = next_tally (lines_of_board judged) s.boards i x _ _ _ here.0 here.1 c.loop-board.invariant.tally c.in_ok-counted.ensures.tally c.plus-total.ensures;
    }
