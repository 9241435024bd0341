use Rattle.std.proofs.Common.{◌≡◌, ◌++◌, take}
use Rattle.std.specs.List.{flat_map}
use Rattle.dg_results.specs.Tally.{tally_of}
use Rattle.dg_sum.specs.Report.{board_text, lines_of_board}
use Rattle.dg_sum.proofs.report.write_boards.Given as goal

abbrev pub invariant-loop-board : goal.invariant-loop-board
invariant-loop-board l =
    record {
      text : l.out ≡ l.initial.out ++ flat_map (board_text l.selection l.judged) (take l.board-index l.selection.boards);
      tally : l.total ≡ tally_of (flat_map (lines_of_board l.judged) (take l.board-index l.selection.boards));
    }
