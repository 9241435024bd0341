use Rattle.std.proofs.Common.{◌∙◌, ap}
use Rattle.dg_world.proofs.WorldLemmas.{board_of_items, all_tests}
use Rattle.dg_world.proofs.world.World.selected.Goals as goal

pub push_tests-requires : goal.push_tests-requires
push_tests-requires c =
    board_of_items (record { files = c.self.inside.files.entries; selection = c.self.inside.selection; transcripts = c.self.inside.transcripts.entries; book = c.self.inside.book }) c.self.invariant _ c.as_slice-board-items.ensures _ _ c.loop-board-test.true c.board-item.is

pub returns : goal.returns
returns c =
    c.from_vec.ensures
    ∙ all_tests c.args.self.now _ _ _ _ (c.as_slice-board-items.ensures ∙ ap (λ w. w.selection.boards) c.self.view_is) c.in_ok-scripts.ensures c.loop-board.invariant c.loop-board-test.false
