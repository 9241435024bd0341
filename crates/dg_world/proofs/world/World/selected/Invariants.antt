use Rattle.std.proofs.Common.{◌≡◌, take}
use Rattle.std.specs.List.{flat_map}
use Rattle.dg_world.specs.Tests.{tests_on}
use Rattle.dg_world.proofs.world.World.selected.Given as goal

abbrev pub invariant-loop-board : goal.invariant-loop-board
invariant-loop-board l = l.tests.items ≡ flat_map (tests_on l.scripts.items) (take l.board-index l.self.selection.boards)
