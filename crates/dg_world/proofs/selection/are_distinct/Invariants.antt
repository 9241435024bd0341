use Rattle.std.proofs.Common.{◌≡◌, length}
use Rattle.dg_world.specs.Selection.{are_distinct}
use Rattle.dg_world.proofs.selection.are_distinct.Given as goal

abbrev pub invariant-loop-first : goal.invariant-loop-first
invariant-loop-first l = are_distinct l.rest ≡ are_distinct l.fn.boards

abbrev pub decreases-loop-first : goal.decreases-loop-first
decreases-loop-first l = length l.rest
