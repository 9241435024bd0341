use Rattle.std.proofs.Common.{◌≡◌, length}
use Rattle.dg_expr.specs.Reading.{reduce}
use Rattle.dg_expr.proofs.frame.Frames.reduce.Given as goal

abbrev pub invariant-frames : goal.invariant-frames
invariant-frames l = reduce l.fn.level l.self l.tree ≡ reduce l.fn.level l.fn.self l.fn.tree

abbrev pub decreases-frames : goal.decreases-frames
decreases-frames l = length l.self
