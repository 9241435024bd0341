use Rattle.std.proofs.Common.{◌≡◌, ◌++◌, map, take, drop}
use Rattle.dg_match.specs.Held.{later}
use Rattle.dg_match.proofs.starts.Starts.cut.Given as goal

abbrev pub invariant-loop-start : goal.invariant-loop-start
invariant-loop-start l = l.start-items ≡ map (later l.count) (take l.start-index l.fn.self) ++ drop l.start-index l.fn.self
