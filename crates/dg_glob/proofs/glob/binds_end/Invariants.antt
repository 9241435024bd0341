use Rattle.std.proofs.Common.{◌≡◌, length}
use Rattle.dg_glob.specs.Glob.{binds_end}
use Rattle.dg_glob.proofs.glob.binds_end.Given as goal

abbrev pub invariant-loop-first : goal.invariant-loop-first
invariant-loop-first l = binds_end l.rest ≡ binds_end l.pattern

abbrev pub decreases-loop-first : goal.decreases-loop-first
decreases-loop-first l = length l.rest
