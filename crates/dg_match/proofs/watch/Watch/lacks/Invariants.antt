use Rattle.dg_match.specs.Starts.{AllKept}
use Rattle.dg_match.proofs.watch.Watch.lacks.Given as goal

abbrev pub invariant-loop-texts : goal.invariant-loop-texts
invariant-loop-texts l = AllKept l.bytes l.self
