use Rattle.std.proofs.Common.{length}
use Rattle.dg_machine.proofs.PatternLemmas.{Looked}
use Rattle.dg_machine.proofs.patterns.readings_of.Given as goal

abbrev pub invariant-texts : goal.invariant-texts
invariant-texts l = Looked l.fn.texts l.left l.fn.state.known

abbrev pub decreases-texts : goal.decreases-texts
decreases-texts l = length l.left
