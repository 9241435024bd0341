use Rattle.std.proofs.Common.{drop}
use Rattle.dg_compiled.specs.Wholes.{Waits}
use Rattle.dg_compiled.proofs.wholes.whole_of.Given as goal

abbrev pub invariant-instructions : goal.invariant-instructions
invariant-instructions l = Waits l.fn.state l.fn.code (drop l.at l.fn.code) l.waiting
