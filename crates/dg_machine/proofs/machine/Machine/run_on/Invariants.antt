use Rattle.std.proofs.Common.{◌≡◌}
use Rattle.dg_machine.specs.Meaning.{rest, weight_of}
use Rattle.dg_machine.proofs.machine.Machine.run_on.Given as goal

abbrev pub invariant-moves : goal.invariant-moves
invariant-moves l = (rest l.self ≡ rest l.fn.self) × (l.self.state.known ≡ l.fn.self.state.known)

abbrev pub decreases-moves : goal.decreases-moves
decreases-moves l = weight_of l.self
