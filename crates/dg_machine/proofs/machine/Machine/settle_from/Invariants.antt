use Rattle.std.proofs.Common.{◌≡◌, ◌-◌, drop}
use Rattle.dg_machine.specs.Settling.{AsksNothing, GoesOnAs}
use Rattle.dg_machine.proofs.machine.Machine.settle_from.Given as goal

abbrev pub invariant-commands : goal.invariant-commands
invariant-commands l =
    GoesOnAs l.fn.depth (drop l.fn.first l.commands) l.fn.value l.fn.self.state (drop l.at l.commands) l.value l.self.state
    × AsksNothing l.fn.self.state l.self.state
    × (l.self ≡ record l.fn.self { state = l.self.state })

abbrev pub decreases-commands : goal.decreases-commands
decreases-commands l = l.count - l.at
