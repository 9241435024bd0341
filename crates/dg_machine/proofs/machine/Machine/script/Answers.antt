use Rattle.std.proofs.Common.{ap}
use Rattle.std.specs.Box.{with_value}
use Rattle.dg_machine.proofs.machine.Machine.script.Goals as goal

pub returns-in_err-commands-clause-same : goal.returns-in_err-commands-clause-same
returns-in_err-commands-clause-same c =
    let m = c.args.self.now in
    ap (λ v. record { state = m.state; stack = m.stack; control = m.control; shelves = with_value m.shelves v }) c.deref_mut.ensures.value

pub returns-clause-same : goal.returns-clause-same
returns-clause-same c =
    let m = c.args.self.now in
    ap (λ v. record { state = m.state; stack = m.stack; control = m.control; shelves = with_value m.shelves v }) c.deref_mut.ensures.value
