use Rattle.dg_machine.proofs.machine.Machine.no_expression.Goals as goal

pub returns : goal.returns
returns c = rw (c.in_ok-message.ensures, c.as_slice.ensures) at c.fail.ensures
