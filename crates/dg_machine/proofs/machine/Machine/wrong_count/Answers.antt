use Rattle.dg_machine.proofs.machine.Machine.wrong_count.Goals as goal

pub returns : goal.returns
returns c = rw c.in_ok-message.ensures at c.fail.ensures
