use Rattle.dg_machine.proofs.SettlingLemmas.{asks-assigned}
use Rattle.dg_machine.proofs.machine.Machine.count_in_place.Goals as goal

pub returns-clause-asks : goal.returns-clause-asks
returns-clause-asks c = rw c.in_ok-assign.ensures (asks-assigned _ _ _)
