use Rattle.dg_gate.proofs.Taking.{takes}
use Rattle.dg_gate.proofs.laws.made_entries_are_taken.Goals as goal

pub returns : goal.returns
returns c = takes
