use Rattle.dg_machine.proofs.PatternLemmas.{some-read}
use Rattle.dg_machine.proofs.machine.Machine.first_round.Goals as goal

pub returns-in_default : goal.returns-in_default
returns-in_default c =
    let none = rw c.in_default.is at c.in_ok-pairs.ensures in
    some-read _ _ c.requires.read none
