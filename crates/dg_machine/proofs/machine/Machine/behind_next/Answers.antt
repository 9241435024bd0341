use Rattle.std.proofs.Common.{refl, arith}
use Rattle.dg_machine.proofs.ResultLemmas.{Comes-along-ok}
use Rattle.dg_machine.proofs.machine.Machine.behind_next.Goals as goal

pub returns-in-Done : goal.returns-in-Done
returns-in-Done c = rw c.in-Done.is (Comes-along-ok _ _ _ _ _ _ _ c.next_test.ensures refl (omega arith))
