use Rattle.std.proofs.Common.{refl, arith}
use Rattle.dg_machine.proofs.ResultLemmas.{Comes-along-ok}
use Rattle.dg_machine.proofs.machine.Machine.repeat_if.Goals as goal

pub returns : goal.returns
returns c =
    let went = rw c.set_stage.ensures at c.run_body.ensures in
    rw c.if-not-holds.false (Comes-along-ok _ _ _ _ _ _ _ went refl (omega arith))
