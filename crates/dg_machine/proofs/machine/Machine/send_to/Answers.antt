use Rattle.std.proofs.Common.{sym, ◌∙◌, refl, arith}
use Rattle.dg_machine.proofs.ResultLemmas.{Goes-along-ok}
use Rattle.dg_machine.proofs.SendLemmas.{send-acts}
use Rattle.dg_machine.proofs.machine.Machine.send_to.Goals as goal

pub returns : goal.returns
returns c =
    let filled = sym c.is_empty.ensures ∙ c.if-is_empty.false in
    Goes-along-ok _ _ _ _ _ _ _ _ c.begin_action.ensures (send-acts _ _ _ _ filled) refl (omega arith)
