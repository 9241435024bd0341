use Rattle.std.proofs.lemmas.Result.{IfOk-weaker}
use Rattle.dg_machine.proofs.machine.Machine.enter.Goals as goal

pub returns : goal.returns
returns c = IfOk-weaker c.begin.result _ _ (λ p h. rw c.script.ensures.same at (h _ c.in_ok-commands.ensures.all)) c.begin.ensures
