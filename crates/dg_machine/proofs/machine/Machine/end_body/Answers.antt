use Rattle.std.proofs.Common.{refl, arith}
use Rattle.std.proofs.lemmas.Result.{IfOk-weaker}
use Rattle.dg_machine.proofs.GatherLemmas.{Comes-along}
use Rattle.dg_machine.proofs.machine.Machine.end_body.Goals as goal

pub returns : goal.returns
returns c =
    let is = rw c.get.ensures at c.in-Some.is in
    IfOk-weaker c.begin_next.result _ _ (λ p h. Comes-along p _ _ _ _ _ _ (h _ c.in_ok-commands.ensures) (rw is refl) (omega arith)) c.begin_next.ensures
