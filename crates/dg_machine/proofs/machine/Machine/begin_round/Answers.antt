use Rattle.std.proofs.Common.{refl, ◌∙◌, arith}
use Rattle.dg_machine.proofs.AwaitingLemmas.{rounds-next, rounds-none}
use Rattle.dg_machine.proofs.ResultLemmas.{Goes-along-ok}
use Rattle.dg_machine.proofs.machine.Machine.begin_round.Goals as goal

pub returns-then-wait-eq0 : goal.returns-then-wait-eq0
returns-then-wait-eq0 c =
    rw c.out_of_steps.ensures.same (rounds-none _ _ _ _ _ c.if-wait-eq0.true ∙ c.in_ok-closing.ensures.ends, refl)

pub returns : goal.returns
returns c = Goes-along-ok _ _ _ _ _ _ _ _ c.try_output.ensures (rounds-next _ _ _ _ _ c.if-wait-eq0.false) refl (omega arith)
