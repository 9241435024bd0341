use Rattle.std.proofs.Common.{◌∙◌}
use Rattle.dg_machine.proofs.MachineLemmas.{step-left}
use Rattle.dg_machine.proofs.SettlingLemmas.{asks-same, asks-stepped, given-back, settles-next, steps-stepped}
use Rattle.dg_machine.proofs.machine.Machine.pass.Goals as goal

pub give_step_back-requires : goal.give_step_back-requires
give_step_back-requires c =
    let same = rw c.in-None.is at c.in_ok-value.ensures.none in
    rw (same, c.take_step.ensures) (steps-stepped _)

pub returns-in-Some-2-clause-passes : goal.returns-in-Some-2-clause-passes
returns-in-Some-2-clause-passes c =
    let left = step-left c.args.self.now.state _ c.has_step.ensures c.if-not-has_step.false in
    let settles = rw c.take_step.ensures at (rw c.in-Some-2.is at c.in_ok-value.ensures.some) in
    λ v k. settles-next c.args.depth c.args.commands.now c.args.at c.in-Some.steps.now c.args.self.now.state c.run_in_place.new.self.state v c.in-Some-2.value c.in-Some.ensures.steps left settles k

pub returns-in-Some-2-clause-asks : goal.returns-in-Some-2-clause-asks
returns-in-Some-2-clause-asks c =
    let asks = rw c.take_step.ensures at c.in_ok-value.ensures.asks in
    asks-stepped c.args.self.now.state c.run_in_place.new.self.state asks

pub returns-in-None-clause-passes : goal.returns-in-None-clause-passes
returns-in-None-clause-passes c =
    let same = rw c.in-None.is at c.in_ok-value.ensures.none in
    given-back _ _ (c.give_step_back.ensures ∙ same ∙ c.take_step.ensures)

pub returns-in-None-clause-asks : goal.returns-in-None-clause-asks
returns-in-None-clause-asks c =
    let same = rw c.in-None.is at c.in_ok-value.ensures.none in
    asks-same c.args.self.now.state c.give_step_back.new.self (given-back _ _ (c.give_step_back.ensures ∙ same ∙ c.take_step.ensures))
