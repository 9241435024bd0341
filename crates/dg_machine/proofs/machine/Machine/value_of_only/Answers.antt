use Rattle.std.proofs.Common.{◌∙◌}
use Rattle.dg_machine.proofs.MachineLemmas.{step-left}
use Rattle.dg_machine.proofs.SettlingLemmas.{given-back, steps-stepped, yields}
use Rattle.dg_machine.proofs.machine.Machine.value_of_only.Goals as goal

pub give_step_back-requires : goal.give_step_back-requires
give_step_back-requires c = rw c.take_step.ensures (steps-stepped _)

pub returns-in-Some-clause-some : goal.returns-in-Some-clause-some
returns-in-Some-clause-some c =
    let left = step-left c.args.self.now.state _ c.has_step.ensures c.if-not-has_step.false in
    let settles = rw c.take_step.ensures at (rw c.in-Some.is at c.in_ok-value.ensures.value) in
    yields c.args.depth _ c.args.self.now.state c.in-Some.value left settles

pub returns-in-None-clause-after : goal.returns-in-None-clause-after
returns-in-None-clause-after c = given-back _ _ (c.give_step_back.ensures ∙ c.take_step.ensures)
