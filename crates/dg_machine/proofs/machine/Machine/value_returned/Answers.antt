use Rattle.std.proofs.Common.{◌∙◌}
use Rattle.std.specs.Prelude.{codes}
use Rattle.std.specs.Arc.{arc_value}
use Rattle.dg_language.specs.State.{stepped}
use Rattle.dg_compiled.specs.Ways.{HasWay}
use Rattle.dg_compiled.specs.declared.ways.Way.TheVariants.{Returning}
use Rattle.dg_machine.proofs.MachineLemmas.{step-left}
use Rattle.dg_machine.proofs.SettlingLemmas.{asks-same, asks-step, asks-stepped, coded-computes, given-back, procedures-stepped, return-computes, returns-next, steps-stepped}
use Rattle.dg_machine.proofs.machine.Machine.value_returned.Goals as goal

pub give_step_back-requires : goal.give_step_back-requires
give_step_back-requires c =
    let after = rw c.in-None.is at c.in_ok-value.ensures.after in
    rw (after, c.take_step.ensures) (steps-stepped _)

pub returns-in-Some-clause-some : goal.returns-in-Some-clause-some
returns-in-Some-clause-some c =
    let s = c.args.self.now.state in
    let v = c.in-Some.value in
    let told = c.in-Some-default-Returning.ensures in
    let steps = c.in-Some-default-Returning._steps.now in
    let way : HasWay steps (Returning c.in-Some-default-Returning.formula) = rw c.in-Some-default-Returning.field-0-1-is at told.way in
    let left = step-left s _ c.has_step.ensures c.if-not-has_step.false in
    let none = rw c.if-is_hidden.false at c.is_hidden.ensures in
    let after = rw c.take_step.ensures at (rw c.in-Some.is at c.in_ok-value.ensures.after) in
    let yields = rw c.take_step.ensures at (rw c.in-Some.is at c.in_ok-value.ensures.some) in
    let short = rw c.in-Some.is at c.in_ok-value.ensures.short in
    let comes = coded-computes c.args.depth way.0 (arc_value c.in-Some-default-Returning.formula) (stepped s) v c.if-depth-eq0.false way.1.3 yields in
    rw after
    (returns-next c.args.depth c.args.commands.now c.args.at steps s (stepped (stepped s)) v told.steps left
    (return-computes c.args.depth (stepped s) steps way.0 v way.1.0 way.1.1 way.1.2 (procedures-stepped s (codes "return") ∙ none) comes short))

pub returns-in-Some-clause-asks : goal.returns-in-Some-clause-asks
returns-in-Some-clause-asks c =
    let s = c.args.self.now.state in
    let after = rw c.take_step.ensures at (rw c.in-Some.is at c.in_ok-value.ensures.after) in
    rw after (asks-stepped s (stepped (stepped s)) (asks-step (stepped s)))

pub returns-in-None-clause-none : goal.returns-in-None-clause-none
returns-in-None-clause-none c =
    let after = rw c.in-None.is at c.in_ok-value.ensures.after in
    given-back _ _ (c.give_step_back.ensures ∙ after ∙ c.take_step.ensures)

pub returns-in-None-clause-asks : goal.returns-in-None-clause-asks
returns-in-None-clause-asks c =
    let after = rw c.in-None.is at c.in_ok-value.ensures.after in
    asks-same c.args.self.now.state c.give_step_back.new.self (given-back _ _ (c.give_step_back.ensures ∙ after ∙ c.take_step.ensures))
