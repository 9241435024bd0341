use Rattle.std.proofs.Common.{◌∙◌, refl, sym, arith}
use Rattle.dg_machine.specs.Meaning.{rest, weight}
use Rattle.dg_machine.proofs.MachineLemmas.{sequence-done, sequence-unreadable, sequence-next, sequence-cut, weight-stepped, known-stepped, no-step, step-left, Comes-known}
use Rattle.dg_machine.proofs.GatherLemmas.{Comes-along}
use Rattle.dg_machine.proofs.ResultLemmas.{Goes-comes-ok}
use Rattle.dg_machine.proofs.BothLemmas.{IfOk-both}
use Rattle.dg_machine.proofs.machine.Machine.next_command.Goals as goal

pub returns-in-None : goal.returns-in-None
unfolding rest weight
returns-in-None c =
    let none = rw c.in-None.is at c.in_ok-next.ensures in
    rw (c.end.ensures, c.requires) (sym (sequence-done _ _ _ _ _ none), refl, omega arith)

pub returns-in_ok-message-in-Some-Unreadable : goal.returns-in_ok-message-in-Some-Unreadable
returns-in_ok-message-in-Some-Unreadable c =
    let taken = rw c.in-Some-Unreadable.field-0-is at (rw c.in-Some-Unreadable.is at c.in_ok-next.ensures) in
    let message = c.in_ok-message-in-Some-Unreadable.ensures ∙ c.fault_text.ensures in
    let went = rw message at c.fail.ensures in
    Goes-comes-ok _ _ _ _ _ _ _ went (sequence-unreadable _ _ _ _ _ _ _ taken.1) (omega arith)

pub returns-then-not-has_step : goal.returns-then-not-has_step
returns-then-not-has_step c =
    let taken = rw c.in-Some-Words.field-0-is at (rw c.in-Some-Words.is at c.in_ok-next.ensures) in
    let h = no-step c.args.self.now.state _ c.has_step.ensures c.if-not-has_step.true in
    rw c.out_of_steps.ensures.same (sequence-cut _ _ _ _ _ _ _ taken.1.0 h ∙ c.in_ok-closing-in-Some-Words.ensures.ends, refl)

pub returns-in_ok-making-in-Some-Words : goal.returns-in_ok-making-in-Some-Words
returns-in_ok-making-in-Some-Words c =
    let taken = rw c.in-Some-Words.field-0-is at (rw c.in-Some-Words.is at c.in_ok-next.ensures) in
    let h = step-left c.args.self.now.state _ c.has_step.ensures c.if-not-has_step.false in
    let went = rw (c.take_step.ensures, c.in_ok-making-in-Some-Words.ensures.purpose) at c.begin_command.ensures.comes in
    let made = rw (c.take_step.ensures, taken.1.1, c.in_ok-making-in-Some-Words.ensures.purpose) at c.in_ok-making-in-Some-Words.ensures.same in
    IfOk-both c.begin_command.result _ _ _
    (λ p g n.
    Comes-along p _ _ _ _ _ _ (Comes-known p _ _ _ _ _ g (known-stepped _)) (sequence-next _ _ _ _ _ _ _ taken.1.0 h ∙ sym (made _ _))
    (rw c.requires (weight-stepped _ _ _ _ _ h n)))
    went c.begin_command.ensures.counted
