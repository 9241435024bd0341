use Rattle.std.proofs.Common.{◌∙◌, ap, sym}
use Rattle.dg_language.specs.Touch.{value_in_use}
use Rattle.dg_machine.proofs.SettlingLemmas.{if-both, incr-sets, incr-sets-by}
use Rattle.dg_machine.proofs.settling.value_counted.Goals as goal

pub returns-then-steps-eq4-clause-sets : goal.returns-then-steps-eq4-clause-sets
returns-then-steps-eq4-clause-sets c =
    let held = ap (λ n. value_in_use n c.args.state.now) (sym c.as_slice.ensures) ∙ sym c.in-Some.ensures in
    let none = rw c.if-is_hidden.false at c.is_hidden.ensures in
    if-both _ _ _ _
    (λ v sum short. incr-sets c.args.state.now c.args.steps.now c.args.name.now c.requires.short c.in-Some.old.now held c.requires.command c.requires.name c.if-steps-eq4.true none v sum short)
    c.in_ok-value.ensures.sum c.in_ok-value.ensures.short

pub returns-clause-sets : goal.returns-clause-sets
returns-clause-sets c =
    let held = ap (λ n. value_in_use n c.args.state.now) (sym c.as_slice.ensures) ∙ sym c.in-Some.ensures in
    let none = rw c.if-is_hidden.false at c.is_hidden.ensures in
    if-both _ _ _ _
    (λ v sum short. incr-sets-by c.args.state.now c.args.steps.now c.args.name.now c.requires.short c.in-Some.old.now held c.requires.command c.requires.name c.if-steps-ne6.false none c.in-Some-text_word.by.now c.in-Some-text_word.ensures.word c.in-Some-text_word.ensures.short v (rw c.as_slice-2.ensures at sum) short)
    c.in_ok-value-2.ensures.sum c.in_ok-value-2.ensures.short
