use Rattle.std.proofs.Common.{◌∙◌, ap, sym}
use Rattle.dg_language.specs.Variables.{is_to_begin}
use Rattle.dg_machine.proofs.SettlingLemmas.{set-sets}
use Rattle.dg_machine.proofs.settling.value_set.Goals as goal

pub returns-clause-sets : goal.returns-clause-sets
returns-clause-sets c =
    let free = ap (λ n. is_to_begin n c.args.state.now) (sym c.as_slice.ensures) ∙ sym c.is_to_begin.ensures ∙ c.if-is_to_begin.false in
    let none = rw c.if-is_hidden.false at c.is_hidden.ensures in
    rw c.in_ok-copy.ensures
    (set-sets c.args.state.now c.args.steps.now c.args.name.now c.requires.short free c.requires.command c.requires.name c.if-steps-ne6.false none c.in-Some.value.now c.in-Some.ensures.word c.in-Some.ensures.short)
