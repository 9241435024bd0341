use Rattle.std.proofs.Common.{◌∙◌, ap}
use Rattle.dg_language.specs.Variables.{or_empty}
use Rattle.dg_asking.proofs.VariableLemmas.{elements-grown}
use Rattle.dg_asking.proofs.variables.append_elements.Goals as goal

pub returns-in_ok-value-in-Ok-true : goal.returns-in_ok-value-in-Ok-true
returns-in_ok-value-in-Ok-true c =
    let grown = rw c.in-Ok-true.field-0-test at (rw c.in-Ok-true.is at c.in_ok-append_elements.ensures) in
    let gets = grown.1.1 in
    let value = c.in_ok-value-in-Ok-true.ensures ∙ ap or_empty (c.value_of.ensures ∙ gets.1) in
    elements-grown c.args.name.now c.in_ok-value-in-Ok-true.value c.args.values.now _ c.args.state.now c.append_elements.new.self c.requires grown.1.0 gets.0 value gets.2
