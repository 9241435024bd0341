use Rattle.std.proofs.Common.{◌∙◌, ap}
use Rattle.dg_expr.specs.Truth.{truth_text}
use Rattle.dg_asking.specs.declared.attempt.AttemptEnd.TheVariants.{Value}
use Rattle.dg_asking.proofs.AttemptLemmas.{used-ends}
use Rattle.dg_asking.proofs.VariableLemmas.{told_set, told-set}
use Rattle.dg_asking.proofs.variables.exists.Goals as goal

pub returns-in-Some : goal.returns-in-Some
returns-in-Some c = (rw c.in-Some.is at c.in_ok-attempt.ensures.precedes) (told_set c.args.name.now)

pub returns : goal.returns
returns c =
    let ready = rw c.in_default.is at c.in_ok-attempt.ensures.precedes in
    let s = c.before_use.new.state in
    let value = c.in_ok-value.ensures ∙ c.truth_text.ensures ∙ ap truth_text c.is_set.ensures in
    used-ends c.args.name.now (told_set c.args.name.now) c.args.state.now s s (Value c.in_ok-value.value) ready
    (told-set c.args.name.now c.in_ok-value.value s value)
