use Rattle.std.proofs.Common.{◌∙◌, ap, sym}
use Rattle.std.specs.Prelude.{Some}
use Rattle.dg_language.specs.Variables.{read_variable}
use Rattle.dg_asking.specs.declared.attempt.AttemptEnd.TheVariants.{Value, Fails}
use Rattle.dg_asking.proofs.AttemptLemmas.{used-ends}
use Rattle.dg_asking.proofs.VariableLemmas.{given_of, given-none, given-some}
use Rattle.dg_asking.proofs.variables.read.Goals as goal

pub returns-in-Some : goal.returns-in-Some
unfolding read_variable
returns-in-Some c = (rw c.in-Some.is at c.in_ok-attempt.ensures.precedes) (given_of c.args.name.now)

pub returns-in_default-value_of : goal.returns-in_default-value_of
unfolding read_variable
returns-in_default-value_of c =
    let ready = rw c.in_default.is at c.in_ok-attempt.ensures.precedes in
    let s = c.before_use.new.state in
    used-ends c.args.name.now (given_of c.args.name.now) c.args.state.now s s (Fails c.in_ok-message.message) ready
    (given-none c.args.name.now c.in_ok-message.message s (sym c.in_default-value_of.ensures) c.in_ok-message.ensures)

pub returns : goal.returns
unfolding read_variable
returns c =
    let ready = rw c.in_default.is at c.in_ok-attempt.ensures.precedes in
    let s = c.before_use.new.state in
    used-ends c.args.name.now (given_of c.args.name.now) c.args.state.now s s (Value c.in_ok-value.value) ready
    (given-some c.args.name.now c.in_ok-value.value s (sym c.in-Some-value_of.ensures ∙ ap Some (sym c.in_ok-value.ensures)))
