use Rattle.std.proofs.Common.{rules, ◌≡◌, ◌∙◌}
use Rattle.dg_expr.specs.Number.{decimal_text}
use Rattle.dg_language.specs.Expressions.{in_decimal}
use Rattle.dg_machine.proofs.SettlingLemmas.{expr-settles, settles-as}
use Rattle.dg_machine.proofs.WholeLemmas.{in_decimal-whole}
use Rattle.dg_machine.proofs.settling.value_computed.Goals as goal

pub returns-in-Value-clause-value : goal.returns-in-Value-clause-value
returns-in-Value-clause-value c =
    let s = c.args.state.now in
    let none = rw c.if-is_hidden.false at c.is_hidden.ensures in
    let begun = rw c.in_ok-try_clone.ensures at c.in-Some.ensures.begun in
    let value = rw c.in-Value.is at c.in_ok-value.ensures in
    settles-as _ _ (in_decimal c.in-Value.value) c.args.depth _ s c.short.ensures.same c.in_ok-value-in-Value.ensures
    (λ steps h. expr-settles c.args.depth steps c.in-Value.value _ c.in-Some.calculation s h none begun.0 begun.1 value)

pub returns-in-Whole-clause-value : goal.returns-in-Whole-clause-value
returns-in-Whole-clause-value c =
    let s = c.args.state.now in
    let none = rw c.if-is_hidden.false at c.is_hidden.ensures in
    let begun = rw c.in_ok-try_clone.ensures at c.in-Some.ensures.begun in
    let value = rw c.in-Whole.is at c.in_ok-value.ensures in
    let text = decimal_text c.in-Whole.number in
    let written : text ≡ in_decimal text = search (rules, in_decimal-whole) in
    let is : c.in_ok-value-in-Whole.value ≡ text = search rules in
    settles-as _ _ (in_decimal text) c.args.depth _ s c.short-in-Whole.ensures.same (is ∙ written)
    (λ steps h. expr-settles c.args.depth steps text _ c.in-Some.calculation s h none begun.0 begun.1 value)
