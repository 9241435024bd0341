use Rattle.std.proofs.Common.{◌∙◌, sym}
use Rattle.dg_forms.proofs.Choices.{empty-if, some-if}
use Rattle.dg_forms.proofs.ProcedureLemmas.{bindings-collected, bindings-without, bindings-next, bindings-done, bindings-over}
use Rattle.dg_forms.proofs.procedures.bindings.Goals as goal

pub returns-then-collects : goal.returns-then-collects
returns-then-collects c =
    let all = bindings-collected c.parameters.made _ c.parameters.args.now _ _ c.in-Some.ensures (sym c.collects.ensures ∙ c.if-collects.true) in
    rw (c.in_ok-push.ensures.ok, c.in_ok-bind_all.ensures) (sym all ∙ c.parameters.invariant)

pub returns-in_default-value_for : goal.returns-in_default-value_for
returns-in_default-value_for c =
    let none = bindings-without c.parameters.made _ c.parameters.args.now _ _ c.in-Some.ensures (sym c.collects.ensures ∙ c.if-collects.false) c.in_default-value_for.ensures in
    sym none ∙ c.parameters.invariant

pub parameters-preserved : goal.parameters-preserved
parameters-preserved c =
    let next = bindings-next c.parameters.made _ c.parameters.args.now _ _ c.in-Some.ensures _ _ (sym c.collects.ensures ∙ c.if-collects.false) c.in-Some-value_for.ensures in
    rw (c.in_ok-push-2.ensures.ok, c.in_ok-bind.ensures) (next ∙ c.parameters.invariant)

pub returns-then-not-is_empty : goal.returns-then-not-is_empty
returns-then-not-is_empty c =
    sym (bindings-over c.parameters.made _ _ c.in_default.ensures (some-if _ (sym c.is_empty.ensures ∙ c.if-not-is_empty.true))) ∙ c.parameters.invariant

pub returns : goal.returns
returns c =
    sym (bindings-done c.parameters.made _ _ c.in_default.ensures (empty-if _ (sym c.is_empty.ensures ∙ c.if-not-is_empty.false))) ∙ c.parameters.invariant
