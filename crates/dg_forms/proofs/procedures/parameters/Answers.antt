use Rattle.std.proofs.Common.{◌∙◌, sym}
use Rattle.dg_forms.proofs.ProcedureLemmas.{parameters-unreadable, parameters-bad, parameters-next, parameters-past}
use Rattle.dg_forms.proofs.procedures.parameters.Goals as goal

pub returns-in-Err : goal.returns-in-Err
returns-in-Err c =
    let read = sym (rw (c.in-Err.is, c.as_slice.ensures) at c.in_ok-fields.ensures) in
    sym (parameters-unreadable c.loop-text.made _ _ _ c.loop-text-test.true c.text-item.is _ read) ∙ c.loop-text.invariant

pub returns-in-Err-2 : goal.returns-in-Err-2
returns-in-Err-2 c =
    let read = sym (rw (c.in-Ok.is, c.as_slice.ensures) at c.in_ok-fields.ensures) in
    let made = sym (rw (c.in-Err-2.is, c.as_slice-in-loop-text.ensures, c.as_slice-in-loop-text-2.ensures) at c.in_ok-parameter.ensures) in
    sym (parameters-bad c.loop-text.made _ _ _ c.loop-text-test.true c.text-item.is _ _ read made) ∙ c.loop-text.invariant

pub loop-text-preserved : goal.loop-text-preserved
loop-text-preserved c =
    let read = sym (rw (c.in-Ok.is, c.as_slice.ensures) at c.in_ok-fields.ensures) in
    let made = sym (rw (c.in-Ok-2.is, c.as_slice-in-loop-text.ensures, c.as_slice-in-loop-text-2.ensures) at c.in_ok-parameter.ensures) in
    rw c.in_ok-push-in-Ok-2.ensures.ok (parameters-next c.loop-text.made _ _ _ c.loop-text-test.true c.text-item.is _ _ read made ∙ c.loop-text.invariant)

pub returns : goal.returns
returns c = sym (parameters-past c.loop-text.made _ _ c.loop-text-test.false) ∙ c.loop-text.invariant
