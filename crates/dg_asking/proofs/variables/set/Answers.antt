use Rattle.std.proofs.Common.{◌∙◌, sym}
use Rattle.std.proofs.lemmas.Result.{IfOk-weaker}
use Rattle.dg_forms.proofs.Choices.{empty-if, some-if}
use Rattle.dg_asking.proofs.AttemptLemmas.{attempts-as, miscounts}
use Rattle.dg_asking.proofs.VariableLemmas.{set-none, set-reads, set-miscounted, set-writes}
use Rattle.dg_asking.proofs.variables.set.Goals as goal

pub returns-in_default : goal.returns-in_default
returns-in_default c = miscounts c.miscounted.result _ _ _ c.miscounted.ensures (set-none _ c.in_default.ensures)

pub returns-then-is_empty : goal.returns-then-is_empty
returns-then-is_empty c =
    let none = empty-if c.in-Some.others.now (sym c.is_empty.ensures ∙ c.if-is_empty.true) in
    let went = rw c.as_slice.ensures at c.read.ensures in
    IfOk-weaker c.read.result _ _ (λ a h. attempts-as _ _ _ _ a h (set-reads _ _ _ c.in-Some.ensures none)) went

pub returns-in_default-only : goal.returns-in_default-only
returns-in_default-only c =
    let some = some-if c.in-Some.others.now (sym c.is_empty.ensures ∙ c.if-is_empty.false) in
    miscounts c.miscounted-in_default-only.result _ _ _ c.miscounted-in_default-only.ensures (set-miscounted _ _ _ c.in-Some.ensures some (sym c.in_default-only.ensures))

pub returns : goal.returns
returns c =
    let went = rw c.as_slice-2.ensures at c.write.ensures in
    IfOk-weaker c.write.result _ _ (λ a h. attempts-as _ _ _ _ a h (set-writes _ _ _ c.in-Some.ensures _ c.in-Some-only.ensures)) went
