use Rattle.std.proofs.Common.{◌∙◌, refl, sym, ap, arith}
use Rattle.std.specs.Prelude.{Ok}
use Rattle.dg_forms.proofs.Choices.{empty-if}
use Rattle.dg_machine.proofs.LoopLemmas.{foreach-empty}
use Rattle.dg_machine.proofs.ResultLemmas.{Goes-along-ok}
use Rattle.dg_machine.proofs.machine.Machine.for_each.Goals as goal

pub returns-then-is_empty : goal.returns-then-is_empty
returns-then-is_empty c =
    let read = sym (rw (c.in-Ok.is, c.as_slice.ensures) at c.in_ok-names.ensures) in
    let none = empty-if _ (sym c.is_empty.ensures ∙ c.if-is_empty.true) in
    let went = rw c.in_ok-message.ensures at c.fail-then-is_empty.ensures in
    Goes-along-ok _ _ _ _ _ _ _ _ went (foreach-empty _ _ _ _ _ _ _ c.in-Some.ensures (read ∙ ap (λ x. Ok x) none)) refl (omega arith)
