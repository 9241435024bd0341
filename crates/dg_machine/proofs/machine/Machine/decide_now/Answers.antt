use Rattle.std.proofs.Common.{◌≡◌, ◌∙◌, length, refl, sym, false, arith}
use Rattle.dg_expr.specs.Truth.{truth_of}
use Rattle.dg_machine.proofs.ChoiceLemmas.{choose-over}
use Rattle.dg_compiled.proofs.ExpressionLemmas.{judged-fault, judged-truth}
use Rattle.dg_machine.proofs.ResultLemmas.{Goes-along-ok}
use Rattle.dg_machine.proofs.machine.Machine.decide_now.Goals as goal

pub returns-then-len-eq0 : goal.returns-then-len-eq0
returns-then-len-eq0 c =
    let told = rw c.as_slice.ensures at (rw c.in-Ok-false.field-0-test at (rw c.in-Ok-false.is at c.in_ok-truth_in.ensures)) in
    let none : length c.args.choice.left ≡ 0 = omega (arith, c.len.ensures, c.if-len-eq0.true) in
    Goes-along-ok _ _ _ _ _ _ _ _ c.otherwise.ensures (judged-truth (truth_of c.args.value) c.args.value false _ _ _ told ∙ choose-over _ _ _ _ _ none) refl (omega arith)

pub returns-in-Err : goal.returns-in-Err
returns-in-Err c =
    let fault = rw c.as_slice.ensures at (sym c.in-Err.is ∙ c.in_ok-truth_in.ensures) in
    Goes-along-ok _ _ _ _ _ _ _ _ c.fail.ensures (judged-fault (truth_of c.args.value) c.args.value c.in-Err.message _ _ _ fault) refl (omega arith)
