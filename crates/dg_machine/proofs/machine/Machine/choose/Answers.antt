use Rattle.std.proofs.Common.{rules, ◌≡◌, ◌∙◌, length, ap, refl, sym, arith}
use Rattle.std.proofs.lemmas.Result.{IfOk-weaker}
use Rattle.dg_expr.specs.Number.{decimal_text}
use Rattle.dg_machine.specs.Meaning.{back, all_back}
use Rattle.dg_machine.proofs.MachineLemmas.{Goes-along, weight-cons}
use Rattle.dg_machine.proofs.ChoiceLemmas.{choose-none, choose-next}
use Rattle.dg_compiled.proofs.GatherLemmas.{fail-through}
use Rattle.dg_compiled.proofs.ExpressionLemmas.{begun-calculates, calculate-none}
use Rattle.dg_machine.proofs.ResultLemmas.{Goes-along-ok}
use Rattle.dg_machine.proofs.machine.Machine.choose.Goals as goal

pub returns-in_default : goal.returns-in_default
returns-in_default c =
    Goes-along-ok _ _ _ _ _ _ _ _ c.otherwise.ensures (choose-none _ _ _ _ _ c.in_default.ensures.0) refl (omega arith)

pub returns-in_default-of : goal.returns-in_default-of
returns-in_default-of c =
    let none = sym (rw c.in_default-of.is at c.of.ensures.begun) ∙ c.in_ok-formula.ensures in
    Goes-along-ok _ _ _ _ _ _ _ _ c.no_expression.ensures
    (choose-next _ _ _ _ _ _ _ c.in-Some.ensures ∙ calculate-none _ _ _ _ none ∙ fail-through _ _ _ _) refl (omega arith)

pub returns-in-Value : goal.returns-in-Value
returns-in-Value c =
    let longer = ap length c.in-Some.ensures in
    let begun = rw c.in-Some-of.is at c.of.ensures.begun in
    let value = rw c.in-Value.is at c.in_ok-computed.ensures in
    Goes-along-ok _ _ _ _ _ _ _ _ c.decide_now.ensures
    (choose-next _ _ _ _ _ _ _ c.in-Some.ensures ∙ sym (begun-calculates _ _ _ _ _ _ c.in_ok-formula.ensures begun.0 begun.1) ∙ value _) refl (omega (arith, longer))

pub returns-in-Whole : goal.returns-in-Whole
returns-in-Whole c =
    let longer = ap length c.in-Some.ensures in
    let begun = rw c.in-Some-of.is at c.of.ensures.begun in
    let is : c.in_ok-value-in-Whole.value ≡ decimal_text c.in-Whole.number = search rules in
    let value = rw (sym is) at (rw c.in-Whole.is at c.in_ok-computed.ensures) in
    Goes-along-ok _ _ _ _ _ _ _ _ c.decide_now-in-Whole.ensures
    (choose-next _ _ _ _ _ _ _ c.in-Some.ensures ∙ sym (begun-calculates _ _ _ _ _ _ c.in_ok-formula.ensures begun.0 begun.1) ∙ value _) refl (omega (arith, longer))

pub returns : goal.returns
unfolding all_back back
returns c =
    let longer = ap length c.in-Some.ensures in
    let begun = rw c.in-Some-of.is at c.of.ensures.begun in
    let counted = rw c.in-Some-of.is at c.of.ensures.counted in
    rw c.requires
    (IfOk-weaker c.come_to.result _ _
    (λ p h.
    let went = rw (c.in_ok-push-in_default-2.ensures, c.requires) at (h c.in-Some-of.calculation c.in_ok-computed.ensures) in
    Goes-along p _ _ _ _ _ _ _ went
    (choose-next _ _ _ _ _ _ _ c.in-Some.ensures ∙ sym (begun-calculates _ _ _ _ _ _ c.in_ok-formula.ensures begun.0 begun.1)) refl
    (rw weight-cons (omega (arith, longer, counted))))
    c.come_to.ensures)
