use Rattle.std.proofs.Common.{rules, ◌≡◌, ap, ◌∙◌, sym, arith}
use Rattle.std.proofs.lemmas.Result.{IfOk-weaker}
use Rattle.std.specs.Prelude.{Some, Ok}
use Rattle.dg_expr.specs.Number.{decimal_text}
use Rattle.dg_expr.specs.Truth.{truth_of}
use Rattle.dg_language.specs.Expressions.{or_no_truth}
use Rattle.dg_machine.specs.Choosing.{repeat_if, repeating}
use Rattle.dg_machine.specs.declared.frame.LoopPart.TheVariants.{Test}
use Rattle.dg_machine.specs.Meaning.{back, all_back}
use Rattle.dg_machine.proofs.MachineLemmas.{Goes-comes, weight-cons}
use Rattle.dg_compiled.proofs.GatherLemmas.{fail-through}
use Rattle.dg_compiled.proofs.ExpressionLemmas.{begun-calculates, calculate-none, judged-truth}
use Rattle.dg_machine.proofs.ResultLemmas.{Comes-along-ok, Goes-comes-ok}
use Rattle.dg_machine.proofs.machine.Machine.test.Goals as goal

pub returns-in_default : goal.returns-in_default
returns-in_default c =
    let none = sym (rw c.in_default.is at c.of.ensures.begun) ∙ (rw c.get-looped.ensures at c.in_ok-formula.ensures) in
    let went = rw (c.text.ensures, c.get-looped.ensures) at c.no_expression.ensures in
    Goes-comes-ok _ _ _ _ _ _ _ went (calculate-none _ _ _ _ none ∙ fail-through _ _ _ _) (omega arith)

pub returns-in-Value : goal.returns-in-Value
returns-in-Value c =
    let formula = rw c.get-looped.ensures at c.in_ok-formula.ensures in
    let begun = rw c.get-looped.ensures at (rw c.in-Some.is at c.of.ensures.begun) in
    let value = rw c.in-Value.is at c.in_ok-computed.ensures in
    let k = repeating c.args.repetition Test (all_back c.args.self.now.stack) in
    Comes-along-ok _ _ _ _ _ _ _ c.behind_test.ensures
    (sym (begun-calculates _ _ _ _ _ k formula begun.0 begun.1) ∙ value k) (omega arith)

pub returns-in-Whole : goal.returns-in-Whole
returns-in-Whole c =
    let formula = rw c.get-looped.ensures at c.in_ok-formula.ensures in
    let begun = rw c.get-looped.ensures at (rw c.in-Some.is at c.of.ensures.begun) in
    let value = rw c.in-Whole.is at c.in_ok-computed.ensures in
    let k = repeating c.args.repetition Test (all_back c.args.self.now.stack) in
    let text = decimal_text c.in-Whole.number in
    let truth : truth_of text ≡ Some c.whole_truth-holds.result = search rules in
    let holds : Ok c.whole_truth-holds.result ≡ or_no_truth (truth_of text) text = sym (ap (λ o. or_no_truth o text) truth) in
    Comes-along-ok _ _ _ _ _ _ _ c.repeat_if.ensures
    (sym (begun-calculates _ _ _ _ _ k formula begun.0 begun.1) ∙ value k
    ∙ judged-truth (truth_of text) text c.whole_truth-holds.result c.args.self.now.state (all_back c.args.self.now.stack)
    (λ h. repeat_if c.args.repetition h c.args.self.now.state (all_back c.args.self.now.stack)) holds) (omega arith)

pub returns-in_ok-push-in_default-2 : goal.returns-in_ok-push-in_default-2
unfolding all_back back
returns-in_ok-push-in_default-2 c =
    let formula = rw c.get-looped.ensures at c.in_ok-formula.ensures in
    let begun = rw c.get-looped.ensures at (rw c.in-Some.is at c.of.ensures.begun) in
    let counted = rw c.in-Some.is at c.of.ensures.counted in
    rw c.requires.go
    (IfOk-weaker c.come_to.result _ _
    (λ p h.
    let went = rw (c.in_ok-push-in_default-2.ensures, c.requires.stage, c.requires.go) at (h c.in-Some.calculation c.in_ok-computed.ensures) in
    Goes-comes p _ _ _ _ _ _ went (sym (begun-calculates _ _ _ _ _ _ formula begun.0 begun.1)) (rw weight-cons (omega (arith, counted))))
    c.come_to.ensures)
