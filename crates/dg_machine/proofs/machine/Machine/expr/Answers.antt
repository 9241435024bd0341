use Rattle.std.proofs.Common.{rules, ◌≡◌, ap, ◌<◌, ◌≤◌, ◌∙◌, refl, sym, subst, arith}
use Rattle.std.proofs.lemmas.Result.{IfOk-weaker}
use Rattle.dg_expr.specs.Number.{decimal_text}
use Rattle.dg_language.specs.declared.code.Code.TheVariants.{Done}
use Rattle.dg_language.specs.Expressions.{in_decimal, written}
use Rattle.dg_machine.proofs.WholeLemmas.{in_decimal-whole}
use Rattle.dg_machine.specs.Meaning.{back, all_back, rest, weight}
use Rattle.dg_machine.proofs.MachineLemmas.{Goes-along, weight-cons}
use Rattle.dg_compiled.proofs.GatherLemmas.{fail-through}
use Rattle.dg_compiled.proofs.ExpressionLemmas.{begun-calculates, calculate-none, expr-long, expr-short}
use Rattle.dg_machine.proofs.ResultLemmas.{Goes-along-ok}
use Rattle.dg_machine.proofs.machine.Machine.expr.Goals as goal

pub returns-then-len-gt-LONGEST_VALUE : goal.returns-then-len-gt-LONGEST_VALUE
returns-then-len-gt-LONGEST_VALUE c =
    let text = rw c.as_slice.ensures at c.in_ok-text.ensures in
    let long = rw text at (subst (λ n. 1048576 < n) c.len.ensures c.if-len-gt-LONGEST_VALUE.true) in
    rw c.cut.ensures.same (expr-long _ _ _ _ c.in-Some.ensures _ _ long ∙ c.in_ok-closing.ensures.ends, refl)

pub returns-in_default-of : goal.returns-in_default-of
returns-in_default-of c =
    let text = rw c.as_slice.ensures at c.in_ok-text.ensures in
    let short = rw text at (subst (λ n. n ≤ 1048576) c.len.ensures c.if-len-gt-LONGEST_VALUE.false) in
    let none = sym (rw c.in_default-of.is at c.of.ensures.begun) ∙ c.in_ok-formula.ensures in
    let code = rw text at none in
    let went = rw text at c.no_expression.ensures in
    Goes-along-ok _ _ _ _ _ _ _ _ went
    (expr-short _ _ _ _ c.in-Some.ensures _ _ short ∙ calculate-none _ _ _ _ code ∙ fail-through _ _ _ _) refl (omega arith)

pub returns-in-Value : goal.returns-in-Value
unfolding rest weight
returns-in-Value c =
    let text = rw c.as_slice.ensures at c.in_ok-text.ensures in
    let short = rw text at (subst (λ n. n ≤ 1048576) c.len.ensures c.if-len-gt-LONGEST_VALUE.false) in
    let begun = rw c.in-Some-of.is at c.of.ensures.begun in
    let code = rw text at c.in_ok-formula.ensures in
    let value = rw c.in-Value.is at c.in_ok-computed.ensures in
    let k = written (all_back c.args.self.now.stack) in
    rw (c.end.ensures, c.in_ok-value-in-Value.ensures, c.requires)
    (sym (expr-short _ _ _ _ c.in-Some.ensures _ _ short ∙ sym (begun-calculates _ _ _ _ _ k code begun.0 begun.1) ∙ value k), refl, omega arith)

pub returns-in-Whole : goal.returns-in-Whole
unfolding rest weight
returns-in-Whole c =
    let text = rw c.as_slice.ensures at c.in_ok-text.ensures in
    let short = rw text at (subst (λ n. n ≤ 1048576) c.len.ensures c.if-len-gt-LONGEST_VALUE.false) in
    let begun = rw c.in-Some-of.is at c.of.ensures.begun in
    let code = rw text at c.in_ok-formula.ensures in
    let value = rw c.in-Whole.is at c.in_ok-computed.ensures in
    let is : c.in_ok-value-in-Whole.value ≡ decimal_text c.in-Whole.number = search rules in
    let same : in_decimal (decimal_text c.in-Whole.number) ≡ decimal_text c.in-Whole.number = search (rules, in_decimal-whole) in
    let k = written (all_back c.args.self.now.stack) in
    rw (c.end-in-Whole.ensures, c.requires) (
      sym (expr-short _ _ _ _ c.in-Some.ensures _ _ short ∙ sym (begun-calculates _ _ _ _ _ k code begun.0 begun.1) ∙ value k
          ∙ ap (λ v. all_back c.args.self.now.stack Done v c.args.self.now.state) (same ∙ sym is)),
      refl,
      omega arith,
    )

pub returns : goal.returns
unfolding all_back back
returns c =
    let text = rw c.as_slice.ensures at c.in_ok-text.ensures in
    let short = rw text at (subst (λ n. n ≤ 1048576) c.len.ensures c.if-len-gt-LONGEST_VALUE.false) in
    let begun = rw c.in-Some-of.is at c.of.ensures.begun in
    let counted = rw c.in-Some-of.is at c.of.ensures.counted in
    let code = rw text at c.in_ok-formula.ensures in
    rw c.requires
    (IfOk-weaker c.come_to.result _ _
    (λ p h.
    let went = rw (c.in_ok-push-in_default-2.ensures, c.requires) at (h c.in-Some-of.calculation c.in_ok-computed.ensures) in
    Goes-along p _ _ _ _ _ _ _ went (expr-short _ _ _ _ c.in-Some.ensures _ _ short ∙ sym (begun-calculates _ _ _ _ _ _ code begun.0 begun.1)) refl
    (rw weight-cons (omega (arith, counted))))
    c.come_to.ensures)
