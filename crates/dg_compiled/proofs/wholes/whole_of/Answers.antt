use Rattle.std.proofs.Common.{◌∷◌, [], ◌∙◌, sym, ap, arith}
use Rattle.dg_compiled.proofs.WholeLemmas.{begun, advanced, ended-as, one-at, at-end}
use Rattle.dg_compiled.proofs.wholes.whole_of.Goals as goal

-- src/wholes.rt:135:5
pub instructions-init : goal.instructions-init
instructions-init c = rw c.new-waiting.ensures (begun c.args.state.now c.args.code.now)

-- src/wholes.rt:135:5
pub instructions-preserved : goal.instructions-preserved
instructions-preserved c =
    let all = c.in_ok-last.ensures.cases.0 in
    let here = one-at c.in_ok-last.others.now c.instructions.at c.index-others-at.result (c.in_ok-last.last.now ∷ []) c.instructions-test.true c.index-others-at.is in
    advanced c.args.state.now c.args.code.now _ _ c.index-others-at.result _ _ c.instructions.invariant (rw (sym all) at here) c.in_ok-advance.ensures

-- src/wholes.rt:122:1
pub returns : goal.returns
returns c =
    let all = c.in_ok-last.ensures.cases.0 in
    let over = at-end c.in_ok-last.others.now (c.in_ok-last.last.now ∷ []) c.instructions.at (omega (arith, c.instructions-test.false, c.instructions.auto.at-end)) in
    ended-as c.args.state.now c.args.code.now _ c.in-Apply.op _ _ c.combined.result c.instructions.invariant (rw (sym all) at over ∙ ap (λ x. x ∷ []) c.in-Apply.is) c.combined.ensures
