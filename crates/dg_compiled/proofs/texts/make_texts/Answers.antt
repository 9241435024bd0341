use Rattle.std.proofs.Common.{◌≤◌, ◌+◌, length, ap, sym, ◌∙◌, arith}
use Rattle.dg_compiled.proofs.GatherLemmas.{gather-word}
use Rattle.dg_compiled.proofs.TextLemmas.{text-added, value-added}
use Rattle.dg_compiled.proofs.texts.make_texts.Goals as goal

pub steps-preserved-in-Variable : goal.steps-preserved-in-Variable
steps-preserved-in-Variable c =
    let left = rw c.in-Variable.is at c.in-Some.ensures in
    let value = rw c.in-Some-2.is at c.in_ok-value-in-Variable.ensures.value in
    let room = rw c.in-Some-2.is at c.in_ok-value-in-Variable.ensures.room in
    let count = ap length left in
    let fewer = c.steps.invariant.1 in
    rw c.in_ok-add_text-in-Variable.ensures
    ((λ d k. value-added d _ _ _ _ _ _ k _ _ _ left value room ∙ c.steps.invariant.0 d k), omega (arith, count, fewer), c.steps.invariant.2)

pub steps-preserved-in-Continue-branch-2 : goal.steps-preserved-in-Continue-branch-2
steps-preserved-in-Continue-branch-2 c =
    let left = rw c.in-Literal.is at c.in-Some.ensures in
    let count = ap length left in
    let fewer = c.steps.invariant.1 in
    let short : length c.steps.making.text + length c.in-Literal.text ≤ 1048576 = rw c.if-not-has_room.false at c.has_room.ensures.short in
    rw c.in_ok-add_text-in-Literal.ensures
    ((λ d k. text-added d _ _ _ _ _ _ k _ _ left short ∙ c.steps.invariant.0 d k), omega (arith, count, fewer), c.steps.invariant.2)

pub steps-preserved : goal.steps-preserved
steps-preserved c =
    let left = rw c.in-WordEnds.is at c.in-Some.ensures in
    let count = ap length left in
    let fewer = c.steps.invariant.1 in
    rw (c.in_ok-push-in-WordEnds.ensures.ok, c.replace-word.ensures.value, c.replace-word.ensures.after, c.new.ensures)
    ((λ d k. sym (gather-word d _ _ _ _ _ _ k _ left) ∙ c.steps.invariant.0 d k), omega (arith, count, fewer), c.steps.invariant.2)
