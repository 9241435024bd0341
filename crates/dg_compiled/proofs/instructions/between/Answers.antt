use Rattle.dg_compiled.proofs.TextLemmas.{three-of}
use Rattle.dg_compiled.proofs.instructions.between.Goals as goal

pub returns : goal.returns
returns c =
    let first = rw c.if-not-pushes.false at c.pushes.ensures in
    let second = rw c.if-not-pushes-2.false at c.pushes-else-not-pushes.ensures in
    let op = rw c.in-Some.is at c.operator_in.ensures in
    let all = three-of c.args.code.now c.args.steps.now _ _ _ _ _ c.if-code-ne3.false c.requires c.index-code-0.is c.index-code-1.is c.index-code-2.is c.index-steps-0.is c.index-steps-1.is in
    let left = rw (c.as_slice.ensures, all.1, first.1, c.in-Some-one_value.is) at c.one_value.ensures in
    let right = rw (c.as_slice-2.ensures, all.2, second.1, c.in-Some-one_value-2.is) at c.one_value-2.ensures in
    (first.0, (second.0, ((rw (first.1, second.1, op) at all.0), left, right)))
