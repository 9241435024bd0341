use Rattle.std.proofs.Common.{refl, ap, ◌∙◌, arith}
use Rattle.dg_compiled.proofs.ComputingLemmas.{operand-begins, operand-made}
use Rattle.dg_compiled.proofs.computing.load.Goals as goal

pub returns-then-len-gt0 : goal.returns-then-len-gt0
returns-then-len-gt0 c pieces e =
    let fewer = rw c.begun-making.ensures.begun at c.in_ok-make_texts.ensures.fewer in
    let counted = c.begun-making.ensures.counted in
    ((λ k. operand-begins c.args.calculation.now c.args.state.now pieces c.args.left c.begun-making.result c.make_texts.new.making e c.begun-making.ensures.begun c.in_ok-make_texts.ensures.same k), c.in_ok-make_texts.ensures.purpose ∙ ap (λ m. m.purpose) c.begun-making.ensures.begun, omega (arith, fewer, counted), refl)

pub returns : goal.returns
returns c pieces e =
    rw (c.in_ok-put.ensures, c.in_ok-value.ensures, c.as_slice.ensures)
    ((λ k. operand-made c.args.calculation.now c.args.state.now pieces c.args.left c.begun-making.result c.make_texts.new.making e c.begun-making.ensures.begun c.in_ok-make_texts.ensures.same c.in_ok-make_texts.ensures.purpose (rw c.len.ensures at c.if-len-gt0.false) k), refl, refl)
