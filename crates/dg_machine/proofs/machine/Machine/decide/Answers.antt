use Rattle.std.proofs.Common.{◌∙◌, refl, sym, arith}
use Rattle.dg_expr.specs.Truth.{truth_of}
use Rattle.dg_compiled.proofs.ExpressionLemmas.{judged-fault}
use Rattle.dg_machine.proofs.ResultLemmas.{Goes-along-ok}
use Rattle.dg_machine.proofs.machine.Machine.decide.Goals as goal

pub returns-in-Err : goal.returns-in-Err
returns-in-Err c =
    let fault = rw c.as_slice.ensures at (sym c.in-Err.is ∙ c.in_ok-truth_in.ensures) in
    Goes-along-ok _ _ _ _ _ _ _ _ c.fail.ensures (judged-fault (truth_of c.args.value) c.args.value c.in-Err.message _ _ _ fault) refl (omega arith)
