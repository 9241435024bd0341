use Rattle.std.proofs.Common.{◌∙◌, sym, arith}
use Rattle.dg_expr.specs.Truth.{truth_of}
use Rattle.dg_machine.specs.Choosing.{repeat_if}
use Rattle.dg_machine.specs.Meaning.{all_back}
use Rattle.dg_compiled.proofs.ExpressionLemmas.{judged-fault, judged-truth}
use Rattle.dg_machine.proofs.ResultLemmas.{Comes-along-ok, Goes-comes-ok}
use Rattle.dg_machine.proofs.machine.Machine.behind_test.Goals as goal

pub returns-in-Ok : goal.returns-in-Ok
returns-in-Ok c =
    let v = c.args.value in
    let s = c.args.self.now.state in
    let k = all_back c.args.self.now.stack in
    let truth = rw c.as_slice.ensures at (sym c.in-Ok.is ∙ c.in_ok-holds-in-Done.ensures) in
    rw c.in-Done.is
    (Comes-along-ok _ _ _ _ _ _ _ c.repeat_if.ensures
    (judged-truth (truth_of v) v c.in-Ok.holds s k (λ holds. repeat_if c.args.repetition holds s k) truth) (omega arith))

pub returns-in-Err : goal.returns-in-Err
returns-in-Err c =
    let v = c.args.value in
    let s = c.args.self.now.state in
    let k = all_back c.args.self.now.stack in
    let fault = rw c.as_slice.ensures at (sym c.in-Err.is ∙ c.in_ok-holds-in-Done.ensures) in
    rw c.in-Done.is
    (Goes-comes-ok _ _ _ _ _ _ _ c.fail.ensures
    (judged-fault (truth_of v) v c.in-Err.message s k (λ holds. repeat_if c.args.repetition holds s k) fault) (omega arith))
