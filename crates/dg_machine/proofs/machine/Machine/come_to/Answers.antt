use Rattle.std.proofs.Common.{refl, sym, arith}
use Rattle.dg_machine.specs.Meaning.{all_back, back, go, rest}
use Rattle.dg_machine.proofs.ExpressionLemmas.{weight-loading}
use Rattle.dg_machine.proofs.machine.Machine.come_to.Goals as goal

pub returns-in_ok-push-in-Operand-2 : goal.returns-in_ok-push-in-Operand-2
unfolding rest go back all_back
returns-in_ok-push-in-Operand-2 c first left =
    let left = rw c.in-Operand.is at left in
    let fewer = left.3 in
    let weight = weight-loading c.args.self.now.state c.in-Operand.making c.args.calculation.depth c.args.calculation c.args.self.now.stack left.1 left.2 in
    rw (c.in_ok-push-in-Operand-2.ensures, c.in_ok-push-in-Operand.ensures, c.requires)
    (sym (left.0 (all_back c.args.self.now.stack)), refl, omega (arith, weight, fewer))
