use Rattle.dg_expr.proofs.Decimals.{true_decimal, false_decimal}
use Rattle.dg_expr.proofs.arithmetic.truth_number.Goals as goal

-- src/arithmetic.rt:11:1
pub returns-then-holds : goal.returns-then-holds
returns-then-holds c = true_decimal c.args.holds c.if-holds.true

-- src/arithmetic.rt:11:1
pub returns-else-holds : goal.returns-else-holds
returns-else-holds c = false_decimal c.args.holds c.if-holds.false
