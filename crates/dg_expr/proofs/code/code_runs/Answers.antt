use Rattle.dg_expr.proofs.Running.{runs}
use Rattle.dg_expr.proofs.code.code_runs.Goals as goal

pub returns : goal.returns
returns g c host tree stack more state then_do = runs host tree stack more state then_do
