use Rattle.dg_expr.proofs.Memoryless.{before_free, between_free}
use Rattle.dg_expr.proofs.law.no_operator_wants_memory.Goals as goal

pub returns-clause-between : goal.returns-clause-between
returns-clause-between c = λ op a b. between_free op a b

pub returns-clause-before : goal.returns-clause-before
returns-clause-before c = λ op a. before_free op a
