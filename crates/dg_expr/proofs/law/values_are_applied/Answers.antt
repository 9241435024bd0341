use Rattle.dg_expr.proofs.Applying.{one_applied, operand_loaded, right_taken, sides_applied}
use Rattle.dg_expr.proofs.law.values_are_applied.Goals as goal

pub returns-clause-sides : goal.returns-clause-sides
returns-clause-sides g c = λ host see op a b s t u x y v l r e. sides_applied host see op a b s t u x y v l r e

pub returns-clause-both : goal.returns-clause-both
returns-clause-both g c = λ host see op a b s t u x y l n r. right_taken host see op a b s t u x y l n r

pub returns-clause-one : goal.returns-clause-one
returns-clause-one g c = λ host see op a s t x l. one_applied host see op a s t x l

pub returns-clause-operand : goal.returns-clause-operand
returns-clause-operand g c = λ host see pieces s t x l. operand_loaded host see pieces s t x l
