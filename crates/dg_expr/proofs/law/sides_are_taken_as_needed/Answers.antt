use Rattle.dg_expr.proofs.Applying.{left_ends, one_ends, right_alone, right_ends}
use Rattle.dg_expr.proofs.law.sides_are_taken_as_needed.Goals as goal

pub returns-clause-alone : goal.returns-clause-alone
returns-clause-alone g c = λ host see op a b s t x any l n. right_alone host see op a b s t x any l n

pub returns-clause-left : goal.returns-clause-left
returns-clause-left g c = λ host see op a b s end l. left_ends host see op a b s end l

pub returns-clause-right : goal.returns-clause-right
returns-clause-right g c = λ host see op a b s t x end l n r. right_ends host see op a b s t x end l n r

pub returns-clause-only : goal.returns-clause-only
returns-clause-only g c = λ host see op a s end l. one_ends host see op a s end l
