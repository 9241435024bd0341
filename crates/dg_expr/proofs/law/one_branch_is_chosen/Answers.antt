use Rattle.dg_expr.proofs.Applying.{branch_chosen, condition_ends, no_branch_chosen}
use Rattle.dg_expr.proofs.law.one_branch_is_chosen.Goals as goal

pub returns-clause-chosen : goal.returns-clause-chosen
returns-clause-chosen g c = λ host see d a b s t x holds l e. branch_chosen host see d a b s t x holds l e

pub returns-clause-none : goal.returns-clause-none
returns-clause-none g c = λ host see d a b s t x l e. no_branch_chosen host see d a b s t x l e

pub returns-clause-ends : goal.returns-clause-ends
returns-clause-ends g c = λ host see d a b s end l. condition_ends host see d a b s end l
