use Rattle.std.proofs.Common.{[], ◌∙◌, ap, sym}
use Rattle.std.proofs.lemmas.List.{append-nil}
use Rattle.dg_expr.specs.Code.{code_of, run}
use Rattle.dg_expr.proofs.Running.{runs}
use Rattle.dg_expr.proofs.law.code_does_as_its_tree.Goals as goal

pub returns : goal.returns
unfolding run
returns g c = λ host tree s k. ap (λ code. run host [] 0 code s k) (sym (append-nil (code_of tree))) ∙ runs host tree [] [] s k
