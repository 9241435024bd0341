use Rattle.dg_machine.proofs.EvaluationLemmas.{needs}
use Rattle.dg_machine.proofs.evaluation.Asking.ask.Goals as goal

pub returns-clause-next : goal.returns-clause-next
returns-clause-next c = rw (← c.self.view_is) (needs _ _ _ c.self.invariant)
