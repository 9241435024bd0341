use Rattle.dg_lists.proofs.ListRuns.{ElementOn}
use Rattle.dg_lists.proofs.kinds.Context.element_run.Given as goal

abbrev pub invariant-loop-place : goal.invariant-loop-place
invariant-loop-place l = ElementOn l.text l.self l.from l.place
