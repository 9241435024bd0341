use Rattle.dg_words.proofs.Runs.{TextTo}
use Rattle.dg_words.proofs.run.text_run.Given as goal

abbrev pub invariant-loop-place : goal.invariant-loop-place
invariant-loop-place l = TextTo l.text l.context l.from l.place
