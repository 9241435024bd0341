use Rattle.runtest.specs.Runs.{KeepsSelected}
use Rattle.runtest.proofs.run.take_transcripts.Given as goal

abbrev pub invariant-loop-test : goal.invariant-loop-test
invariant-loop-test g l = KeepsSelected l.fn.suite.pass l.suite.pass
