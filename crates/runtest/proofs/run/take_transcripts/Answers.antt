use Rattle.runtest.proofs.Reporting.{keeps_on}
use Rattle.runtest.proofs.run.take_transcripts.Goals as goal

pub loop-test-preserved : goal.loop-test-preserved
loop-test-preserved g c = keeps_on c.args.suite.now.pass c.loop-test.suite.pass c.take_transcript.new.suite.pass c.loop-test.invariant c.in_ok-take_transcript.ensures
