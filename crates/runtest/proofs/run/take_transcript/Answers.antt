use Rattle.runtest.proofs.Reporting.{added_keeps}
use Rattle.runtest.proofs.run.take_transcript.Goals as goal

pub returns-in-Ok : goal.returns-in-Ok
returns-in-Ok g c = added_keeps _ c.args.suite.now.pass c.put.new.self.pass c.in-Ok.ensures
