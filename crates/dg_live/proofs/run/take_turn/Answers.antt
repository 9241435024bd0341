use Rattle.dg_live.proofs.Going.{refuses-can}
use Rattle.dg_live.proofs.run.take_turn.Goals as goal

pub returns-clause-fault : goal.returns-clause-fault
returns-clause-fault g c =
    refuses-can c.args.job.now c.advance.new.self c.answer.new.self c.in-Ok-Need.ask c.in_ok-answer.answer c.in-Err-answer.fault
    c.requires.failed (rw c.in-Ok-Need.field-0-is at c.in-Ok-Need.ensures) c.in-Err-answer.ensures
