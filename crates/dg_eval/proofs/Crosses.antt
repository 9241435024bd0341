-- A job may go to another thread.
use denote.Enum.Declared.{shape, variants}
use denote.Param.Send.{EachSend, IsSend, enum_send, sendable}
use Rattle.dg_machine.proofs.Crosses.{Asking-send, Evaluation-send, Readings-send}
use Rattle.dg_world.proofs.test_id.TestId.TheSendSync as test
use Rattle.dg_eval.specs.contracts.job.Job as Job
use Rattle.dg_eval.specs.contracts.stage.Stage as Stage

-- each of a job's stages in its order, and each of its fields
Stages-send : EachSend (variants Stage.the_type)
Stages-send = ((Evaluation-send, tt), ((Asking-send, tt), ((Readings-send, tt), (tt, tt))))

Stage-send : IsSend Stage.the_field.row
Stage-send = let each = enum_send (shape Stage.the_type) Stages-send in search (sendable, each) depth 20

pub Job-send : IsSend Job.the_row
Job-send = search (sendable, test.the_send, Stage-send) depth 20
