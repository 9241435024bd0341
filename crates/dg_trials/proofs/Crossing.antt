-- What the threads of the cases are given may go to them.
use denote.Param.Send.{IsSend, IsSync, sendable}
use denote.RattleType.{RattleType}
use denote.Ref.{NamedLft}
use Rattle.std.proofs.Crossing.{crosses}
use Rattle.dg_bench.proofs.Crossing.{pass_send}
use Rattle.dg_bench.specs.declared.room.Room.{Ghosts}
use Rattle.dg_bench.proofs.receipt.Receipt.TheSendSync as receipt
use Rattle.dg_trials.specs.contracts.benches.edits.Task.{the_row as task_row}
use Rattle.dg_trials.specs.contracts.benches.twins.Twin.{the_row as twin_row}
use Rattle.dg_trials.specs.contracts.benches.callers.Caller.{the_row as caller_row}
use Rattle.dg_trials.specs.contracts.benches.gates.Waiting.{the_row as waiting_row}
use Rattle.dg_trials.specs.contracts.benches.turns.Share.{the_row as share_row}

pub task_send : (B : RattleType) (r : Ghosts B.Denot) → IsSend B → IsSend (task_row B r)
task_send B r s = search (crosses, sendable, pass_send) depth 20

pub twin_send : (B : RattleType) (r : Ghosts B.Denot) → IsSend B → IsSend (twin_row B r)
twin_send B r s = search (crosses, sendable, pass_send) depth 20

pub caller_send : (B : RattleType) (r : Ghosts B.Denot) → IsSend B → IsSend (caller_row B r)
caller_send B r s = search (crosses, sendable, pass_send, receipt.the_send) depth 20

-- gates may be shared where the handle may
pub waiting_sync : (κ : NamedLft) (R : RattleType) → IsSync R → IsSync (waiting_row κ R)
waiting_sync κ R y = search (crosses, sendable) depth 20

pub share_send : (κ : NamedLft) (B R : RattleType) (r : Ghosts B.Denot) → IsSend B → IsSync R → IsSend (share_row κ B R r)
share_send κ B R r s y = search (crosses, sendable, pass_send, waiting_sync) depth 20
