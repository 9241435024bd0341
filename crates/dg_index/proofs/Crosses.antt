-- Kept records may go to another thread.
use denote.Param.Send.{IsSend}
use Rattle.dg_index.proofs.kept.Kept.TheSendSync as kept
use Rattle.dg_index.specs.contracts.kept.Kept.{the_row}

pub Kept-send : IsSend the_row
Kept-send = kept.the_send
