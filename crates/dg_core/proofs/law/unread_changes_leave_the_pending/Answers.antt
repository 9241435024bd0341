use Rattle.dg_core.proofs.UnreadLemmas.{pending-unread}
use Rattle.dg_core.proofs.law.unread_changes_leave_the_pending.Goals as goal

pub returns : goal.returns
returns c = pending-unread
