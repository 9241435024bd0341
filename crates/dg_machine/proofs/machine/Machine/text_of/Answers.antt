use Rattle.std.proofs.Common.{sym}
use Rattle.dg_machine.proofs.OpeningLemmas.{file-unanswered, file-known}
use Rattle.dg_machine.proofs.machine.Machine.text_of.Goals as goal

pub returns-in_default : goal.returns-in_default
returns-in_default c = file-unanswered _ _ _ c.in_ok-copy.ensures (sym c.in_default.ensures)

pub returns : goal.returns
returns c = file-known _ _ _ _ _ c.in_ok-copy.ensures (sym c.in-Some.ensures) c.in_ok-content_of.ensures
