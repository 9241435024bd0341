use Rattle.std.proofs.Common.{◌∙◌, refl}
use Rattle.dg_machine.proofs.ActingLemmas.{perform-full}
use Rattle.dg_machine.proofs.SessionLemmas.{no-room, some-room}
use Rattle.dg_machine.proofs.machine.Machine.perform.Goals as goal

pub returns-then-not-has_room : goal.returns-then-not-has_room
returns-then-not-has_room c =
    let full = no-room _ _ _ c.has_room.ensures c.sessions.ensures c.if-not-has_room.true in
    rw c.cut.ensures.same ((λ told late. perform-full c.args.number c.args.action.now told late c.args.self.now.state full ∙ c.in_ok-closing.ensures.ends), refl)

pub next_entry-requires : goal.next_entry-requires
next_entry-requires c = some-room _ _ _ c.has_room.ensures c.sessions.ensures c.if-not-has_room.false

pub take_entry-requires-clause-room : goal.take_entry-requires-clause-room
take_entry-requires-clause-room c = some-room _ _ _ c.has_room.ensures c.sessions.ensures c.if-not-has_room.false

pub returns-in-Unanswered : goal.returns-in-Unanswered
returns-in-Unanswered c =
    let asks = rw c.in-Unanswered.is at c.in_ok-next.ensures in
    (asks.0, refl, refl, asks.1)

pub returns-in_ok-closing-in-Missing : goal.returns-in_ok-closing-in-Missing
returns-in_ok-closing-in-Missing c =
    let missing = rw c.in-Missing.is at c.in_ok-next.ensures in
    rw c.depart.ensures.same ((λ told late. missing told late ∙ c.in_ok-closing-in-Missing.ensures.ends), refl)
