use Rattle.std.proofs.Common.{sym}
use Rattle.dg_machine.proofs.ActingLemmas.{perform-absent, perform-asks, perform-ended}
use Rattle.dg_machine.proofs.SessionLemmas.{is-no-entry}
use Rattle.dg_machine.proofs.machine.Machine.next_entry.Goals as goal

pub returns-in_default : goal.returns-in_default
returns-in_default c = λ told late. perform-absent c.args.number c.args.action.now told late c.args.self.now.state c.requires (sym c.in_default.ensures)

pub returns-in_default-answer_to : goal.returns-in_default-answer_to
returns-in_default-answer_to c =
    let asked = c.in_ok-ask.ensures in
    let none = rw asked at (sym c.in_default-answer_to.ensures) in
    rw (c.in_ok-asked.ensures, asked)
    ((λ told late. perform-asks c.args.number c.args.action.now told late c.args.self.now.state c.in-Some.session.now c.requires (sym c.in-Some.ensures) none), none)

pub returns-in_default-answer : goal.returns-in_default-answer
returns-in_default-answer c =
    let some = rw c.in_ok-ask.ensures at (sym c.in-Some-answer_to.ensures) in
    let none = is-no-entry _ c.in_default-answer.not-Entry in
    λ told late. perform-ended c.args.number c.args.action.now c.args.self.now.state c.in-Some.session.now c.requires (sym c.in-Some.ensures) told late _ some none
