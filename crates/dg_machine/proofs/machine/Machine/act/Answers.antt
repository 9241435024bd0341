use Rattle.std.proofs.Common.{List, ap}
use Rattle.std.proofs.lemmas.Result.{IfOk-weaker}
use Rattle.dg_machine.specs.declared.frame.Frame.{Frame}
use Rattle.dg_machine.specs.declared.machine.Machine.{Machine}
use Rattle.dg_machine.proofs.SessionLemmas.{came-passed, came-answered, came-late}
use Rattle.dg_machine.proofs.machine.Machine.act.Goals as goal

pub returns-in_ok-push-in-Passed : goal.returns-in_ok-push-in-Passed
returns-in_ok-push-in-Passed c =
    let mid : Machine = c.perform.new.self in
    let passed = rw c.in-Passed.is at c.in_ok-ask.ensures in
    came-passed c.args.begun c.perform.new.action c.args.self.now mid _ c.requires passed (ap (λ (fs : List Frame). record mid { stack = fs }) c.in_ok-push-in-Passed.ensures)

pub returns-in-Answered : goal.returns-in-Answered
returns-in-Answered c =
    let answered = rw c.in-Answered.is at c.in_ok-ask.ensures in
    IfOk-weaker c.after_entry.result _ _
    (λ p. came-answered c.args.begun c.perform.new.action c.args.self.now c.perform.new.self c.after_entry.new.self c.requires c.in-Answered.entry p answered)
    c.after_entry.ensures

pub returns-in_ok-closing-in-Late : goal.returns-in_ok-closing-in-Late
returns-in_ok-closing-in-Late c =
    let late = rw c.in-Late.is at c.in_ok-ask.ensures in
    came-late c.args.begun c.perform.new.action c.args.self.now c.perform.new.self c.depart.new.self c.requires 0 c.in_ok-closing-in-Late.closing late c.in_ok-closing-in-Late.ensures.ends
    c.depart.ensures.same
