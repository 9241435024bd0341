use Rattle.std.proofs.Common.{sym, arith}
use Rattle.dg_machine.specs.Acting.{again}
use Rattle.dg_machine.specs.Meaning.{all_back, go, rest}
use Rattle.dg_machine.proofs.MachineLemmas.{Goes-along, weight-cons}
use Rattle.dg_machine.proofs.AwaitingLemmas.{continues-closed, continues-open, ends-action, stays-out_of_action, weight-stays}
use Rattle.dg_machine.proofs.ResultLemmas.{Goes-along-ok}
use Rattle.dg_machine.proofs.machine.Machine.after_action.Goals as goal

pub returns-then-not-has_session : goal.returns-then-not-has_session
returns-then-not-has_session c =
    let k = all_back c.args.self.now.stack in
    let is = rw c.leave_action.ensures at c.has_session.ensures in
    let went = rw (c.leave_action.ensures, c.in_ok-message-in-ExpContinued.ensures, c.as_slice.ensures, c.in_ok-id-in-ExpContinued.ensures) at c.fail.ensures in
    let closed = continues-closed c.args.wait.session (again c.args.wait k) k c.args.value c.args.self.now.state _ is c.if-not-has_session.true in
    let stays = stays-out_of_action c.args.self.now.state in
    rw c.in-ExpContinued.is (Goes-along-ok _ _ _ _ _ _ _ _ went closed stays.known (rw (weight-stays _ _ _ _ stays) (omega arith)))

pub returns-in_ok-push-in-ExpContinued : goal.returns-in_ok-push-in-ExpContinued
unfolding rest go
returns-in_ok-push-in-ExpContinued c =
    let k = all_back c.args.self.now.stack in
    let is = rw c.leave_action.ensures at c.has_session.ensures in
    let waits = continues-open c.args.wait.session (again c.args.wait k) k c.args.value c.args.self.now.state _ is c.if-not-has_session.false in
    let stays = stays-out_of_action c.args.self.now.state in
    rw (c.in_ok-push-in-ExpContinued.ensures, c.leave_action.ensures, c.requires, c.in-ExpContinued.is)
    (sym waits, stays.known, (rw (weight-cons, weight-stays _ _ _ _ stays) (omega arith)))

pub returns-in-Done : goal.returns-in-Done
returns-in-Done c =
    let went = rw c.leave_action.ensures at c.go_up.ensures in
    let stays = stays-out_of_action c.args.self.now.state in
    Goes-along _ _ _ _ _ _ _ _ went (ends-action _ _ _ _ _ _ c.in-Done.is) stays.known (rw (weight-stays _ _ _ _ stays) (omega arith))
