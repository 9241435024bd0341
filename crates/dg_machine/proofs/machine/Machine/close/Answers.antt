use Rattle.std.proofs.Common.{sym, refl, arith}
use Rattle.std.proofs.lemmas.Result.{IfOk-weaker}
use Rattle.dg_transcript.specs.declared.cursor.Action.TheVariants as action
use Rattle.dg_language.specs.Sessions.{on_session}
use Rattle.dg_machine.specs.declared.frame.After.TheVariants.{Reported}
use Rattle.dg_asking.specs.declared.seeking.Fit.TheVariants.{Open}
use Rattle.dg_asking.specs.Seeking.{fit_of}
use Rattle.dg_machine.proofs.StepLemmas.{runs-as}
use Rattle.dg_machine.proofs.SessionLemmas.{doing, sought-runs, fault-runs, close-of, close-fault}
use Rattle.dg_machine.proofs.machine.Machine.close.Goals as goal

pub returns-in-Ok-2 : goal.returns-in-Ok-2
returns-in-Ok-2 c =
    let words = sym (rw c.in-Ok.is at c.in_ok-id.ensures) in
    let sought = rw c.in-Ok-2.is at c.in_ok-session-in-Ok.ensures in
    IfOk-weaker c.begin_action.result _ _
    (λ p h. runs-as _ _ _ _ p (sought-runs Open c.in-Ok.id c.in-Ok-2.session _ (doing action.Close Reported) c.args.self.now _ _ p refl sought h (omega arith)) (close-of c.args.args.now c.in-Ok.id words))
    c.begin_action.ensures

pub returns-in-Err : goal.returns-in-Err
returns-in-Err c =
    let words = sym (rw c.in-Err.is at c.in_ok-id.ensures) in
    IfOk-weaker c.fail.result _ _ (λ p h. fault-runs _ c.in-Err.message _ _ p _ h (close-fault c.args.args.now c.in-Err.message words) (omega arith)) c.fail.ensures

pub returns-in-Err-2 : goal.returns-in-Err-2
returns-in-Err-2 c =
    let words = sym (rw c.in-Ok.is at c.in_ok-id.ensures) in
    let instead = rw c.in-Err-2.is at c.in_ok-session-in-Ok.ensures in
    IfOk-weaker c.come_of.result _ _
    (λ p h. runs-as _ _ _ _ p (h (λ s k. on_session (fit_of Open) c.in-Ok.id s k (λ n t. (doing action.Close Reported) n t k)) c.args.self.now refl (instead (doing action.Close Reported))) (close-of c.args.args.now c.in-Ok.id words))
    c.come_of.ensures
