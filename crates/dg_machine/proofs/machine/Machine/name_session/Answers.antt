use Rattle.std.proofs.lemmas.Result.{IfOk-weaker}
use Rattle.dg_machine.proofs.SessionLemmas.{names-ready}
use Rattle.dg_machine.proofs.machine.Machine.name_session.Goals as goal

pub returns-in-None : goal.returns-in-None
returns-in-None c =
    let ready = rw c.in-None.is at c.in_ok-ask.ensures in
    IfOk-weaker c.give_name.result _ _ (λ p. names-ready c.args.session c.args.self.now c.ready.new.self c.give_name.new.self p ready) c.give_name.ensures
