use Rattle.std.proofs.Common.{refl}
use Rattle.std.proofs.lemmas.Result.{IfOk-weaker}
use Rattle.dg_language.specs.Variables.{do_variable}
use Rattle.dg_machine.proofs.machine.Machine.variable.Goals as goal

pub returns-in-Some : goal.returns-in-Some
returns-in-Some c =
    let attempt = rw c.in-Some.is at c.in_ok-attempt.ensures in
    IfOk-weaker c.come_of.result _ _ (λ p h. h (do_variable c.args.which c.args.args.now) c.args.self.now refl attempt) c.come_of.ensures

pub returns-in-None : goal.returns-in-None
returns-in-None c =
    let none = rw c.in-None.is at c.in_ok-attempt.ensures in
    rw none.0 (rw none.1 at c.unset.ensures)
