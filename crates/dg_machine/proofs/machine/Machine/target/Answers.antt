use Rattle.std.proofs.Common.{refl}
use Rattle.std.proofs.lemmas.Result.{IfOk-weaker}
use Rattle.dg_language.specs.Boards.{do_target}
use Rattle.dg_machine.proofs.machine.Machine.target.Goals as goal

pub returns : goal.returns
returns c =
    IfOk-weaker c.come_of.result _ _
    (λ p h. h (do_target c.args.which c.args.args.now) c.args.self.now refl c.in_ok-attempt.ensures) c.come_of.ensures
