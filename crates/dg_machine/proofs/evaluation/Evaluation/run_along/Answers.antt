use Rattle.std.proofs.lemmas.Result.{IfOk-weaker}
use Rattle.dg_machine.proofs.AlongLemmas.{arrives-along}
use Rattle.dg_machine.proofs.evaluation.Evaluation.run_along.Goals as goal

pub arrive-requires : goal.arrive-requires
arrive-requires g c =
    let come = c.in_ok-stop.ensures in
    (come.0, come.1.left _ c.self.invariant, come.2)

pub returns : goal.returns
returns g c =
    IfOk-weaker c.arrive.result _ _ (arrives-along _ _ _ _ _ _ _ c.self.view_is c.self.invariant c.in_ok-stop.ensures) c.arrive.ensures
