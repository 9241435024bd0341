use Rattle.std.proofs.Common.{refl, arith}
use Rattle.dg_machine.specs.Meaning.{back, all_back}
use Rattle.dg_machine.proofs.MachineLemmas.{weight-cons}
use Rattle.dg_machine.proofs.AwaitingLemmas.{stays-in_action, weight-stays}
use Rattle.dg_machine.proofs.ResultLemmas.{Goes-along-ok}
use Rattle.dg_machine.proofs.machine.Machine.run_action.Goals as goal

pub returns : goal.returns
unfolding all_back back
returns c =
    let went = rw (c.in_ok-push.ensures, c.in_ok-enter_action.ensures, c.requires) at c.enter.ensures in
    let stays = stays-in_action c.args.self.now.state in
    rw (c.requires, c.in-Some.is)
    (Goes-along-ok _ _ _ _ _ _ _ _ went refl stays.known (rw (weight-cons, weight-stays _ _ _ _ stays) (omega arith)))
