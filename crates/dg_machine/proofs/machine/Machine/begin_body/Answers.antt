use Rattle.std.proofs.Common.{refl, arith}
use Rattle.std.proofs.lemmas.Result.{IfOk-weaker}
use Rattle.dg_machine.specs.Meaning.{back, all_back}
use Rattle.dg_machine.proofs.MachineLemmas.{weight-cons}
use Rattle.dg_machine.proofs.GatherLemmas.{Comes-along}
use Rattle.dg_machine.proofs.machine.Machine.begin_body.Goals as goal

pub returns : goal.returns
unfolding all_back back
returns c =
    rw c.requires
    (IfOk-weaker c.begin_now.result _ _
    (λ p h.
    let went = rw (c.in_ok-push.ensures, c.requires) at (h c.args.rounds.body c.in_ok-commands.ensures) in
    Comes-along p _ _ _ _ _ _ went refl (rw weight-cons (omega arith)))
    c.begin_now.ensures)
