use Rattle.std.proofs.Common.{refl, arith}
use Rattle.dg_language.specs.Expecting.{bytes_of}
use Rattle.dg_machine.proofs.AwaitingLemmas.{stays-end, weight-stays}
use Rattle.dg_machine.proofs.ResultLemmas.{Goes-along-ok}
use Rattle.dg_machine.proofs.machine.Machine.after_end.Goals as goal

pub returns : goal.returns
returns c =
    let s = c.args.self.now.state in
    let n = c.args.wait.session in
    let went = rw (c.in_ok-keep_end.ensures, c.in_ok-action.ensures, c.end_action.ensures, c.pairs.ensures) at c.run_action.ensures in
    let stays = stays-end n (bytes_of n s) s in
    Goes-along-ok _ _ _ _ _ _ _ _ went refl stays.known (rw (weight-stays _ _ _ _ stays) (omega arith))
