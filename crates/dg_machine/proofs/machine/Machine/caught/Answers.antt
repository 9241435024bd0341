use Rattle.std.proofs.Common.{refl}
use Rattle.dg_machine.specs.Meaning.{rest, all_back, back}
use Rattle.dg_machine.proofs.LoopLemmas.{caught-asks}
use Rattle.dg_machine.proofs.machine.Machine.caught.Goals as goal

pub returns-in_ok-push-in-Some-Stands : goal.returns-in_ok-push-in-Some-Stands
unfolding rest all_back back
returns-in_ok-push-in-Some-Stands c =
    let asks = rw c.as_slice.ensures at (rw c.in-Some-Stands.field-0-is at (rw c.in-Some-Stands.is at c.in_ok-ask.ensures)) in
    rw (c.in-Some-Stands.field-0-is, c.in-Some.is, c.end-in-Some-Stands.ensures, c.in_ok-push-in-Some-Stands.ensures, asks.1)
    (caught-asks _ _ _ _ _ _ asks.0, refl, asks.2)
