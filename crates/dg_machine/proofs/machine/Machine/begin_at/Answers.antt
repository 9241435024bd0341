use Rattle.std.proofs.Common.{ap, refl, arith}
use Rattle.dg_machine.specs.Meaning.{go, rest}
use Rattle.dg_machine.specs.declared.machine.Machine.{Machine}
use Rattle.dg_machine.proofs.MachineLemmas.{weight-cons}
use Rattle.dg_machine.proofs.machine.Machine.begin_at.Goals as goal

pub returns-in_ok-push-in-None : goal.returns-in_ok-push-in-None
unfolding rest go
returns-in_ok-push-in-None c =
    let told = c.in_ok-value.ensures in
    let same = rw c.in-None.is at told.none in
    let stack = ap (λ (m : Machine). m.stack) told.same in
    let control = ap (λ (m : Machine). m.control) told.same in
    rw (c.in_ok-push-in-None.ensures, c.kept_from-commands.ensures, stack, control, same, c.requires) (refl, refl, rw weight-cons (omega arith))
