use Rattle.std.proofs.Common.{◌∙◌, refl, sym, arith}
use Rattle.dg_machine.specs.Meaning.{rest, weight}
use Rattle.dg_machine.specs.declared.frame.Control.TheVariants.{Ended}
use Rattle.dg_machine.proofs.CompletingLemmas.{known-performed, weight-performed}
use Rattle.dg_machine.proofs.machine.Machine.immediate.Goals as goal

pub returns-in_ok-perform-in-Ok : goal.returns-in_ok-perform-in-Ok
unfolding rest weight
returns-in_ok-perform-in-Ok c =
    let done = c.in-Ok.completion in
    let state = c.args.self.now.state in
    let ran = sym c.in_ok-completion.ensures ∙ c.in-Ok.is in
    rw (c.end.ensures, c.in_ok-perform-in-Ok.ensures, ran, c.requires)
    (refl, known-performed done.change state, omega (arith, weight-performed (Ended done.code done.value) c.args.self.now.stack done.change state))
