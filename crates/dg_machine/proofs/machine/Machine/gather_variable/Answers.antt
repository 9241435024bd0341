use Rattle.std.proofs.Common.{refl}
use Rattle.std.proofs.lemmas.Result.{IfOk-weaker}
use Rattle.dg_language.specs.Variables.{read_variable}
use Rattle.dg_compiled.specs.Gathering.{gather}
use Rattle.dg_machine.specs.Meaning.{go, rest, all_back, reading}
use Rattle.dg_machine.proofs.GatherLemmas.{ready-reading}
use Rattle.dg_machine.proofs.machine.Machine.gather_variable.Goals as goal

pub returns-in_ok-push-in-Some-Stands : goal.returns-in_ok-push-in-Some-Stands
unfolding rest go gather read_variable
returns-in_ok-push-in-Some-Stands c =
    let h = rw (c.in-Some-Stands.is, c.in-Some-Stands.field-0-is, c.as_slice.ensures) at c.in_ok-ask.ensures in
    rw (c.in-Some-Stands.field-0-is, c.in_ok-push-in-Some-Stands.ensures, c.in_ok-push_front-in-Some-Stands.ensures, h.1, c.requires)
    (h.0 (λ s. reading c.args.making c.args.depth c.args.name s (all_back c.args.self.now.stack)), refl, h.2)

pub returns-in-None : goal.returns-in-None
returns-in-None c =
    let h = rw (c.in-None.is, c.as_slice.ensures) at c.in_ok-ask.ensures in
    let went = rw c.as_slice-in-None.ensures at c.add_variable.ensures in
    IfOk-weaker c.add_variable.result _ _ (λ p. ready-reading c.args.name c.args.self.now c.ready.new.self c.args.making c.args.depth _ p h) went
