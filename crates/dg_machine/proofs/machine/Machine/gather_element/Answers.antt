use Rattle.std.proofs.Common.{refl}
use Rattle.std.proofs.lemmas.Result.{IfOk-weaker}
use Rattle.dg_language.specs.Variables.{read_variable}
use Rattle.dg_language.specs.Words.{element}
use Rattle.dg_compiled.specs.Gathering.{gather}
use Rattle.dg_machine.specs.Meaning.{go, rest, all_back, reading, outside_index}
use Rattle.dg_machine.proofs.GatherLemmas.{ready-reading}
use Rattle.dg_machine.proofs.machine.Machine.gather_element.Goals as goal

pub returns-in_ok-push-in-Some-Stands-2 : goal.returns-in_ok-push-in-Some-Stands-2
unfolding rest go gather read_variable
returns-in_ok-push-in-Some-Stands-2 c =
    let h = rw (c.in-Some-Stands.is, c.in-Some-Stands.field-0-is, c.as_slice-3.ensures, c.in_ok-whole.ensures, c.as_slice.ensures, c.as_slice-2.ensures) at c.in_ok-ask.ensures in
    rw (c.in-Some-Stands.field-0-is, c.in_ok-push-in-Some-Stands-2.ensures, c.in_ok-push_front-in-Some-Stands.ensures, c.in_ok-push-in-Some-Stands.ensures, h.1, c.requires)
    (h.0 (λ s. reading (outside_index c.args.making c.args.before) c.args.depth (element c.args.name c.args.making.text) s (all_back c.args.self.now.stack)), refl, h.2)

pub returns-in-None : goal.returns-in-None
returns-in-None c =
    let h = rw (c.in-None.is, c.as_slice-3.ensures, c.in_ok-whole.ensures, c.as_slice.ensures, c.as_slice-2.ensures) at c.in_ok-ask.ensures in
    let went = rw (c.as_slice-in-None.ensures, c.in_ok-whole.ensures, c.as_slice.ensures, c.as_slice-2.ensures) at c.add_variable.ensures in
    IfOk-weaker c.add_variable.result _ _
    (λ p. ready-reading (element c.args.name c.args.making.text) c.args.self.now c.ready.new.self (outside_index c.args.making c.args.before) c.args.depth _ p h)
    went
